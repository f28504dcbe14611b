use Rattle.std.proofs.Common.{◌≡◌, sym, ◌∙◌, Some, None}
use Rattle.std.specs.Prelude.{◌||◌, true}
use Rattle.gomp_types.specs.Tests.{first_holding}
use Rattle.gomp_shares.specs.Admission.{end_tests_of}
use Rattle.gomp_shares.proofs.Admitted.{end_tests_rise}
use Rattle.gomp_shares.proofs.Ended.{free_before}
use Rattle.gomp_seat_calls.proofs.OwnPlace.{own_end_refused}
use Rattle.gomp_seat_calls.proofs.OwnSteps.{can_end, free_after_see}
use Rattle.gomp_seat_calls.proofs.ends.end_refusal.Goals as goal
use Rattle.gomp_seat_calls.proofs.ends.end_refusal.Goals.{then-has_seen_end-via-then-has_seen_end, then-has_seen_end-via-else-has_seen_end+then-see}

pub returns-in-Some-clause-finds : goal.returns-in-Some-clause-finds
returns-in-Some-clause-finds c =
    let first : Some c.in-Some.refusal ≡ first_holding (end_tests_of c.args.construct c.args.end_kind c.args.seat.now.seen) = rw c.seen-seen.ensures.value at c.in-Some.ensures.first in
    own_end_refused c.args.construct c.args.end_kind c.args.seat.now c.in-Some.refusal (end_tests_rise c.args.construct c.args.end_kind c.args.seat.now.seen) first

pub returns-then-has_seen_end-clause-place : goal.returns-then-has_seen_end-clause-place
returns-then-has_seen_end-clause-place c =
    let first : None ≡ first_holding (end_tests_of c.args.construct c.args.end_kind c.args.seat.now.seen) = sym c.in_default.is ∙ (rw c.seen-seen.ensures.value at c.end_construct_refusal.ensures.first) in
    let can = can_end c.args.construct c.args.end_kind c.args.seat.now c.seen-seen.ensures.stands first in
    elim c.then-has_seen_end.branch [
      | then-has_seen_end-via-then-has_seen_end w ↦
          let told : (c.args.seat.now.seen.drained || c.args.seat.now.seen.leaving) ≡ true = rw c.seen-seen.ensures.value at (sym c.has_seen_end.ensures ∙ w.if-has_seen_end.true) in
          rw w.seat-is (free_before c.args.seat.now.members c.args.seat.now.member c.args.seat.now.seen can told)
      | then-has_seen_end-via-else-has_seen_end+then-see w ↦ rw w.seat-is (free_after_see c.args.seat.now w.see.new.self c.seen-seen.ensures.stands can (w.see.ensures.seen.acts w.if-see.true))
    ]
