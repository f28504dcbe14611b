use Rattle.std.proofs.Common.{◌≡◌, sym, ◌∙◌, Some, None, true, false}
use Rattle.std.specs.Prelude.{◌||◌}
use Rattle.gomp_types.specs.Tests.{first_holding}
use Rattle.gomp_shares.specs.Admission.{end_tests_of}
use Rattle.gomp_seat_calls.proofs.OwnPlace.{finds_end_by_place, finds_end_seen, finds_end_asked}
use Rattle.gomp_seat_calls.proofs.inside.ask_end_refusal.Goals as goal

pub returns-in-Some : goal.returns-in-Some
returns-in-Some c =
    let first : Some c.in-Some.refusal ≡ first_holding (end_tests_of c.args.construct c.args.end_kind c.args.seat.now.seen) = rw c.seen-seen.ensures.value at c.in-Some.ensures.first in
    record { finds = finds_end_by_place c.args.construct c.args.end_kind c.args.seat.now c.in-Some.refusal c.seen-seen.ensures.stands first }

pub returns-then-has_seen_end : goal.returns-then-has_seen_end
returns-then-has_seen_end c =
    let first : None ≡ first_holding (end_tests_of c.args.construct c.args.end_kind c.args.seat.now.seen) = sym c.in_default.is ∙ (rw c.seen-seen.ensures.value at c.end_construct_refusal.ensures.first) in
    let told : (c.args.seat.now.seen.drained || c.args.seat.now.seen.leaving) ≡ true = rw c.seen-seen.ensures.value at (sym c.has_seen_end.ensures ∙ c.if-has_seen_end.true) in
    record { finds = finds_end_seen c.args.construct c.args.end_kind c.args.seat.now c.seen-seen.ensures.stands first told }

pub returns-then-cancelled : goal.returns-then-cancelled
returns-then-cancelled c =
    let first : None ≡ first_holding (end_tests_of c.args.construct c.args.end_kind c.args.seat.now.seen) = sym c.in_default.is ∙ (rw c.seen-seen.ensures.value at c.end_construct_refusal.ensures.first) in
    let untold : (c.args.seat.now.seen.drained || c.args.seat.now.seen.leaving) ≡ false = rw c.seen-seen.ensures.value at (sym c.has_seen_end.ensures ∙ c.if-has_seen_end.false) in
    record { finds = finds_end_asked c.args.construct c.args.end_kind c.args.seat.now c.cancelled.new.self true c.seen-seen.ensures.stands first untold (rw c.if-cancelled.true at c.cancelled.ensures.asked) }

pub returns : goal.returns
returns c =
    let first : None ≡ first_holding (end_tests_of c.args.construct c.args.end_kind c.args.seat.now.seen) = sym c.in_default.is ∙ (rw c.seen-seen.ensures.value at c.end_construct_refusal.ensures.first) in
    let untold : (c.args.seat.now.seen.drained || c.args.seat.now.seen.leaving) ≡ false = rw c.seen-seen.ensures.value at (sym c.has_seen_end.ensures ∙ c.if-has_seen_end.false) in
    record { finds = finds_end_asked c.args.construct c.args.end_kind c.args.seat.now c.cancelled.new.self false c.seen-seen.ensures.stands first untold (rw c.if-cancelled.false at c.cancelled.ensures.asked) }
