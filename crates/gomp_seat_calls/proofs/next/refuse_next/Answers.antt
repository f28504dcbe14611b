use Rattle.std.proofs.Common.{◌≡◌, Option, Some, sym, ◌∙◌}
use Rattle.gomp_types.specs.declared.refusal.Refusal.{Refusal}
use Rattle.gomp_types.specs.Tests.{first_holding}
use Rattle.gomp_types.proofs.LeastTests.{first_is_least}
use Rattle.gomp_shares.specs.Admission.{next_tests_of}
use Rattle.gomp_team_shares.proofs.RefusedAs.{next_tests_rise}
use Rattle.gomp_seat_calls.proofs.next.refuse_next.Goals as goal

pub returns : goal.returns
returns c =
    let first : Some c.in-Some.refusal ≡ first_holding (next_tests_of c.args.construct c.args.seat.now.seen) = sym c.in-Some.is ∙ (rw c.seen.ensures.value at c.next_refusal.ensures.first) in
    record {
      least = λ refusal is.
          let same : ◌≡◌ {A = Option Refusal} (Some c.in-Some.refusal) (Some refusal) = first ∙ first_is_least 0 (next_tests_of c.args.construct c.args.seat.now.seen) (next_tests_rise c.args.construct c.args.seat.now.seen) ∙ is in
          cc;
    }
