use Rattle.std.proofs.Common.{rules, ◌≡◌, refl, ◌∙◌}
use Rattle.gomp_types.specs.Tests.{first_holding}
use Rattle.gomp_types.proofs.LeastTests.{first_is_least}
use Rattle.gomp_shares.specs.Admission.{next_tests_of}
use Rattle.gomp_shares.specs.Cancels.{cancel_place_tests}
use Rattle.gomp_shares.specs.OrderedParts.{part_tests, part_end_tests}
use Rattle.gomp_team_shares.specs.declared.inside.InsideCall.TheVariants.{Next, BeginPart, EndPart, Cancel}
use Rattle.gomp_team_shares.specs.Inside.{construct_kind, inside_tests}
use Rattle.gomp_team_shares.proofs.RefusedAs.{next_tests_rise}
use Rattle.gomp_seat_calls.proofs.OwnPlace.{finds_by_place}
use Rattle.gomp_seat_calls.proofs.inside.call_inside_refusal.Goals as goal

pub returns-in-Next : goal.returns-in-Next
returns-in-Next c =
    let first : c.next_refusal.result ≡ first_holding (next_tests_of c.in-Next.construct c.args.seat.now.seen) = rw c.seen.ensures.value at c.next_refusal.ensures.first in
    record {
      finds = rw c.in-Next.is (finds_by_place c.args.seat.now (next_tests_of c.in-Next.construct) (inside_tests (Next c.in-Next.construct)) c.next_refusal.result c.seen.ensures.stands (λ h. refl)
          (first ∙ first_is_least 0 (next_tests_of c.in-Next.construct c.args.seat.now.seen) (next_tests_rise c.in-Next.construct c.args.seat.now.seen)));
    }

pub returns-in-BeginPart : goal.returns-in-BeginPart
returns-in-BeginPart c =
    let found : c.ordered_start_refusal.result ≡ first_holding (part_tests c.in-BeginPart.value c.seen-in-BeginPart.result) = search rules in
    let first : c.ordered_start_refusal.result ≡ first_holding (part_tests c.in-BeginPart.value c.args.seat.now.seen) = rw c.seen-in-BeginPart.ensures.value at found in
    record {
      finds = rw c.in-BeginPart.is (finds_by_place c.args.seat.now (part_tests c.in-BeginPart.value) (inside_tests (BeginPart c.in-BeginPart.value)) c.ordered_start_refusal.result c.seen-in-BeginPart.ensures.stands (λ h. refl)
          (first ∙ first_is_least 0 (part_tests c.in-BeginPart.value c.args.seat.now.seen) refl));
    }

pub returns-in-EndPart : goal.returns-in-EndPart
returns-in-EndPart c = record { finds = rw c.in-EndPart.is (finds_by_place c.args.seat.now part_end_tests (inside_tests EndPart) c.ordered_end_refusal.result c.ordered_end_refusal.ensures.stands (λ h. refl) c.ordered_end_refusal.ensures.least) }

pub returns-in-Cancel : goal.returns-in-Cancel
returns-in-Cancel c = record {
  finds = rw c.in-Cancel.is (finds_by_place c.args.seat.now (cancel_place_tests (construct_kind c.in-Cancel.construct)) (inside_tests (Cancel c.in-Cancel.construct c.in-Cancel.clause c.in-Cancel.allowed)) c.cancel_share_refusal.result c.cancel_share_refusal.ensures.stands (λ h. refl)
      c.cancel_share_refusal.ensures.least);
}
