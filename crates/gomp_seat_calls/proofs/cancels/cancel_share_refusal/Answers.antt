use Rattle.std.proofs.Common.{◌≡◌, sym, ◌∙◌}
use Rattle.gomp_types.specs.Least.{least}
use Rattle.gomp_types.specs.Tests.{first_holding}
use Rattle.gomp_types.proofs.LeastTests.{first_is_least}
use Rattle.gomp_shares.specs.Cancels.{cancel_place_tests}
use Rattle.gomp_team_shares.specs.Inside.{construct_kind}
use Rattle.gomp_team_shares.proofs.RefusedAs.{cancel_tests_rise}
use Rattle.gomp_seat_calls.proofs.OwnPlace.{can_cancel, can_see}
use Rattle.gomp_seat_calls.proofs.cancels.cancel_share_refusal.Goals as goal
use Rattle.gomp_seat_calls.proofs.cancels.cancel_share_refusal.Goals.{After-cancel_share_refusal}

found_least : (c : After-cancel_share_refusal) → c.cancel_share_refusal.result ≡ least (cancel_place_tests (construct_kind c.args.construct) c.args.seat.now.seen)
found_least c =
    let first : c.cancel_share_refusal.result ≡ first_holding (cancel_place_tests (construct_kind c.args.construct) c.args.seat.now.seen) = rw (c.construct_kind.ensures, c.seen.ensures.value) at c.cancel_share_refusal.ensures.first in
    first ∙ first_is_least 0 (cancel_place_tests (construct_kind c.args.construct) c.args.seat.now.seen) (cancel_tests_rise c.args.construct c.args.seat.now.seen)

pub returns-clause-least : goal.returns-clause-least
returns-clause-least c = found_least c

pub returns-clause-cancels : goal.returns-clause-cancels
returns-clause-cancels c = λ none. can_cancel c.args.construct c.args.seat.now c.seen.ensures.stands (sym (found_least c) ∙ none)

pub returns-clause-sees : goal.returns-clause-sees
returns-clause-sees c = λ none. can_see c.args.construct c.args.seat.now c.seen.ensures.stands (sym (found_least c) ∙ none)
