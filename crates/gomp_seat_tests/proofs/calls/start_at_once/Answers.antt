use Rattle.std.proofs.Common.{sym}
use Rattle.gomp_team_shares.specs.Constructs.{construct_shape}
use Rattle.gomp_types.proofs.TestRows.{outcome_value}
use Rattle.gomp_seat_tests.proofs.calls.start_at_once.Goals as goal

pub start_admitted-requires-clause-shape : goal.start_admitted-requires-clause-shape
start_admitted-requires-clause-shape c = outcome_value _ (construct_shape c.args.start.now) c.in-Ok.shape (sym c.in-Ok.ensures.first)
