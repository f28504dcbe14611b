use Rattle.std.proofs.Common.{ap, arith}
use Rattle.gomp_team_board.specs.Counts.{is_counted, counted_events}
use Rattle.gomp_team_board.proofs.Fits.{no_more_than_events}
use Rattle.gomp_team_board.proofs.locked.LockedBoard.most.Goals as goal

pub returns-clause-most : goal.returns-clause-most
returns-clause-most g c =
    let same = ap counted_events c.history.ensures.value in
    let least = c.audit.ensures.bound in
    let before = c.self.invariant.counted in
    let few = no_more_than_events is_counted c.history.result.now in
    omega (arith, same, least, before, few)
