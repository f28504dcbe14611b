use Rattle.gomp_team_region.proofs.Scans.{cancelled_history}
use Rattle.gomp_team_region.proofs.history.is_cancelled.Goals as goal

pub loop-rest-init : goal.loop-rest-init
loop-rest-init c = cancelled_history c.args.history.now
