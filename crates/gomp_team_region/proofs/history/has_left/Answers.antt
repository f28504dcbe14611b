use Rattle.gomp_team_region.proofs.Scans.{scanned_history}
use Rattle.gomp_team_region.proofs.history.has_left.Goals as goal

pub loop-rest-init : goal.loop-rest-init
loop-rest-init c = scanned_history c.args.member c.args.history.now
