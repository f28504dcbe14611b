use Rattle.std.proofs.Common.{vec_len}
use Rattle.gomp_crew.proofs.crew.Crew.stop.Given as goal

abbrev pub decreases-loop-workers : goal.decreases-loop-workers
decreases-loop-workers g l = vec_len l.workers
