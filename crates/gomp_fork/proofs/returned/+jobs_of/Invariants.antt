use Rattle.std.proofs.Common.{vec_len}
use Rattle.gomp_fork.proofs.returned.+jobs_of.Given as goal

abbrev pub decreases-jobs_of : goal.decreases-jobs_of
decreases-jobs_of g l = vec_len l.members
