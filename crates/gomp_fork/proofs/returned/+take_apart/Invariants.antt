use Rattle.std.proofs.Common.{vec_len}
use Rattle.gomp_fork.proofs.returned.+take_apart.Given as goal

abbrev pub decreases-take_apart : goal.decreases-take_apart
decreases-take_apart g l = vec_len l.outcomes
