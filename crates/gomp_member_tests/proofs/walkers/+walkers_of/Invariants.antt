use Rattle.std.proofs.Common.{vec_len}
use Rattle.gomp_member_tests.proofs.walkers.+walkers_of.Given as goal

abbrev pub decreases-walkers_of : goal.decreases-walkers_of
decreases-walkers_of g l = vec_len l.members
