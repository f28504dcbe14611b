use Rattle.std.proofs.Common.{vec_len}
use Rattle.gomp_member_tests.proofs.walkers.+members_back.Given as goal

abbrev pub decreases-members_back : goal.decreases-members_back
decreases-members_back g l = vec_len l.walkers
