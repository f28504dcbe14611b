use Rattle.std.proofs.Common.{vec_len}
use Rattle.gomp_member_runner.proofs.members.+members_of.Given as goal

abbrev pub decreases-members_of : goal.decreases-members_of
decreases-members_of g l = vec_len l.seats
