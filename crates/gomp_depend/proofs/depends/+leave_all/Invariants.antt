use Rattle.std.proofs.Common.{length}
use Rattle.gomp_depend.proofs.depends.+leave_all.Given as goal

abbrev pub decreases-leave_all : goal.decreases-leave_all
decreases-leave_all l = length l.items.now
