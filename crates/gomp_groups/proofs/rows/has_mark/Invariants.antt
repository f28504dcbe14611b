use Rattle.gomp_groups.proofs.Chains.{steps_left}
use Rattle.gomp_groups.proofs.Marks.{NoneYet}
use Rattle.gomp_groups.proofs.rows.has_mark.Given as goal

abbrev pub invariant-loop-group : goal.invariant-loop-group
invariant-loop-group l = NoneYet l.groups l.marks l.fn.first l.next

abbrev pub decreases-loop-group : goal.decreases-loop-group
decreases-loop-group l = steps_left l.next
