use Rattle.gomp_groups.proofs.Chains.{steps_left}
use Rattle.gomp_groups.proofs.Counting.{IsLeft}
use Rattle.gomp_groups.proofs.rows.add_task.Given as goal

abbrev pub invariant-loop-group : goal.invariant-loop-group
invariant-loop-group l = IsLeft l.fn.first l.next l.initial.groups l.groups l.initial.groups l.groups

abbrev pub decreases-loop-group : goal.decreases-loop-group
decreases-loop-group l = steps_left l.next
