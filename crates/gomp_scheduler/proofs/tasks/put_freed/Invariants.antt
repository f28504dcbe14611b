use Rattle.gomp_depend.specs.Stands.{waiting_count}
use Rattle.gomp_scheduler.proofs.PutFreed.{IsPutSoFar}
use Rattle.gomp_scheduler.proofs.tasks.put_freed.Given as goal

abbrev pub invariant-loop-task : goal.invariant-loop-task
invariant-loop-task l = IsPutSoFar l.tasks l.initial.depends l.initial.ready l.depends l.ready

abbrev pub decreases-loop-task : goal.decreases-loop-task
decreases-loop-task l = waiting_count l.depends
