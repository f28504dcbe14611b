use Rattle.std.proofs.Common.{◌≡◌, ◌≤◌, false, drop, length}
use Rattle.std.specs.List.{list_any}
use Rattle.gomp_program.specs.declared.frame.Frame.{Frame}
use Rattle.gomp_program.specs.Leaving.{is_task_body}
use Rattle.gomp_program.proofs.leaving.task_exit.Given as goal

-- no body of a task is among the blocks that are read
abbrev pub invariant-loop-keep : goal.invariant-loop-keep
invariant-loop-keep l = record {
  within : l.keep ≤ length l.frames;
  none : list_any (λ (frame : Frame). is_task_body frame.block) (drop l.keep l.frames) ≡ false;
}

abbrev pub decreases-loop-keep : goal.decreases-loop-keep
decreases-loop-keep l = l.keep
