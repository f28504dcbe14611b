use Rattle.std.proofs.Common.{◌≡◌, ◌≤◌, true, drop, length}
use Rattle.std.specs.List.{list_all}
use Rattle.gomp_program.specs.declared.frame.Frame.{Frame}
use Rattle.gomp_program.specs.Leaving.{is_once}
use Rattle.gomp_program.proofs.leaving.share_exit.Given as goal

-- the blocks that are read are executed once
abbrev pub invariant-loop-keep : goal.invariant-loop-keep
invariant-loop-keep l = record {
  within : l.keep ≤ length l.frames;
  once : list_all (λ (frame : Frame). is_once frame.block) (drop l.keep l.frames) ≡ true;
}

abbrev pub decreases-loop-keep : goal.decreases-loop-keep
decreases-loop-keep l = l.keep
