use Rattle.std.proofs.Common.{◌≡◌, ◌≤◌, ◌++◌, List, length, vec_len}
use Rattle.std.specs.Prelude.{min}
use Rattle.gomp_program.specs.declared.frame.Frame.{Frame}
use Rattle.gomp_program.specs.Leaving.{NoneCritical, iteration_around, kept_in_block}
use Rattle.gomp_program.proofs.progress.Progress.leave.Given as goal

-- some blocks are left, none of which is critical
abbrev pub invariant-loop-self : goal.invariant-loop-self
invariant-loop-self l = record {
  keep : l.keep ≡ kept_in_block l.fn.exit;
  stay : min (kept_in_block l.fn.exit) (length l.fn.self.frames.items) ≤ length l.self.frames.items;
  line : l.self.line ≡ l.fn.self.line;
  left : (inner : List Frame) × (l.fn.self.frames.items ≡ l.self.frames.items ++ inner) × NoneCritical l.script inner × (l.self.iteration ≡ iteration_around l.fn.self.iteration inner);
}

abbrev pub decreases-loop-self : goal.decreases-loop-self
decreases-loop-self l = vec_len l.self.frames
