use Rattle.std.proofs.Common.{◌≡◌, ◌≤◌, ◌+◌, length}
use Rattle.gomp_region.specs.ScriptText.{lines_inside}
use Rattle.gomp_region.proofs.ends.lines_inside.Given as goal

-- the lines so far, and those that stand in the block of what is left
abbrev pub invariant-loop-rest : goal.invariant-loop-rest
invariant-loop-rest l = record {
  inside : l.count + lines_inside l.depth l.rest ≡ lines_inside 0 l.fn.lines;
  all : l.count + length l.rest ≡ length l.fn.lines;
  deep : l.depth ≤ l.count;
}

abbrev pub decreases-loop-rest : goal.decreases-loop-rest
decreases-loop-rest l = length l.rest
