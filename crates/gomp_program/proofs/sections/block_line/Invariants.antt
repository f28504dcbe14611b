use Rattle.std.proofs.Common.{◌≡◌, ◌≤◌, ◌+◌, length}
use Rattle.gomp_program.specs.Places.{block_line}
use Rattle.gomp_program.proofs.sections.block_line.Given as goal

-- the block that is left to be found is the one that was asked for
abbrev pub invariant-loop-rest : goal.invariant-loop-rest
invariant-loop-rest l = record {
  found : block_line l.left l.depth (l.index + 1) l.rest ≡ block_line l.fn.number 0 (l.fn.before + 1) l.fn.lines;
  within : l.index + length l.rest ≡ l.fn.before + length l.fn.lines;
  deep : l.depth + length l.rest ≤ length l.fn.lines;
}

abbrev pub decreases-loop-rest : goal.decreases-loop-rest
decreases-loop-rest l = length l.rest
