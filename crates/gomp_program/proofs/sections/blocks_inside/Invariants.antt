use Rattle.std.proofs.Common.{◌≡◌, ◌≤◌, ◌+◌, length}
use Rattle.gomp_program.specs.Places.{blocks_inside}
use Rattle.gomp_program.proofs.sections.blocks_inside.Given as goal

-- the blocks so far, and those that begin directly there in what is left
abbrev pub invariant-loop-rest : goal.invariant-loop-rest
invariant-loop-rest l = record {
  inside : l.count + blocks_inside l.depth l.rest ≡ blocks_inside 0 l.fn.lines;
  few : l.count + length l.rest ≤ length l.fn.lines;
  deep : l.depth + length l.rest ≤ length l.fn.lines;
}

abbrev pub decreases-loop-rest : goal.decreases-loop-rest
decreases-loop-rest l = length l.rest
