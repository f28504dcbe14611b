use Rattle.std.proofs.Common.{◌≡◌, ◌+◌, ◌++◌, length}
use Rattle.gomp_region.specs.ScriptText.{ends_from}
use Rattle.gomp_region.proofs.ends.ends_of.Given as goal

-- the ends so far, and those of the lines that are left, are those of all lines
abbrev pub invariant-loop-rest : goal.invariant-loop-rest
invariant-loop-rest l = record {
  ends : l.ends.items ++ ends_from l.index l.rest ≡ ends_from 0 l.fn.lines;
  all : l.index + length l.rest ≡ length l.fn.lines;
}

abbrev pub decreases-loop-rest : goal.decreases-loop-rest
decreases-loop-rest l = length l.rest
