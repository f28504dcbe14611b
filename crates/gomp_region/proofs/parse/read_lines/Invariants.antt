use Rattle.std.proofs.Common.{◌≡◌}
use Rattle.std.specs.Prelude.{option_copied, []}
use Rattle.gomp_region.specs.ScriptText.{statements_left, with_lines}
use Rattle.gomp_region.proofs.TextLemmas.{left}
use Rattle.gomp_region.proofs.parse.read_lines.Given as goal

-- the statements so far, and those of the lines that are left, are those of all lines
abbrev pub invariant-loop-rest : goal.invariant-loop-rest
invariant-loop-rest l = with_lines l.kept.items (statements_left l.number l.around (option_copied l.rest)) ≡ statements_left l.fn.first [] (option_copied l.fn.lines)

abbrev pub decreases-loop-rest : goal.decreases-loop-rest
decreases-loop-rest l = left (option_copied l.rest)
