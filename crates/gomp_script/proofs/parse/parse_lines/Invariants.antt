use Rattle.std.proofs.Common.{◌≡◌}
use Rattle.std.specs.Prelude.{option_copied}
use Rattle.gomp_script.specs.StepText.{steps_from, lines_left}
use Rattle.gomp_script.proofs.TextLemmas.{with_fronts, left}
use Rattle.gomp_script.proofs.parse.parse_lines.Given as goal

-- the steps so far, and those of the lines that are left, are those of all lines
abbrev pub invariant-loop-rest : goal.invariant-loop-rest
invariant-loop-rest l = with_fronts l.steps.items (steps_from l.number (lines_left (option_copied l.rest))) ≡ steps_from l.fn.first (lines_left (option_copied l.fn.lines))

abbrev pub decreases-loop-rest : goal.decreases-loop-rest
decreases-loop-rest l = left (option_copied l.rest)
