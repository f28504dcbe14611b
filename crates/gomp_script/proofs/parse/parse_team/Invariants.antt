use Rattle.std.proofs.Common.{◌≡◌}
use Rattle.std.specs.Prelude.{option_copied}
use Rattle.gomp_script.specs.StepText.{text_from, steps_of, lines_left}
use Rattle.gomp_script.proofs.TextLemmas.{left}
use Rattle.gomp_script.proofs.parse.parse_team.Given as goal

-- no line so far says anything
abbrev pub invariant-loop-rest : goal.invariant-loop-rest
invariant-loop-rest l = text_from l.number (lines_left (option_copied l.rest)) ≡ steps_of l.fn.text

abbrev pub decreases-loop-rest : goal.decreases-loop-rest
decreases-loop-rest l = left (option_copied l.rest)
