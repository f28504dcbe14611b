use Rattle.std.proofs.Common.{◌≡◌}
use Rattle.std.specs.Prelude.{option_copied}
use Rattle.gomp_script.specs.StepText.{lines_left}
use Rattle.gomp_region.specs.ScriptText.{script_from, script_of}
use Rattle.gomp_region.proofs.TextLemmas.{left}
use Rattle.gomp_region.proofs.parse.parse_script.Given as goal

-- no line so far says anything
abbrev pub invariant-loop-rest : goal.invariant-loop-rest
invariant-loop-rest l = script_from l.number (lines_left (option_copied l.rest)) ≡ script_of l.fn.text

abbrev pub decreases-loop-rest : goal.decreases-loop-rest
decreases-loop-rest l = left (option_copied l.rest)
