use Rattle.std.proofs.Common.{◌≡◌}
use Rattle.std.specs.Prelude.{option_copied}
use Rattle.gomp_script.specs.StepText.{lines_left}
use Rattle.gomp_region.proofs.TextLemmas.{left}
use Rattle.gomp_check.specs.Checked.{is_script, is_script_from}
use Rattle.gomp_check.proofs.answer.is_script.Given as goal

-- no line so far counts
abbrev pub invariant-loop-rest : goal.invariant-loop-rest
invariant-loop-rest l = is_script_from (lines_left (option_copied l.rest)) ≡ is_script l.fn.text

abbrev pub decreases-loop-rest : goal.decreases-loop-rest
decreases-loop-rest l = left (option_copied l.rest)
