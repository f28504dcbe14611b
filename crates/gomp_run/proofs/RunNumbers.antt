-- The status after a script is 0, 1, 2 or 3.
use Rattle.std.proofs.Common.{◌≤◌, ℕ, Bool, true, false, List, inl, inr, arith}
use Rattle.std.specs.Prelude.{Result, Ok, Err, if◌then◌else◌}
use Rattle.gomp_icv.specs.Variables.{Variables}
use Rattle.gomp_region.specs.declared.script.AskedSize.{AskedSize}
use Rattle.gomp_region.specs.declared.script.BadScript.{BadScript}
use Rattle.gomp_region.specs.declared.script.Script.{Script}
use Rattle.gomp_region.specs.declared.script.ScriptLine.{ScriptLine}
use Rattle.gomp_run.specs.Output.{AnswerTo, RunsScript, is_no_memory}

two_statuses : (b : Bool) → (if b then 3 else 2) ≤ 3
two_statuses true = omega arith
two_statuses false = omega arith

region_number : (icv : Variables) (script : Script) (text : List ℕ) (code : ℕ) → RunsScript icv script text code → code ≤ 3
region_number icv script text code (inl reported) = let is = reported.1 in omega (arith, is)
region_number icv script text code (inr refused) = let is = refused.code_is in let small = two_statuses (is_no_memory refused.fault.refusal) in omega (arith, is, small)

-- of a script, or a text that is none
pub run_number : (icv : Variables) (read : Result (AskedSize × List ScriptLine × List ℕ) BadScript) (text : List ℕ) (code : ℕ) → AnswerTo icv read text code → code ≤ 3
run_number icv (Ok found) text code answer = region_number icv answer.script text code answer.runs
run_number icv (Err bad) text code answer = let is = answer.1 in omega (arith, is)
