-- What the contracts of a script's region promise, of all programs, reports and texts: a lemma for each line of their definitions, so that none says less unnoticed.
use Rattle.std.proofs.Common.{◌≡◌, ◌≤◌, ◌<◌, ◌+◌, ◌^◌, ◌∙◌, ℕ, zero, suc, pos, Bool, true, false, List, [], ◌∷◌, ◌++◌, Option, Some, length, refl, ap, inl, inr, arith}
use Rattle.std.specs.Prelude.{◌⊎◌, Result, Ok, Err, if◌then◌else◌}
use Rattle.gomp_types.specs.declared.call.Call.{Call}
use Rattle.gomp_types.specs.declared.refusal.Refusal.TheVariants.{NoMemory, TooManyLevels}
use Rattle.gomp_types.specs.declared.reply.Reply.{Reply}
use Rattle.gomp_icv.specs.Variables.{Variables, outermost_size}
use Rattle.gomp_region.specs.declared.script.AskedSize.{AskedSize}
use Rattle.gomp_region.specs.declared.script.AskedSize.TheVariants.{Unstated, Stated}
use Rattle.gomp_region.specs.declared.script.BadScript.{BadScript}
use Rattle.gomp_region.specs.declared.script.Script.{Script}
use Rattle.gomp_region.specs.declared.script.ScriptLine.{ScriptLine}
use Rattle.gomp_region.specs.Printing.{bad_script_text}
use Rattle.gomp_region.specs.ScriptText.{script_of}
use Rattle.gomp_program.specs.Programs.{ProgramView, programs_from, totals_of}
use Rattle.gomp_program.specs.Totals.{joined_total}
use Rattle.gomp_program.specs.declared.acts.ScriptAct.{ScriptAct}
use Rattle.gomp_program.specs.declared.acts.ScriptAct.TheVariants as script
use Rattle.gomp_course.specs.declared.program.Act.{Act}
use Rattle.gomp_course.specs.declared.program.Act.TheVariants.{Do, Parallel}
use Rattle.gomp_fork.specs.declared.report.Report.{Report}
use Rattle.gomp_fork.specs.declared.report.RegionRefusal.TheVariants as region
use Rattle.gomp_runtime.specs.Regions.{size_for, team_for}
use Rattle.gomp_fork.specs.Counts.{HoldCounts}
use Rattle.gomp_fork.specs.Reports.{IsReport}
use Rattle.gomp_levels.specs.Levels.{Forks}
use Rattle.gomp_service.specs.Reading.{max_text}
use Rattle.gomp_service.specs.declared.read.Ending.TheVariants.{Answered, NoMemory as LackingMemory, InputFault, TooLong}
use Rattle.gomp_course.specs.declared.no_tool.NoTool.{NoTool}
use Rattle.gomp_run.specs.Asks.{GoesAlong, MakesPrograms, TakesTotals, asked_act, asked_if_found, no_tool, script_program}
use Rattle.gomp_run.specs.Output.{AnswerTo, HasReported, RunsScript, fault_status, program_count, report_text, taken_sum}
use Rattle.gomp_run.specs.Serving.{ServesRun}

-- What a program asks

-- a call of the script is asked as it is
pub asked_call_of_the_script : (call other : Call) → asked_act (script.Do call) ≡ Do other → call ≡ other
asked_call_of_the_script call other is = cc

-- a nested region is asked of the size of its statement, and has no `if` clause
pub asked_region_of_the_script : (members : ℕ) (size : Option ℕ) (clause : Bool) → asked_act (script.Parallel members) ≡ Parallel size clause → (size ≡ Some members) × (clause ≡ true)
asked_region_of_the_script members size clause is = (cc, cc)

-- nothing is asked if no memory was found, and else something is
pub asks_what_was_found : (old new : ProgramView) (last : Reply) (act : Act) → GoesAlong old last (Some act) new → (found : ScriptAct) × (act ≡ asked_act found)
asks_what_was_found old new last act goes = by_found goes.found goes.asked_is
  where
    by_found : (found : Result ScriptAct _) → Some act ≡ asked_if_found found → (is : ScriptAct) × (act ≡ asked_act is)
    by_found (Ok is) same = (is, cc)
    by_found (Err lack) same = absurd (cc)

-- the member and its script stay the same
pub script_goes_with_the_member : (old new : ProgramView) (last : Reply) (asked : Option Act) → GoesAlong old last asked new → (new.script ≡ old.script) × (new.member ≡ old.member)
script_goes_with_the_member old new last asked goes = (goes.script_is, goes.member_is)

-- the members of a nested region run the same script, behind its line, by their numbers, and begin with nothing
pub nested_programs_of_the_script : (program first : ProgramView) (count : ℕ) (others : List ProgramView) → MakesPrograms program count (first ∷ others) → (first.script ≡ program.script) × (first.member ≡ 0) × (first.total ≡ pos 0)
nested_programs_of_the_script program first zero others makes = absurd (cc makes)
nested_programs_of_the_script program first (suc count) others makes = (cc, cc, cc)

-- what they add is added once, and moves the program nowhere
pub totals_of_two_are_taken : (old one other new : ProgramView) → TakesTotals old (one ∷ other ∷ []) new → (new.total ≡ joined_total old.total (one.total ∷ other.total ∷ [])) × (new.line ≡ old.line)
totals_of_two_are_taken old one other new takes = (ap (λ program. program.total) takes, ap (λ program. program.line) takes)

-- How many programs there are

-- as many as stated, or as the first number of threads, and at most 64
pub programs_as_stated : (icv : Variables) (count : ℕ) → count ≤ 64 → program_count icv (Stated count) ≡ count
programs_as_stated icv count few = omega (arith, few)

pub programs_as_many_as_threads : (icv : Variables) → outermost_size icv.nthreads ≤ 64 → program_count icv Unstated ≡ outermost_size icv.nthreads
programs_as_many_as_threads icv few = omega (arith, few)

pub programs_at_most : (icv : Variables) (team : AskedSize) → program_count icv team ≤ 64
programs_at_most icv team = omega arith

-- Sums

-- no iteration is left out
pub iterations_of_two : (n m : ℕ) → n + m < 2 ^ 128 → taken_sum (n ∷ m ∷ []) ≡ n + m
iterations_of_two n m few = omega (arith, few)

-- What is printed

-- three lines of the report's numbers, of which the first is the size that the variables give
pub report_is_printed : (icv : Variables) (script : Script) (text : List ℕ) → HasReported icv script text →
    (report : Report ProgramView NoTool) × (tools : List NoTool) × (counted : HoldCounts)
    × IsReport script_program no_tool (Forks script_program no_tool) (team_for 0 icv (program_count icv script.team)) (programs_from script 0 0 (program_count icv script.team)) tools counted report
    × (text ≡ report_text (size_for icv (program_count icv script.team)) (joined_total (pos 0) (totals_of report.progs.items)) (taken_sum report.taken.items))
report_is_printed icv script text reported =
    (reported.report, reported.tools, reported.counted, reported.ran, reported.text_is ∙ ap (λ size. report_text size (joined_total (pos 0) (totals_of reported.report.progs.items)) (taken_sum reported.report.taken.items)) reported.size_is)

-- a region's end has no other status than these
pub script_ends_with : (icv : Variables) (script : Script) (text : List ℕ) (code : ℕ) → RunsScript icv script text code → (code ≡ 0) ⊎ (code ≡ 2) ⊎ (code ≡ 3)
script_ends_with icv script text code (inl reported) = inl reported.1
script_ends_with icv script text code (inr refused) = inr (by_memory _ refused.code_is)
  where
    by_memory : (lacks : Bool) → code ≡ (if lacks then 3 else 2) → (code ≡ 2) ⊎ (code ≡ 3)
    by_memory true is = inr is
    by_memory false is = inl is

-- 3 is that of want of memory, and of nothing else
pub status_of_a_lack : fault_status (region.Refused NoMemory) ≡ 3
status_of_a_lack = refl

pub status_of_other_refusals : (fault_status (region.Refused TooManyLevels) ≡ 2) × (fault_status region.Unsettled ≡ 2)
status_of_other_refusals = (refl, refl)

-- a text that is no script has its first bad line, and no region
pub bad_script_is_printed : (icv : Variables) (bad : BadScript) (text : List ℕ) (code : ℕ) → AnswerTo icv (Err bad) text code → (text ≡ bad_script_text bad) × (code ≡ 1)
bad_script_is_printed icv bad text code answer = answer

-- a script has the answer to itself
pub script_is_run : (icv : Variables) (team : AskedSize) (lines : List ScriptLine) (ends : List ℕ) (text : List ℕ) (code : ℕ) → AnswerTo icv (Ok (team, lines, ends)) text code →
    (script : Script) × (script.team ≡ team) × (script.lines.items ≡ lines) × (script.ends.items ≡ ends) × RunsScript icv script text code
script_is_run icv team lines ends text code answer = (answer.script, answer.team_is, answer.lines_are, answer.ends_are, answer.runs)

-- How a text is served

-- of a text that was read whole the answer is written, and nothing else
pub answer_is_written : (icv : Variables) (text before after : List ℕ) (code : ℕ) → ServesRun icv (Some text) (Some before) (Some after) (Answered code) →
    (length text ≤ max_text) × ((output : List ℕ) × AnswerTo icv (script_of text) output code × (after ≡ before ++ output))
answer_is_written icv text before after code served = (by_text, (served.output, by_answer, served.written))
  where
    by_text : length text ≤ max_text
    by_text = rw (← served.whole.0) served.whole.1

    by_answer : AnswerTo icv (script_of text) served.output code
    by_answer = rw (← served.whole.0) served.answer

-- nothing is if memory or the input failed, or the text is too long
pub failed_script_writes_nothing : (icv : Variables) (remaining before after : Option (List ℕ)) → (ServesRun icv remaining before after LackingMemory → after ≡ before) × (ServesRun icv remaining before after InputFault → after ≡ before)
failed_script_writes_nothing icv remaining before after = (λ is. is, λ is. is)

pub long_script_is_longer : (icv : Variables) (text : List ℕ) (before after : Option (List ℕ)) → ServesRun icv (Some text) before after TooLong → (after ≡ before) × (max_text < length text)
long_script_is_longer icv text before after is = is
