-- What a region that has ended says of its script.
use Rattle.std.proofs.Common.{◌≡◌, ℕ, List, length, pos, inl, inr, refl, ◌∙◌}
use Rattle.std.specs.Prelude.{Result, Ok, Err, ◌⊎◌, IfOk, string_bytes}
use Rattle.gomp_icv.specs.Variables.{Variables}
use Rattle.gomp_region.specs.declared.script.Script.{Script}
use Rattle.gomp_region.specs.ScriptText.{script_of}
use Rattle.gomp_program.specs.Programs.{ProgramView, programs_from, totals_of}
use Rattle.gomp_program.specs.Totals.{joined_total}
use Rattle.gomp_fork.specs.declared.report.Report.{Report}
use Rattle.gomp_fork.specs.declared.report.RegionFault.{RegionFault}
use Rattle.gomp_runtime.specs.Regions.{EndIsTold, ForksRegion, IsReturned, RunsRegion, RunsTold, RuntimeView, size_for}
use Rattle.gomp_service.specs.declared.answer.Answer.{Answer}
use Rattle.gomp_course.specs.declared.no_tool.NoTool.{NoTool}
use Rattle.gomp_run.specs.Asks.{no_tool, script_program}
use Rattle.gomp_run.specs.Output.{HasReported, IsAnswer, RunsScript, fault_status, program_count, refusal_line, report_text, taken_sum}

-- the numbers of a report
abbrev pub lines_of_report : Report ProgramView NoTool → List ℕ
lines_of_report report = report_text report.size (joined_total (pos 0) (totals_of report.progs.items)) (taken_sum report.taken.items)

-- a region that has left a report has run, and its report has the numbers that it left
report_of : (number : ℕ) (icv : Variables) (progs : List ProgramView) (tools : List NoTool) (report : Report ProgramView NoTool)
    → IsReturned progs tools (Ok report) ⊎ RunsTold script_program no_tool number icv progs tools (Ok report)
    → (begun : List NoTool) × (left : Report ProgramView NoTool) × RunsRegion script_program no_tool number icv progs begun (Ok left) × (lines_of_report report ≡ lines_of_report left)
report_of number icv progs tools report (inl returned) = absurd returned
report_of number icv progs tools report (inr told) = left_by told.left told.region told.ends
  where
    left_by : (left : Result (Report ProgramView NoTool) (RegionFault ProgramView NoTool)) → RunsRegion script_program no_tool number icv progs told.begun left
        → EndIsTold no_tool (size_for icv (length progs)) left (Ok report)
        → (begun : List NoTool) × (left : Report ProgramView NoTool) × RunsRegion script_program no_tool number icv progs begun (Ok left) × (lines_of_report report ≡ lines_of_report left)
    left_by (Ok left) region (size, taken, history, are, tools) = (told.begun, left, region, rw (size, taken, are) refl)
    left_by (Err fault) region ends = absurd ends

-- what such a region has left is the report of its script
left_reported : (icv : Variables) (script : Script) (count : ℕ) (progs : List ProgramView) (tools : List NoTool) (runtime : RuntimeView) (left : Report ProgramView NoTool) (text : List ℕ)
    → count ≡ program_count icv script.team → progs ≡ programs_from script 0 0 count → length progs ≡ count → runtime.icv ≡ icv → runtime.regions ≡ 0
    → RunsRegion script_program no_tool runtime.regions runtime.icv progs tools (Ok left) → text ≡ lines_of_report left → HasReported icv script text
left_reported icv script count progs tools runtime left text counted are sized variables first region text_is = record {
  tools = tools;
  report = left;
  counted = region.counted;
  ran = rw (sized, are, counted, variables, first) at region.report;
  size_is = rw (sized, counted, variables) at region.size;
  text_is = text_is;
}

-- a report of a script's programs, of a runtime's first region, is that of its script
pub has_reported : (icv : Variables) (script : Script) (count : ℕ) (progs : List ProgramView) (tools : List NoTool) (runtime : RuntimeView) (report : Report ProgramView NoTool) (text : List ℕ)
    → count ≡ program_count icv script.team → progs ≡ programs_from script 0 0 count → length progs ≡ count → runtime.icv ≡ icv → runtime.regions ≡ 0
    → ForksRegion script_program no_tool runtime progs tools (Ok report) → text ≡ lines_of_report report → HasReported icv script text
has_reported icv script count progs tools runtime report text counted are sized variables first forks text_is =
    let (begun, left, region, same) = report_of runtime.regions runtime.icv progs tools report forks.region in
    left_reported icv script count progs begun runtime left text counted are sized variables first region (text_is ∙ same)

-- an answer with these lines is that to the script
pub answers_report : {E : Type 0} (result : Result Answer E) (icv : Variables) (script : Script) (lines : List ℕ)
    → IfOk result (λ answer. string_bytes answer.text ≡ lines) → IfOk result (λ answer. answer.code ≡ 0) → ((text : List ℕ) → text ≡ lines → HasReported icv script text)
    → IfOk result (λ answer. RunsScript icv script (string_bytes answer.text) answer.code)
answers_report (Ok answer) icv script lines text code has = inl (has (string_bytes answer.text) text, code)
answers_report (Err lack) icv script lines text code has = text

-- likewise one with the refusal of the fault that its region has left
pub answers_fault : {E : Type 0} (result : Result Answer E) (icv : Variables) (script : Script) (count : ℕ) (progs : List ProgramView) (tools : List NoTool) (fault : RegionFault ProgramView NoTool)
    → count ≡ program_count icv script.team → progs ≡ programs_from script 0 0 count
    → ForksRegion script_program no_tool (record { icv = icv; regions = 0 }) progs tools (Err fault)
    → IfOk result (λ answer. string_bytes answer.text ≡ refusal_line fault.refusal) → IfOk result (λ answer. answer.code ≡ fault_status fault.refusal)
    → IfOk result (λ answer. RunsScript icv script (string_bytes answer.text) answer.code)
answers_fault (Ok answer) icv script count progs tools fault counted are forked text code = inr (record {
  tools = tools;
  fault = fault;
  forked = rw (are, counted) at forked;
  text_is = text;
  code_is = code;
})
answers_fault (Err lack) icv script count progs tools fault counted are forked text code = text

-- so is it to the text that the script is
pub answers_text : {E : Type 0} (result : Result Answer E) (icv : Variables) (text : List ℕ) (script : Script) → script_of text ≡ Ok (script.team, script.lines.items, script.ends.items)
    → IfOk result (λ answer. RunsScript icv script (string_bytes answer.text) answer.code) → IfOk result (IsAnswer icv text)
answers_text (Ok answer) icv text script is runs = rw is (record { script = script; team_is = refl; lines_are = refl; ends_are = refl; runs = runs })
answers_text (Err lack) icv text script is runs = runs
