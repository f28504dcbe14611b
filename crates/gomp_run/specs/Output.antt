-- What `ompteam run` prints for the text of a script, and with which status it ends. (own)
use Rattle.std.specs.Prelude.{ℕ, ℤ, pos, ◌≡◌, ◌⊎◌, ◌++◌, min, Bool, true, false, if◌then◌else◌, List, Result, Ok, Err, codes, string_bytes, sum_by}
use Rattle.std.specs.Fmt.{decimal, signed_decimal}
use Rattle.gomp_types.specs.declared.limits.TheConstants.{MAX_MEMBERS}
use Rattle.gomp_types.specs.declared.refusal.Refusal.TheVariants.{NoMemory}
use Rattle.gomp_icv.specs.Variables.{Variables, outermost_size}
use Rattle.gomp_region.specs.declared.script.AskedSize.{AskedSize}
use Rattle.gomp_region.specs.declared.script.AskedSize.TheVariants.{Unstated, Stated}
use Rattle.gomp_region.specs.declared.script.BadScript.{BadScript}
use Rattle.gomp_region.specs.declared.script.Script.{Script}
use Rattle.gomp_region.specs.declared.script.ScriptLine.{ScriptLine}
use Rattle.gomp_region.specs.Printing.{bad_script_text}
use Rattle.gomp_region.specs.ScriptText.{script_of}
use Rattle.gomp_program.specs.Programs.{ProgramView, programs_from, totals_of}
use Rattle.gomp_program.specs.Totals.{joined_total}
use Rattle.gomp_fork.specs.declared.report.Report.{Report}
use Rattle.gomp_fork.specs.declared.report.RegionFault.{RegionFault}
use Rattle.gomp_fork.specs.declared.report.RegionRefusal.{RegionRefusal}
use Rattle.gomp_fork.specs.declared.report.RegionRefusal.TheVariants.{Refused}
use Rattle.gomp_runtime.specs.Regions.{ForksRegion, size_for, team_for}
use Rattle.gomp_fork.specs.Counts.{HoldCounts}
use Rattle.gomp_fork.specs.Reports.{IsReport, refusal_text}
use Rattle.gomp_levels.specs.Levels.{Forks}
use Rattle.gomp_service.specs.declared.answer.Answer.{Answer}
use Rattle.gomp_course.specs.declared.no_tool.NoTool.{NoTool}
use Rattle.gomp_run.specs.Asks.{no_tool, script_program}

-- How many programs

-- as many as the first line says, or as nthreads-var does, if it has no number
abbrev pub asked_programs : Variables → AskedSize → ℕ
asked_programs icv Unstated = outermost_size icv.nthreads
asked_programs icv (Stated count) = count

-- 64 at most
abbrev pub program_count : Variables → AskedSize → ℕ
program_count icv team = min (asked_programs icv team) MAX_MEMBERS

-- What is printed of a region that has ended

-- how many members there were, what they added up to, how many iterations they took
abbrev pub report_text : ℕ → ℤ → ℕ → List ℕ
report_text threads total taken = codes "threads " ++ (decimal threads ++ (codes "\ntotal " ++ (signed_decimal total ++ (codes "\ntaken " ++ (decimal taken ++ codes "\n")))))

-- how many iterations there were, in all; the sum stays at 2^128 - 1
abbrev pub taken_sum : List ℕ → ℕ
taken_sum taken = min (sum_by (λ iterations. iterations) taken) 340282366920938463463374607431768211455

-- the region of a script has ended: its members have run the script's programs, and what is printed are the numbers of their report
pub record HasReported (icv : Variables) (script : Script) (text : List ℕ) : Type 0 where
  pub tools : List NoTool
  pub report : Report ProgramView NoTool
  pub counted : HoldCounts
  pub ran : IsReport script_program no_tool (Forks script_program no_tool) (team_for 0 icv (program_count icv script.team)) (programs_from script 0 0 (program_count icv script.team)) tools counted report
  pub size_is : report.size ≡ size_for icv (program_count icv script.team)
  pub text_is : text ≡ report_text report.size (joined_total (pos 0) (totals_of report.progs.items)) (taken_sum report.taken.items)

-- What is printed of one that a refusal has ended

abbrev pub refusal_line : RegionRefusal → List ℕ
refusal_line refusal = codes "refused " ++ (refusal_text refusal ++ codes "\n")

-- whether it is want of memory
abbrev pub is_no_memory : RegionRefusal → Bool
is_no_memory (Refused NoMemory) = true
is_no_memory refusal = false

-- its status: 3 for want of memory
abbrev pub fault_status : RegionRefusal → ℕ
fault_status refusal = if is_no_memory refusal then 3 else 2

-- a refusal has ended the region of a script: its programs come back as such a region may leave them, and what is printed is a refusal with its status; which one it is, no clause says once its programs have run
pub record HasFaulted (icv : Variables) (script : Script) (text : List ℕ) (code : ℕ) : Type 0 where
  pub tools : List NoTool
  pub fault : RegionFault ProgramView NoTool
  pub forked : ForksRegion script_program no_tool (record { icv = icv; regions = 0 }) (programs_from script 0 0 (program_count icv script.team)) tools (Err fault)
  pub text_is : text ≡ refusal_line fault.refusal
  pub code_is : code ≡ fault_status fault.refusal

-- What is printed of a text

-- of a script: what its region comes to, or by which refusal it has ended
abbrev pub RunsScript : Variables → Script → List ℕ → ℕ → Type 0
RunsScript icv script text code = (HasReported icv script text × (code ≡ 0)) ⊎ HasFaulted icv script text code

-- of the script that was read
pub record RunsFound (icv : Variables) (found : AskedSize × List ScriptLine × List ℕ) (text : List ℕ) (code : ℕ) : Type 0 where
  pub script : Script
  pub team_is : script.team ≡ found.0
  pub lines_are : script.lines.items ≡ found.1
  pub ends_are : script.ends.items ≡ found.2
  pub runs : RunsScript icv script text code

-- of what was read, or its first bad line
abbrev pub AnswerTo : Variables → Result (AskedSize × List ScriptLine × List ℕ) BadScript → List ℕ → ℕ → Type 0
AnswerTo icv (Ok found) text code = RunsFound icv found text code
AnswerTo icv (Err bad) text code = (text ≡ bad_script_text bad) × (code ≡ 1)

-- this is the answer to a text
abbrev pub IsAnswer : Variables → List ℕ → Answer → Type 0
IsAnswer icv text answer = AnswerTo icv (script_of text) (string_bytes answer.text) answer.code
