-- Which act each place of a script has, what replies add and who the members are: a lemma for each line of the definitions, of every script and member.
use Rattle.std.proofs.Common.{◌≡◌, ◌≢◌, ◌<◌, ◌≤◌, ◌+◌, ◌-◌, ◌^◌, ◌==◌, ℕ, ℤ, pos, true, false, List, [], ◌∷◌, Some, None, zero, suc, length, refl, ap, ◌∙◌, arith}
use Rattle.std.specs.Prelude.{drop, slice_get}
use Rattle.std.specs.Int.{cast_signed, cast_unsigned, w64}
use Rattle.std.proofs.lemmas.Bool.{lt-ltb, le-ltb}
use Rattle.std.proofs.Math.Nat.{min-eq_left, min-eq_right}
use Rattle.gomp_types.specs.declared.call.Call.{Call}
use Rattle.gomp_types.specs.declared.call.Call.TheVariants.{LoopStart, LoopNext, LoopEnd, LoopEndNowait, LoopEndCancel, SectionsNext, SectionsEnd, SectionsEndNowait, SectionsEndCancel, SectionsStart, SingleStart, SingleCopyStart, SingleCopyEnd, OrderedStart, OrderedEnd, CriticalStart, GroupStart, CriticalEnd, TaskCreate, TaskEnd, GroupEnd, RegionEnd, Stop, Barrier as BarrierCall, Taskwait as TaskwaitCall, Cancel as CancelCall, Point as PointCall}
use Rattle.gomp_types.specs.declared.cancel.CancelKind.{CancelKind}
use Rattle.gomp_types.specs.declared.critical_name.CriticalName.{CriticalName}
use Rattle.gomp_types.specs.declared.loop_desc.EndKind.{EndKind}
use Rattle.gomp_types.specs.declared.loop_desc.EndKind.TheVariants.{Wait, Nowait, Cancellable}
use Rattle.gomp_types.specs.declared.loop_desc.LoopDesc.{LoopDesc}
use Rattle.gomp_types.specs.declared.refusal.Clash.{Clash}
use Rattle.gomp_types.specs.declared.refusal.Refusal.TheVariants.{Broken}
use Rattle.gomp_types.specs.declared.reply.Reply.TheVariants.{Copied, Finished, Passed, Stopped, Refused}
use Rattle.gomp_types.specs.Limits.{shown_number}
use Rattle.gomp_region.specs.declared.script.Script.{Script}
use Rattle.gomp_region.specs.declared.script.ScriptLine.{ScriptLine}
use Rattle.gomp_region.specs.declared.statement.BlockConstruct.TheVariants.{Loop, Sections, Single, Copy, Ordered, Critical, Task, Group, Parallel}
use Rattle.gomp_region.specs.declared.statement.EndWord.{EndWord}
use Rattle.gomp_region.specs.declared.statement.Nesting.TheVariants.{Begins, Ends, Stands}
use Rattle.gomp_region.specs.declared.statement.Statement.{Statement}
use Rattle.gomp_region.specs.declared.statement.Statement.TheVariants.{Begin, Taskwait, Barrier, Cancel, Point}
use Rattle.gomp_region.specs.declared.statement.TaskClauses.{TaskClauses}
use Rattle.gomp_region.specs.ScriptText.{nesting_of}
use Rattle.gomp_program.specs.declared.acts.ScriptAct.{ScriptAct}
use Rattle.gomp_program.specs.declared.acts.ScriptAct.TheVariants.{Do, Parallel as ParallelAct}
use Rattle.gomp_program.specs.declared.frame.Exit.{Exit}
use Rattle.gomp_program.specs.declared.frame.Stage.{Stage}
use Rattle.gomp_program.specs.declared.frame.Stage.TheVariants.{Unasked, Starting, Continuing, Putting, Ending, EndingGroup, Releasing, EndingRegion}
use Rattle.gomp_program.specs.declared.progress.Progress.{Progress}
use Rattle.gomp_program.specs.Calls.{act_at, sections_at}
use Rattle.gomp_program.specs.Places.{StaysPut, behind_end, block_line, blocks_inside, statement_at}
use Rattle.gomp_program.specs.Programs.{ProgramView, is_last_reply, program_from, programs_from, totals_of}
use Rattle.gomp_program.specs.Totals.{addition_at, joined_total, plus_number, total_with}

-- Places

-- behind a block its member goes on behind the line that ends it
pub line_behind_block : (count line end : ℕ) → line < end → end < count → behind_end count line (Some end) ≡ end + 1
line_behind_block count line end behind within = rw (lt-ltb line end behind, lt-ltb end count within) refl

-- and behind the line itself if none begins there, or none ends among the lines
pub line_behind_itself : (count line end : ℕ) → end ≤ line → behind_end count line (Some end) ≡ shown_number (line + 1)
line_behind_itself count line end before = rw (le-ltb line end before) refl

pub line_behind_last : (count line end : ℕ) → line < end → count ≤ end → behind_end count line (Some end) ≡ shown_number (line + 1)
line_behind_last count line end behind outside = rw (lt-ltb line end behind, le-ltb end count outside) refl

pub line_behind_no_line : (count line : ℕ) → behind_end count line None ≡ shown_number (line + 1)
line_behind_no_line count line = refl

-- if memory is refused a member neither goes on, nor to another call, nor to another iteration, nor into a block or out of one
pub stays_put_wholly : (old new : Progress) → StaysPut old new → (new.line ≡ old.line) × (new.stage ≡ old.stage) × (new.iteration ≡ old.iteration) × (new.frames.items ≡ old.frames.items)
stays_put_wholly old new stays = (stays.line, stays.stage, stays.iteration, stays.frames)

-- Sections

-- a block is counted that begins directly in the construct, and those in it are not
pub block_is_counted : (word : EndWord) (line : ScriptLine) (lines : List ScriptLine) → nesting_of line.statement ≡ Begins word → blocks_inside 0 (line ∷ lines) ≡ blocks_inside 1 lines + 1
block_is_counted word line lines is = rw is refl

pub inner_block_not_counted : (depth : ℕ) (word : EndWord) (line : ScriptLine) (lines : List ScriptLine) → nesting_of line.statement ≡ Begins word → blocks_inside (suc depth) (line ∷ lines) ≡ blocks_inside (depth + 2) lines
inner_block_not_counted depth word line lines is = rw is refl

-- behind the end of the construct none is counted
pub no_block_behind_end : (word : EndWord) (line : ScriptLine) (lines : List ScriptLine) → nesting_of line.statement ≡ Ends word → blocks_inside 0 (line ∷ lines) ≡ 0
no_block_behind_end word line lines is = rw is refl

pub inner_end_goes_out : (depth : ℕ) (word : EndWord) (line : ScriptLine) (lines : List ScriptLine) → nesting_of line.statement ≡ Ends word → blocks_inside (suc depth) (line ∷ lines) ≡ blocks_inside depth lines
inner_end_goes_out depth word line lines is = rw is refl

pub other_line_not_counted : (depth : ℕ) (line : ScriptLine) (lines : List ScriptLine) → nesting_of line.statement ≡ Stands → blocks_inside depth (line ∷ lines) ≡ blocks_inside depth lines
other_line_not_counted zero line lines is = rw is refl
other_line_not_counted (suc depth) line lines is = rw is refl

-- the first section stands at the first block that begins directly in the construct, the next at the first behind it
pub first_section_found : (index : ℕ) (word : EndWord) (line : ScriptLine) (lines : List ScriptLine) → nesting_of line.statement ≡ Begins word → block_line 1 0 index (line ∷ lines) ≡ Some index
first_section_found index word line lines is = rw is refl

pub later_section_found : (number index : ℕ) (word : EndWord) (line : ScriptLine) (lines : List ScriptLine) → nesting_of line.statement ≡ Begins word → (number == 1) ≡ false → block_line number 0 index (line ∷ lines) ≡ block_line (number - 1) 1 (index + 1) lines
later_section_found number index word line lines is other = rw (is, other) refl

-- blocks in a section are passed over, and no section stands behind the end
pub section_passes_inner_block : (number depth index : ℕ) (word : EndWord) (line : ScriptLine) (lines : List ScriptLine) → nesting_of line.statement ≡ Begins word → block_line number (suc depth) index (line ∷ lines) ≡ block_line number (depth + 2) (index + 1) lines
section_passes_inner_block number depth index word line lines is = rw is refl

pub section_passes_inner_end : (number depth index : ℕ) (word : EndWord) (line : ScriptLine) (lines : List ScriptLine) → nesting_of line.statement ≡ Ends word → block_line number (suc depth) index (line ∷ lines) ≡ block_line number depth (index + 1) lines
section_passes_inner_end number depth index word line lines is = rw is refl

pub no_section_behind_end : (number index : ℕ) (word : EndWord) (line : ScriptLine) (lines : List ScriptLine) → nesting_of line.statement ≡ Ends word → block_line number 0 index (line ∷ lines) ≡ None
no_section_behind_end number index word line lines is = rw is refl

pub section_passes_other_line : (number depth index : ℕ) (line : ScriptLine) (lines : List ScriptLine) → nesting_of line.statement ≡ Stands → block_line number depth index (line ∷ lines) ≡ block_line number depth (index + 1) lines
section_passes_other_line number zero index line lines is = rw is refl
section_passes_other_line number (suc depth) index line lines is = rw is refl

-- The acts that begin constructs

-- the statement on the line of this index, which has this number
abbrev StandsOn : Script → ℕ → ℕ → Statement → Type 0
StandsOn script line number statement = slice_get script.lines.items line ≡ Some (record { number = number; statement = statement })

-- what a member does that comes to this statement, whoever it is
abbrev ActsAt : Statement → (Script → ℕ → ℤ → ℕ → ScriptAct) → Type 0
ActsAt statement act = (script : Script) (line number : ℕ) (value : ℤ) → StandsOn script line number statement → act_at script line value Starting ≡ act script line value number

-- each construct is begun by its call, with what its line says
pub loop_is_started : (desc : LoopDesc) → ActsAt (Begin (Loop desc)) (λ script line value number. Do (LoopStart desc))
loop_is_started desc script line number value is = rw is refl

pub sections_are_started : (end_kind : EndKind) → ActsAt (Begin (Sections end_kind)) (λ script line value number. Do (SectionsStart (sections_at script line) end_kind))
sections_are_started end_kind script line number value is = rw is refl

pub single_is_started : ActsAt (Begin Single) (λ script line value number. Do SingleStart)
single_is_started script line number value is = rw is refl

pub copy_is_started : (number_of : ℤ) → ActsAt (Begin (Copy number_of)) (λ script line value number. Do SingleCopyStart)
copy_is_started number_of script line number value is = rw is refl

-- the part of the iteration that the member executes
pub ordered_part_is_started : ActsAt (Begin Ordered) (λ script line value number. Do (OrderedStart value))
ordered_part_is_started script line number value is = rw is refl

pub critical_is_started : (name : CriticalName) → ActsAt (Begin (Critical name)) (λ script line value number. Do (CriticalStart name))
critical_is_started name script line number value is = rw is refl

pub group_is_started : ActsAt (Begin Group) (λ script line value number. Do GroupStart)
group_is_started script line number value is = rw is refl

-- a task has the number of its line, the iteration in which it is created, and its clauses
pub task_create_is_called : (clauses : TaskClauses) → ActsAt (Begin (Task clauses)) (λ script line value number. Do (TaskCreate (record { code = number; arg = cast_unsigned w64 value; undeferred = clauses.undeferred; final_task = clauses.final_task; deps = clauses.deps })))
task_create_is_called clauses script line number value is = rw is refl

pub region_is_forked : (members : ℕ) → ActsAt (Begin (Parallel members)) (λ script line value number. ParallelAct members)
region_is_forked members script line number value is = rw is refl

-- each statement makes its call; a cancel has a true clause
pub taskwait_is_called : ActsAt Taskwait (λ script line value number. Do (TaskwaitCall []))
taskwait_is_called script line number value is = rw is refl

pub barrier_is_called : ActsAt Barrier (λ script line value number. Do BarrierCall)
barrier_is_called script line number value is = rw is refl

pub cancel_is_called : (kind : CancelKind) → ActsAt (Cancel kind) (λ script line value number. Do (CancelCall kind true))
cancel_is_called kind script line number value is = rw is refl

pub point_is_called : (kind : CancelKind) → ActsAt (Point kind) (λ script line value number. Do (PointCall kind))
point_is_called kind script line number value is = rw is refl

-- behind the last line, which no parsed script comes to, there is nothing to do
pub no_line_stops : (script : Script) (line : ℕ) (value : ℤ) → slice_get script.lines.items line ≡ None → act_at script line value Starting ≡ Do Stop
no_line_stops script line value is = rw is refl

-- all sections are counted, up to the largest number that a construct may have
pub few_sections_are_all : (script : Script) (line : ℕ) → blocks_inside 0 (drop (line + 1) script.lines.items) ≤ 2 ^ 32 - 1 → sections_at script line ≡ blocks_inside 0 (drop (line + 1) script.lines.items)
few_sections_are_all script line few = min-eq_left few

pub many_sections_are_the_most : (script : Script) (line : ℕ) → 2 ^ 32 - 1 ≤ blocks_inside 0 (drop (line + 1) script.lines.items) → sections_at script line ≡ 2 ^ 32 - 1
many_sections_are_the_most script line many = min-eq_right many

-- The acts on what is begun

-- the call of a member that stands at this call of this statement, whoever it is
abbrev CallsAt : Stage → Statement → Call → Type 0
CallsAt stage statement call = (script : Script) (line : ℕ) (value : ℤ) → statement_at script line ≡ Some statement → act_at script line value stage ≡ Do call

-- the next piece of a share
pub loop_asks_for_next : (desc : LoopDesc) → CallsAt Continuing (Begin (Loop desc)) LoopNext
loop_asks_for_next desc script line value is = rw is refl

pub sections_ask_for_next : (end_kind : EndKind) → CallsAt Continuing (Begin (Sections end_kind)) SectionsNext
sections_ask_for_next end_kind script line value is = rw is refl

-- the number of a copy, as one word
pub copy_is_put : (number : ℤ) → CallsAt Putting (Begin (Copy number)) (SingleCopyEnd (cast_unsigned w64 number ∷ []))
copy_is_put number script line value is = rw is refl

-- what ends a loop and sections, by what stands there
pub loop_ends_by_barrier : (desc : LoopDesc) (groups : ℕ) → desc.end_kind ≡ Wait → CallsAt (Ending groups) (Begin (Loop desc)) LoopEnd
loop_ends_by_barrier desc groups kind script line value is = rw (is, kind) refl

pub loop_ends_at_once : (desc : LoopDesc) (groups : ℕ) → desc.end_kind ≡ Nowait → CallsAt (Ending groups) (Begin (Loop desc)) LoopEndNowait
loop_ends_at_once desc groups kind script line value is = rw (is, kind) refl

pub loop_ends_cancellable : (desc : LoopDesc) (groups : ℕ) → desc.end_kind ≡ Cancellable → CallsAt (Ending groups) (Begin (Loop desc)) LoopEndCancel
loop_ends_cancellable desc groups kind script line value is = rw (is, kind) refl

pub sections_end_by_barrier : (groups : ℕ) → CallsAt (Ending groups) (Begin (Sections Wait)) SectionsEnd
sections_end_by_barrier groups script line value is = rw is refl

pub sections_end_at_once : (groups : ℕ) → CallsAt (Ending groups) (Begin (Sections Nowait)) SectionsEndNowait
sections_end_at_once groups script line value is = rw is refl

pub sections_end_cancellable : (groups : ℕ) → CallsAt (Ending groups) (Begin (Sections Cancellable)) SectionsEndCancel
sections_end_cancellable groups script line value is = rw is refl

-- a single and a copy end with a barrier of all
pub single_ends_for_all : (groups : ℕ) → CallsAt (Ending groups) (Begin Single) BarrierCall
single_ends_for_all groups script line value is = rw is refl

pub copy_ends_for_all : (number : ℤ) (groups : ℕ) → CallsAt (Ending groups) (Begin (Copy number)) BarrierCall
copy_ends_for_all number groups script line value is = rw is refl

-- each other construct by its end
pub ordered_part_ends : (groups : ℕ) → CallsAt (Ending groups) (Begin Ordered) OrderedEnd
ordered_part_ends groups script line value is = rw is refl

pub critical_ends_by_name : (name : CriticalName) (groups : ℕ) → CallsAt (Ending groups) (Begin (Critical name)) (CriticalEnd name)
critical_ends_by_name name groups script line value is = rw is refl

pub task_ends_itself : (clauses : TaskClauses) (groups : ℕ) → CallsAt (Ending groups) (Begin (Task clauses)) TaskEnd
task_ends_itself clauses groups script line value is = rw is refl

pub group_ends_itself : (groups : ℕ) → CallsAt (Ending groups) (Begin Group) GroupEnd
group_ends_itself groups script line value is = rw is refl

-- a name is released on the way out of what is cancelled
pub left_name_is_released : (exit : Exit) (name : CriticalName) → CallsAt (Releasing exit) (Begin (Critical name)) (CriticalEnd name)
left_name_is_released exit name script line value is = rw is refl

-- a group on the way out, and the region, are ended wherever the member stands
pub left_group_is_ended : (script : Script) (line groups : ℕ) (value : ℤ) → act_at script line value (EndingGroup groups) ≡ Do GroupEnd
left_group_is_ended script line groups value = refl

pub region_is_ended : (script : Script) (line : ℕ) (value : ℤ) → act_at script line value EndingRegion ≡ Do RegionEnd
region_is_ended script line value = refl

-- a member that was not asked yet makes no call
pub unasked_calls_nothing : (script : Script) (line : ℕ) (value : ℤ) (statement : Statement) → statement_at script line ≡ Some statement → act_at script line value Unasked ≡ Do Stop
unasked_calls_nothing script line value (Begin construct) is = rw is refl
unasked_calls_nothing script line value statement is = rw is refl

-- Totals

-- every member adds the number of a copy: the executor once it is put, any other one as the word that it is handed
pub copied_word_is_added : (number total : ℤ) (word : ℕ) → total_with total (addition_at Starting (Some (Begin (Copy number))) (Copied (word ∷ []))) ≡ plus_number total (cast_signed w64 word)
copied_word_is_added number total word = refl

pub put_number_is_added : (number total : ℤ) → total_with total (addition_at Putting (Some (Begin (Copy number))) Finished) ≡ plus_number total number
put_number_is_added number total = refl

-- the end of a copy adds nothing more
pub copy_end_adds_nothing : (number total : ℤ) (groups : ℕ) → total_with total (addition_at (Ending groups) (Some (Begin (Copy number))) Passed) ≡ total
copy_end_adds_nothing number total groups = refl

-- the total of each member of a nested region is added, in their order
pub each_total_is_added : (total : ℤ) (program : ProgramView) (others : List ProgramView) → joined_total total (totals_of (program ∷ others)) ≡ joined_total (plus_number total program.total) (totals_of others)
each_total_is_added total program others = refl

pub no_total_is_added : (total : ℤ) → joined_total total (totals_of []) ≡ total
no_total_is_added total = refl

-- Members

-- there is a program for each member of a team, by its number
pub team_is_complete : (script : Script) (line first count : ℕ) → length (programs_from script line first count) ≡ count
team_is_complete script line first zero = refl
team_is_complete script line first (suc count) = ap suc (team_is_complete script line (first + 1) count)

pub each_member_has_program : (script : Script) (line first count m : ℕ) → m < count → slice_get (programs_from script line first count) m ≡ Some (program_from script line (first + m))
each_member_has_program script line first zero m less = absurd (omega (arith, less))
each_member_has_program script line first (suc count) zero less = ap (λ (member : ℕ). Some (program_from script line member)) (omega arith)
each_member_has_program script line first (suc count) (suc m) less =
    each_member_has_program script line (first + 1) count m (omega (arith, less)) ∙ ap (λ (member : ℕ). Some (program_from script line member)) (omega arith)

-- it begins at its line in no block and no iteration, has added nothing, and owes nothing
pub program_begins_so : (script : Script) (line member : ℕ) (program : ProgramView) → program ≡ program_from script line member →
    (program.script ≡ script) × (program.member ≡ member) × (program.line ≡ line) × (program.stage ≡ Unasked) × (program.iteration.value ≡ pos 0) × (program.iteration.left ≡ 0) × (program.frames ≡ []) × (program.total ≡ pos 0) × (program.owes ≡ false)
program_begins_so script line member program is = rw is (refl, refl, refl, refl, refl, refl, refl, refl, refl)

-- a reply is the last once the region's end is passed, and nowhere else; and wherever the team is stopped or broken
pub passed_region_is_last : is_last_reply EndingRegion Passed ≡ true
passed_region_is_last = refl

pub other_pass_is_not_last : (stage : Stage) → stage ≢ EndingRegion → is_last_reply stage Passed ≡ false
other_pass_is_not_last EndingRegion other = absurd (other refl)
other_pass_is_not_last _ other = refl

pub stopped_is_last : (stage : Stage) → is_last_reply stage Stopped ≡ true
stopped_is_last stage = refl

pub broken_is_last : (stage : Stage) (clash : Clash) → is_last_reply stage (Refused (Broken clash)) ≡ true
broken_is_last stage clash = refl

pub finished_is_not_last : (stage : Stage) → is_last_reply stage Finished ≡ false
finished_is_not_last stage = refl
