-- Where a member stands behind each reply, of every script, member, place and total: a lemma for each line of the definitions.
use Rattle.std.proofs.Common.{◌≡◌, ◌≢◌, ◌≤◌, ◌+◌, ◌++◌, ◌==◌, ℕ, ℤ, Bool, true, false, List, [], ◌∷◌, Option, Some, None, Result, Ok, Err, suc, length, drop, refl, ap, sym, subst, inl, inr, ◌∙◌, arith}
use Rattle.std.specs.Prelude.{◌⊎◌, if◌then◌else◌}
use Rattle.std.specs.List.{list_all, list_any, position_from}
use Rattle.std.specs.Int.{cast_signed, int_wrapping_add, w64}
use Rattle.std.proofs.lemmas.List.Sums.{sum_by-cons}
use Rattle.std.proofs.lemmas.Result.{IfOk-at_ok}
use Rattle.gomp_types.specs.declared.call.Call.TheVariants.{Resume, Stop}
use Rattle.gomp_types.specs.declared.cancel.CancelKind.{CancelKind}
use Rattle.gomp_types.specs.declared.cancel.CancelKind.TheVariants.{Loop as CancelLoop, Sections as CancelSections, Taskgroup}
use Rattle.gomp_types.specs.declared.critical_name.CriticalName.{CriticalName}
use Rattle.gomp_types.specs.declared.loop_desc.EndKind.{EndKind}
use Rattle.gomp_types.specs.declared.loop_desc.EndKind.TheVariants.{Wait as WaitEnd, Nowait, Cancellable}
use Rattle.gomp_types.specs.declared.loop_desc.LoopDesc.{LoopDesc}
use Rattle.gomp_types.specs.declared.refusal.Refusal.{Refusal}
use Rattle.gomp_types.specs.declared.reply.Reply.{Reply}
use Rattle.gomp_types.specs.declared.reply.Reply.TheVariants.{Chunk, NoChunk, Section as SectionReply, Executor, Copied, Finished, Passed, Cancelled, Created, Dropped, Cancelling, Run, TaskDone, Refused}
use Rattle.gomp_types.proofs.Booleans.{other_number, same_number}
use Rattle.gomp_region.specs.declared.script.Script.{Script}
use Rattle.gomp_region.specs.declared.script.ScriptLine.{ScriptLine}
use Rattle.gomp_region.specs.declared.statement.Addend.TheVariants.{Number, Iteration as OfIteration}
use Rattle.gomp_region.specs.declared.statement.BlockConstruct.TheVariants.{Loop, Sections, Section, Single, Copy, Ordered, Critical, Task, Group, Parallel, Only}
use Rattle.gomp_region.specs.declared.statement.EndWord.{EndWord}
use Rattle.gomp_region.specs.declared.statement.EndWord.TheVariants.{EndFor, EndSection, EndOnly, EndTask}
use Rattle.gomp_region.specs.declared.statement.Statement.{Statement}
use Rattle.gomp_region.specs.declared.statement.Statement.TheVariants.{Begin, End, Taskwait, Barrier, Cancel, Point as PointStatement, Add}
use Rattle.gomp_region.specs.declared.statement.TaskClauses.{TaskClauses}
use Rattle.gomp_program.specs.declared.acts.ScriptAct.{ScriptAct}
use Rattle.gomp_program.specs.declared.acts.ScriptAct.TheVariants.{Do}
use Rattle.gomp_program.specs.declared.frame.Block.TheVariants.{OfLoop, OfSections, Once, OfTask}
use Rattle.gomp_program.specs.declared.frame.Exit.{Exit}
use Rattle.gomp_program.specs.declared.frame.Exit.TheVariants.{FromConstruct, FromRegion}
use Rattle.gomp_program.specs.declared.frame.Frame.{Frame}
use Rattle.gomp_program.specs.declared.frame.Iteration.{Iteration}
use Rattle.gomp_program.specs.declared.frame.Stage.{Stage}
use Rattle.gomp_program.specs.declared.frame.Stage.TheVariants.{Unasked, Starting, Continuing, Putting, Ending, EndingGroup, Releasing, EndingRegion}
use Rattle.gomp_program.proofs.ExitLists.{body, body_further_in, exit_further_in, no_exit_from_once, no_task_is_left, once}
use Rattle.gomp_program.specs.Leaving.{LeavesBlock, LeavesBlocks, NoneCritical, ReleasesName, exit_of, groups_in, is_critical, is_group, iteration_around, kept_in_block, region_exit}
use Rattle.gomp_program.specs.Moves.{Lead, Executes, Calls, Leaving, Resumes, Stops, behind_block, behind_groups, behind_line, into, into_found, into_once, into_task, lead_of, line_numbered, out_of, to_end}
use Rattle.gomp_program.specs.Next.{HasCome, StandsBehind, act_behind, call_behind_lead}
use Rattle.gomp_program.specs.Passing.{ComesTo, Point, arrives, executes, behind_point, place_at, standing_at}
use Rattle.gomp_program.specs.Places.{Place, block_line, innermost, line_behind, next_line, outer_blocks, statement_at}
use Rattle.gomp_program.specs.Programs.{ProgramView, act_of, lead_behind, place_of}
use Rattle.gomp_program.specs.Totals.{addition_at, plus_number, total_with}

-- Where a reply leads

-- this reply to this call of this statement leads there, from wherever it is made
abbrev LeadsTo : Stage → Statement → Reply → (Script → Place → Lead) → Type 0
LeadsTo stage statement reply lead = (script : Script) (place : Place) → place.stage ≡ stage → statement_at script place.line ≡ Some statement → lead_of script place reply ≡ lead script place

-- a chunk leads into its first iteration, which begins behind the line of the loop; so many iterations are left as the chunk has more
pub first_chunk_leads_in : (desc : LoopDesc) (first : ℤ) (later : ℕ) → LeadsTo Starting (Begin (Loop desc)) (Chunk first (suc later)) (λ script place. into place.line OfLoop (record { value = first; left = later }) place.line place)
first_chunk_leads_in desc first later script place stands is = rw (stands, is) refl

pub next_chunk_leads_in : (desc : LoopDesc) (first : ℤ) (later : ℕ) → LeadsTo Continuing (Begin (Loop desc)) (Chunk first (suc later)) (λ script place. into place.line OfLoop (record { value = first; left = later }) place.line place)
next_chunk_leads_in desc first later script place stands is = rw (stands, is) refl

-- a chunk of no iteration is no reply
pub empty_chunk_stops : (desc : LoopDesc) (first : ℤ) → LeadsTo Continuing (Begin (Loop desc)) (Chunk first 0) (λ script place. Stops)
empty_chunk_stops desc first script place stands is = rw (stands, is) refl

-- that no iteration is left leads to the end of the loop
pub no_first_chunk_leads_to_end : (desc : LoopDesc) → LeadsTo Starting (Begin (Loop desc)) NoChunk (λ script place. to_end place)
no_first_chunk_leads_to_end desc script place stands is = rw (stands, is) refl

pub no_next_chunk_leads_to_end : (desc : LoopDesc) → LeadsTo Continuing (Begin (Loop desc)) NoChunk (λ script place. to_end place)
no_next_chunk_leads_to_end desc script place stands is = rw (stands, is) refl

-- a section leads into the block of its number, and no section left to the end
pub first_section_leads_in : (end_kind : EndKind) (number section : ℕ) (script : Script) (place : Place) → place.stage ≡ Starting → statement_at script place.line ≡ Some (Begin (Sections end_kind)) → (number == 0) ≡ false → block_line number 0 (place.line + 1) (drop (place.line + 1) script.lines.items) ≡ Some section →
    lead_of script place (SectionReply number) ≡ into place.line OfSections place.iteration section place
first_section_leads_in end_kind number section script place stands is some found = rw (stands, is, some, found) refl

pub next_section_leads_in : (end_kind : EndKind) (number section : ℕ) (script : Script) (place : Place) → place.stage ≡ Continuing → statement_at script place.line ≡ Some (Begin (Sections end_kind)) → (number == 0) ≡ false → block_line number 0 (place.line + 1) (drop (place.line + 1) script.lines.items) ≡ Some section →
    lead_of script place (SectionReply number) ≡ into place.line OfSections place.iteration section place
next_section_leads_in end_kind number section script place stands is some found = rw (stands, is, some, found) refl

pub no_first_section_leads_to_end : (end_kind : EndKind) → LeadsTo Starting (Begin (Sections end_kind)) (SectionReply 0) (λ script place. to_end place)
no_first_section_leads_to_end end_kind script place stands is = rw (stands, is) refl

pub no_next_section_leads_to_end : (end_kind : EndKind) → LeadsTo Continuing (Begin (Sections end_kind)) (SectionReply 0) (λ script place. to_end place)
no_next_section_leads_to_end end_kind script place stands is = rw (stands, is) refl

-- the executor of a single or a copy goes into its block, any other member to its end
pub executor_goes_in : LeadsTo Starting (Begin Single) (Executor true) (λ script place. into_once place)
executor_goes_in script place stands is = rw (stands, is) refl

pub other_member_goes_to_end : LeadsTo Starting (Begin Single) (Executor false) (λ script place. to_end place)
other_member_goes_to_end script place stands is = rw (stands, is) refl

pub copy_executor_goes_in : (number : ℤ) → LeadsTo Starting (Begin (Copy number)) (Executor true) (λ script place. into_once place)
copy_executor_goes_in number script place stands is = rw (stands, is) refl

pub handed_word_leads_to_end : (number : ℤ) (word : ℕ) → LeadsTo Starting (Begin (Copy number)) (Copied (word ∷ [])) (λ script place. to_end place)
handed_word_leads_to_end number word script place stands is = rw (stands, is) refl

-- who is no executor of a copy is handed one word
pub unhanded_copy_stops : (number : ℤ) → LeadsTo Starting (Begin (Copy number)) (Executor false) (λ script place. Stops)
unhanded_copy_stops number script place stands is = rw (stands, is) refl

pub wordless_copy_stops : (number : ℤ) → LeadsTo Starting (Begin (Copy number)) (Copied []) (λ script place. Stops)
wordless_copy_stops number script place stands is = rw (stands, is) refl

pub many_words_stop : (number : ℤ) (first second : ℕ) (words : List ℕ) → LeadsTo Starting (Begin (Copy number)) (Copied (first ∷ second ∷ words)) (λ script place. Stops)
many_words_stop number first second words script place stands is = rw (stands, is) refl

-- the blocks that are begun by a call that finishes
pub ordered_part_leads_in : LeadsTo Starting (Begin Ordered) Finished (λ script place. into_once place)
ordered_part_leads_in script place stands is = rw (stands, is) refl

pub critical_leads_in : (name : CriticalName) → LeadsTo Starting (Begin (Critical name)) Finished (λ script place. into_once place)
critical_leads_in name script place stands is = rw (stands, is) refl

pub group_leads_in : LeadsTo Starting (Begin Group) Finished (λ script place. into_once place)
group_leads_in script place stands is = rw (stands, is) refl

-- a task that is created or dropped leads behind its block, which the member does not execute; its own undeferred one into that
pub created_task_leads_behind : (clauses : TaskClauses) (task : ℕ) → LeadsTo Starting (Begin (Task clauses)) (Created task) behind_block
created_task_leads_behind clauses task script place stands is = rw (stands, is) refl

pub dropped_task_leads_behind : (clauses : TaskClauses) → LeadsTo Starting (Begin (Task clauses)) Dropped behind_block
dropped_task_leads_behind clauses script place stands is = rw (stands, is) refl

pub own_task_leads_in : (clauses : TaskClauses) (task code arg : ℕ) → LeadsTo Starting (Begin (Task clauses)) (Run task code arg true) (λ script place. into_task place.line arg place)
own_task_leads_in clauses task code arg script place stands is = rw (stands, is) refl

-- a nested region leads behind its block
pub nested_region_leads_behind : (members : ℕ) → LeadsTo Starting (Begin (Parallel members)) Finished behind_block
nested_region_leads_behind members script place stands is = rw (stands, is) refl

-- a wait that is over, and what is not cancelled, lead to the next line
pub taskwait_leads_on : LeadsTo Starting Taskwait Passed (λ script place. behind_line place)
taskwait_leads_on script place stands is = rw (stands, is) refl

pub barrier_leads_on : LeadsTo Starting Barrier Passed (λ script place. behind_line place)
barrier_leads_on script place stands is = rw (stands, is) refl

pub uncancelled_leads_on : (kind : CancelKind) → LeadsTo Starting (Cancel kind) (Cancelling false) (λ script place. behind_line place)
uncancelled_leads_on kind script place stands is = rw (stands, is) refl

pub uncancelled_point_leads_on : (kind : CancelKind) → LeadsTo Starting (PointStatement kind) (Cancelling false) (λ script place. behind_line place)
uncancelled_point_leads_on kind script place stands is = rw (stands, is) refl

-- what is cancelled leads out of what the construct names
pub cancel_leads_out : (kind : CancelKind) → LeadsTo Starting (Cancel kind) (Cancelling true) (λ script place. out_of script (exit_of script place.frames kind))
cancel_leads_out kind script place stands is = rw (stands, is) refl

pub point_leads_out : (kind : CancelKind) → LeadsTo Starting (PointStatement kind) (Cancelling true) (λ script place. out_of script (exit_of script place.frames kind))
point_leads_out kind script place stands is = rw (stands, is) refl

-- the ends of shares lead behind them, or to the groups that are left
pub nowait_loop_leads_behind : (desc : LoopDesc) (groups : ℕ) → desc.end_kind ≡ Nowait → LeadsTo (Ending groups) (Begin (Loop desc)) Finished (λ script place. behind_groups script groups place)
nowait_loop_leads_behind desc groups kind script place stands is = rw (stands, is, kind) refl

pub loop_barrier_leads_behind : (desc : LoopDesc) (groups : ℕ) → desc.end_kind ≡ WaitEnd → LeadsTo (Ending groups) (Begin (Loop desc)) Passed (λ script place. behind_groups script groups place)
loop_barrier_leads_behind desc groups kind script place stands is = rw (stands, is, kind) refl

pub cancellable_loop_leads_behind : (desc : LoopDesc) (groups : ℕ) → desc.end_kind ≡ Cancellable → LeadsTo (Ending groups) (Begin (Loop desc)) Passed (λ script place. behind_groups script groups place)
cancellable_loop_leads_behind desc groups kind script place stands is = rw (stands, is, kind) refl

pub nowait_sections_lead_behind : (groups : ℕ) → LeadsTo (Ending groups) (Begin (Sections Nowait)) Finished (λ script place. behind_groups script groups place)
nowait_sections_lead_behind groups script place stands is = rw (stands, is) refl

pub sections_barrier_leads_behind : (groups : ℕ) → LeadsTo (Ending groups) (Begin (Sections WaitEnd)) Passed (λ script place. behind_groups script groups place)
sections_barrier_leads_behind groups script place stands is = rw (stands, is) refl

pub cancellable_sections_lead_behind : (groups : ℕ) → LeadsTo (Ending groups) (Begin (Sections Cancellable)) Passed (λ script place. behind_groups script groups place)
cancellable_sections_lead_behind groups script place stands is = rw (stands, is) refl

-- no group is left behind unended
pub left_group_comes_first : (script : Script) (later : ℕ) (place : Place) → behind_groups script (suc later) place ≡ Calls (record place { stage = EndingGroup later })
left_group_comes_first script later place = refl

pub no_group_is_left : (script : Script) (place : Place) → behind_groups script 0 place ≡ behind_block script place
no_group_is_left script place = refl

-- each other end leads behind its block
pub single_end_leads_behind : (groups : ℕ) → LeadsTo (Ending groups) (Begin Single) Passed behind_block
single_end_leads_behind groups script place stands is = rw (stands, is) refl

pub copy_end_leads_behind : (number : ℤ) (groups : ℕ) → LeadsTo (Ending groups) (Begin (Copy number)) Passed behind_block
copy_end_leads_behind number groups script place stands is = rw (stands, is) refl

pub group_end_leads_behind : (groups : ℕ) → LeadsTo (Ending groups) (Begin Group) Passed behind_block
group_end_leads_behind groups script place stands is = rw (stands, is) refl

pub ordered_end_leads_behind : (groups : ℕ) → LeadsTo (Ending groups) (Begin Ordered) Finished behind_block
ordered_end_leads_behind groups script place stands is = rw (stands, is) refl

pub critical_end_leads_behind : (name : CriticalName) (groups : ℕ) → LeadsTo (Ending groups) (Begin (Critical name)) Finished behind_block
critical_end_leads_behind name groups script place stands is = rw (stands, is) refl

-- the end of a task leads back to the wait at which it was started, or behind the undeferred task itself, in the iteration and the blocks around it
pub task_end_leads_back_to_wait : (clauses : TaskClauses) (groups task started : ℕ) (stage : Stage) (frame : Frame) (script : Script) (place : Place) → place.stage ≡ Ending groups → statement_at script place.line ≡ Some (Begin (Task clauses)) → innermost place.frames ≡ Some frame → frame.block ≡ OfTask started stage →
    lead_of script place (TaskDone task true) ≡ Resumes (record { line = started; stage = stage; iteration = frame.around; frames = outer_blocks place.frames })
task_end_leads_back_to_wait clauses groups task started stage frame script place stands is inside block = rw (stands, is, inside, block) refl

pub undeferred_end_leads_behind : (clauses : TaskClauses) (groups task started : ℕ) (stage : Stage) (frame : Frame) (script : Script) (place : Place) → place.stage ≡ Ending groups → statement_at script place.line ≡ Some (Begin (Task clauses)) → innermost place.frames ≡ Some frame → frame.block ≡ OfTask started stage →
    lead_of script place (TaskDone task false) ≡ Executes (line_behind script started) frame.around (outer_blocks place.frames)
undeferred_end_leads_behind clauses groups task started stage frame script place stands is inside block = rw (stands, is, inside, block) refl

-- who executes no task ends none
pub no_task_to_end : (clauses : TaskClauses) (groups task : ℕ) (waiting : Bool) (script : Script) (place : Place) → place.stage ≡ Ending groups → statement_at script place.line ≡ Some (Begin (Task clauses)) → innermost place.frames ≡ None → lead_of script place (TaskDone task waiting) ≡ Stops
no_task_to_end clauses groups task waiting script place stands is none = rw (stands, is, none) refl

-- wherever a member stands: its first reply leads to its line, a word that is put to the end, a group that is ended on the way out to the next, a name that is released further out
pub first_reply_leads_to_line : (script : Script) (place : Place) → place.stage ≡ Unasked → lead_of script place Finished ≡ Executes place.line place.iteration place.frames
first_reply_leads_to_line script place stands = rw stands refl

pub put_word_leads_to_end : (script : Script) (place : Place) → place.stage ≡ Putting → lead_of script place Finished ≡ to_end place
put_word_leads_to_end script place stands = rw stands refl

pub left_group_leads_on : (script : Script) (place : Place) (groups : ℕ) → place.stage ≡ EndingGroup groups → lead_of script place Passed ≡ behind_groups script groups place
left_group_leads_on script place groups stands = rw stands refl

pub released_name_leads_out : (script : Script) (place : Place) (exit : Exit) → place.stage ≡ Releasing exit → lead_of script place Finished ≡ Leaving script exit
released_name_leads_out script place exit stands = rw stands refl

-- a refusal stops the member wherever it stands
pub refusal_leads_nowhere : (refusal : Refusal) (script : Script) (place : Place) → lead_of script place (Refused refusal) ≡ Stops
refusal_leads_nowhere refusal script place = refl

-- a member that waits for all or for its turn is led out of a cancelled region, one that waits for tasks is not
pub cancelled_barrier_leads_out : LeadsTo Starting Barrier Cancelled (λ script place. out_of script (region_exit place.frames))
cancelled_barrier_leads_out script place stands is = rw (stands, is) refl

pub cancelled_ordered_part_leads_out : LeadsTo Starting (Begin Ordered) Cancelled (λ script place. out_of script (region_exit place.frames))
cancelled_ordered_part_leads_out script place stands is = rw (stands, is) refl

pub cancelled_taskwait_stops : LeadsTo Starting Taskwait Cancelled (λ script place. Stops)
cancelled_taskwait_stops script place stands is = rw (stands, is) refl

-- so is one that waits for room for a share, for the next piece of an ordered loop, or at the end of a share
pub cancelled_loop_start_leads_out : (desc : LoopDesc) → LeadsTo Starting (Begin (Loop desc)) Cancelled (λ script place. out_of script (region_exit place.frames))
cancelled_loop_start_leads_out desc script place stands is = rw (stands, is) refl

pub cancelled_sections_start_leads_out : (end_kind : EndKind) → LeadsTo Starting (Begin (Sections end_kind)) Cancelled (λ script place. out_of script (region_exit place.frames))
cancelled_sections_start_leads_out end_kind script place stands is = rw (stands, is) refl

pub cancelled_single_leads_out : LeadsTo Starting (Begin Single) Cancelled (λ script place. out_of script (region_exit place.frames))
cancelled_single_leads_out script place stands is = rw (stands, is) refl

pub cancelled_copy_leads_out : (number : ℤ) → LeadsTo Starting (Begin (Copy number)) Cancelled (λ script place. out_of script (region_exit place.frames))
cancelled_copy_leads_out number script place stands is = rw (stands, is) refl

pub cancelled_next_chunk_leads_out : (desc : LoopDesc) → desc.ordered ≡ true → LeadsTo Continuing (Begin (Loop desc)) Cancelled (λ script place. out_of script (region_exit place.frames))
cancelled_next_chunk_leads_out desc kind script place stands is = rw (stands, is, kind) refl

pub cancelled_loop_end_leads_out : (desc : LoopDesc) (groups : ℕ) → desc.end_kind ≡ WaitEnd → LeadsTo (Ending groups) (Begin (Loop desc)) Cancelled (λ script place. out_of script (region_exit place.frames))
cancelled_loop_end_leads_out desc groups kind script place stands is = rw (stands, is, kind) refl

pub cancelled_end_of_cancellable_loop_leads_out : (desc : LoopDesc) (groups : ℕ) → desc.end_kind ≡ Cancellable → LeadsTo (Ending groups) (Begin (Loop desc)) Cancelled (λ script place. out_of script (region_exit place.frames))
cancelled_end_of_cancellable_loop_leads_out desc groups kind script place stands is = rw (stands, is, kind) refl

pub cancelled_sections_end_leads_out : (groups : ℕ) → LeadsTo (Ending groups) (Begin (Sections WaitEnd)) Cancelled (λ script place. out_of script (region_exit place.frames))
cancelled_sections_end_leads_out groups script place stands is = rw (stands, is) refl

pub cancelled_end_of_cancellable_sections_leads_out : (groups : ℕ) → LeadsTo (Ending groups) (Begin (Sections Cancellable)) Cancelled (λ script place. out_of script (region_exit place.frames))
cancelled_end_of_cancellable_sections_leads_out groups script place stands is = rw (stands, is) refl

pub cancelled_single_end_leads_out : (groups : ℕ) → LeadsTo (Ending groups) (Begin Single) Cancelled (λ script place. out_of script (region_exit place.frames))
cancelled_single_end_leads_out groups script place stands is = rw (stands, is) refl

pub cancelled_copy_end_leads_out : (number : ℤ) (groups : ℕ) → LeadsTo (Ending groups) (Begin (Copy number)) Cancelled (λ script place. out_of script (region_exit place.frames))
cancelled_copy_end_leads_out number groups script place stands is = rw (stands, is) refl

-- one that waits for tasks or for a name, or does not wait, is not
pub cancelled_task_stops : (clauses : TaskClauses) → LeadsTo Starting (Begin (Task clauses)) Cancelled (λ script place. Stops)
cancelled_task_stops clauses script place stands is = rw (stands, is) refl

pub cancelled_critical_stops : (name : CriticalName) → LeadsTo Starting (Begin (Critical name)) Cancelled (λ script place. Stops)
cancelled_critical_stops name script place stands is = rw (stands, is) refl

pub cancelled_group_end_stops : (groups : ℕ) → LeadsTo (Ending groups) (Begin Group) Cancelled (λ script place. Stops)
cancelled_group_end_stops groups script place stands is = rw (stands, is) refl

pub cancelled_left_group_stops : (script : Script) (place : Place) (groups : ℕ) → place.stage ≡ EndingGroup groups → lead_of script place Cancelled ≡ Stops
cancelled_left_group_stops script place groups stands = rw stands refl

pub cancelled_region_end_stops : (script : Script) (place : Place) → place.stage ≡ EndingRegion → lead_of script place Cancelled ≡ Stops
cancelled_region_end_stops script place stands = rw stands refl

pub cancelled_unordered_next_chunk_stops : (desc : LoopDesc) → desc.ordered ≡ false → LeadsTo Continuing (Begin (Loop desc)) Cancelled (λ script place. Stops)
cancelled_unordered_next_chunk_stops desc kind script place stands is = rw (stands, is, kind) refl

pub cancelled_next_section_stops : (end_kind : EndKind) → LeadsTo Continuing (Begin (Sections end_kind)) Cancelled (λ script place. Stops)
cancelled_next_section_stops end_kind script place stands is = rw (stands, is) refl

-- a task that is handed to a wait for tasks or for all leads into the body on the line of its number; a wait for a name is handed none
pub barrier_is_handed_task : (task code arg : ℕ) → LeadsTo Starting Barrier (Run task code arg false) (λ script place. into_found (line_numbered script code) arg place)
barrier_is_handed_task task code arg script place stands is = rw (stands, is) refl

pub taskwait_is_handed_task : (task code arg : ℕ) → LeadsTo Starting Taskwait (Run task code arg false) (λ script place. into_found (line_numbered script code) arg place)
taskwait_is_handed_task task code arg script place stands is = rw (stands, is) refl

pub region_end_is_handed_task : (script : Script) (place : Place) (task code arg : ℕ) → place.stage ≡ EndingRegion → lead_of script place (Run task code arg false) ≡ into_found (line_numbered script code) arg place
region_end_is_handed_task script place task code arg stands = rw stands refl

pub critical_is_handed_no_task : (name : CriticalName) (task code arg : ℕ) → LeadsTo Starting (Begin (Critical name)) (Run task code arg false) (λ script place. Stops)
critical_is_handed_no_task name task code arg script place stands is = rw (stands, is) refl

-- so does one that is handed to any other wait for tasks or for all
pub creation_is_handed_task : (clauses : TaskClauses) (task code arg : ℕ) → LeadsTo Starting (Begin (Task clauses)) (Run task code arg false) (λ script place. into_found (line_numbered script code) arg place)
creation_is_handed_task clauses task code arg script place stands is = rw (stands, is) refl

pub loop_end_is_handed_task : (desc : LoopDesc) (groups task code arg : ℕ) → desc.end_kind ≡ WaitEnd → LeadsTo (Ending groups) (Begin (Loop desc)) (Run task code arg false) (λ script place. into_found (line_numbered script code) arg place)
loop_end_is_handed_task desc groups task code arg kind script place stands is = rw (stands, is, kind) refl

pub end_of_cancellable_loop_is_handed_task : (desc : LoopDesc) (groups task code arg : ℕ) → desc.end_kind ≡ Cancellable → LeadsTo (Ending groups) (Begin (Loop desc)) (Run task code arg false) (λ script place. into_found (line_numbered script code) arg place)
end_of_cancellable_loop_is_handed_task desc groups task code arg kind script place stands is = rw (stands, is, kind) refl

pub sections_end_is_handed_task : (groups task code arg : ℕ) → LeadsTo (Ending groups) (Begin (Sections WaitEnd)) (Run task code arg false) (λ script place. into_found (line_numbered script code) arg place)
sections_end_is_handed_task groups task code arg script place stands is = rw (stands, is) refl

pub end_of_cancellable_sections_is_handed_task : (groups task code arg : ℕ) → LeadsTo (Ending groups) (Begin (Sections Cancellable)) (Run task code arg false) (λ script place. into_found (line_numbered script code) arg place)
end_of_cancellable_sections_is_handed_task groups task code arg script place stands is = rw (stands, is) refl

pub single_end_is_handed_task : (groups task code arg : ℕ) → LeadsTo (Ending groups) (Begin Single) (Run task code arg false) (λ script place. into_found (line_numbered script code) arg place)
single_end_is_handed_task groups task code arg script place stands is = rw (stands, is) refl

pub copy_end_is_handed_task : (number : ℤ) (groups task code arg : ℕ) → LeadsTo (Ending groups) (Begin (Copy number)) (Run task code arg false) (λ script place. into_found (line_numbered script code) arg place)
copy_end_is_handed_task number groups task code arg script place stands is = rw (stands, is) refl

pub group_end_is_handed_task : (groups task code arg : ℕ) → LeadsTo (Ending groups) (Begin Group) (Run task code arg false) (λ script place. into_found (line_numbered script code) arg place)
group_end_is_handed_task groups task code arg script place stands is = rw (stands, is) refl

pub left_group_is_handed_task : (script : Script) (place : Place) (groups task code arg : ℕ) → place.stage ≡ EndingGroup groups → lead_of script place (Run task code arg false) ≡ into_found (line_numbered script code) arg place
left_group_is_handed_task script place groups task code arg stands = rw stands refl

-- a wait for room or for a turn is handed none
pub loop_start_is_handed_no_task : (desc : LoopDesc) (task code arg : ℕ) → LeadsTo Starting (Begin (Loop desc)) (Run task code arg false) (λ script place. Stops)
loop_start_is_handed_no_task desc task code arg script place stands is = rw (stands, is) refl

pub sections_start_is_handed_no_task : (end_kind : EndKind) (task code arg : ℕ) → LeadsTo Starting (Begin (Sections end_kind)) (Run task code arg false) (λ script place. Stops)
sections_start_is_handed_no_task end_kind task code arg script place stands is = rw (stands, is) refl

pub single_is_handed_no_task : (task code arg : ℕ) → LeadsTo Starting (Begin Single) (Run task code arg false) (λ script place. Stops)
single_is_handed_no_task task code arg script place stands is = rw (stands, is) refl

pub copy_is_handed_no_task : (number : ℤ) (task code arg : ℕ) → LeadsTo Starting (Begin (Copy number)) (Run task code arg false) (λ script place. Stops)
copy_is_handed_no_task number task code arg script place stands is = rw (stands, is) refl

pub ordered_part_is_handed_no_task : (task code arg : ℕ) → LeadsTo Starting (Begin Ordered) (Run task code arg false) (λ script place. Stops)
ordered_part_is_handed_no_task task code arg script place stands is = rw (stands, is) refl

pub next_chunk_is_handed_no_task : (desc : LoopDesc) (task code arg : ℕ) → desc.ordered ≡ true → LeadsTo Continuing (Begin (Loop desc)) (Run task code arg false) (λ script place. Stops)
next_chunk_is_handed_no_task desc task code arg kind script place stands is = rw (stands, is, kind) refl

-- the line of a number, from this index on
abbrev numbered_from : ℕ → ℕ → List ScriptLine → Option ℕ
numbered_from number index lines = position_from (λ (line : ScriptLine). line.number == number) index lines

-- a task's body stands at the first line of its own number, whatever that is
pub task_stands_at_its_line : (script : Script) (number : ℕ) → line_numbered script number ≡ numbered_from number 0 script.lines.items
task_stands_at_its_line script number = refl

pub line_of_its_number_is_found : (index : ℕ) (line : ScriptLine) (lines : List ScriptLine) → numbered_from line.number index (line ∷ lines) ≡ Some index
line_of_its_number_is_found index line lines = rw (same_number line.number) refl

pub line_of_another_number_is_passed : (number index : ℕ) (line : ScriptLine) (lines : List ScriptLine) → line.number ≢ number → numbered_from number index (line ∷ lines) ≡ numbered_from number (index + 1) lines
line_of_another_number_is_passed number index line lines other = rw (other_number line.number number other) refl

pub no_line_is_found_behind_all : (number index : ℕ) → numbered_from number index [] ≡ None
no_line_is_found_behind_all number index = refl

-- What is executed on the way

-- a member comes to a statement that makes a call, and goes no further
pub no_call_is_passed_over : (script : Script) (member : ℕ) (point : Point) (place : Place) (total : ℤ) → behind_point script member point ≡ None → ComesTo script member point place total → (place ≡ place_at script point) × (total ≡ point.total)
no_call_is_passed_over script member point place total none (arrives here is) = (refl, refl)
no_call_is_passed_over script member point place total none (executes here next there sum is later) = absurd (cc)

-- and stops at no other one
pub no_stop_on_the_way : (script : Script) (member : ℕ) (point next : Point) (place : Place) (total : ℤ) → behind_point script member point ≡ Some next → ComesTo script member point place total → ComesTo script member next place total
no_stop_on_the_way script member point next place total is (arrives here none) = absurd (cc)
no_stop_on_the_way script member point next place total is (executes here other there sum same later) = let one : other ≡ next = cc in subst (λ (from : Point). ComesTo script member from place total) one later

-- two ways from a point end at one place, with one total
pub one_place_is_come_to : (script : Script) (member : ℕ) (point : Point) (first second : Place) (one other : ℤ) → ComesTo script member point first one → ComesTo script member point second other → (first ≡ second) × (one ≡ other)
one_place_is_come_to script member point first second one other (arrives here none) comes = let same = no_call_is_passed_over script member here second other none comes in (sym (same.0), sym (same.1))
one_place_is_come_to script member point first second one other (executes here next there sum is later) comes = one_place_is_come_to script member next there second sum other later (no_stop_on_the_way script member here next second other is comes)

-- the statement at a point
abbrev StandsBefore : Script → Point → Statement → Type 0
StandsBefore script point statement = statement_at script point.line ≡ Some statement

-- an `add` adds its number, or the value of the iteration, once
pub add_is_executed : (script : Script) (member : ℕ) (point : Point) (number : ℤ) → StandsBefore script point (Add (Number number)) → behind_point script member point ≡ Some (record point { line = next_line point.line; total = plus_number point.total number })
add_is_executed script member point number is = rw is refl

pub iteration_is_added : (script : Script) (member : ℕ) (point : Point) → StandsBefore script point (Add OfIteration) → behind_point script member point ≡ Some (record point { line = next_line point.line; total = plus_number point.total point.iteration.value })
iteration_is_added script member point is = rw is refl

-- the member of that number alone executes the block of an `only`
pub named_member_goes_in : (script : Script) (member number : ℕ) (point : Point) → StandsBefore script point (Begin (Only number)) → (number == member) ≡ true → behind_point script member point ≡ Some (record point { line = next_line point.line })
named_member_goes_in script member number point is same = rw (is, same) refl

pub other_member_goes_behind : (script : Script) (member number : ℕ) (point : Point) → StandsBefore script point (Begin (Only number)) → (number == member) ≡ false → behind_point script member point ≡ Some (record point { line = line_behind script point.line })
other_member_goes_behind script member number point is other = rw (is, other) refl

pub end_of_only_leads_on : (script : Script) (member : ℕ) (point : Point) → StandsBefore script point (End EndOnly) → behind_point script member point ≡ Some (record point { line = next_line point.line })
end_of_only_leads_on script member point is = rw is refl

-- a section is begun by a reply alone
pub section_is_passed_over : (script : Script) (member : ℕ) (point : Point) → StandsBefore script point (Begin Section) → behind_point script member point ≡ Some (record point { line = line_behind script point.line })
section_is_passed_over script member point is = rw is refl

-- behind an iteration comes the next one of the chunk, which is neither that one again nor a later one, and one fewer is left
pub next_iteration_follows : (script : Script) (member later : ℕ) (point : Point) (frame : Frame) (desc : LoopDesc) → StandsBefore script point (End EndFor) → innermost point.frames ≡ Some frame → frame.block ≡ OfLoop → statement_at script frame.line ≡ Some (Begin (Loop desc)) → point.iteration.left ≡ suc later →
    behind_point script member point ≡ Some (record { line = next_line frame.line; iteration = record { value = int_wrapping_add w64 point.iteration.value desc.incr; left = later }; frames = point.frames; total = point.total })
next_iteration_follows script member later point frame desc is inside block loop more = rw (is, inside, block, loop, more) refl

-- behind the last one the next piece of the loop is asked for, outside of that
pub last_iteration_asks_for_next : (script : Script) (member : ℕ) (point : Point) (frame : Frame) (desc : LoopDesc) → StandsBefore script point (End EndFor) → innermost point.frames ≡ Some frame → frame.block ≡ OfLoop → statement_at script frame.line ≡ Some (Begin (Loop desc)) → point.iteration.left ≡ 0 →
    (behind_point script member point ≡ None) × (place_at script point ≡ record { line = frame.line; stage = Continuing; iteration = frame.around; frames = outer_blocks point.frames })
last_iteration_asks_for_next script member point frame desc is inside block loop last = (rw (is, inside, block, loop, last) refl, rw (is, inside, block) refl)

-- behind a section the next one is asked for, outside of that
pub section_end_asks_for_next : (script : Script) (member : ℕ) (point : Point) (frame : Frame) → StandsBefore script point (End EndSection) → innermost point.frames ≡ Some frame → frame.block ≡ OfSections →
    (behind_point script member point ≡ None) × (place_at script point ≡ record { line = frame.line; stage = Continuing; iteration = frame.around; frames = outer_blocks point.frames })
section_end_asks_for_next script member point frame is inside block = (rw is refl, rw (is, inside, block) refl)

-- behind a task's body its end is called, still inside of it
pub task_body_ends_inside : (script : Script) (member started : ℕ) (stage : Stage) (point : Point) (frame : Frame) → StandsBefore script point (End EndTask) → innermost point.frames ≡ Some frame → frame.block ≡ OfTask started stage →
    (behind_point script member point ≡ None) × (place_at script point ≡ record { line = frame.line; stage = Ending 0; iteration = point.iteration; frames = point.frames })
task_body_ends_inside script member started stage point frame is inside block = (rw is refl, rw (is, inside, block) refl)

-- behind a block that is executed once its construct is ended, or the number of a copy put
pub block_end_ends_construct : (script : Script) (point : Point) (frame : Frame) (word : EndWord) → StandsBefore script point (End word) → innermost point.frames ≡ Some frame → frame.block ≡ Once → statement_at script frame.line ≡ Some (Begin Single) →
    place_at script point ≡ record { line = frame.line; stage = Ending 0; iteration = frame.around; frames = outer_blocks point.frames }
block_end_ends_construct script point frame word is inside block single = rw (is, inside, block, single) refl

pub ordered_block_end_ends_part : (script : Script) (point : Point) (frame : Frame) (word : EndWord) → StandsBefore script point (End word) → innermost point.frames ≡ Some frame → frame.block ≡ Once → statement_at script frame.line ≡ Some (Begin Ordered) →
    place_at script point ≡ record { line = frame.line; stage = Ending 0; iteration = frame.around; frames = outer_blocks point.frames }
ordered_block_end_ends_part script point frame word is inside block single = rw (is, inside, block, single) refl

pub critical_block_end_ends_region : (name : CriticalName) (script : Script) (point : Point) (frame : Frame) (word : EndWord) → StandsBefore script point (End word) → innermost point.frames ≡ Some frame → frame.block ≡ Once → statement_at script frame.line ≡ Some (Begin (Critical name)) →
    place_at script point ≡ record { line = frame.line; stage = Ending 0; iteration = frame.around; frames = outer_blocks point.frames }
critical_block_end_ends_region name script point frame word is inside block single = rw (is, inside, block, single) refl

pub group_block_end_ends_group : (script : Script) (point : Point) (frame : Frame) (word : EndWord) → StandsBefore script point (End word) → innermost point.frames ≡ Some frame → frame.block ≡ Once → statement_at script frame.line ≡ Some (Begin Group) →
    place_at script point ≡ record { line = frame.line; stage = Ending 0; iteration = frame.around; frames = outer_blocks point.frames }
group_block_end_ends_group script point frame word is inside block single = rw (is, inside, block, single) refl

pub copy_block_end_puts : (script : Script) (number : ℤ) (point : Point) (frame : Frame) (word : EndWord) → StandsBefore script point (End word) → innermost point.frames ≡ Some frame → frame.block ≡ Once → statement_at script frame.line ≡ Some (Begin (Copy number)) →
    place_at script point ≡ record { line = frame.line; stage = Putting; iteration = frame.around; frames = outer_blocks point.frames }
copy_block_end_puts script number point frame word is inside block copy = rw (is, inside, block, copy) refl

-- the end of a block that the member is not in ends its region, and so does the end of the script
pub outer_end_ends_region : (script : Script) (point : Point) (word : EndWord) → StandsBefore script point (End word) → innermost point.frames ≡ None → place_at script point ≡ standing_at point EndingRegion
outer_end_ends_region script point word is none = rw (is, none) refl

pub script_end_ends_region : (script : Script) (member : ℕ) (point : Point) → statement_at script point.line ≡ None → (behind_point script member point ≡ None) × (place_at script point ≡ standing_at point EndingRegion)
script_end_ends_region script member point none = (rw none refl, rw none refl)

-- a barrier makes its call
pub barrier_is_come_to : (script : Script) (member : ℕ) (point : Point) (place : Place) (total : ℤ) → StandsBefore script point Barrier → ComesTo script member point place total → (place ≡ standing_at point Starting) × (total ≡ point.total)
barrier_is_come_to script member point place total is comes =
    let none : behind_point script member point ≡ None = rw is refl in
    let there : place_at script point ≡ standing_at point Starting = rw is refl in
    let come = no_call_is_passed_over script member point place total none comes in
    (come.0 ∙ there, come.1)

-- Ways out

-- a critical region is among these blocks
pub named_block_among : (script : Script) (outer inner : List Frame) (critical : Frame) → is_critical (statement_at script critical.line) ≡ true → NoneCritical script (outer ++ critical ∷ inner) → ⊥
named_block_among script [] inner critical is none = let no = none.0 in absurd (cc)
named_block_among script (frame ∷ outer) inner critical is none = named_block_among script outer inner critical is (none.1)

-- a name is released before anything further out is left
pub no_name_is_kept : (script : Script) (exit : Exit) (old new : Place) → (leaves : LeavesBlocks script exit old new) → (critical : Frame) (inner outer : List Frame) → leaves.inner ≡ outer ++ critical ∷ inner → is_critical (statement_at script critical.line) ≡ true → ⊥
no_name_is_kept script exit old new leaves critical inner outer parted is = named_block_among script outer inner critical is (subst (NoneCritical script) parted leaves.unnamed)

-- the innermost name is released first
pub inner_name_comes_first : (script : Script) (exit : Exit) (old new : Place) → (releases : ReleasesName script exit old new) → (critical : Frame) (outer inner : List Frame) → releases.inner ≡ outer ++ critical ∷ inner → is_critical (statement_at script critical.line) ≡ true → ⊥
inner_name_comes_first script exit old new releases critical outer inner parted is = named_block_among script outer inner critical is (subst (NoneCritical script) parted releases.innermost)

-- by the call of its own construct, in the iteration and the blocks around that, and on the same way out
pub name_is_released_outside : (script : Script) (exit : Exit) (old new : Place) → (releases : ReleasesName script exit old new) → (is_critical (statement_at script releases.critical.line) ≡ true) × (new.line ≡ releases.critical.line) × (new.stage ≡ Releasing exit) × (new.iteration ≡ releases.critical.around) × (old.frames ≡ new.frames ++ releases.critical ∷ releases.inner)
name_is_released_outside script exit old new releases = (releases.named, releases.line, releases.stage, releases.iteration, releases.blocks)

-- the blocks that stay are those around the ones that are left
pub left_blocks_are_the_inner_ones : (script : Script) (exit : Exit) (old new : Place) → (leaves : LeavesBlocks script exit old new) → old.frames ≡ new.frames ++ leaves.inner
left_blocks_are_the_inner_ones script exit old new leaves = leaves.blocks

-- behind the last block that is left the share or the task is ended, with the groups that were opened in it, in the iteration around the outermost
pub left_construct_is_ended : (script : Script) (line keep groups : ℕ) (old new : Place) → LeavesBlocks script (FromConstruct line keep groups) old new → (new.line ≡ line) × (new.stage ≡ Ending groups)
left_construct_is_ended script line keep groups old new leaves = leaves.place

pub outermost_iteration_comes_back : (script : Script) (exit : Exit) (old new : Place) (frame : Frame) (inner : List Frame) → (leaves : LeavesBlocks script exit old new) → leaves.inner ≡ frame ∷ inner → new.iteration ≡ frame.around
outermost_iteration_comes_back script exit old new frame inner leaves parted = leaves.iteration ∙ ap (iteration_around old.iteration) parted

-- a cancelled loop is left from blocks in its iteration that are executed once, with the groups among them
pub cancelled_loop_is_left : (script : Script) (outer inner : List Frame) (frame : Frame) → frame.block ≡ OfLoop → list_all once inner ≡ true → exit_of script (outer ++ frame ∷ inner) CancelLoop ≡ Some (FromConstruct frame.line (0 + length outer) (groups_in script (frame ∷ inner)))
cancelled_loop_is_left script outer inner frame is all = exit_further_in script OfLoop 0 outer frame inner (rw is refl) ∙ rw (is, all) refl

pub cancelled_sections_are_left : (script : Script) (outer inner : List Frame) (frame : Frame) → frame.block ≡ OfSections → list_all once inner ≡ true → exit_of script (outer ++ frame ∷ inner) CancelSections ≡ Some (FromConstruct frame.line (0 + length outer) (groups_in script (frame ∷ inner)))
cancelled_sections_are_left script outer inner frame is all = exit_further_in script OfSections 0 outer frame inner (rw is refl) ∙ rw (is, all) refl

-- not from a task in it, nor from outside of it
pub loop_is_not_left_from_task : (script : Script) (outer inner : List Frame) (frame : Frame) (line : ℕ) (stage : Stage) → frame.block ≡ OfTask line stage → list_all once inner ≡ true → exit_of script (outer ++ frame ∷ inner) CancelLoop ≡ None
loop_is_not_left_from_task script outer inner frame line stage is all = exit_further_in script OfLoop 0 outer frame inner (rw is refl) ∙ rw is (no_exit_from_once script OfLoop (0 + length outer + 1) inner all)

pub no_loop_is_left_from_outside : (script : Script) (frames : List Frame) → list_all once frames ≡ true → exit_of script frames CancelLoop ≡ None
no_loop_is_left_from_outside script frames all = no_exit_from_once script OfLoop 0 frames all

-- a cancelled group leaves the innermost task, whose frame stays
pub cancelled_group_leaves_task : (script : Script) (outer inner : List Frame) (frame : Frame) (line : ℕ) (stage : Stage) → frame.block ≡ OfTask line stage → list_any body inner ≡ false → exit_of script (outer ++ frame ∷ inner) Taskgroup ≡ Some (FromConstruct frame.line (0 + length outer + 1) 0)
cancelled_group_leaves_task script outer inner frame line stage is none = body_further_in 0 outer frame inner (rw is refl) ∙ rw (is, none) refl

pub no_task_is_left_from_outside : (script : Script) (frames : List Frame) → list_any body frames ≡ false → exit_of script frames Taskgroup ≡ None
no_task_is_left_from_outside script frames none = no_task_is_left 0 frames none

-- the groups that are open are counted, each once
pub open_group_is_counted : (script : Script) (frame : Frame) (inner : List Frame) → statement_at script frame.line ≡ Some (Begin Group) → groups_in script (frame ∷ inner) ≡ 1 + groups_in script inner
open_group_is_counted script frame inner is = sum_by-cons (λ (other : Frame). if is_group (statement_at script other.line) then 1 else 0) frame inner ∙ rw is refl

pub other_block_is_not_counted : (script : Script) (frame : Frame) (inner : List Frame) → is_group (statement_at script frame.line) ≡ false → groups_in script (frame ∷ inner) ≡ 0 + groups_in script inner
other_block_is_not_counted script frame inner is = sum_by-cons (λ (other : Frame). if is_group (statement_at script other.line) then 1 else 0) frame inner ∙ rw is refl

-- nothing but a group is one, and nothing but a critical region has a name
pub nothing_else_is_a_group : (statement : Option Statement) → statement ≢ Some (Begin Group) → is_group statement ≡ false
nothing_else_is_a_group (Some (Begin Group)) other = absurd (other refl)
nothing_else_is_a_group _ other = refl

pub nothing_else_has_a_name : (statement : Option Statement) → ((name : CriticalName) → statement ≢ Some (Begin (Critical name))) → is_critical statement ≡ false
nothing_else_has_a_name (Some (Begin (Critical name))) other = absurd (other name refl)
nothing_else_has_a_name _ other = refl

pub critical_region_has_a_name : (name : CriticalName) → is_critical (Some (Begin (Critical name))) ≡ true
critical_region_has_a_name name = refl

-- no more blocks are left than the exit says, and no fewer, if no name is released
pub blocks_that_stay : (script : Script) (exit : Exit) (old new : Place) → LeavesBlocks script exit old new → kept_in_block exit ≤ length old.frames → length new.frames ≡ kept_in_block exit
blocks_that_stay script exit old new leaves within = let stay = leaves.stay in omega (arith, stay, within)

pub released_block_was_left : (script : Script) (exit : Exit) (old new : Place) → ReleasesName script exit old new → kept_in_block exit ≤ length new.frames
released_block_was_left script exit old new releases = releases.left

-- a member inside of no block goes to the region's end
pub region_is_left : (script : Script) (old new : Place) → old.frames ≡ [] → LeavesBlock script FromRegion old new → (new.line ≡ old.line) × (new.stage ≡ EndingRegion) × (new.iteration ≡ old.iteration) × (new.frames ≡ [])
region_is_left script old new none (inl releases) = absurd (let parts = sym (releases.blocks) ∙ none in no_block_in new.frames parts)
  where
    no_block_in : (outer : List Frame) → outer ++ releases.critical ∷ releases.inner ≡ [] → ⊥
    no_block_in [] is = absurd (cc)
    no_block_in (frame ∷ outer) is = absurd (cc)
region_is_left script old new none (inr leaves) = outside new.frames leaves.inner (sym (leaves.blocks) ∙ none) refl leaves.iteration
  where
    outside : (outer inner : List Frame) → outer ++ inner ≡ [] → new.frames ≡ outer → new.iteration ≡ iteration_around old.iteration inner → (new.line ≡ old.line) × (new.stage ≡ EndingRegion) × (new.iteration ≡ old.iteration) × (new.frames ≡ [])
    outside [] [] is same around = (leaves.place.0, leaves.place.1, around, same)
    outside [] (frame ∷ inner) is same around = absurd (cc)
    outside (frame ∷ outer) inner is same around = absurd (cc)

-- inside a task the region cannot be left
pub no_way_out_of_task : (frame : Frame) (frames : List Frame) (line : ℕ) (stage : Stage) → frame.block ≡ OfTask line stage → region_exit (frame ∷ frames) ≡ None
no_way_out_of_task frame frames line stage is = rw is refl

pub no_way_out_of_a_task_further_in : (frames : List Frame) → list_any body frames ≡ true → region_exit frames ≡ None
no_way_out_of_a_task_further_in frames some = rw some refl

pub way_out_of_other_blocks : (frames : List Frame) → list_any body frames ≡ false → region_exit frames ≡ Some FromRegion
way_out_of_other_blocks frames none = rw none refl

pub way_out_of_region : region_exit [] ≡ Some FromRegion
way_out_of_region = refl

-- Behind a reply

-- whoever makes this call of this statement, and whatever it has done before: behind this reply this holds of where it then stands
abbrev Behind : Type 0 → Stage → Statement → Reply → (ProgramView → ProgramView → ScriptAct → Type 0) → Type 0
Behind E stage statement reply claim = (old new : ProgramView) (result : Result ScriptAct E) (act : ScriptAct) → old.owes ≡ false → old.stage ≡ stage → statement_at old.script old.line ≡ Some statement → StandsBehind reply old result new → result ≡ Ok act → claim old new act

-- the member stands here
abbrev Stands : ProgramView → ℕ → Stage → Iteration → List Frame → ℤ → Type 0
Stands new line stage iteration frames total = (new.line ≡ line) × (new.stage ≡ stage) × (new.iteration ≡ iteration) × (new.frames ≡ frames) × (new.total ≡ total)

come_behind : {E : Type 0} (reply : Reply) (old new : ProgramView) (result : Result ScriptAct E) (act : ScriptAct) (lead : Lead) → old.owes ≡ false → StandsBehind reply old result new → result ≡ Ok act → lead_behind reply old ≡ lead → HasCome lead reply old new
come_behind reply old new result act lead owes behind is leads = subst (λ (one : Lead). HasCome one reply old new) leads (IfOk-at_ok (λ done. HasCome (lead_behind reply old) reply old new) is (behind.place owes))

act_so : {E : Type 0} (reply : Reply) (old new : ProgramView) (result : Result ScriptAct E) (act : ScriptAct) (lead : Lead) → old.owes ≡ false → StandsBehind reply old result new → result ≡ Ok act → lead_behind reply old ≡ lead → act ≡ act_behind (call_behind_lead lead) new
act_so reply old new result act lead owes behind is leads = IfOk-at_ok (λ done. done ≡ act_behind (call_behind_lead (lead_behind reply old)) new) is (behind.act owes) ∙ ap (λ (one : Lead). act_behind (call_behind_lead one) new) leads

-- a reply that leads to a barrier: the member stands at that, and has added nothing
to_barrier : {E : Type 0} (reply : Reply) (old new : ProgramView) (result : Result ScriptAct E) (act : ScriptAct) (line : ℕ) (iteration : Iteration) (frames : List Frame) → old.owes ≡ false → StandsBehind reply old result new → result ≡ Ok act → lead_behind reply old ≡ Executes line iteration frames → statement_at old.script line ≡ Some Barrier → Stands new line Starting iteration frames old.total
to_barrier reply old new result act line iteration frames owes behind is leads barrier =
    let come = come_behind reply old new result act (Executes line iteration frames) owes behind is leads in
    let there = barrier_is_come_to old.script old.member (record { line = line; iteration = iteration; frames = frames; total = old.total }) (place_of new) new.total barrier come in
    (ap (λ (place : Place). place.line) (there.0), ap (λ (place : Place). place.stage) (there.0), ap (λ (place : Place). place.iteration) (there.0), ap (λ (place : Place). place.frames) (there.0), there.1)

-- behind a barrier that is passed stands the next line: it is not stood at again, and no line is skipped
pub passed_barrier_is_left : {E : Type 0} → Behind E Starting Barrier Passed (λ old new act. statement_at old.script (next_line old.line) ≡ Some Barrier → Stands new (next_line old.line) Starting old.iteration old.frames old.total)
passed_barrier_is_left old new result act owes stands line behind is barrier = to_barrier Passed old new result act (next_line old.line) old.iteration old.frames owes behind is (rw (stands, line) refl) barrier

-- the first iteration of a chunk is executed first, and all the others are left
pub chunk_is_begun : {E : Type 0} (desc : LoopDesc) (first : ℤ) (later : ℕ) → Behind E Continuing (Begin (Loop desc)) (Chunk first (suc later)) (λ old new act. statement_at old.script (next_line old.line) ≡ Some Barrier →
    Stands new (next_line old.line) Starting (record { value = first; left = later }) (old.frames ++ record { line = old.line; block = OfLoop; around = old.iteration } ∷ []) old.total)
chunk_is_begun desc first later old new result act owes stands line behind is barrier = to_barrier (Chunk first (suc later)) old new result act (next_line old.line) (record { value = first; left = later }) (old.frames ++ record { line = old.line; block = OfLoop; around = old.iteration } ∷ []) owes behind is (rw (stands, line) refl) barrier

-- a dropped task is not executed
pub dropped_task_is_passed_over : {E : Type 0} (clauses : TaskClauses) → Behind E Starting (Begin (Task clauses)) Dropped (λ old new act. statement_at old.script (line_behind old.script old.line) ≡ Some Barrier → Stands new (line_behind old.script old.line) Starting old.iteration old.frames old.total)
dropped_task_is_passed_over clauses old new result act owes stands line behind is barrier = to_barrier Dropped old new result act (line_behind old.script old.line) old.iteration old.frames owes behind is (rw (stands, line) refl) barrier

-- an undeferred task is executed at once, and keeps where it was started
pub own_task_is_executed : {E : Type 0} (clauses : TaskClauses) (task code arg : ℕ) → Behind E Starting (Begin (Task clauses)) (Run task code arg true) (λ old new act. statement_at old.script (next_line old.line) ≡ Some Barrier →
    Stands new (next_line old.line) Starting (record { value = cast_signed w64 arg; left = 0 }) (old.frames ++ record { line = old.line; block = OfTask old.line Starting; around = old.iteration } ∷ []) old.total)
own_task_is_executed clauses task code arg old new result act owes stands line behind is barrier = to_barrier (Run task code arg true) old new result act (next_line old.line) (record { value = cast_signed w64 arg; left = 0 }) (old.frames ++ record { line = old.line; block = OfTask old.line Starting; around = old.iteration } ∷ []) owes behind is (rw (stands, line) refl) barrier

-- a task that is handed to a barrier is executed there, wherever its line stands
pub handed_task_is_executed : {E : Type 0} (task code arg body : ℕ) → Behind E Starting Barrier (Run task code arg false) (λ old new act. line_numbered old.script code ≡ Some body → statement_at old.script (next_line body) ≡ Some Barrier →
    Stands new (next_line body) Starting (record { value = cast_signed w64 arg; left = 0 }) (old.frames ++ record { line = body; block = OfTask old.line Starting; around = old.iteration } ∷ []) old.total)
handed_task_is_executed task code arg body old new result act owes stands line behind is found barrier = to_barrier (Run task code arg false) old new result act (next_line body) (record { value = cast_signed w64 arg; left = 0 }) (old.frames ++ record { line = body; block = OfTask old.line Starting; around = old.iteration } ∷ []) owes behind is (rw (stands, line, found) refl) barrier

-- behind the end of a task the member waits on where it was started, in the iteration and the blocks there, and does not stop
pub ended_task_resumes_wait : {E : Type 0} (clauses : TaskClauses) (groups task started : ℕ) (stage : Stage) (frame : Frame) → Behind E (Ending groups) (Begin (Task clauses)) (TaskDone task true) (λ old new act. innermost old.frames ≡ Some frame → frame.block ≡ OfTask started stage →
    (act ≡ Do Resume) × Stands new started stage frame.around (outer_blocks old.frames) old.total)
ended_task_resumes_wait clauses groups task started stage frame old new result act owes stands line behind is inside block =
    let back = Resumes (record { line = started; stage = stage; iteration = frame.around; frames = outer_blocks old.frames }) in
    let leads : lead_behind (TaskDone task true) old ≡ Resumes (record { line = started; stage = stage; iteration = frame.around; frames = outer_blocks old.frames }) = rw (stands, line, inside, block) refl in
    let come = come_behind (TaskDone task true) old new result act _ owes behind is leads in
    let done = act_so (TaskDone task true) old new result act _ owes behind is leads in
    (done, (ap (λ (place : Place). place.line) (come.0), ap (λ (place : Place). place.stage) (come.0), ap (λ (place : Place). place.iteration) (come.0), ap (λ (place : Place). place.frames) (come.0), come.1))

-- behind the last piece of a loop its end is called
pub last_piece_ends_loop : {E : Type 0} (desc : LoopDesc) → Behind E Continuing (Begin (Loop desc)) NoChunk (λ old new act. (act ≡ act_of new) × (new.line ≡ old.line) × (new.stage ≡ Ending 0) × (new.iteration ≡ old.iteration) × (new.frames ≡ old.frames) × (new.total ≡ old.total))
last_piece_ends_loop desc old new result act owes stands line behind is =
    let leads : lead_behind NoChunk old ≡ Calls (record { line = old.line; stage = Ending 0; iteration = old.iteration; frames = old.frames }) = rw (stands, line) refl in
    let come = come_behind NoChunk old new result act _ owes behind is leads in
    let nothing : total_with old.total (addition_at old.stage (statement_at old.script old.line) NoChunk) ≡ old.total = rw stands refl in
    (act_so NoChunk old new result act _ owes behind is leads, ap (λ (place : Place). place.line) (come.0), ap (λ (place : Place). place.stage) (come.0), ap (λ (place : Place). place.iteration) (come.0), ap (λ (place : Place). place.frames) (come.0), come.1 ∙ nothing)

-- a cancelled region is left by a member at a barrier in no block: it goes to the region's end, and does not stop
pub cancelled_member_ends_region : {E : Type 0} → Behind E Starting Barrier Cancelled (λ old new act. old.frames ≡ [] → (act ≡ act_of new) × (new.stage ≡ EndingRegion) × (new.frames ≡ []))
cancelled_member_ends_region old new result act owes stands line behind is none =
    let leads : lead_behind Cancelled old ≡ Leaving old.script FromRegion = rw (stands, line, none) refl in
    let come = come_behind Cancelled old new result act _ owes behind is leads in
    let out = region_is_left old.script (place_of old) (place_of new) none (come.0) in
    (act_so Cancelled old new result act _ owes behind is leads, out.1, out.3)

-- a member that leaves what is cancelled leaves it by the way out, and adds nothing but what its reply adds
pub way_out_adds_nothing : (script : Script) (exit : Exit) (reply : Reply) (old new : ProgramView) → HasCome (Leaving script exit) reply old new →
    LeavesBlock script exit (place_of old) (place_of new) × (new.total ≡ total_with old.total (addition_at old.stage (statement_at old.script old.line) reply))
way_out_adds_nothing script exit reply old new come = (come.0, come.1)

-- nor does one that makes a call, resumes its wait, or stops
pub call_place_adds_nothing : (place : Place) (reply : Reply) (old new : ProgramView) → HasCome (Calls place) reply old new → (place_of new ≡ place) × (new.total ≡ total_with old.total (addition_at old.stage (statement_at old.script old.line) reply))
call_place_adds_nothing place reply old new come = (come.0, come.1)

pub resumed_wait_adds_nothing : (place : Place) (reply : Reply) (old new : ProgramView) → HasCome (Resumes place) reply old new → (place_of new ≡ place) × (new.total ≡ old.total)
resumed_wait_adds_nothing place reply old new come = (come.0, come.1)

-- executed statements lead to where the next call is made, whatever that is
pub executed_statements_lead_to_the_next_call : (line : ℕ) (iteration : Iteration) (frames : List Frame) (reply : Reply) (old new : ProgramView) → HasCome (Executes line iteration frames) reply old new →
    ComesTo old.script old.member (record { line = line; iteration = iteration; frames = frames; total = old.total }) (place_of new) new.total
executed_statements_lead_to_the_next_call line iteration frames reply old new come = come

-- the ways out are two
pub ways_out_are_two : (script : Script) (exit : Exit) (old new : Place) → LeavesBlock script exit old new → ReleasesName script exit old new ⊎ LeavesBlocks script exit old new
ways_out_are_two script exit old new leaves = leaves

-- and each reply leads to its place, and to the act of that
pub every_reply_leads_to_its_place : {E : Type 0} (reply : Reply) (old new : ProgramView) (result : Result ScriptAct E) (act : ScriptAct) → old.owes ≡ false → StandsBehind reply old result new → result ≡ Ok act →
    HasCome (lead_behind reply old) reply old new × (act ≡ act_behind (call_behind_lead (lead_behind reply old)) new)
every_reply_leads_to_its_place reply old new result act owes behind is =
    (come_behind reply old new result act (lead_behind reply old) owes behind is refl, act_so reply old new result act (lead_behind reply old) owes behind is refl)

pub stop_adds_nothing : (reply : Reply) (old new : ProgramView) → HasCome Stops reply old new → (place_of new ≡ place_of old) × (new.total ≡ old.total)
stop_adds_nothing reply old new come = (come.0, come.1)

-- what cannot be a reply leaves the member where it stands, and stops it
pub no_reply_changes_nothing : {E : Type 0} (desc : LoopDesc) (first : ℤ) → Behind E Continuing (Begin (Loop desc)) (Chunk first 0) (λ old new act. (act ≡ Do Stop) × Stands new old.line old.stage old.iteration old.frames old.total)
no_reply_changes_nothing desc first old new result act owes stands line behind is =
    let leads : lead_behind (Chunk first 0) old ≡ Stops = rw (stands, line) refl in
    let come = come_behind (Chunk first 0) old new result act _ owes behind is leads in
    (act_so (Chunk first 0) old new result act _ owes behind is leads, (ap (λ (place : Place). place.line) (come.0), ap (λ (place : Place). place.stage) (come.0), ap (λ (place : Place). place.iteration) (come.0), ap (λ (place : Place). place.frames) (come.0), come.1))

-- if memory is refused the member has not gone anywhere else
pub refused_memory_leads_nowhere_else : {E : Type 0} (reply : Reply) (old new : ProgramView) (error : E) → old.owes ≡ false → StandsBehind reply old (Err error) new → (HasCome (lead_behind reply old) reply old new → ⊥) → new ≡ old
refused_memory_leads_nowhere_else reply old new error owes behind other = elim (behind.memory owes) [ inl same ↦ same | inr come ↦ absurd (other come) ]

-- a call that is made is not owed
pub made_call_is_not_owed : {E : Type 0} (reply : Reply) (old new : ProgramView) (result : Result ScriptAct E) (act : ScriptAct) → StandsBehind reply old result new → result ≡ Ok act → new.owes ≡ true → ⊥
made_call_is_not_owed reply old new result act behind is owes = let not : new.owes ≡ false = IfOk-at_ok (λ done. new.owes ≡ false) is (behind.owes) in absurd (cc)
