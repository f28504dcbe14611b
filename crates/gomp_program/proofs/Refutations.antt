-- What the contract of `next` promises of every member, script and reply: a lemma for each line of its definitions, so that none says less unnoticed.
use Rattle.std.proofs.Common.{◌≡◌, ◌≢◌, ◌<◌, ℕ, ℤ, Bool, true, false, [], ◌∷◌, Option, Some, Result, Ok, Err, refl, ap, inl, inr, ◌∙◌}
use Rattle.std.specs.Prelude.{IfOk}
use Rattle.std.specs.Int.{cast_signed, w64}
use Rattle.std.proofs.lemmas.Bool.{lt-ltb}
use Rattle.std.proofs.lemmas.Result.{IfOk-at_ok}
use Rattle.gomp_types.specs.declared.call.Call.{Call}
use Rattle.gomp_types.specs.declared.call.Call.TheVariants.{Resume, Stop}
use Rattle.gomp_types.specs.declared.cancel.CancelKind.{CancelKind}
use Rattle.gomp_types.specs.declared.critical_name.CriticalName.{CriticalName}
use Rattle.gomp_types.specs.declared.loop_desc.EndKind.{EndKind}
use Rattle.gomp_types.specs.declared.loop_desc.EndKind.TheVariants.{Wait as WaitEnd, Nowait, Cancellable}
use Rattle.gomp_types.specs.declared.loop_desc.LoopDesc.{LoopDesc}
use Rattle.gomp_types.specs.declared.refusal.Refusal.{Refusal}
use Rattle.gomp_types.specs.declared.reply.Reply.{Reply}
use Rattle.gomp_types.specs.declared.reply.Reply.TheVariants.{Chunk, NoChunk, Section as SectionReply, Executor, Copied, Finished, Passed, Wait, Created, Dropped, Cancelling, Run, Refused}
use Rattle.gomp_region.specs.declared.statement.BlockConstruct.TheVariants.{Loop, Sections, Single, Copy, Ordered, Critical, Task, Group, Parallel}
use Rattle.gomp_region.specs.declared.statement.Statement.{Statement}
use Rattle.gomp_region.specs.declared.statement.Statement.TheVariants.{Begin, Taskwait, Barrier, Cancel, Point}
use Rattle.gomp_region.specs.declared.statement.TaskClauses.{TaskClauses}
use Rattle.gomp_program.specs.declared.acts.ScriptAct.{ScriptAct}
use Rattle.gomp_program.specs.declared.acts.ScriptAct.TheVariants.{Do}
use Rattle.gomp_program.specs.declared.frame.Exit.{Exit}
use Rattle.gomp_program.specs.declared.frame.Stage.{Stage}
use Rattle.gomp_program.specs.declared.frame.Stage.TheVariants.{Unasked, Starting, Continuing, Putting, Ending, EndingGroup, Releasing, EndingRegion}
use Rattle.gomp_program.specs.declared.replies.Sequel.TheVariants.{SameCall, Stopping}
use Rattle.gomp_program.specs.Answers.{GoesOn, is_answer}
use Rattle.gomp_program.specs.Calls.{CreatesWithItems}
use Rattle.gomp_program.specs.Next.{ActsThere, AddsCopied, EndsCopy, GoesOnBehind, LacksMemory, MakesOwed, StopsRefused, WaitsAgain}
use Rattle.gomp_program.specs.Places.{statement_at}
use Rattle.gomp_program.specs.Programs.{IsAct, IsOtherCall, ProgramView, act_of, call_at_wait, call_behind}
use Rattle.gomp_program.specs.Totals.{plus_number}
use Rattle.gomp_program.specs.Waits.{wait_sequel, waiting_at}

-- Acts

-- no other act than that of its place, a resume or a stop
pub no_other_act : {E : Type 0} (result : Result ScriptAct E) (new : ProgramView) (act : ScriptAct) → ActsThere result new → result ≡ Ok act → act ≢ act_of new → act ≢ Do Resume → act ≢ Do Stop → ⊥
no_other_act result new act acts is place resume stop =
    elim (IfOk-at_ok (λ done. IsAct done new) is acts) [ inl here ↦ place here | inr (inl again) ↦ resume again | inr (inr ends) ↦ stop ends ]

-- nor is another call made wherever the member stands
pub no_other_call : (call : Call) → IsOtherCall (Some call) → call ≢ Resume → call ≢ Stop → ⊥
no_other_call call (inl again) resume stop = resume again
no_other_call call (inr ends) resume stop = stop ends

-- Replies behind which a member goes on

-- behind this reply to its call a member goes on, whoever it is and whatever it has done before
abbrev GoesOnAlways : Type 0 → Stage → Option Statement → Reply → Type 0
GoesOnAlways E stage statement reply =
    (old new : ProgramView) (result : Result ScriptAct E) → old.owes ≡ false → old.stage ≡ stage → statement_at old.script old.line ≡ statement → GoesOnBehind reply old result new → IfOk result (λ act. act ≡ act_of new)

goes_on_always : {E : Type 0} (stage : Stage) (statement : Option Statement) (reply : Reply) → is_answer stage statement reply ≡ true → GoesOnAlways E stage statement reply
goes_on_always stage statement reply is old new result owes stands line goes = goes owes (rw (stands, line) is)

-- a chunk answers the call that begins a loop, also one of a single iteration
pub goes_on_behind_first_chunk : {E : Type 0} (desc : LoopDesc) (first : ℤ) (count : ℕ) → 0 < count → GoesOnAlways E Starting (Some (Begin (Loop desc))) (Chunk first count)
goes_on_behind_first_chunk desc first count some = goes_on_always Starting (Some (Begin (Loop desc))) (Chunk first count) (lt-ltb 0 count some)

-- and that no iteration is left
pub goes_on_without_first_chunk : {E : Type 0} (desc : LoopDesc) → GoesOnAlways E Starting (Some (Begin (Loop desc))) NoChunk
goes_on_without_first_chunk desc = goes_on_always Starting (Some (Begin (Loop desc))) NoChunk refl

-- no section left answers the call that begins sections
pub goes_on_without_first_section : {E : Type 0} (end_kind : EndKind) → GoesOnAlways E Starting (Some (Begin (Sections end_kind))) (SectionReply 0)
goes_on_without_first_section end_kind = goes_on_always Starting (Some (Begin (Sections end_kind))) (SectionReply 0) refl

-- a chunk answers the call that asks for the next piece of a loop, also one of a single iteration
pub goes_on_behind_next_chunk : {E : Type 0} (desc : LoopDesc) (first : ℤ) (count : ℕ) → 0 < count → GoesOnAlways E Continuing (Some (Begin (Loop desc))) (Chunk first count)
goes_on_behind_next_chunk desc first count some = goes_on_always Continuing (Some (Begin (Loop desc))) (Chunk first count) (lt-ltb 0 count some)

-- and that no iteration is left
pub goes_on_without_next_chunk : {E : Type 0} (desc : LoopDesc) → GoesOnAlways E Continuing (Some (Begin (Loop desc))) NoChunk
goes_on_without_next_chunk desc = goes_on_always Continuing (Some (Begin (Loop desc))) NoChunk refl

-- no section left answers the call that asks for the next section
pub goes_on_without_next_section : {E : Type 0} (end_kind : EndKind) → GoesOnAlways E Continuing (Some (Begin (Sections end_kind))) (SectionReply 0)
goes_on_without_next_section end_kind = goes_on_always Continuing (Some (Begin (Sections end_kind))) (SectionReply 0) refl

-- whether it executes the single or not
pub goes_on_behind_executor : {E : Type 0} (executes : Bool) → GoesOnAlways E Starting (Some (Begin Single)) (Executor executes)
goes_on_behind_executor executes = goes_on_always Starting (Some (Begin Single)) (Executor executes) refl

-- the executor of a copy executes its block
pub goes_on_as_copy_executor : {E : Type 0} (number : ℤ) → GoesOnAlways E Starting (Some (Begin (Copy number))) (Executor true)
goes_on_as_copy_executor number = goes_on_always Starting (Some (Begin (Copy number))) (Executor true) refl

-- any other member is handed a word, and goes on
pub goes_on_behind_copied_word : {E : Type 0} (number : ℤ) (word : ℕ) → GoesOnAlways E Starting (Some (Begin (Copy number))) (Copied (word ∷ []))
goes_on_behind_copied_word number word = goes_on_always Starting (Some (Begin (Copy number))) (Copied (word ∷ [])) refl

-- the blocks that are begun by a call that finishes
pub goes_on_in_ordered_part : {E : Type 0} → GoesOnAlways E Starting (Some (Begin Ordered)) Finished
goes_on_in_ordered_part = goes_on_always Starting (Some (Begin Ordered)) Finished refl

pub goes_on_in_critical : {E : Type 0} (name : CriticalName) → GoesOnAlways E Starting (Some (Begin (Critical name))) Finished
goes_on_in_critical name = goes_on_always Starting (Some (Begin (Critical name))) Finished refl

pub goes_on_in_group : {E : Type 0} → GoesOnAlways E Starting (Some (Begin Group)) Finished
goes_on_in_group = goes_on_always Starting (Some (Begin Group)) Finished refl

-- a task that is created, that is dropped, and one that the member executes itself
pub goes_on_behind_created_task : {E : Type 0} (clauses : TaskClauses) (task : ℕ) → GoesOnAlways E Starting (Some (Begin (Task clauses))) (Created task)
goes_on_behind_created_task clauses task = goes_on_always Starting (Some (Begin (Task clauses))) (Created task) refl

pub goes_on_behind_dropped_task : {E : Type 0} (clauses : TaskClauses) → GoesOnAlways E Starting (Some (Begin (Task clauses))) Dropped
goes_on_behind_dropped_task clauses = goes_on_always Starting (Some (Begin (Task clauses))) Dropped refl

pub goes_on_in_own_task : {E : Type 0} (clauses : TaskClauses) (task code arg : ℕ) → GoesOnAlways E Starting (Some (Begin (Task clauses))) (Run task code arg true)
goes_on_in_own_task clauses task code arg = goes_on_always Starting (Some (Begin (Task clauses))) (Run task code arg true) refl

-- a nested region that has ended
pub goes_on_behind_nested_region : {E : Type 0} (members : ℕ) → GoesOnAlways E Starting (Some (Begin (Parallel members))) Finished
goes_on_behind_nested_region members = goes_on_always Starting (Some (Begin (Parallel members))) Finished refl

-- a taskwait and a barrier that are passed
pub goes_on_behind_taskwait : {E : Type 0} → GoesOnAlways E Starting (Some Taskwait) Passed
goes_on_behind_taskwait = goes_on_always Starting (Some Taskwait) Passed refl

pub goes_on_behind_barrier : {E : Type 0} → GoesOnAlways E Starting (Some Barrier) Passed
goes_on_behind_barrier = goes_on_always Starting (Some Barrier) Passed refl

-- what is named by a cancel or a cancellation point is not cancelled
pub goes_on_uncancelled : {E : Type 0} (kind : CancelKind) → GoesOnAlways E Starting (Some (Cancel kind)) (Cancelling false)
goes_on_uncancelled kind = goes_on_always Starting (Some (Cancel kind)) (Cancelling false) refl

pub goes_on_at_uncancelled_point : {E : Type 0} (kind : CancelKind) → GoesOnAlways E Starting (Some (Point kind)) (Cancelling false)
goes_on_at_uncancelled_point kind = goes_on_always Starting (Some (Point kind)) (Cancelling false) refl

-- the ends of loops and sections, by what stands there
pub goes_on_behind_nowait_loop : {E : Type 0} (desc : LoopDesc) (groups : ℕ) → desc.end_kind ≡ Nowait → GoesOnAlways E (Ending groups) (Some (Begin (Loop desc))) Finished
goes_on_behind_nowait_loop desc groups is = goes_on_always (Ending groups) (Some (Begin (Loop desc))) Finished (rw is refl)

pub goes_on_behind_loop_barrier : {E : Type 0} (desc : LoopDesc) (groups : ℕ) → desc.end_kind ≡ WaitEnd → GoesOnAlways E (Ending groups) (Some (Begin (Loop desc))) Passed
goes_on_behind_loop_barrier desc groups is = goes_on_always (Ending groups) (Some (Begin (Loop desc))) Passed (rw is refl)

pub goes_on_behind_cancellable_loop : {E : Type 0} (desc : LoopDesc) (groups : ℕ) → desc.end_kind ≡ Cancellable → GoesOnAlways E (Ending groups) (Some (Begin (Loop desc))) Passed
goes_on_behind_cancellable_loop desc groups is = goes_on_always (Ending groups) (Some (Begin (Loop desc))) Passed (rw is refl)

pub goes_on_behind_nowait_sections : {E : Type 0} (groups : ℕ) → GoesOnAlways E (Ending groups) (Some (Begin (Sections Nowait))) Finished
goes_on_behind_nowait_sections groups = goes_on_always (Ending groups) (Some (Begin (Sections Nowait))) Finished refl

pub goes_on_behind_sections_barrier : {E : Type 0} (groups : ℕ) → GoesOnAlways E (Ending groups) (Some (Begin (Sections WaitEnd))) Passed
goes_on_behind_sections_barrier groups = goes_on_always (Ending groups) (Some (Begin (Sections WaitEnd))) Passed refl

pub goes_on_behind_cancellable_sections : {E : Type 0} (groups : ℕ) → GoesOnAlways E (Ending groups) (Some (Begin (Sections Cancellable))) Passed
goes_on_behind_cancellable_sections groups = goes_on_always (Ending groups) (Some (Begin (Sections Cancellable))) Passed refl

-- the ends of the other constructs
pub goes_on_behind_single : {E : Type 0} (groups : ℕ) → GoesOnAlways E (Ending groups) (Some (Begin Single)) Passed
goes_on_behind_single groups = goes_on_always (Ending groups) (Some (Begin Single)) Passed refl

pub goes_on_behind_copy : {E : Type 0} (number : ℤ) (groups : ℕ) → GoesOnAlways E (Ending groups) (Some (Begin (Copy number))) Passed
goes_on_behind_copy number groups = goes_on_always (Ending groups) (Some (Begin (Copy number))) Passed refl

pub goes_on_behind_group : {E : Type 0} (groups : ℕ) → GoesOnAlways E (Ending groups) (Some (Begin Group)) Passed
goes_on_behind_group groups = goes_on_always (Ending groups) (Some (Begin Group)) Passed refl

pub goes_on_behind_ordered_part : {E : Type 0} (groups : ℕ) → GoesOnAlways E (Ending groups) (Some (Begin Ordered)) Finished
goes_on_behind_ordered_part groups = goes_on_always (Ending groups) (Some (Begin Ordered)) Finished refl

pub goes_on_behind_critical : {E : Type 0} (name : CriticalName) (groups : ℕ) → GoesOnAlways E (Ending groups) (Some (Begin (Critical name))) Finished
goes_on_behind_critical name groups = goes_on_always (Ending groups) (Some (Begin (Critical name))) Finished refl

-- wherever a member stands: its first reply, a word that is put, a group that is ended on the way out, a name that is released there
pub goes_on_at_first : {E : Type 0} (statement : Option Statement) → GoesOnAlways E Unasked statement Finished
goes_on_at_first statement = goes_on_always Unasked statement Finished refl

pub goes_on_behind_put_word : {E : Type 0} (statement : Option Statement) → GoesOnAlways E Putting statement Finished
goes_on_behind_put_word statement = goes_on_always Putting statement Finished refl

pub goes_on_behind_left_group : {E : Type 0} (groups : ℕ) (statement : Option Statement) → GoesOnAlways E (EndingGroup groups) statement Passed
goes_on_behind_left_group groups statement = goes_on_always (EndingGroup groups) statement Passed refl

pub goes_on_behind_released_name : {E : Type 0} (exit : Exit) (statement : Option Statement) → GoesOnAlways E (Releasing exit) statement Finished
goes_on_behind_released_name exit statement = goes_on_always (Releasing exit) statement Finished refl

-- to go on is neither to stop nor to make the same call once more
pub stop_is_not_going_on : GoesOn Stopping → ⊥
stop_is_not_going_on never = never

pub resume_is_not_going_on : GoesOn SameCall → ⊥
resume_is_not_going_on never = never

-- Refusals

-- a refused call is not made again, and changes nothing
pub refused_call_stops : {E : Type 0} (refusal : Refusal) (old new : ProgramView) (result : Result ScriptAct E) → old.owes ≡ false → StopsRefused (Refused refusal) old result new → (result ≡ Ok (Do Stop)) × (new ≡ old)
refused_call_stops refusal old new result owes stops = stops refusal owes refl

-- Waits

-- a reply to wait is answered by a resume, or by a stop, wherever this call is made, and nothing changes
abbrev AnswersWait : Type 0 → Stage → Option Statement → Call → Type 0
AnswersWait E stage statement call =
    (old new : ProgramView) (result : Result ScriptAct E) → old.owes ≡ false → old.stage ≡ stage → statement_at old.script old.line ≡ statement → WaitsAgain Wait old result new → (result ≡ Ok (Do call)) × (new ≡ old)

answers_wait : {E : Type 0} (stage : Stage) (statement : Option Statement) (call : Call) → call_behind (wait_sequel (waiting_at stage statement)) ≡ call → AnswersWait E stage statement call
answers_wait stage statement call is old new result owes stands line waits =
    let both = waits owes refl in
    let made : call_at_wait old ≡ call = rw (stands, line) is in
    (both.0 ∙ ap (λ (one : Call). Ok (Do one)) made, both.1)

-- a share waits for room, an ordered part for its turn, a critical region for its name, a task for others
pub waits_to_begin_loop : {E : Type 0} (desc : LoopDesc) → AnswersWait E Starting (Some (Begin (Loop desc))) Resume
waits_to_begin_loop desc = answers_wait Starting (Some (Begin (Loop desc))) Resume refl

pub waits_to_begin_sections : {E : Type 0} (end_kind : EndKind) → AnswersWait E Starting (Some (Begin (Sections end_kind))) Resume
waits_to_begin_sections end_kind = answers_wait Starting (Some (Begin (Sections end_kind))) Resume refl

pub waits_to_begin_single : {E : Type 0} → AnswersWait E Starting (Some (Begin Single)) Resume
waits_to_begin_single = answers_wait Starting (Some (Begin Single)) Resume refl

pub waits_to_begin_copy : {E : Type 0} (number : ℤ) → AnswersWait E Starting (Some (Begin (Copy number))) Resume
waits_to_begin_copy number = answers_wait Starting (Some (Begin (Copy number))) Resume refl

pub waits_to_begin_ordered_part : {E : Type 0} → AnswersWait E Starting (Some (Begin Ordered)) Resume
waits_to_begin_ordered_part = answers_wait Starting (Some (Begin Ordered)) Resume refl

pub waits_to_begin_critical : {E : Type 0} (name : CriticalName) → AnswersWait E Starting (Some (Begin (Critical name))) Resume
waits_to_begin_critical name = answers_wait Starting (Some (Begin (Critical name))) Resume refl

pub waits_to_begin_task : {E : Type 0} (clauses : TaskClauses) → AnswersWait E Starting (Some (Begin (Task clauses))) Resume
waits_to_begin_task clauses = answers_wait Starting (Some (Begin (Task clauses))) Resume refl

-- a taskwait and a barrier wait
pub waits_at_taskwait : {E : Type 0} → AnswersWait E Starting (Some Taskwait) Resume
waits_at_taskwait = answers_wait Starting (Some Taskwait) Resume refl

pub waits_at_barrier : {E : Type 0} → AnswersWait E Starting (Some Barrier) Resume
waits_at_barrier = answers_wait Starting (Some Barrier) Resume refl

-- an ordered loop waits before its next piece
pub waits_in_ordered_loop : {E : Type 0} (desc : LoopDesc) → desc.ordered ≡ true → AnswersWait E Continuing (Some (Begin (Loop desc))) Resume
waits_in_ordered_loop desc is = answers_wait Continuing (Some (Begin (Loop desc))) Resume (rw is refl)

-- what ends with a barrier waits, and so does a group
pub waits_behind_loop : {E : Type 0} (desc : LoopDesc) (groups : ℕ) → desc.end_kind ≡ WaitEnd → AnswersWait E (Ending groups) (Some (Begin (Loop desc))) Resume
waits_behind_loop desc groups is = answers_wait (Ending groups) (Some (Begin (Loop desc))) Resume (rw is refl)

pub waits_behind_cancellable_loop : {E : Type 0} (desc : LoopDesc) (groups : ℕ) → desc.end_kind ≡ Cancellable → AnswersWait E (Ending groups) (Some (Begin (Loop desc))) Resume
waits_behind_cancellable_loop desc groups is = answers_wait (Ending groups) (Some (Begin (Loop desc))) Resume (rw is refl)

pub waits_behind_sections : {E : Type 0} (groups : ℕ) → AnswersWait E (Ending groups) (Some (Begin (Sections WaitEnd))) Resume
waits_behind_sections groups = answers_wait (Ending groups) (Some (Begin (Sections WaitEnd))) Resume refl

pub waits_behind_cancellable_sections : {E : Type 0} (groups : ℕ) → AnswersWait E (Ending groups) (Some (Begin (Sections Cancellable))) Resume
waits_behind_cancellable_sections groups = answers_wait (Ending groups) (Some (Begin (Sections Cancellable))) Resume refl

pub waits_behind_single : {E : Type 0} (groups : ℕ) → AnswersWait E (Ending groups) (Some (Begin Single)) Resume
waits_behind_single groups = answers_wait (Ending groups) (Some (Begin Single)) Resume refl

pub waits_behind_copy : {E : Type 0} (number : ℤ) (groups : ℕ) → AnswersWait E (Ending groups) (Some (Begin (Copy number))) Resume
waits_behind_copy number groups = answers_wait (Ending groups) (Some (Begin (Copy number))) Resume refl

pub waits_behind_group : {E : Type 0} (groups : ℕ) → AnswersWait E (Ending groups) (Some (Begin Group)) Resume
waits_behind_group groups = answers_wait (Ending groups) (Some (Begin Group)) Resume refl

-- a group on the way out, and the region, wait for tasks
pub waits_behind_left_group : {E : Type 0} (groups : ℕ) (statement : Option Statement) → AnswersWait E (EndingGroup groups) statement Resume
waits_behind_left_group groups statement = answers_wait (EndingGroup groups) statement Resume refl

pub waits_behind_region : {E : Type 0} (statement : Option Statement) → AnswersWait E EndingRegion statement Resume
waits_behind_region statement = answers_wait EndingRegion statement Resume refl

-- what waits for nothing is no call to which a reply to wait can come
pub no_wait_at_first : {E : Type 0} (statement : Option Statement) → AnswersWait E Unasked statement Stop
no_wait_at_first statement = answers_wait Unasked statement Stop refl

pub no_wait_to_begin_group : {E : Type 0} → AnswersWait E Starting (Some (Begin Group)) Stop
no_wait_to_begin_group = answers_wait Starting (Some (Begin Group)) Stop refl

pub no_wait_to_begin_region : {E : Type 0} (members : ℕ) → AnswersWait E Starting (Some (Begin (Parallel members))) Stop
no_wait_to_begin_region members = answers_wait Starting (Some (Begin (Parallel members))) Stop refl

pub no_wait_to_cancel : {E : Type 0} (kind : CancelKind) → AnswersWait E Starting (Some (Cancel kind)) Stop
no_wait_to_cancel kind = answers_wait Starting (Some (Cancel kind)) Stop refl

pub no_wait_at_point : {E : Type 0} (kind : CancelKind) → AnswersWait E Starting (Some (Point kind)) Stop
no_wait_at_point kind = answers_wait Starting (Some (Point kind)) Stop refl

pub no_wait_in_loop : {E : Type 0} (desc : LoopDesc) → desc.ordered ≡ false → AnswersWait E Continuing (Some (Begin (Loop desc))) Stop
no_wait_in_loop desc is = answers_wait Continuing (Some (Begin (Loop desc))) Stop (rw is refl)

pub no_wait_in_sections : {E : Type 0} (end_kind : EndKind) → AnswersWait E Continuing (Some (Begin (Sections end_kind))) Stop
no_wait_in_sections end_kind = answers_wait Continuing (Some (Begin (Sections end_kind))) Stop refl

pub no_wait_behind_nowait_loop : {E : Type 0} (desc : LoopDesc) (groups : ℕ) → desc.end_kind ≡ Nowait → AnswersWait E (Ending groups) (Some (Begin (Loop desc))) Stop
no_wait_behind_nowait_loop desc groups is = answers_wait (Ending groups) (Some (Begin (Loop desc))) Stop (rw is refl)

pub no_wait_behind_nowait_sections : {E : Type 0} (groups : ℕ) → AnswersWait E (Ending groups) (Some (Begin (Sections Nowait))) Stop
no_wait_behind_nowait_sections groups = answers_wait (Ending groups) (Some (Begin (Sections Nowait))) Stop refl

pub no_wait_behind_ordered_part : {E : Type 0} (groups : ℕ) → AnswersWait E (Ending groups) (Some (Begin Ordered)) Stop
no_wait_behind_ordered_part groups = answers_wait (Ending groups) (Some (Begin Ordered)) Stop refl

pub no_wait_behind_critical : {E : Type 0} (name : CriticalName) (groups : ℕ) → AnswersWait E (Ending groups) (Some (Begin (Critical name))) Stop
no_wait_behind_critical name groups = answers_wait (Ending groups) (Some (Begin (Critical name))) Stop refl

pub no_wait_behind_task : {E : Type 0} (clauses : TaskClauses) (groups : ℕ) → AnswersWait E (Ending groups) (Some (Begin (Task clauses))) Stop
no_wait_behind_task clauses groups = answers_wait (Ending groups) (Some (Begin (Task clauses))) Stop refl

pub no_wait_to_put : {E : Type 0} (statement : Option Statement) → AnswersWait E Putting statement Stop
no_wait_to_put statement = answers_wait Putting statement Stop refl

pub no_wait_to_release : {E : Type 0} (exit : Exit) (statement : Option Statement) → AnswersWait E (Releasing exit) statement Stop
no_wait_to_release exit statement = answers_wait (Releasing exit) statement Stop refl

-- Copies

-- every member adds the number of a copy: the word that it is handed, or its own number once that is put, and then ends the copy
pub handed_word_reaches_total : {E : Type 0} (old new : ProgramView) (result : Result ScriptAct E) (act : ScriptAct) (number : ℤ) (word : ℕ) → old.owes ≡ false → old.stage ≡ Starting → statement_at old.script old.line ≡ Some (Begin (Copy number)) → AddsCopied (Copied (word ∷ [])) old result new → result ≡ Ok act →
    (new.total ≡ plus_number old.total (cast_signed w64 word)) × (new.line ≡ old.line) × (new.stage ≡ Ending 0)
handed_word_reaches_total old new result act number word owes stands line adds is =
    let ends = IfOk-at_ok (λ done. EndsCopy (Copied (word ∷ [])) old new) is (adds owes (rw (stands, line) refl)) in
    (rw (stands, line) at (ends.0), ends.1, ends.2)

pub put_number_reaches_total : {E : Type 0} (old new : ProgramView) (result : Result ScriptAct E) (act : ScriptAct) (number : ℤ) → old.owes ≡ false → old.stage ≡ Putting → statement_at old.script old.line ≡ Some (Begin (Copy number)) → AddsCopied Finished old result new → result ≡ Ok act →
    (new.total ≡ plus_number old.total number) × (new.line ≡ old.line) × (new.stage ≡ Ending 0)
put_number_reaches_total old new result act number owes stands line adds is =
    let ends = IfOk-at_ok (λ done. EndsCopy Finished old new) is (adds owes (rw (stands, line) refl)) in
    (rw (stands, line) at (ends.0), ends.1, ends.2)

-- Memory

-- a call that is owed is made, whatever the reply, and the total and the place stay
pub owed_call_is_made : {E : Type 0} (old new : ProgramView) (result : Result ScriptAct E) (act : ScriptAct) → old.owes ≡ true → MakesOwed old result new → result ≡ Ok act → (act ≡ act_of old) × (new ≡ record old { owes = false })
owed_call_is_made old new result act owes makes is = IfOk-at_ok (λ done. (done ≡ act_of old) × (new ≡ record old { owes = false })) is (makes owes)

pub owed_call_adds_nothing : {E : Type 0} (old new : ProgramView) (result : Result ScriptAct E) (act : ScriptAct) → old.owes ≡ true → MakesOwed old result new → result ≡ Ok act → new.total ≡ old.total
owed_call_adds_nothing old new result act owes makes is = ap (λ (program : ProgramView). program.total) (owed_call_is_made old new result act owes makes is).1

-- nothing is owed twice: if memory is refused for what is owed, nothing changes
pub refused_memory_keeps_total : {E : Type 0} (old new : ProgramView) (result : Result ScriptAct E) (error : E) → old.owes ≡ true → LacksMemory old result new → result ≡ Err error → new.total ≡ old.total
refused_memory_keeps_total old new (Ok act) error owes lacks is = absurd (cc)
refused_memory_keeps_total old new (Err given) error owes (inl same) is = ap (λ (program : ProgramView). program.total) same
refused_memory_keeps_total old new (Err given) error owes (inr owed) is = absurd (let none = owed.0 in cc)

-- what has changed although memory was refused: the member has come to a task with items, and owes its call
pub refused_memory_owes_call : {E : Type 0} (old new : ProgramView) (result : Result ScriptAct E) (error : E) → LacksMemory old result new → result ≡ Err error → new ≢ old → (new.owes ≡ true) × CreatesWithItems (statement_at new.script new.line)
refused_memory_owes_call old new (Ok act) error lacks is other = absurd (cc)
refused_memory_owes_call old new (Err given) error (inl same) is other = absurd (other same)
refused_memory_owes_call old new (Err given) error (inr owed) is other = (owed.1, owed.2)

pub refused_memory_changes_nothing_owed : {E : Type 0} (old new : ProgramView) (result : Result ScriptAct E) (error : E) → old.owes ≡ true → LacksMemory old result new → result ≡ Err error → new ≡ old
refused_memory_changes_nothing_owed old new (Ok act) error owes lacks is = absurd (cc)
refused_memory_changes_nothing_owed old new (Err given) error owes (inl same) is = same
refused_memory_changes_nothing_owed old new (Err given) error owes (inr owed) is = absurd (let none = owed.0 in cc)

-- only a task that has items takes memory
pub task_without_items_takes_none : (clauses : TaskClauses) → clauses.deps ≡ [] → CreatesWithItems (Some (Begin (Task clauses))) → ⊥
task_without_items_takes_none clauses none takes = takes none

pub barrier_takes_no_memory : CreatesWithItems (Some Barrier) → ⊥
barrier_takes_no_memory never = never

pub no_other_statement_takes_memory : (statement : Statement) → ((clauses : TaskClauses) → statement ≢ Begin (Task clauses)) → CreatesWithItems (Some statement) → ⊥
no_other_statement_takes_memory (Begin (Task clauses)) other takes = other clauses refl
no_other_statement_takes_memory _ other takes = takes
