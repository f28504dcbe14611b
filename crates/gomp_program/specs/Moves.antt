-- Where a reply leads a member, by the construct or statement at which it stands. (own)
use Rattle.std.specs.Prelude.{ℕ, ℤ, ◌≡◌, ◌+◌, ◌++◌, ◌==◌, Bool, true, false, if◌then◌else◌, List, [], ◌∷◌, drop, Option, Some, None, Result, IfOk}
use Rattle.std.specs.Int.{cast_signed, w64}
use Rattle.std.specs.List.{position_from}
use Rattle.std.proofs.Common.{zero, suc}
use Rattle.gomp_types.specs.declared.cancel.CancelKind.{CancelKind}
use Rattle.gomp_types.specs.declared.loop_desc.EndKind.{EndKind}
use Rattle.gomp_types.specs.declared.loop_desc.EndKind.TheVariants.{Wait as WaitEnd, Nowait, Cancellable}
use Rattle.gomp_types.specs.declared.reply.Reply.{Reply}
use Rattle.gomp_types.specs.declared.reply.Reply.TheVariants.{Chunk, NoChunk, Section as SectionReply, Executor, Copied, Finished, Passed, Cancelled, Wait, Created, Dropped, Cancelling, Run, TaskDone, Refused}
use Rattle.gomp_region.specs.declared.script.Script.{Script}
use Rattle.gomp_region.specs.declared.script.ScriptLine.{ScriptLine}
use Rattle.gomp_region.specs.declared.statement.BlockConstruct.{BlockConstruct}
use Rattle.gomp_region.specs.declared.statement.BlockConstruct.TheVariants.{Loop, Sections, Single, Copy, Ordered, Critical, Task, Group, Parallel}
use Rattle.gomp_region.specs.declared.statement.Statement.{Statement}
use Rattle.gomp_region.specs.declared.statement.Statement.TheVariants.{Begin, Taskwait, Barrier, Cancel, Point}
use Rattle.gomp_program.specs.declared.frame.Block.{Block}
use Rattle.gomp_program.specs.declared.frame.Block.TheVariants.{OfLoop, OfSections, Once, OfTask}
use Rattle.gomp_program.specs.declared.frame.Exit.{Exit}
use Rattle.gomp_program.specs.declared.frame.Frame.{Frame}
use Rattle.gomp_program.specs.declared.frame.Iteration.{Iteration}
use Rattle.gomp_program.specs.declared.frame.Stage.{Stage}
use Rattle.gomp_program.specs.declared.frame.Stage.TheVariants.{Unasked, Starting, Continuing, Putting, Ending, EndingGroup, Releasing}
use Rattle.gomp_program.specs.declared.waiting.WaitsFor.{WaitsFor}
use Rattle.gomp_program.specs.declared.waiting.WaitsFor.TheVariants.{ForNothing, ForTurn, ForTasks, ForAll}
use Rattle.gomp_program.specs.declared.progress.Progress.{Progress}
use Rattle.gomp_program.specs.declared.replies.Sequel.{Sequel}
use Rattle.gomp_program.specs.declared.replies.Sequel.TheVariants.{Statements, ItsCall, SameCall, Stopping}
use Rattle.gomp_program.specs.Leaving.{LeavesBlock, exit_of, region_exit}
use Rattle.gomp_program.specs.Places.{Place, block_line, innermost, line_behind, next_line, outer_blocks, place_in, statement_at}
use Rattle.gomp_program.specs.Waits.{waiting_at}

-- what a member does behind a reply
pub data Lead : Type 0 where
  -- it executes statements, from this line on, in this iteration, inside these blocks
  Executes : (line : ℕ) (iteration : Iteration) (frames : List Frame) → Lead
  -- it makes the call of this place
  Calls : (place : Place) → Lead
  -- it leaves what is cancelled, in this script
  Leaving : (script : Script) (exit : Exit) → Lead
  -- it asks about the call of this place again
  Resumes : (place : Place) → Lead
  -- it stops, and stays where it stands
  Stops : Lead

-- behind the line at which it stands, or the block that begins there
abbrev pub behind_line : Place → Lead
behind_line place = Executes (next_line place.line) place.iteration place.frames

abbrev pub behind_block : Script → Place → Lead
behind_block script place = Executes (line_behind script place.line) place.iteration place.frames

-- into a block of the construct at this line, whose statements stand behind the line `before`, in this iteration
abbrev pub into : ℕ → Block → Iteration → ℕ → Place → Lead
into line block iteration before place = Executes (next_line before) iteration (place.frames ++ record { line = line; block = block; around = place.iteration } ∷ [])

-- into the block that is executed once
abbrev pub into_once : Place → Lead
into_once place = into place.line Once place.iteration place.line place

-- into the first of the iterations of a chunk
abbrev pub into_chunk : ℤ → ℕ → Place → Lead
into_chunk first zero place = Stops
into_chunk first (suc later) place = into place.line OfLoop (record { value = first; left = later }) place.line place

-- into the section that begins at this line
abbrev pub into_section : Option ℕ → Place → Lead
into_section (Some section) place = into place.line OfSections place.iteration section place
into_section None place = Stops

-- into the body of the task at this line, in the iteration that it was created in, and once it is ended back to where the member stands
abbrev pub into_task : ℕ → ℕ → Place → Lead
into_task line arg place = into line (OfTask place.line place.stage) (record { value = cast_signed w64 arg; left = 0 }) line place

-- into the body of the task that the member is handed at a wait, if the script has it
abbrev pub into_found : Option ℕ → ℕ → Place → Lead
into_found (Some line) arg place = into_task line arg place
into_found None arg place = Stops

-- to the end of the construct at which it stands
abbrev pub to_end : Place → Lead
to_end place = Calls (record place { stage = Ending 0 })

-- to the ends of so many groups that were opened in the share that is ended, and then behind that
abbrev pub behind_groups : Script → ℕ → Place → Lead
behind_groups script zero place = behind_block script place
behind_groups script (suc later) place = Calls (record place { stage = EndingGroup later })

-- out of what is cancelled, if the member is in that
abbrev pub out_of : Script → Option Exit → Lead
out_of script (Some exit) = Leaving script exit
out_of script None = Stops

-- back to where the task was started whose body is the innermost block: to the wait there, or behind the undeferred task itself
abbrev pub back_to : Script → Bool → Place → Lead
back_to script true place = Resumes place
back_to script false place = behind_block script place

abbrev pub out_of_task : Script → Bool → List Frame → Iteration → Block → Lead
out_of_task script waiting outer around (OfTask line stage) = back_to script waiting (record { line = line; stage = stage; iteration = around; frames = outer })
out_of_task script waiting outer around _ = Stops

abbrev pub behind_task : Script → Bool → List Frame → Option Frame → Lead
behind_task script waiting outer (Some frame) = out_of_task script waiting outer frame.around frame.block
behind_task script waiting outer None = Stops

-- behind a piece of a share
abbrev pub behind_section : Script → ℕ → Place → Lead
behind_section script number place =
    if number == 0 then to_end place
    else into_section (block_line number 0 (place.line + 1) (drop (place.line + 1) script.lines.items)) place

abbrev pub behind_piece : Script → Place → BlockConstruct → Reply → Lead
behind_piece script place (Loop desc) (Chunk first count) = into_chunk first count place
behind_piece script place (Loop desc) NoChunk = to_end place
behind_piece script place (Sections end_kind) (SectionReply number) = behind_section script number place
behind_piece script place _ _ = Stops

-- behind the call that begins a construct
abbrev pub behind_begin : Script → Place → BlockConstruct → Reply → Lead
behind_begin script place (Loop desc) reply = behind_piece script place (Loop desc) reply
behind_begin script place (Sections end_kind) reply = behind_piece script place (Sections end_kind) reply
behind_begin script place Single (Executor true) = into_once place
behind_begin script place Single (Executor false) = to_end place
behind_begin script place (Copy number) (Executor true) = into_once place
behind_begin script place (Copy number) (Copied (word ∷ [])) = to_end place
behind_begin script place Ordered Finished = into_once place
behind_begin script place (Critical name) Finished = into_once place
behind_begin script place Group Finished = into_once place
behind_begin script place (Task clauses) (Created task) = behind_block script place
behind_begin script place (Task clauses) Dropped = behind_block script place
behind_begin script place (Task clauses) (Run task code arg true) = into_task place.line arg place
behind_begin script place (Parallel members) Finished = behind_block script place
behind_begin script place _ _ = Stops

-- behind a cancel or a cancellation point
abbrev pub behind_cancel : Script → Place → CancelKind → Reply → Lead
behind_cancel script place kind (Cancelling false) = behind_line place
behind_cancel script place kind (Cancelling true) = out_of script (exit_of script place.frames kind)
behind_cancel script place kind _ = Stops

-- behind a wait that is over
abbrev pub behind_pass : Place → Reply → Lead
behind_pass place Passed = behind_line place
behind_pass place _ = Stops

-- behind the call of a statement
abbrev pub behind_start : Script → Place → Statement → Reply → Lead
behind_start script place (Begin construct) reply = behind_begin script place construct reply
behind_start script place Taskwait reply = behind_pass place reply
behind_start script place Barrier reply = behind_pass place reply
behind_start script place (Cancel kind) reply = behind_cancel script place kind reply
behind_start script place (Point kind) reply = behind_cancel script place kind reply
behind_start script place _ _ = Stops

-- behind the end of a share, in which so many groups were opened that are to be ended
abbrev pub behind_share : Script → ℕ → Place → EndKind → Reply → Lead
behind_share script groups place Nowait Finished = behind_groups script groups place
behind_share script groups place WaitEnd Passed = behind_groups script groups place
behind_share script groups place Cancellable Passed = behind_groups script groups place
behind_share script groups place _ _ = Stops

-- behind the end of a construct
abbrev pub behind_end : Script → ℕ → Place → BlockConstruct → Reply → Lead
behind_end script groups place (Loop desc) reply = behind_share script groups place desc.end_kind reply
behind_end script groups place (Sections end_kind) reply = behind_share script groups place end_kind reply
behind_end script groups place Single Passed = behind_block script place
behind_end script groups place (Copy number) Passed = behind_block script place
behind_end script groups place Group Passed = behind_block script place
behind_end script groups place Ordered Finished = behind_block script place
behind_end script groups place (Critical name) Finished = behind_block script place
behind_end script groups place (Task clauses) (TaskDone task waiting) = behind_task script waiting (outer_blocks place.frames) (innermost place.frames)
behind_end script groups place _ _ = Stops

-- behind an answer to the call at which it stands
abbrev pub behind_answer : Script → Place → Stage → Option Statement → Reply → Lead
behind_answer script place Unasked _ Finished = Executes place.line place.iteration place.frames
behind_answer script place Starting (Some statement) reply = behind_start script place statement reply
behind_answer script place Continuing (Some (Begin construct)) reply = behind_piece script place construct reply
behind_answer script place Putting _ Finished = to_end place
behind_answer script place (Ending groups) (Some (Begin construct)) reply = behind_end script groups place construct reply
behind_answer script place (EndingGroup groups) _ Passed = behind_groups script groups place
behind_answer script place (Releasing exit) _ Finished = Leaving script exit
behind_answer script place _ _ _ = Stops

-- behind a reply to wait: the call is asked about again, if it may wait
abbrev pub behind_wait : Place → WaitsFor → Lead
behind_wait place ForNothing = Stops
behind_wait place _ = Resumes place

-- behind the reply that the region is cancelled: the call is cut short, if it waits for its turn or for all members
abbrev pub behind_cancelled : Script → Place → WaitsFor → Lead
behind_cancelled script place ForTurn = out_of script (region_exit place.frames)
behind_cancelled script place ForAll = out_of script (region_exit place.frames)
behind_cancelled script place _ = Stops

-- behind the task that a member is handed at a wait for tasks, by the number of its line
abbrev pub line_numbered : Script → ℕ → Option ℕ
line_numbered script number = position_from (λ (line : ScriptLine). line.number == number) 0 script.lines.items

abbrev pub behind_handed : Script → Place → ℕ → ℕ → WaitsFor → Lead
behind_handed script place code arg ForTasks = into_found (line_numbered script code) arg place
behind_handed script place code arg ForAll = into_found (line_numbered script code) arg place
behind_handed script place code arg _ = Stops

-- for what the call of a place may wait
abbrev pub waiting_in : Script → Place → WaitsFor
waiting_in script place = waiting_at place.stage (statement_at script place.line)

-- where a reply leads a member
abbrev pub lead_of : Script → Place → Reply → Lead
lead_of script place (Refused refusal) = Stops
lead_of script place Wait = behind_wait place (waiting_in script place)
lead_of script place Cancelled = behind_cancelled script place (waiting_in script place)
lead_of script place (Run task code arg false) = behind_handed script place code arg (waiting_in script place)
lead_of script place reply = behind_answer script place place.stage (statement_at script place.line) reply

-- so a member is led, by this sequel: what stands next is its statements, its call, the same call or a stop
abbrev pub IsLed : Lead → Sequel → Progress → Progress → Type 0
IsLed (Executes line iteration frames) sequel old new = (sequel ≡ Statements) × (new.line ≡ line) × (new.iteration ≡ iteration) × (new.frames.items ≡ frames)
IsLed (Calls place) sequel old new = (sequel ≡ ItsCall) × (place_in new ≡ place)
IsLed (Leaving script exit) sequel old new = (sequel ≡ ItsCall) × LeavesBlock script exit (place_in old) (place_in new)
IsLed (Resumes place) sequel old new = (sequel ≡ SameCall) × (place_in new ≡ place)
IsLed Stops sequel old new = (sequel ≡ Stopping) × (place_in new ≡ place_in old)

abbrev pub IsLedBy : {E : Type 0} → Lead → Result Sequel E → Progress → Progress → Type 0
IsLedBy lead result old new = IfOk result (λ sequel. IsLed lead sequel old new)
