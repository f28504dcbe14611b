-- Where each reply to a call leads a member, and for what the call may wait, of every place, script and number.
use Rattle.std.proofs.Common.{◌≡◌, ℕ, Bool, true, false, List, [], ◌∷◌, Option, Some, refl}
use Rattle.std.specs.Prelude.{ℤ}
use Rattle.gomp_types.specs.declared.cancel.CancelKind.{CancelKind}
use Rattle.gomp_types.specs.declared.cancel.CancelKind.TheVariants as names
use Rattle.gomp_types.specs.declared.loop_desc.EndKind.{EndKind}
use Rattle.gomp_types.specs.declared.loop_desc.EndKind.TheVariants as closes
use Rattle.gomp_types.specs.declared.loop_desc.LoopDesc.{LoopDesc}
use Rattle.gomp_types.specs.declared.reply.Reply.{Reply}
use Rattle.gomp_types.specs.declared.reply.Reply.TheVariants as reply
use Rattle.gomp_region.specs.declared.script.Script.{Script}
use Rattle.gomp_region.specs.declared.statement.BlockConstruct.{BlockConstruct}
use Rattle.gomp_region.specs.declared.statement.BlockConstruct.TheVariants as construct
use Rattle.gomp_region.specs.declared.statement.Statement.{Statement}
use Rattle.gomp_region.specs.declared.statement.TaskClauses.{TaskClauses}
use Rattle.gomp_region.specs.declared.statement.Statement.TheVariants as statement
use Rattle.gomp_program.specs.declared.frame.Block.TheVariants as block
use Rattle.gomp_program.specs.declared.frame.Exit.{Exit}
use Rattle.gomp_program.specs.declared.frame.Exit.TheVariants.{FromConstruct}
use Rattle.gomp_program.specs.declared.frame.Frame.{Frame}
use Rattle.gomp_program.specs.declared.frame.Stage.TheVariants as stage
use Rattle.gomp_program.specs.declared.waiting.WaitsFor.TheVariants as waits
use Rattle.gomp_program.specs.Leaving.{exit_of, region_exit, share_exit, task_exit, kept_in_block}
use Rattle.gomp_program.specs.Moves.{behind_task, into_task, Executes, Leaving, Resumes, Stops, behind_answer, behind_begin, behind_block, behind_cancel, behind_cancelled, behind_end, behind_groups, behind_handed, behind_line, behind_pass, behind_piece, behind_section, behind_share, behind_start, behind_wait, into_chunk, into_found, into_once, lead_of, line_numbered, out_of, to_end, waiting_in}
use Rattle.gomp_program.specs.Places.{Place, innermost, outer_blocks, statement_at}
use Rattle.gomp_program.specs.Waits.{waiting_at, waits_at_end_kind, waits_at_start, waits_if_ordered, waits_to_begin, waits_to_continue, waits_to_end}

-- Behind the begin of a construct

-- a piece of a share leads into its own first iteration or its own section
pub piece_leads_into_it : (script : Script) (place : Place) (desc : LoopDesc) (end_kind : EndKind) (first : ℤ) (count number : ℕ) →
    (behind_piece script place (construct.Loop desc) (reply.Chunk first count) ≡ into_chunk first count place)
    × (behind_piece script place (construct.Loop desc) reply.NoChunk ≡ to_end place)
    × (behind_piece script place (construct.Sections end_kind) (reply.Section number) ≡ behind_section script number place)
piece_leads_into_it script place desc end_kind first count number = (refl, refl, refl)

pub begin_of_a_share_leads_by_its_piece : (script : Script) (place : Place) (desc : LoopDesc) (end_kind : EndKind) (answer : Reply) →
    (behind_begin script place (construct.Loop desc) answer ≡ behind_piece script place (construct.Loop desc) answer) × (behind_begin script place (construct.Sections end_kind) answer ≡ behind_piece script place (construct.Sections end_kind) answer)
begin_of_a_share_leads_by_its_piece script place desc end_kind answer = (refl, refl)

-- the executor of a single goes into its block, and any other to its end
pub begin_of_a_single_leads_its_executor_in : (script : Script) (place : Place) (number : ℤ) (word : ℕ) →
    (behind_begin script place construct.Single (reply.Executor true) ≡ into_once place)
    × (behind_begin script place construct.Single (reply.Executor false) ≡ to_end place)
    × (behind_begin script place (construct.Copy number) (reply.Executor true) ≡ into_once place)
    × (behind_begin script place (construct.Copy number) (reply.Copied (word ∷ [])) ≡ to_end place)
begin_of_a_single_leads_its_executor_in script place number word = (refl, refl, refl, refl)

pub begin_that_is_done_leads_in : (script : Script) (place : Place) → (behind_begin script place construct.Ordered reply.Finished ≡ into_once place) × (behind_begin script place construct.Group reply.Finished ≡ into_once place)
begin_that_is_done_leads_in script place = (refl, refl)

-- so is one of a name; a task that is created or dropped leads behind its block, as a region does, and one that is run at once into it
pub begin_of_a_name_or_task_leads_by_its_reply : (script : Script) (place : Place) (name : List ℕ) (clauses : TaskClauses) (task code arg members : ℕ) →
    (behind_begin script place (construct.Critical name) reply.Finished ≡ into_once place)
    × (behind_begin script place (construct.Task clauses) (reply.Created task) ≡ behind_block script place)
    × (behind_begin script place (construct.Task clauses) reply.Dropped ≡ behind_block script place)
    × (behind_begin script place (construct.Task clauses) (reply.Run task code arg true) ≡ into_task place.line arg place)
    × (behind_begin script place (construct.Parallel members) reply.Finished ≡ behind_block script place)
begin_of_a_name_or_task_leads_by_its_reply script place name clauses task code arg members = (refl, refl, refl, refl, refl)

-- Behind a cancellation or a wait

pub cancellation_leads_out_of_what_it_names : (script : Script) (place : Place) (kind : CancelKind) → (behind_cancel script place kind (reply.Cancelling false) ≡ behind_line place) × (behind_cancel script place kind (reply.Cancelling true) ≡ out_of script (exit_of script place.frames kind))
cancellation_leads_out_of_what_it_names script place kind = (refl, refl)

pub each_cancellation_has_its_exit : (script : Script) (frames : List Frame) →
    (exit_of script frames names.Parallel ≡ region_exit frames) × (exit_of script frames names.Loop ≡ share_exit script block.OfLoop 0 frames) × (exit_of script frames names.Sections ≡ share_exit script block.OfSections 0 frames) × (exit_of script frames names.Taskgroup ≡ task_exit 0 frames)
each_cancellation_has_its_exit script frames = (refl, refl, refl, refl)

pub pass_leads_behind_the_line : (place : Place) → behind_pass place reply.Passed ≡ behind_line place
pass_leads_behind_the_line place = refl

pub start_leads_by_its_statement : (script : Script) (place : Place) (begun : BlockConstruct) (kind : CancelKind) (answer : Reply) →
    (behind_start script place (statement.Begin begun) answer ≡ behind_begin script place begun answer)
    × (behind_start script place statement.Taskwait answer ≡ behind_pass place answer)
    × (behind_start script place statement.Barrier answer ≡ behind_pass place answer)
    × (behind_start script place (statement.Cancel kind) answer ≡ behind_cancel script place kind answer)
    × (behind_start script place (statement.Point kind) answer ≡ behind_cancel script place kind answer)
start_leads_by_its_statement script place begun kind answer = (refl, refl, refl, refl, refl)

-- Behind the end of a construct

-- the end of a share leads to its groups, so many as were opened
pub end_of_a_share_leads_to_its_groups : (script : Script) (groups : ℕ) (place : Place) →
    (behind_share script groups place closes.Nowait reply.Finished ≡ behind_groups script groups place) × (behind_share script groups place closes.Wait reply.Passed ≡ behind_groups script groups place) × (behind_share script groups place closes.Cancellable reply.Passed ≡ behind_groups script groups place)
end_of_a_share_leads_to_its_groups script groups place = (refl, refl, refl)

pub end_of_a_construct_leads_behind_it : (script : Script) (groups : ℕ) (place : Place) (desc : LoopDesc) (end_kind : EndKind) (number : ℤ) (answer : Reply) →
    (behind_end script groups place (construct.Loop desc) answer ≡ behind_share script groups place desc.end_kind answer)
    × (behind_end script groups place (construct.Sections end_kind) answer ≡ behind_share script groups place end_kind answer)
    × (behind_end script groups place construct.Single reply.Passed ≡ behind_block script place)
    × (behind_end script groups place (construct.Copy number) reply.Passed ≡ behind_block script place)
    × (behind_end script groups place construct.Group reply.Passed ≡ behind_block script place)
    × (behind_end script groups place construct.Ordered reply.Finished ≡ behind_block script place)
end_of_a_construct_leads_behind_it script groups place desc end_kind number answer = (refl, refl, refl, refl, refl, refl)

pub end_of_a_name_or_task_leads_behind_it : (script : Script) (groups task : ℕ) (place : Place) (name : List ℕ) (clauses : TaskClauses) (waiting : Bool) →
    (behind_end script groups place (construct.Critical name) reply.Finished ≡ behind_block script place) × (behind_end script groups place (construct.Task clauses) (reply.TaskDone task waiting) ≡ behind_task script waiting (outer_blocks place.frames) (innermost place.frames))
end_of_a_name_or_task_leads_behind_it script groups task place name clauses waiting = (refl, refl)

-- Behind any answer

pub answer_leads_by_its_stage : (script : Script) (place : Place) (groups : ℕ) (exit : Exit) (found : Statement) (begun : BlockConstruct) (there : Option Statement) (answer : Reply) →
    (behind_answer script place stage.Unasked there reply.Finished ≡ Executes place.line place.iteration place.frames)
    × (behind_answer script place stage.Starting (Some found) answer ≡ behind_start script place found answer)
    × (behind_answer script place stage.Continuing (Some (statement.Begin begun)) answer ≡ behind_piece script place begun answer)
    × (behind_answer script place stage.Putting there reply.Finished ≡ to_end place)
    × (behind_answer script place (stage.Ending groups) (Some (statement.Begin begun)) answer ≡ behind_end script groups place begun answer)
    × (behind_answer script place (stage.EndingGroup groups) there reply.Passed ≡ behind_groups script groups place)
    × (behind_answer script place (stage.Releasing exit) there reply.Finished ≡ Leaving script exit)
answer_leads_by_its_stage script place groups exit found begun there answer = (refl, refl, refl, refl, refl, refl, refl)

-- a member that waits asks again, is handed a task or is cut short, by what it waits for
pub wait_leads_to_the_same_call : (place : Place) → (behind_wait place waits.ForNothing ≡ Stops) × (behind_wait place waits.ForName ≡ Resumes place) × (behind_wait place waits.ForTurn ≡ Resumes place) × (behind_wait place waits.ForTasks ≡ Resumes place) × (behind_wait place waits.ForAll ≡ Resumes place)
wait_leads_to_the_same_call place = (refl, refl, refl, refl, refl)

pub cancelled_wait_leads_out_of_the_region : (script : Script) (place : Place) →
    (behind_cancelled script place waits.ForTurn ≡ out_of script (region_exit place.frames)) × (behind_cancelled script place waits.ForAll ≡ out_of script (region_exit place.frames)) × (behind_cancelled script place waits.ForNothing ≡ Stops) × (behind_cancelled script place waits.ForName ≡ Stops) × (behind_cancelled script place waits.ForTasks ≡ Stops)
cancelled_wait_leads_out_of_the_region script place = (refl, refl, refl, refl, refl)

pub handed_task_leads_into_its_line : (script : Script) (place : Place) (code arg : ℕ) →
    (behind_handed script place code arg waits.ForTasks ≡ into_found (line_numbered script code) arg place) × (behind_handed script place code arg waits.ForAll ≡ into_found (line_numbered script code) arg place) × (behind_handed script place code arg waits.ForNothing ≡ Stops) × (behind_handed script place code arg waits.ForName ≡ Stops) × (behind_handed script place code arg waits.ForTurn ≡ Stops)
handed_task_leads_into_its_line script place code arg = (refl, refl, refl, refl, refl)

pub reply_that_waits_leads_by_its_call : (script : Script) (place : Place) (task code arg : ℕ) →
    (lead_of script place reply.Wait ≡ behind_wait place (waiting_in script place)) × (lead_of script place reply.Cancelled ≡ behind_cancelled script place (waiting_in script place)) × (lead_of script place (reply.Run task code arg false) ≡ behind_handed script place code arg (waiting_in script place))
reply_that_waits_leads_by_its_call script place task code arg = (refl, refl, refl)

-- What a call may wait for

pub call_waits_by_its_stage : (script : Script) (place : Place) (groups : ℕ) (found : Statement) (begun : BlockConstruct) (there : Option Statement) →
    (waiting_in script place ≡ waiting_at place.stage (statement_at script place.line))
    × (waiting_at stage.EndingRegion there ≡ waits.ForTasks)
    × (waiting_at (stage.EndingGroup groups) there ≡ waits.ForTasks)
    × (waiting_at stage.Starting (Some found) ≡ waits_at_start found)
    × (waiting_at stage.Continuing (Some (statement.Begin begun)) ≡ waits_to_continue begun)
    × (waiting_at (stage.Ending groups) (Some (statement.Begin begun)) ≡ waits_to_end begun)
call_waits_by_its_stage script place groups found begun there = (refl, refl, refl, refl, refl, refl)

pub begin_waits_by_its_construct : (begun : BlockConstruct) (desc : LoopDesc) (end_kind : EndKind) (number : ℤ) →
    (waits_at_start (statement.Begin begun) ≡ waits_to_begin begun) × (waits_to_begin (construct.Loop desc) ≡ waits.ForTurn) × (waits_to_begin (construct.Sections end_kind) ≡ waits.ForTurn) × (waits_to_begin (construct.Copy number) ≡ waits.ForTurn)
begin_waits_by_its_construct begun desc end_kind number = (refl, refl, refl, refl)

pub share_waits_by_its_order_and_end : (desc : LoopDesc) (end_kind : EndKind) (number : ℤ) →
    (waits_to_continue (construct.Loop desc) ≡ waits_if_ordered desc.ordered) × (waits_to_end (construct.Loop desc) ≡ waits_at_end_kind desc.end_kind) × (waits_to_end (construct.Sections end_kind) ≡ waits_at_end_kind end_kind) × (waits_to_end (construct.Copy number) ≡ waits.ForAll)
share_waits_by_its_order_and_end desc end_kind number = (refl, refl, refl, refl)

-- an exit keeps the blocks around it, and that of the region none
pub exit_keeps_its_blocks : (line keep groups : ℕ) → kept_in_block (FromConstruct line keep groups) ≡ keep
exit_keeps_its_blocks line keep groups = refl
