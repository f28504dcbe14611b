-- What is no reply to a call stops a member of a script, adds nothing and is not its last, whichever reply, call and script it is.
use Rattle.std.proofs.Common.{◌≡◌, ◌≢◌, ℕ, zero, suc, Bool, true, false, [], ◌∷◌, Option, Some, None, refl, arith}
use Rattle.std.specs.Prelude.{ℤ}
use Rattle.std.proofs.lemmas.Bool.{lt-ltb}
use Rattle.gomp_types.specs.declared.call.Call.TheVariants.{Stop}
use Rattle.gomp_types.specs.declared.loop_desc.EndKind.{EndKind}
use Rattle.gomp_types.specs.declared.loop_desc.EndKind.TheVariants.{Wait as WaitEnd, Nowait, Cancellable}
use Rattle.gomp_types.specs.declared.loop_desc.LoopDesc.{LoopDesc}
use Rattle.gomp_types.specs.declared.refusal.Clash.{Clash}
use Rattle.gomp_types.specs.declared.refusal.Refusal.{Refusal}
use Rattle.gomp_types.specs.declared.refusal.Refusal.TheVariants.{Broken}
use Rattle.gomp_types.specs.declared.reply.Reply.{Reply}
use Rattle.gomp_types.specs.declared.reply.Reply.TheVariants.{Chunk, NoChunk, Section as SectionReply, Executor, Copied, Finished, Passed, Cancelled, Wait, Created, Dropped, Cancelling, Run, TaskDone, Stopped, Refused}
use Rattle.gomp_region.specs.declared.script.Script.{Script}
use Rattle.gomp_region.specs.declared.statement.Addend.{Addend}
use Rattle.gomp_region.specs.declared.statement.BlockConstruct.{BlockConstruct}
use Rattle.gomp_region.specs.declared.statement.BlockConstruct.TheVariants.{Loop, Sections, Section, Single, Copy, Ordered, Critical, Task, Group, Parallel, Only}
use Rattle.gomp_region.specs.declared.statement.EndWord.{EndWord}
use Rattle.gomp_region.specs.declared.statement.Statement.{Statement}
use Rattle.gomp_region.specs.declared.statement.Statement.TheVariants.{Begin, End, Taskwait, Barrier, Cancel, Point, Add}
use Rattle.gomp_program.specs.declared.acts.ScriptAct.TheVariants.{Do}
use Rattle.gomp_program.specs.declared.frame.Stage.{Stage}
use Rattle.gomp_program.specs.declared.frame.Stage.TheVariants.{Unasked, Starting, Continuing, Putting, Ending, EndingGroup, Releasing}
use Rattle.gomp_program.specs.Answers.{begins_by, ends_by, ends_by_kind, is_answer, is_piece, starts_by}
use Rattle.gomp_program.specs.Calls.{act_of_statement, call_to_begin, call_to_continue, call_to_end, call_to_put}
use Rattle.gomp_program.specs.Moves.{behind_answer, behind_begin, behind_end, behind_piece, behind_share, behind_start, lead_of}
use Rattle.gomp_program.specs.Moves.Lead.{Stops}
use Rattle.gomp_program.specs.Places.{Place, statement_at}
use Rattle.gomp_program.specs.Programs.{is_last_reply}
use Rattle.gomp_program.specs.Totals.{addition_at}

-- Where it leads

-- no reply of a section, which leads into one
abbrev TellsNoSection : Reply → Type 0
TellsNoSection reply = (number : ℕ) → reply ≢ SectionReply number

-- nor one that leads out of what is cancelled, or back from a task
abbrev LeadsNowhere : Reply → Type 0
LeadsNowhere reply = TellsNoSection reply × (reply ≢ Cancelling true) × ((task : ℕ) (waiting : Bool) → reply ≢ TaskDone task waiting)

-- behind a call that asks for a piece
pub stops_without_a_piece : (script : Script) (place : Place) (construct : BlockConstruct) (reply : Reply) → is_piece construct reply ≡ false → TellsNoSection reply → behind_piece script place construct reply ≡ Stops
stops_without_a_piece script place (Loop desc) (Chunk first zero) never other = refl
stops_without_a_piece script place (Loop desc) (Chunk first (suc later)) never other = absurd (let some = lt-ltb 0 (suc later) (omega arith) in cc)
stops_without_a_piece script place (Loop desc) NoChunk never other = absurd (cc)
stops_without_a_piece script place (Sections end_kind) (SectionReply number) never other = absurd (other number refl)
stops_without_a_piece script place _ _ never other = refl

-- behind one that begins a construct
pub stops_without_a_begin : (script : Script) (place : Place) (construct : BlockConstruct) (reply : Reply) → begins_by construct reply ≡ false → TellsNoSection reply → behind_begin script place construct reply ≡ Stops
stops_without_a_begin script place (Loop desc) reply never other = stops_without_a_piece script place (Loop desc) reply never other
stops_without_a_begin script place (Sections end_kind) reply never other = stops_without_a_piece script place (Sections end_kind) reply never other
stops_without_a_begin script place Single (Executor executes) never other = absurd (cc)
stops_without_a_begin script place (Copy number) (Executor true) never other = absurd (cc)
stops_without_a_begin script place (Copy number) (Copied (word ∷ [])) never other = absurd (cc)
stops_without_a_begin script place Ordered Finished never other = absurd (cc)
stops_without_a_begin script place (Critical name) Finished never other = absurd (cc)
stops_without_a_begin script place Group Finished never other = absurd (cc)
stops_without_a_begin script place (Task clauses) (Created task) never other = absurd (cc)
stops_without_a_begin script place (Task clauses) Dropped never other = absurd (cc)
stops_without_a_begin script place (Task clauses) (Run task code arg true) never other = absurd (cc)
stops_without_a_begin script place (Parallel members) Finished never other = absurd (cc)
stops_without_a_begin script place _ _ never other = refl

-- behind one of a statement
pub stops_without_a_start : (script : Script) (place : Place) (statement : Statement) (reply : Reply) → starts_by statement reply ≡ false → TellsNoSection reply → reply ≢ Cancelling true → behind_start script place statement reply ≡ Stops
stops_without_a_start script place (Begin construct) reply never other out = stops_without_a_begin script place construct reply never other
stops_without_a_start script place Taskwait Passed never other out = absurd (cc)
stops_without_a_start script place Barrier Passed never other out = absurd (cc)
stops_without_a_start script place (Cancel kind) (Cancelling false) never other out = absurd (cc)
stops_without_a_start script place (Cancel kind) (Cancelling true) never other out = absurd (out refl)
stops_without_a_start script place (Point kind) (Cancelling false) never other out = absurd (cc)
stops_without_a_start script place (Point kind) (Cancelling true) never other out = absurd (out refl)
stops_without_a_start script place _ _ never other out = refl

-- behind one that ends a share
pub stops_without_an_end_of_a_share : (script : Script) (groups : ℕ) (place : Place) (end_kind : EndKind) (reply : Reply) → ends_by_kind end_kind reply ≡ false → behind_share script groups place end_kind reply ≡ Stops
stops_without_an_end_of_a_share script groups place Nowait Finished never = absurd (cc)
stops_without_an_end_of_a_share script groups place WaitEnd Passed never = absurd (cc)
stops_without_an_end_of_a_share script groups place Cancellable Passed never = absurd (cc)
stops_without_an_end_of_a_share script groups place _ _ never = refl

-- or another construct
pub stops_without_an_end : (script : Script) (groups : ℕ) (place : Place) (construct : BlockConstruct) (reply : Reply) → ends_by construct reply ≡ false → ((task : ℕ) (waiting : Bool) → reply ≢ TaskDone task waiting) → behind_end script groups place construct reply ≡ Stops
stops_without_an_end script groups place (Loop desc) reply never back = stops_without_an_end_of_a_share script groups place desc.end_kind reply never
stops_without_an_end script groups place (Sections end_kind) reply never back = stops_without_an_end_of_a_share script groups place end_kind reply never
stops_without_an_end script groups place Single Passed never back = absurd (cc)
stops_without_an_end script groups place (Copy number) Passed never back = absurd (cc)
stops_without_an_end script groups place Group Passed never back = absurd (cc)
stops_without_an_end script groups place Ordered Finished never back = absurd (cc)
stops_without_an_end script groups place (Critical name) Finished never back = absurd (cc)
stops_without_an_end script groups place (Task clauses) (TaskDone task waiting) never back = absurd (back task waiting refl)
stops_without_an_end script groups place _ _ never back = refl

-- behind whichever call it stands at
pub stops_without_an_answer : (script : Script) (place : Place) (stage : Stage) (statement : Option Statement) (reply : Reply) → is_answer stage statement reply ≡ false → LeadsNowhere reply → behind_answer script place stage statement reply ≡ Stops
stops_without_an_answer script place Unasked statement Finished never other = absurd (cc)
stops_without_an_answer script place Starting (Some statement) reply never other = stops_without_a_start script place statement reply never other.0 other.1
stops_without_an_answer script place Continuing (Some (Begin construct)) reply never other = stops_without_a_piece script place construct reply never other.0
stops_without_an_answer script place Putting statement Finished never other = absurd (cc)
stops_without_an_answer script place (Ending groups) (Some (Begin construct)) reply never other = stops_without_an_end script groups place construct reply never other.2
stops_without_an_answer script place (EndingGroup groups) statement Passed never other = absurd (cc)
stops_without_an_answer script place (Releasing exit) statement Finished never other = absurd (cc)
stops_without_an_answer script place _ _ _ never other = refl

-- a reply that is no wait, no cancelled region, no task that is handed and no refusal leads on by the call at which the member stands
pub reply_leads_by_its_call : (script : Script) (place : Place) (reply : Reply) →
    ((refusal : Refusal) → reply ≢ Refused refusal) → reply ≢ Wait → reply ≢ Cancelled → ((task code arg : ℕ) → reply ≢ Run task code arg false) →
    lead_of script place reply ≡ behind_answer script place place.stage (statement_at script place.line) reply
reply_leads_by_its_call script place (Refused refusal) refused wait cancelled run = absurd (refused refusal refl)
reply_leads_by_its_call script place Wait refused wait cancelled run = absurd (wait refl)
reply_leads_by_its_call script place Cancelled refused wait cancelled run = absurd (cancelled refl)
reply_leads_by_its_call script place (Run task code arg false) refused wait cancelled run = absurd (run task code arg refl)
reply_leads_by_its_call script place _ refused wait cancelled run = refl

-- What it adds

-- where nothing is asked for or put, nothing is added
pub nothing_is_added_at_another_call : (stage : Stage) (statement : Option Statement) (reply : Reply) → stage ≢ Starting → stage ≢ Putting → addition_at stage statement reply ≡ None
nothing_is_added_at_another_call Starting statement reply start put = absurd (start refl)
nothing_is_added_at_another_call Putting statement reply start put = absurd (put refl)
nothing_is_added_at_another_call _ statement reply start put = refl

-- at the start of a copy one word is, and else nothing
pub nothing_else_is_added_at_a_start : (statement : Option Statement) (reply : Reply) → ((number : ℤ) (word : ℕ) → statement ≡ Some (Begin (Copy number)) → reply ≢ Copied (word ∷ [])) → addition_at Starting statement reply ≡ None
nothing_else_is_added_at_a_start (Some (Begin (Copy number))) (Copied (word ∷ [])) other = absurd (other number word refl refl)
nothing_else_is_added_at_a_start _ _ other = refl

-- and once it is put its number is, and else nothing
pub nothing_else_is_added_at_a_put : (statement : Option Statement) (reply : Reply) → ((number : ℤ) → statement ≡ Some (Begin (Copy number)) → reply ≢ Finished) → addition_at Putting statement reply ≡ None
nothing_else_is_added_at_a_put (Some (Begin (Copy number))) Finished other = absurd (other number refl refl)
nothing_else_is_added_at_a_put _ _ other = refl

-- Which is the last

-- a pass, a stop and a broken team may be, and no other reply
pub no_other_reply_is_last : (stage : Stage) (reply : Reply) → reply ≢ Passed → reply ≢ Stopped → ((clash : Clash) → reply ≢ Refused (Broken clash)) → is_last_reply stage reply ≡ false
no_other_reply_is_last stage Passed passed stopped broken = absurd (passed refl)
no_other_reply_is_last stage Stopped passed stopped broken = absurd (stopped refl)
no_other_reply_is_last stage (Refused (Broken clash)) passed stopped broken = absurd (broken clash refl)
no_other_reply_is_last stage _ passed stopped broken = refl

-- Calls that there are not

-- an end word and an addition make no call
pub no_call_is_made_by_what_is_executed : (count number : ℕ) (value : ℤ) (word : EndWord) (added : Addend) → (act_of_statement count value number (End word) ≡ Do Stop) × (act_of_statement count value number (Add added) ≡ Do Stop)
no_call_is_made_by_what_is_executed count number value word added = (refl, refl)

-- nor do a section and what one member executes alone, at their begin and at their end, nor a nested region at its end
pub no_call_is_made_by_what_is_passed : (count member members : ℕ) (value : ℤ) →
    (call_to_begin count value Section ≡ Stop) × (call_to_begin count value (Only member) ≡ Stop) × (call_to_end Section ≡ Stop) × (call_to_end (Only member) ≡ Stop) × (call_to_end (Parallel members) ≡ Stop)
no_call_is_made_by_what_is_passed count member members value = (refl, refl, refl, refl, refl)

-- no construct but a share has a next piece, and none but a copy puts words
pub no_next_piece_of_another_construct : (construct : BlockConstruct) → ((desc : LoopDesc) → construct ≢ Loop desc) → ((end_kind : EndKind) → construct ≢ Sections end_kind) → call_to_continue construct ≡ Stop
no_next_piece_of_another_construct (Loop desc) loop sections = absurd (loop desc refl)
no_next_piece_of_another_construct (Sections end_kind) loop sections = absurd (sections end_kind refl)
no_next_piece_of_another_construct _ loop sections = refl

pub nothing_put_by_another_construct : (construct : BlockConstruct) → ((number : ℤ) → construct ≢ Copy number) → call_to_put construct ≡ Stop
nothing_put_by_another_construct (Copy number) copy = absurd (copy number refl)
nothing_put_by_another_construct _ copy = refl
