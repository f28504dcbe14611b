-- What a text, an operation on a board and an executor's words are answered, of every team, board and reply: each gives its own answer, whole.
use Rattle.std.proofs.Common.{◌≡◌, ◌↔◌, ℕ, Bool, true, false, List, [], ◌∷◌, Some, None, Ok, Err, length, refl}
use Rattle.std.specs.Prelude.{not, ◌&&◌, is_some, flat_map, IsTrue, nat_lt}
use Rattle.gomp_types.specs.declared.call.Step.{Step}
use Rattle.gomp_types.specs.declared.depend.Dep.{Dep}
use Rattle.gomp_events.specs.declared.event.Event.{Event}
use Rattle.gomp_events.specs.declared.event.Tag.{Tag}
use Rattle.gomp_types.specs.declared.limits.Limits.{Limits}
use Rattle.gomp_types.specs.declared.refusal.Place.{Place}
use Rattle.gomp_types.specs.declared.refusal.Refusal.{Refusal}
use Rattle.gomp_types.specs.declared.refusal.Refusal.TheVariants.{BadTeam, NoMemory, NotInside}
use Rattle.gomp_types.specs.declared.reply.Reply.{Reply}
use Rattle.gomp_types.specs.declared.reply.Reply.TheVariants.{Finished, Stopped, Refused}
use Rattle.gomp_events.specs.declared.seen.Seen.{Seen}
use Rattle.gomp_types.specs.declared.shape.Shape.{Shape}
use Rattle.gomp_types.specs.declared.shape.ShareKind.{ShareKind}
use Rattle.gomp_types.specs.declared.shape.ShareKind.TheVariants as kind
use Rattle.gomp_types.specs.declared.task.TaskDesc.{TaskDesc}
use Rattle.gomp_events.specs.CancelCalls.{TellsCancelled, CreatesOrDrops, OrIsCancelled}
use Rattle.gomp_events.specs.Events.{in_kind}
use Rattle.gomp_events.specs.Goals.{may_pass}
use Rattle.gomp_types.specs.Shapes.{is_copy}
use Rattle.gomp_events.specs.TaskCalls.{AwaitsTasks, EndsTask, AwaitsChildren, AwaitsGroup}
use Rattle.gomp_events.specs.Tasks.{executed_task}
use Rattle.gomp_shares.specs.Singles.{is_executor, put_tests}
use Rattle.gomp_board.specs.declared.op.Op.{Op}
use Rattle.gomp_board.specs.declared.op.Op.TheVariants as op
use Rattle.gomp_board.specs.declared.op.TeamCancel.{TeamCancel}
use Rattle.gomp_board.specs.Ops.{named_kind, op_refusal, op_asks, op_drops, op_may_lack, begun, goes_to_the_end, AwaitsPass, OpReply, OpAnswer}
use Rattle.gomp_model.specs.Team.{record_after, Caused}
use Rattle.gomp_icv.specs.Variables.{Variables}
use Rattle.gomp_core.specs.Stands.{standard_terms}
use Rattle.gomp_core.specs.Resolved.{resolved_steps}
use Rattle.gomp_script.specs.declared.parse.BadLine.{BadLine}
use Rattle.gomp_script.specs.Printing.{reply_line, bad_line_text, refusal_line}
use Rattle.gomp_service.specs.Statuses.{is_size, status_of}
use Rattle.gomp_steps.specs.Output.{Replied, Runs, AnswerTo}
use Rattle.gomp_trace.specs.declared.event.TraceEvent.{TraceEvent}
use Rattle.gomp_trace.specs.Runs.{Ran}
use Rattle.gomp_trace.specs.Json.{trace_text}
use Rattle.gomp_trace.specs.Serving.{IsTrace, TeamTrace, TraceOf}

-- Texts

-- steps that are read are run by a team of their size, and a bad line is told
pub read_steps_are_run : (icv : Variables) (found : ℕ × List Step) (text : List ℕ) (code : ℕ) → AnswerTo icv (Ok found) text code ↔ Runs icv (is_size found.0) found.0 found.1 text code
read_steps_are_run icv found text code = ((λ is. is), (λ is. is))

pub bad_steps_are_told : (icv : Variables) (bad : BadLine) (text : List ℕ) (code : ℕ) → AnswerTo icv (Err bad) text code ↔ ((text ≡ bad_line_text bad) × (code ≡ 1))
bad_steps_are_told icv bad text code = ((λ is. is), (λ is. is))

-- by a team of a size that may be they have their replies, and by any other none
pub steps_of_a_team_have_their_replies : (icv : Variables) (count : ℕ) (steps : List Step) (text : List ℕ) (code : ℕ) →
    (Runs icv true count steps text code ↔ Replied icv count steps text code) × (Runs icv false count steps text code ↔ ((text ≡ refusal_line BadTeam) × (code ≡ 2)))
steps_of_a_team_have_their_replies icv count steps text code = (((λ is. is), (λ is. is)), ((λ is. is), (λ is. is)))

-- the replies are one for each step, each with its cause, on a line each
pub replies_are_told_whole : (icv : Variables) (count : ℕ) (steps : List Step) (text : List ℕ) (code : ℕ) →
    Replied icv count steps text code ↔ ((replies : List Reply) × (length replies ≡ length steps) × Caused (standard_terms count icv) (record_after (resolved_steps icv steps) replies []) × (text ≡ flat_map reply_line replies) × (code ≡ status_of replies))
replies_are_told_whole icv count steps text code = (
  (λ told. (told.replies, told.each, told.caused, told.text_is, told.code_is)),
  (λ parts. record { replies = parts.0; each = parts.1; caused = parts.2; text_is = parts.3; code_is = parts.4 }),
)

-- a trace likewise
pub read_steps_are_traced : (icv : Variables) (found : ℕ × List Step) (text : List ℕ) (code : ℕ) → TraceOf icv (Ok found) text code ↔ TeamTrace icv (is_size found.0) found.0 found.1 text code
read_steps_are_traced icv found text code = ((λ is. is), (λ is. is))

pub bad_steps_of_a_trace_are_told : (icv : Variables) (bad : BadLine) (text : List ℕ) (code : ℕ) → TraceOf icv (Err bad) text code ↔ ((text ≡ bad_line_text bad) × (code ≡ 1))
bad_steps_of_a_trace_are_told icv bad text code = ((λ is. is), (λ is. is))

pub steps_of_a_team_have_their_trace : (icv : Variables) (count : ℕ) (steps : List Step) (text : List ℕ) (code : ℕ) →
    (TeamTrace icv true count steps text code ↔ IsTrace icv count steps text code) × (TeamTrace icv false count steps text code ↔ ((text ≡ refusal_line BadTeam) × (code ≡ 2)))
steps_of_a_team_have_their_trace icv count steps text code = (((λ is. is), (λ is. is)), ((λ is. is), (λ is. is)))

pub trace_is_told_whole : (icv : Variables) (count : ℕ) (steps : List Step) (text : List ℕ) (code : ℕ) →
    IsTrace icv count steps text code ↔ ((events : List TraceEvent) × Ran icv count steps events code × (text ≡ trace_text count events))
trace_is_told_whole icv count steps text code = (
  (λ told. (told.events, told.ran, told.text_is)),
  (λ parts. record { events = parts.0; ran = parts.1; text_is = parts.2 }),
)

-- The words of an executor

-- its member is the executor of a single with words if it is in one, and has its piece
pub executor_is_in_its_single_with_a_piece : (seen : Seen) → is_executor seen ≡ in_kind is_copy seen.current && is_some seen.piece
executor_is_in_its_single_with_a_piece seen = refl

-- it puts them, and no other member does
pub words_are_put_by_their_executor : (seen : Seen) → put_tests seen ≡ (not (is_executor seen), NotInside) ∷ []
words_are_put_by_their_executor seen = refl

-- a share is one of its own kind, and none is of no kind
pub share_is_of_its_own_kind : (is : ShareKind → Bool) (number : ℕ) (shape : Shape) → (in_kind is (Some (number, shape)) ≡ is shape.kind) × (in_kind is None ≡ false)
share_is_of_its_own_kind is number shape = (refl, refl)

pub only_a_single_with_words_has_words : (of : ShareKind) → (is_copy kind.SingleCopy ≡ true) × ((of ≡ kind.SingleCopy → ⊥) → is_copy of ≡ false)
only_a_single_with_words_has_words kind.SingleCopy = (refl, λ other. absurd (other refl))
only_a_single_with_words_has_words _ = (refl, λ other. refl)

-- Operations

-- tasks: they are created or dropped, ended, and awaited
pub creation_is_replied_to : (members m : ℕ) (desc : TaskDesc) (h : List Event) (reply : Reply) → (OpReply members m (op.Create desc) h reply ↔ CreatesOrDrops m h reply) × (OpReply members m op.AwaitOwn h reply ↔ CreatesOrDrops m h reply)
creation_is_replied_to members m desc h reply = (((λ is. is), (λ is. is)), ((λ is. is), (λ is. is)))

pub end_of_a_task_is_replied_to : (members m : ℕ) (leaving : Bool) (h : List Event) (reply : Reply) → OpReply members m (op.EndTask leaving) h reply ↔ EndsTask (executed_task m h) h reply
end_of_a_task_is_replied_to members m leaving h reply = ((λ is. is), (λ is. is))

pub wait_for_children_is_replied_to : (members m : ℕ) (items : List Dep) (h : List Event) (reply : Reply) →
    (OpReply members m (op.Taskwait items) h reply ↔ AwaitsChildren m items h reply) × (OpReply members m (op.AwaitChildren items) h reply ↔ AwaitsChildren m items h reply)
wait_for_children_is_replied_to members m items h reply = (((λ is. is), (λ is. is)), ((λ is. is), (λ is. is)))

pub group_is_replied_to : (members m : ℕ) (h : List Event) (reply : Reply) →
    (OpReply members m op.OpenGroup h reply ↔ (reply ≡ Finished)) × (OpReply members m op.EndGroup h reply ↔ AwaitsGroup m h reply) × (OpReply members m op.AwaitGroup h reply ↔ AwaitsGroup m h reply)
group_is_replied_to members m h reply = (((λ is. is), (λ is. is)), ((λ is. is), (λ is. is)), ((λ is. is), (λ is. is)))

-- barriers: an arrival waits until all have arrived
pub arrival_is_replied_to : (members m : ℕ) (tag : Tag) (leaving : Bool) (h : List Event) (reply : Reply) →
    (OpReply members m (op.Arrive tag leaving) h reply ↔ AwaitsPass members m h reply) × (OpReply members m op.AwaitBarrier h reply ↔ AwaitsPass members m h reply)
arrival_is_replied_to members m tag leaving h reply = (((λ is. is), (λ is. is)), ((λ is. is), (λ is. is)))

pub pass_is_awaited : (members m : ℕ) (h : List Event) (reply : Reply) → AwaitsPass members m h reply ↔ OrIsCancelled (goes_to_the_end m h) (AwaitsTasks m (may_pass members m h) h) reply
pass_is_awaited members m h reply = ((λ is. is), (λ is. is))

-- room and words are done at once, whatever they are
pub room_and_words_are_replied_to : (members m more share : ℕ) (words : List ℕ) (h : List Event) (reply : Reply) →
    (OpReply members m (op.Reserve more) h reply ↔ (reply ≡ Finished)) × (OpReply members m (op.Put share words) h reply ↔ (reply ≡ Finished)) × (OpReply members m (op.Got share words) h reply ↔ (reply ≡ Finished))
room_and_words_are_replied_to members m more share words h reply = (((λ is. is), (λ is. is)), ((λ is. is), (λ is. is)), ((λ is. is), (λ is. is)))

-- a cancel construct is answered by what it names and by its clause, a cancellation point as one whose clause is false
pub cancellation_is_replied_to : (members m : ℕ) (named : TeamCancel) (clause allowed : Bool) (h : List Event) (reply : Reply) →
    (OpReply members m (op.Cancel named clause allowed) h reply ↔ TellsCancelled allowed (named_kind named) clause m h reply) × (OpReply members m (op.Point named allowed) h reply ↔ TellsCancelled allowed (named_kind named) false m h reply)
cancellation_is_replied_to members m named clause allowed h reply = (((λ is. is), (λ is. is)), ((λ is. is), (λ is. is)))

-- a break stops the team, wherever it is
pub break_is_replied_to : (members m back : ℕ) (place : Place) (h : List Event) (reply : Reply) → OpReply members m (op.Break place back) h reply ↔ (reply ≡ Stopped)
break_is_replied_to members m back place h reply = ((λ is. is), (λ is. is))

-- an answer is a refusal of the tests, or that there is no memory where room is asked for
pub refused_operation_is_of_its_tests : (limits : Limits) (room kept members m : ℕ) (asked : Op) (h : List Event) (refusal : Refusal) → (refusal ≡ NoMemory → ⊥) → OpAnswer limits room kept members m asked h (Refused refusal) → op_refusal limits room kept m asked h ≡ Some refusal
refused_operation_is_of_its_tests limits room kept members m asked h NoMemory other is = absurd (other refl)
refused_operation_is_of_its_tests limits room kept members m asked h _ other is = is

pub operation_without_memory_asked_for_room : (limits : Limits) (room kept members m : ℕ) (asked : Op) (h : List Event) →
    (OpAnswer limits room kept members m asked h (Refused NoMemory) ↔ ((op_refusal limits room kept m asked h ≡ None) × IsTrue (op_may_lack asked kept m h))) × (op_may_lack asked kept m h ≡ nat_lt 0 (op_asks asked kept) && not (op_drops asked m h))
operation_without_memory_asked_for_room limits room kept members m asked h = (((λ is. is), (λ is. is)), refl)

-- or its own reply, once no test refuses it
pub other_operation_has_its_reply : (limits : Limits) (room kept members m : ℕ) (asked : Op) (h : List Event) (reply : Reply) → ((refusal : Refusal) → reply ≡ Refused refusal → ⊥) → OpAnswer limits room kept members m asked h reply → (op_refusal limits room kept m asked h ≡ None) × OpReply members m asked (begun m asked h) reply
other_operation_has_its_reply limits room kept members m asked h (Refused refusal) other is = absurd (other refusal refl)
other_operation_has_its_reply limits room kept members m asked h _ other is = is
