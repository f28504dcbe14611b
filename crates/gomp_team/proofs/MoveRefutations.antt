-- What a call and its reply never do to a member's parts, of any call, reply and part.
use Rattle.std.proofs.Common.{ℕ, ◌≡◌, ◌≢◌, ◌+◌, ◌<◌, Bool, true, false, List, [], Option, Some, None, refl, ap, ◌∙◌, arith}
use Rattle.std.specs.Prelude.{nat_lt}
use Rattle.std.proofs.lemmas.Bool.Decides.{nat_tests}
use Rattle.gomp_types.specs.declared.call.Call.{Call}
use Rattle.gomp_types.specs.declared.call.Call.TheVariants as calls
use Rattle.gomp_types.specs.declared.call.Server.{Server}
use Rattle.gomp_types.specs.declared.call.Server.TheVariants.{Shares, Board, Book, Team}
use Rattle.gomp_types.specs.declared.cancel.CancelKind.{CancelKind}
use Rattle.gomp_types.specs.declared.cancel.CancelKind.TheVariants.{Parallel, Loop, Sections, Taskgroup}
use Rattle.gomp_types.specs.declared.depend.Dep.{Dep}
use Rattle.gomp_types.specs.declared.refusal.Refusal.{Refusal}
use Rattle.gomp_types.specs.declared.refusal.Refusal.TheVariants.{Mismatch}
use Rattle.gomp_types.specs.declared.reply.Reply.{Reply}
use Rattle.gomp_types.specs.declared.reply.Reply.TheVariants.{Copied, Finished, Passed, Cancelled, Wait, Created, Dropped, Cancelling, Run, TaskDone, Got, Count, Stopped, Refused}
use Rattle.gomp_types.specs.declared.shape.Shape.{Shape}
use Rattle.gomp_types.specs.declared.task.TaskDesc.{TaskDesc}
use Rattle.gomp_types.specs.Servers.{served_by}
use Rattle.gomp_events.specs.declared.event.Arrival.{Arrival}
use Rattle.gomp_events.specs.declared.event.Tag.{Tag}
use Rattle.gomp_events.specs.Tags.{tag_with}
use Rattle.gomp_board.specs.declared.op.Op.{Op}
use Rattle.gomp_board.specs.declared.op.Op.TheVariants as ops
use Rattle.gomp_board.specs.declared.op.TeamCancel.{TeamCancel}
use Rattle.gomp_dispatch.specs.Serves.{board_op, arrival_op, cancel_op, point_op, team_cancel}
use Rattle.gomp_locks.specs.BookCalls.{BookCall}
use Rattle.gomp_locks.specs.BookCalls.BookCall.{end_critical, unset_lock, unset_nest_lock}
use Rattle.gomp_model.specs.Calls.{row_of}
use Rattle.gomp_team_board.specs.Parts.{PartView, part_after}
use Rattle.gomp_team_book.specs.Parts.{BookPartView}
use Rattle.gomp_team_calls.specs.Starts.{start_part}
use Rattle.gomp_team.specs.Moves.{made_plainly, moved_by_op, moved_by_start, arriving_op, moved_together, moved_by, events_part, book_call, gained_part, lost_part, holds_part, releases_part}
use Rattle.gomp_team.proofs.Again.{waits_move_no_events, waits_move_no_holds, waits_move_no_releases}
use Rattle.gomp_team.proofs.MoveLaws.{refusal_moves_no_events, refusal_moves_no_holds, refusal_moves_no_releases, arrival_moves_the_events, start_moves_the_events, board_moves_the_events, book_moves_no_events, inside_call_moves_no_events, other_calls_move_no_holds, other_calls_move_no_releases, keyless_calls_move_no_holds, keyless_calls_move_no_releases, part_with_none_more, call_keeps_event_parts, call_keeps_hold_parts, call_keeps_release_parts}

-- The field of a part after a call that arrives, by what its arrival or wait makes of it
arrival_counts_by : {X : Type 0} (of : PartView → X) (repeated : Bool) (call : Call) (kind : Arrival) (reply : Reply) (part : PartView) (is : X) → (row_of call).arrives ≡ Some kind
    → of (part_after (arrival_op repeated false (tag_with kind 0)) reply part) ≡ is → of (events_part repeated call reply part) ≡ is
arrival_counts_by of repeated call kind reply part is arrives moved = ap of (arrival_moves_the_events repeated call kind reply part arrives) ∙ moved

-- Barriers

wait_passes_one : (repeated : Bool) (tag : Tag) (part : PartView) → (part_after (arrival_op repeated false tag) Passed part).counts.passes ≡ part.counts.passes + 1
wait_passes_one true tag part = refl
wait_passes_one false tag part = refl

-- who arrives and is answered Passed has passed once more, at once or after a wait
pub never_passed_uncounted : (repeated : Bool) (call : Call) (kind : Arrival) (part : PartView) → (row_of call).arrives ≡ Some kind → (events_part repeated call Passed part).counts.passes ≢ part.counts.passes + 1 → ⊥
never_passed_uncounted repeated call kind part arrives other = other (arrival_counts_by (λ after. after.counts.passes) repeated call kind Passed part _ arrives (wait_passes_one repeated (tag_with kind 0) part))

-- on the ledger stand the arrival and the pass, after a wait the pass alone
pub never_passed_without_its_events : (call : Call) (kind : Arrival) (part : PartView) → (row_of call).arrives ≡ Some kind → (events_part false call Passed part).amount ≢ part.amount + 2 → ⊥
never_passed_without_its_events call kind part arrives other = other (arrival_counts_by (λ after. after.amount) false call kind Passed part _ arrives refl)

pub never_arrived_again : (call : Call) (kind : Arrival) (part : PartView) → (row_of call).arrives ≡ Some kind → (events_part true call Passed part).amount ≢ part.amount + 1 → ⊥
never_arrived_again call kind part arrives other = other (arrival_counts_by (λ after. after.amount) true call kind Passed part _ arrives refl)

-- who has to wait there has arrived, and passed nothing
pub never_arrived_uncounted : (call : Call) (kind : Arrival) (part : PartView) → (row_of call).arrives ≡ Some kind → (events_part false call Wait part).amount ≢ part.amount + 1 → ⊥
never_arrived_uncounted call kind part arrives other = other (arrival_counts_by (λ after. after.amount) false call kind Wait part _ arrives refl)

-- and arrives no second time
pub never_arrived_by_a_further_try : (call : Call) (kind : Arrival) (part : PartView) → (row_of call).arrives ≡ Some kind → events_part true call Wait part ≢ part → ⊥
never_arrived_by_a_further_try call kind part arrives other = other (waits_move_no_events true call part refl)

no_event_if_cancelled : (repeated : Bool) (tag : Tag) (part : PartView) → (part_after (arrival_op repeated false tag) Cancelled part).amount ≡ part.amount
no_event_if_cancelled true tag part = omega arith
no_event_if_cancelled false tag part = omega arith

-- in a cancelled region nobody arrives
pub never_arrived_where_cancelled : (repeated : Bool) (call : Call) (kind : Arrival) (part : PartView) → (row_of call).arrives ≡ Some kind → (events_part repeated call Cancelled part).amount ≢ part.amount → ⊥
never_arrived_where_cancelled repeated call kind part arrives other = other (arrival_counts_by (λ after. after.amount) repeated call kind Cancelled part _ arrives (no_event_if_cancelled repeated (tag_with kind 0) part))

-- who executes a task there starts it
run_starts_one : (op : Op) (task code arg : ℕ) (own : Bool) (part : PartView) → (part_after op (Run task code arg own) part).counts.starts ≡ part.counts.starts + 1
run_starts_one op task code arg own part = refl

pub never_run_uncounted_at_a_barrier : (repeated : Bool) (call : Call) (kind : Arrival) (task code arg : ℕ) (own : Bool) (part : PartView) → (row_of call).arrives ≡ Some kind
    → (events_part repeated call (Run task code arg own) part).counts.starts ≢ part.counts.starts + 1 → ⊥
never_run_uncounted_at_a_barrier repeated call kind task code arg own part arrives other =
    other (arrival_counts_by (λ after. after.counts.starts) repeated call kind (Run task code arg own) part _ arrives (run_starts_one (arrival_op repeated false (tag_with kind 0)) task code arg own part))

-- an arrival that differs breaks the team
pub never_differs_unbroken_at_a_barrier : (repeated : Bool) (call : Call) (kind : Arrival) (part : PartView) → (row_of call).arrives ≡ Some kind → (events_part repeated call (Refused Mismatch) part).amount ≢ part.amount + 1 → ⊥
never_differs_unbroken_at_a_barrier repeated call kind part arrives other = other (arrival_counts_by (λ after. after.amount) repeated call kind (Refused Mismatch) part _ arrives refl)

-- Shares and words

start_counts_by : {X : Type 0} (of : PartView → X) (repeated : Bool) (call : Call) (shape : Shape) (reply : Reply) (part : PartView) (is : X) → (row_of call).starts ≡ Some shape → of (start_part reply part) ≡ is → of (events_part repeated call reply part) ≡ is
start_counts_by of repeated call shape reply part is starts moved = ap of (start_moves_the_events repeated call shape reply part starts) ∙ moved

-- a start that differs breaks the team, at once or after a wait
pub never_differs_unbroken_at_a_start : (repeated : Bool) (call : Call) (shape : Shape) (part : PartView) → (row_of call).starts ≡ Some shape → (events_part repeated call (Refused Mismatch) part).amount ≢ part.amount + 1 → ⊥
never_differs_unbroken_at_a_start repeated call shape part starts other = other (start_counts_by (λ after. after.amount) repeated call shape (Refused Mismatch) part _ starts refl)

-- words that a member is given are one event
pub never_given_words_uncounted : (repeated : Bool) (call : Call) (shape : Shape) (words : List ℕ) (part : PartView) → (row_of call).starts ≡ Some shape → (events_part repeated call (Copied words) part).amount ≢ part.amount + 1 → ⊥
never_given_words_uncounted repeated call shape words part starts other = other (start_counts_by (λ after. after.amount) repeated call shape (Copied words) part _ starts refl)

start_moves_by_words_alone : (reply : Reply) (part : PartView) → ((words : List ℕ) → reply ≢ Copied words) → ((refusal : Refusal) → reply ≢ Refused refusal) → start_part reply part ≡ part
start_moves_by_words_alone (Copied words) part copied refused = absurd (copied words refl)
start_moves_by_words_alone (Refused refusal) part copied refused = absurd (refused refusal refl)
start_moves_by_words_alone _ part copied refused = refl

-- no other reply to a start is an event of the ledger
pub never_moved_by_a_piece : (repeated : Bool) (call : Call) (shape : Shape) (reply : Reply) (part : PartView) → (row_of call).starts ≡ Some shape
    → ((words : List ℕ) → reply ≢ Copied words) → ((refusal : Refusal) → reply ≢ Refused refusal) → events_part repeated call reply part ≢ part → ⊥
never_moved_by_a_piece repeated call shape reply part starts copied refused other = other (start_moves_the_events repeated call shape reply part starts ∙ start_moves_by_words_alone reply part copied refused)

-- nor is one within a share
pub never_moved_inside_a_share : (repeated : Bool) (call : Call) (reply : Reply) (part : PartView) → served_by call ≡ Shares → (row_of call).starts ≡ None → events_part repeated call reply part ≢ part → ⊥
never_moved_inside_a_share repeated call reply part served none other = other (inside_call_moves_no_events repeated call reply part served none)

-- words that an executor puts are one
pub never_put_words_uncounted : (repeated : Bool) (words : List ℕ) (part : PartView) → (events_part repeated (calls.SingleCopyEnd words) Finished part).amount ≢ part.amount + 1 → ⊥
never_put_words_uncounted repeated words part other = other refl

-- a resume with nothing to repeat is none
pub never_moved_by_a_resume : (repeated : Bool) (reply : Reply) (part : PartView) → events_part repeated calls.Resume reply part ≢ part → ⊥
never_moved_by_a_resume repeated reply part other = other refl

-- Tasks and groups

-- a creation that is neither dropped nor refused creates a task, whatever else it is answered
pub never_created_uncounted : (desc : TaskDesc) (reply : Reply) (part : PartView) → reply ≢ Dropped → ((refusal : Refusal) → reply ≢ Refused refusal)
    → (events_part false (calls.TaskCreate desc) reply part).counts.creates ≢ part.counts.creates + 1 → ⊥
never_created_uncounted desc Dropped part kept accepted other = kept refl
never_created_uncounted desc (Refused refusal) part kept accepted other = accepted refusal refl
never_created_uncounted desc _ part kept accepted other = other refl

pub never_created_without_its_event : (desc : TaskDesc) (task : ℕ) (part : PartView) → (events_part false (calls.TaskCreate desc) (Created task) part).amount ≢ part.amount + 1 → ⊥
never_created_without_its_event desc task part other = other refl

-- a dropped task is no event
pub never_dropped_counted : (repeated : Bool) (desc : TaskDesc) (part : PartView) → (events_part repeated (calls.TaskCreate desc) Dropped part).amount ≢ part.amount → ⊥
never_dropped_counted true desc part other = other (omega arith)
never_dropped_counted false desc part other = other (omega arith)

-- who executes a task at once, or at a wait, starts it
pub never_run_uncounted_on_creation : (repeated : Bool) (desc : TaskDesc) (task code arg : ℕ) (own : Bool) (part : PartView) → (events_part repeated (calls.TaskCreate desc) (Run task code arg own) part).counts.starts ≢ part.counts.starts + 1 → ⊥
never_run_uncounted_on_creation repeated desc task code arg own part other = other refl

pub never_run_uncounted_at_a_taskwait : (repeated : Bool) (items : List Dep) (task code arg : ℕ) (own : Bool) (part : PartView) → (events_part repeated (calls.Taskwait items) (Run task code arg own) part).counts.starts ≢ part.counts.starts + 1 → ⊥
never_run_uncounted_at_a_taskwait repeated items task code arg own part other = other refl

pub never_run_uncounted_in_a_group : (repeated : Bool) (task code arg : ℕ) (own : Bool) (part : PartView) → (events_part repeated calls.GroupEnd (Run task code arg own) part).counts.starts ≢ part.counts.starts + 1 → ⊥
never_run_uncounted_in_a_group repeated task code arg own part other = other refl

-- a start at a wait is one event, and the only one
pub never_run_without_its_event : (repeated : Bool) (items : List Dep) (task code arg : ℕ) (own : Bool) (part : PartView) → (events_part repeated (calls.Taskwait items) (Run task code arg own) part).amount ≢ part.amount + 1 → ⊥
never_run_without_its_event true items task code arg own part other = other refl
never_run_without_its_event false items task code arg own part other = other refl

-- the end of a task is one, and so are the start and the end of a group
pub never_ended_uncounted : (repeated : Bool) (task : ℕ) (waiting : Bool) (part : PartView) → (events_part repeated calls.TaskEnd (TaskDone task waiting) part).amount ≢ part.amount + 1 → ⊥
never_ended_uncounted repeated task waiting part other = other refl

pub never_opened_uncounted : (repeated : Bool) (part : PartView) → (events_part repeated calls.GroupStart Finished part).amount ≢ part.amount + 1 → ⊥
never_opened_uncounted repeated part other = other refl

pub never_closed_uncounted : (repeated : Bool) (part : PartView) → (events_part repeated calls.GroupEnd Passed part).amount ≢ part.amount + 1 → ⊥
never_closed_uncounted true part other = other refl
never_closed_uncounted false part other = other refl

-- a taskwait that is over is none
pub never_moved_by_a_taskwait : (repeated : Bool) (items : List Dep) (part : PartView) → (events_part repeated (calls.Taskwait items) Passed part).amount ≢ part.amount → ⊥
never_moved_by_a_taskwait true items part other = other (omega arith)
never_moved_by_a_taskwait false items part other = other (omega arith)

-- Cancellation and the stop

-- a cancellation by a true clause is one event, if the board answers it
pub never_cancelled_uncounted : (repeated : Bool) (kind : CancelKind) (part : PartView) → served_by (calls.Cancel kind true) ≡ Board → (events_part repeated (calls.Cancel kind true) (Cancelling true) part).amount ≢ part.amount + 1 → ⊥
never_cancelled_uncounted repeated Parallel part served other = other refl
never_cancelled_uncounted repeated Taskgroup part served other = other refl
never_cancelled_uncounted repeated Loop part served other = cc
never_cancelled_uncounted repeated Sections part served other = cc

-- a construct that cancels nothing, or whose clause is false, is none
pub never_uncancelled_counted : (repeated clause : Bool) (kind : CancelKind) (part : PartView) → (events_part repeated (calls.Cancel kind clause) (Cancelling false) part).amount ≢ part.amount → ⊥
never_uncancelled_counted repeated true Parallel part other = other (omega arith)
never_uncancelled_counted repeated false Parallel part other = other (omega arith)
never_uncancelled_counted repeated true Taskgroup part other = other (omega arith)
never_uncancelled_counted repeated false Taskgroup part other = other (omega arith)
never_uncancelled_counted repeated clause Loop part other = other refl
never_uncancelled_counted repeated clause Sections part other = other refl

pub never_counted_by_a_false_clause : (repeated told : Bool) (kind : CancelKind) (part : PartView) → (events_part repeated (calls.Cancel kind false) (Cancelling told) part).amount ≢ part.amount → ⊥
never_counted_by_a_false_clause repeated told Parallel part other = other (omega arith)
never_counted_by_a_false_clause repeated told Taskgroup part other = other (omega arith)
never_counted_by_a_false_clause repeated told Loop part other = other refl
never_counted_by_a_false_clause repeated told Sections part other = other refl

-- nor is a cancellation point
pub never_counted_by_a_point : (repeated told : Bool) (kind : CancelKind) (part : PartView) → (events_part repeated (calls.Point kind) (Cancelling told) part).amount ≢ part.amount → ⊥
never_counted_by_a_point repeated told Parallel part other = other (omega arith)
never_counted_by_a_point repeated told Taskgroup part other = other (omega arith)
never_counted_by_a_point repeated told Loop part other = other refl
never_counted_by_a_point repeated told Sections part other = other refl

-- a stop is one
pub never_stopped_uncounted : (repeated : Bool) (part : PartView) → (events_part repeated calls.Stop Stopped part).amount ≢ part.amount + 1 → ⊥
never_stopped_uncounted repeated part other = other refl

-- Refusals and parts

pub never_moved_by_another_refusal : (repeated : Bool) (call : Call) (refusal : Refusal) (part : PartView) → refusal ≢ Mismatch → events_part repeated call (Refused refusal) part ≢ part → ⊥
never_moved_by_another_refusal repeated call refusal part differs other = other (refusal_moves_no_events repeated call refusal part differs)

pub never_another_number_of_parts : (repeated : Bool) (call : Call) (reply : Reply) (part : PartView) → (events_part repeated call reply part).parts ≢ part.parts → ⊥
never_another_number_of_parts repeated call reply part other = other (call_keeps_event_parts repeated call reply part)

pub never_another_number_of_hold_parts : (repeated : Bool) (call : Call) (reply : Reply) (part : BookPartView) → (holds_part repeated call reply part).parts ≢ part.parts → ⊥
never_another_number_of_hold_parts repeated call reply part other = other (call_keeps_hold_parts repeated call reply part)

pub never_another_number_of_release_parts : (repeated : Bool) (call : Call) (reply : Reply) (part : BookPartView) → (releases_part repeated call reply part).parts ≢ part.parts → ⊥
never_another_number_of_release_parts repeated call reply part other = other (call_keeps_release_parts repeated call reply part)

-- Which reply counts what

-- an operation that is no arrival and no creation, as far as its kind is asked
abbrev CreatesNone : Op → Type 0
CreatesNone (ops.Create desc) = ⊥
CreatesNone op = Unit {0}

abbrev CreatesNoneIfAny : Option Op → Type 0
CreatesNoneIfAny None = Unit {0}
CreatesNoneIfAny (Some op) = CreatesNone op

abbrev PassesNone : Op → Type 0
PassesNone (ops.Arrive tag leaving) = ⊥
PassesNone ops.AwaitBarrier = ⊥
PassesNone op = Unit {0}

abbrev PassesNoneIfAny : Option Op → Type 0
PassesNoneIfAny None = Unit {0}
PassesNoneIfAny (Some op) = PassesNone op

creates_stay : (op : Op) (reply : Reply) (part : PartView) → CreatesNone op → (part_after op reply part).counts.creates ≡ part.counts.creates
creates_stay (ops.Create desc) reply part none = absurd none
creates_stay _ reply part none = omega arith

creates_stay_if_any : (op : Option Op) (reply : Reply) (part : PartView) → CreatesNoneIfAny op → (moved_by_op op reply part).counts.creates ≡ part.counts.creates
creates_stay_if_any None reply part none = refl
creates_stay_if_any (Some op) reply part none = creates_stay op reply part none

passes_stay : (op : Op) (reply : Reply) (part : PartView) → PassesNone op → (part_after op reply part).counts.passes ≡ part.counts.passes
passes_stay (ops.Arrive tag leaving) reply part none = absurd none
passes_stay ops.AwaitBarrier reply part none = absurd none
passes_stay _ reply part none = omega arith

passes_stay_if_any : (op : Option Op) (reply : Reply) (part : PartView) → PassesNoneIfAny op → (moved_by_op op reply part).counts.passes ≡ part.counts.passes
passes_stay_if_any None reply part none = refl
passes_stay_if_any (Some op) reply part none = passes_stay op reply part none

refused_start_keeps_counts : (refusal : Refusal) (part : PartView) → (start_part (Refused refusal) part).counts ≡ part.counts
refused_start_keeps_counts Mismatch part = refl
refused_start_keeps_counts _ part = refl

start_keeps_creates : (starts : Option Shape) (reply : Reply) (part : PartView) → (moved_by_start starts reply part).counts.creates ≡ part.counts.creates
start_keeps_creates None reply part = refl
start_keeps_creates (Some shape) (Copied words) part = omega arith
start_keeps_creates (Some shape) (Refused refusal) part = ap (λ counts. counts.creates) (refused_start_keeps_counts refusal part)
start_keeps_creates (Some shape) _ part = refl

start_keeps_passes : (starts : Option Shape) (reply : Reply) (part : PartView) → (moved_by_start starts reply part).counts.passes ≡ part.counts.passes
start_keeps_passes None reply part = refl
start_keeps_passes (Some shape) (Copied words) part = omega arith
start_keeps_passes (Some shape) (Refused refusal) part = ap (λ counts. counts.passes) (refused_start_keeps_counts refusal part)
start_keeps_passes (Some shape) _ part = refl

together_keeps_creates : (repeated : Bool) (arrives : Option Arrival) (puts : Bool) (starts : Option Shape) (reply : Reply) (part : PartView)
    → (moved_together (arriving_op repeated arrives) puts starts reply part).counts.creates ≡ part.counts.creates
together_keeps_creates true (Some kind) puts starts reply part = creates_stay ops.AwaitBarrier reply part tt
together_keeps_creates false (Some kind) puts starts reply part = creates_stay (ops.Arrive (tag_with kind 0) false) reply part tt
together_keeps_creates repeated None true starts reply part = creates_stay (ops.Put 0 []) reply part tt
together_keeps_creates repeated None false starts reply part = start_keeps_creates starts reply part

together_keeps_passes : (repeated puts : Bool) (starts : Option Shape) (reply : Reply) (part : PartView) → (moved_together (arriving_op repeated None) puts starts reply part).counts.passes ≡ part.counts.passes
together_keeps_passes repeated true starts reply part = passes_stay (ops.Put 0 []) reply part tt
together_keeps_passes repeated false starts reply part = start_keeps_passes starts reply part

cancel_creates_none : (clause : Bool) (named : Option TeamCancel) → CreatesNoneIfAny (cancel_op true clause named)
cancel_creates_none clause None = tt
cancel_creates_none clause (Some named) = tt

point_creates_none : (named : Option TeamCancel) → CreatesNoneIfAny (point_op true named)
point_creates_none None = tt
point_creates_none (Some named) = tt

cancel_passes_none : (clause : Bool) (named : Option TeamCancel) → PassesNoneIfAny (cancel_op true clause named)
cancel_passes_none clause None = tt
cancel_passes_none clause (Some named) = tt

point_passes_none : (named : Option TeamCancel) → PassesNoneIfAny (point_op true named)
point_passes_none None = tt
point_passes_none (Some named) = tt

further_try_creates_none : (call : Call) → CreatesNoneIfAny (board_op (made_plainly true) call)
further_try_creates_none (calls.Cancel kind clause) = cancel_creates_none clause (team_cancel kind)
further_try_creates_none (calls.Point kind) = point_creates_none (team_cancel kind)
further_try_creates_none _ = tt

other_call_creates_none : (call : Call) → ((desc : TaskDesc) → call ≢ calls.TaskCreate desc) → CreatesNoneIfAny (board_op (made_plainly false) call)
other_call_creates_none (calls.TaskCreate desc) other = absurd (other desc refl)
other_call_creates_none (calls.Cancel kind clause) other = cancel_creates_none clause (team_cancel kind)
other_call_creates_none (calls.Point kind) other = point_creates_none (team_cancel kind)
other_call_creates_none _ other = tt

board_passes_none : (repeated : Bool) (call : Call) → PassesNoneIfAny (board_op (made_plainly repeated) call)
board_passes_none repeated (calls.Cancel kind clause) = cancel_passes_none clause (team_cancel kind)
board_passes_none repeated (calls.Point kind) = point_passes_none (team_cancel kind)
board_passes_none true _ = tt
board_passes_none false _ = tt

server_creates_none : (server : Server) (repeated : Bool) (call : Call) (reply : Reply) (part : PartView) → CreatesNoneIfAny (board_op (made_plainly repeated) call)
    → (moved_by server repeated call reply part).counts.creates ≡ part.counts.creates
server_creates_none Book repeated call reply part none = refl
server_creates_none Board repeated call reply part none = creates_stay_if_any (board_op (made_plainly repeated) call) reply part none
server_creates_none Shares repeated call reply part none = start_keeps_creates (row_of call).starts reply part
server_creates_none Team repeated call reply part none = together_keeps_creates repeated (row_of call).arrives (row_of call).puts (row_of call).starts reply part

server_passes_none : (server : Server) (repeated : Bool) (call : Call) (reply : Reply) (part : PartView) → (row_of call).arrives ≡ None → (moved_by server repeated call reply part).counts.passes ≡ part.counts.passes
server_passes_none Book repeated call reply part none = refl
server_passes_none Board repeated call reply part none = passes_stay_if_any (board_op (made_plainly repeated) call) reply part (board_passes_none repeated call)
server_passes_none Shares repeated call reply part none = start_keeps_passes (row_of call).starts reply part
server_passes_none Team repeated call reply part none = rw none (together_keeps_passes repeated (row_of call).puts (row_of call).starts reply part)

-- no other call than a creation creates a task, whatever it is answered,
pub never_created_by_another_call : (call : Call) (reply : Reply) (part : PartView) → ((desc : TaskDesc) → call ≢ calls.TaskCreate desc) → (events_part false call reply part).counts.creates ≢ part.counts.creates → ⊥
never_created_by_another_call call reply part differs other = other (server_creates_none (served_by call) false call reply part (other_call_creates_none call differs))

-- nor does a further try
pub never_created_by_a_further_try : (call : Call) (reply : Reply) (part : PartView) → (events_part true call reply part).counts.creates ≢ part.counts.creates → ⊥
never_created_by_a_further_try call reply part other = other (server_creates_none (served_by call) true call reply part (further_try_creates_none call))

-- no call that arrives nowhere passes a barrier
pub never_passed_by_another_call : (repeated : Bool) (call : Call) (reply : Reply) (part : PartView) → (row_of call).arrives ≡ None → (events_part repeated call reply part).counts.passes ≢ part.counts.passes → ⊥
never_passed_by_another_call repeated call reply part none other = other (server_passes_none (served_by call) repeated call reply part none)

-- no other reply than Run starts a task
abbrev RunsNone : Reply → Type 0
RunsNone (Run task code arg own) = ⊥
RunsNone reply = Unit {0}

op_starts_none : (op : Op) (reply : Reply) (part : PartView) → RunsNone reply → (part_after op reply part).counts.starts ≡ part.counts.starts
op_starts_none op (Run task code arg own) part none = absurd none
op_starts_none op _ part none = omega arith

op_if_any_starts_none : (op : Option Op) (reply : Reply) (part : PartView) → RunsNone reply → (moved_by_op op reply part).counts.starts ≡ part.counts.starts
op_if_any_starts_none None reply part none = refl
op_if_any_starts_none (Some op) reply part none = op_starts_none op reply part none

share_starts_no_task : (starts : Option Shape) (reply : Reply) (part : PartView) → (moved_by_start starts reply part).counts.starts ≡ part.counts.starts
share_starts_no_task None reply part = refl
share_starts_no_task (Some shape) (Copied words) part = omega arith
share_starts_no_task (Some shape) (Refused refusal) part = ap (λ counts. counts.starts) (refused_start_keeps_counts refusal part)
share_starts_no_task (Some shape) _ part = refl

together_starts_none : (arrival : Option Op) (puts : Bool) (starts : Option Shape) (reply : Reply) (part : PartView) → RunsNone reply → (moved_together arrival puts starts reply part).counts.starts ≡ part.counts.starts
together_starts_none (Some op) puts starts reply part none = op_starts_none op reply part none
together_starts_none None true starts reply part none = op_starts_none (ops.Put 0 []) reply part none
together_starts_none None false starts reply part none = share_starts_no_task starts reply part

server_starts_none : (server : Server) (repeated : Bool) (call : Call) (reply : Reply) (part : PartView) → RunsNone reply → (moved_by server repeated call reply part).counts.starts ≡ part.counts.starts
server_starts_none Book repeated call reply part none = refl
server_starts_none Board repeated call reply part none = op_if_any_starts_none (board_op (made_plainly repeated) call) reply part none
server_starts_none Shares repeated call reply part none = share_starts_no_task (row_of call).starts reply part
server_starts_none Team repeated call reply part none = together_starts_none (arriving_op repeated (row_of call).arrives) (row_of call).puts (row_of call).starts reply part none

runs_none_otherwise : (reply : Reply) → ((task code arg : ℕ) (own : Bool) → reply ≢ Run task code arg own) → RunsNone reply
runs_none_otherwise (Run task code arg own) differs = absurd (differs task code arg own refl)
runs_none_otherwise _ differs = tt

pub never_started_by_another_reply : (repeated : Bool) (call : Call) (reply : Reply) (part : PartView) → ((task code arg : ℕ) (own : Bool) → reply ≢ Run task code arg own)
    → (events_part repeated call reply part).counts.starts ≢ part.counts.starts → ⊥
never_started_by_another_reply repeated call reply part differs other = other (server_starts_none (served_by call) repeated call reply part (runs_none_otherwise reply differs))

-- Names and locks

-- no call on them is an event of the team
pub never_moved_by_a_key : (repeated : Bool) (call : Call) (reply : Reply) (part : PartView) → served_by call ≡ Book → events_part repeated call reply part ≢ part → ⊥
never_moved_by_a_key repeated call reply part served other = other (book_moves_no_events repeated call reply part served)

-- and no other call holds or frees one
pub never_held_by_another_call : (repeated : Bool) (call : Call) (reply : Reply) (part : BookPartView) → served_by call ≢ Book → holds_part repeated call reply part ≢ part → ⊥
never_held_by_another_call repeated call reply part served other = other (other_calls_move_no_holds repeated call reply part served)

pub never_freed_by_another_call : (repeated : Bool) (call : Call) (reply : Reply) (part : BookPartView) → served_by call ≢ Book → releases_part repeated call reply part ≢ part → ⊥
never_freed_by_another_call repeated call reply part served other = other (other_calls_move_no_releases repeated call reply part served)

-- nor does the making or the destroying of a lock
pub never_held_without_a_key : (repeated : Bool) (call : Call) (reply : Reply) (part : BookPartView) → (row_of call).holds ≡ None → holds_part repeated call reply part ≢ part → ⊥
never_held_without_a_key repeated call reply part none other = other (keyless_calls_move_no_holds repeated call reply part none)

pub never_freed_without_a_key : (repeated : Bool) (call : Call) (reply : Reply) (part : BookPartView) → (row_of call).holds ≡ None → releases_part repeated call reply part ≢ part → ⊥
never_freed_without_a_key repeated call reply part none other = other (keyless_calls_move_no_releases repeated call reply part none)

-- a name that is entered is held, and a lock that is set, at once or after a wait
pub never_entered_unheld : (repeated : Bool) (name : List ℕ) (part : BookPartView) → (holds_part repeated (calls.CriticalStart name) Finished part).amount ≢ part.amount + 1 → ⊥
never_entered_unheld true name part other = other refl
never_entered_unheld false name part other = other refl

pub never_set_unheld : (repeated : Bool) (number : ℕ) (part : BookPartView) → (holds_part repeated (calls.Set number) Finished part).amount ≢ part.amount + 1 → ⊥
never_set_unheld true number part other = other refl
never_set_unheld false number part other = other refl

pub never_set_unheld_once_more : (repeated : Bool) (number count : ℕ) (part : BookPartView) → (holds_part repeated (calls.SetNest number) (Count count) part).amount ≢ part.amount + 1 → ⊥
never_set_unheld_once_more true number count part other = other refl
never_set_unheld_once_more false number count part other = other refl

-- a test holds its lock if it is answered yes, and not if it is answered no
pub never_tested_unheld : (repeated : Bool) (number : ℕ) (part : BookPartView) → (holds_part repeated (calls.Test number) (Got true) part).amount ≢ part.amount + 1 → ⊥
never_tested_unheld true number part other = other refl
never_tested_unheld false number part other = other refl

pub never_held_by_a_test_that_fails : (repeated : Bool) (number : ℕ) (part : BookPartView) → holds_part repeated (calls.Test number) (Got false) part ≢ part → ⊥
never_held_by_a_test_that_fails true number part other = other (part_with_none_more 0 part refl)
never_held_by_a_test_that_fails false number part other = other (part_with_none_more 0 part refl)

-- one of a nestable lock by a count other than 0
pub never_tested_unheld_once_more : (repeated : Bool) (number count : ℕ) (part : BookPartView) → 0 < count → (holds_part repeated (calls.TestNest number) (Count count) part).amount ≢ part.amount + 1 → ⊥
never_tested_unheld_once_more true number count part some other = let set : nat_lt 0 count ≡ true = grind (arith, nat_tests, some) in other (rw set refl)
never_tested_unheld_once_more false number count part some other = let set : nat_lt 0 count ≡ true = grind (arith, nat_tests, some) in other (rw set refl)

pub never_held_by_a_count_of_none : (repeated : Bool) (number : ℕ) (part : BookPartView) → holds_part repeated (calls.TestNest number) (Count 0) part ≢ part → ⊥
never_held_by_a_count_of_none true number part other = other (part_with_none_more 0 part refl)
never_held_by_a_count_of_none false number part other = other (part_with_none_more 0 part refl)

-- who leaves a name or unsets a lock frees it once
pub never_left_unfreed : (repeated : Bool) (name : List ℕ) (part : BookPartView) → (releases_part repeated (calls.CriticalEnd name) Finished part).amount ≢ part.amount + 1 → ⊥
never_left_unfreed true name part other = other refl
never_left_unfreed false name part other = other refl

pub never_unset_unfreed : (repeated : Bool) (number : ℕ) (part : BookPartView) → (releases_part repeated (calls.Unset number) Finished part).amount ≢ part.amount + 1 → ⊥
never_unset_unfreed true number part other = other refl
never_unset_unfreed false number part other = other refl

pub never_unset_unfreed_once_more : (repeated : Bool) (number count : ℕ) (part : BookPartView) → (releases_part repeated (calls.UnsetNest number) (Count count) part).amount ≢ part.amount + 1 → ⊥
never_unset_unfreed_once_more true number count part other = other refl
never_unset_unfreed_once_more false number count part other = other refl

-- no refusal and no wait holds or frees
pub never_held_by_a_refusal : (repeated : Bool) (call : Call) (refusal : Refusal) (part : BookPartView) → holds_part repeated call (Refused refusal) part ≢ part → ⊥
never_held_by_a_refusal repeated call refusal part other = other (refusal_moves_no_holds repeated call refusal part)

pub never_freed_by_a_refusal : (repeated : Bool) (call : Call) (refusal : Refusal) (part : BookPartView) → releases_part repeated call (Refused refusal) part ≢ part → ⊥
never_freed_by_a_refusal repeated call refusal part other = other (refusal_moves_no_releases repeated call refusal part)

pub never_held_by_a_wait : (repeated : Bool) (call : Call) (part : BookPartView) → holds_part repeated call Wait part ≢ part → ⊥
never_held_by_a_wait repeated call part other = other (waits_move_no_holds repeated call part)

pub never_freed_by_a_wait : (repeated : Bool) (call : Call) (part : BookPartView) → releases_part repeated call Wait part ≢ part → ⊥
never_freed_by_a_wait repeated call part other = other (waits_move_no_releases repeated call part)

-- no call holds and frees at once
holds_or_frees : (asked : Option BookCall) (reply : Reply) (held freed : BookPartView) → gained_part asked reply held ≢ held → lost_part asked reply freed ≢ freed → ⊥
holds_or_frees None reply held freed holds frees = frees refl
holds_or_frees (Some (end_critical name)) reply held freed holds frees = holds (part_with_none_more 0 held refl)
holds_or_frees (Some (unset_lock number)) reply held freed holds frees = holds (part_with_none_more 0 held refl)
holds_or_frees (Some (unset_nest_lock number)) reply held freed holds frees = holds (part_with_none_more 0 held refl)
holds_or_frees (Some _) reply held freed holds frees = frees (part_with_none_more 0 freed refl)

pub never_held_and_freed_at_once : (repeated : Bool) (call : Call) (reply : Reply) (held freed : BookPartView) → holds_part repeated call reply held ≢ held → releases_part repeated call reply freed ≢ freed → ⊥
never_held_and_freed_at_once repeated call reply held freed holds frees = holds_or_frees (book_call repeated call) reply held freed holds frees

-- a call that the board answers alone moves the part as its operation does
pub never_moved_otherwise_than_its_op : (repeated : Bool) (call : Call) (op : Op) (reply : Reply) (part : PartView) → served_by call ≡ Board → board_op (made_plainly repeated) call ≡ Some op
    → events_part repeated call reply part ≢ part_after op reply part → ⊥
never_moved_otherwise_than_its_op repeated call op reply part served asks differs = differs (board_moves_the_events repeated call op reply part served asks)
