-- A further try of a call that waits moves no part, if it is answered to wait; one of a resume that has nothing to repeat is answered as the first.
use Rattle.std.proofs.Common.{ℕ, ◌≡◌, ◌+◌, Bool, true, false, [], Option, Some, None, inr, refl, subst, sym, arith}
use Rattle.std.specs.Prelude.{◌||◌}
use Rattle.gomp_types.specs.declared.call.Call.{Call}
use Rattle.gomp_types.specs.declared.call.Call.TheVariants as calls
use Rattle.gomp_types.specs.declared.call.Server.{Server}
use Rattle.gomp_types.specs.declared.call.Server.TheVariants.{Shares, Board, Book, Team}
use Rattle.gomp_types.specs.declared.reply.Reply.{Reply}
use Rattle.gomp_types.specs.declared.reply.Reply.TheVariants.{Wait}
use Rattle.gomp_types.specs.declared.shape.Shape.{Shape}
use Rattle.gomp_types.specs.Resumes.{call_meant, is_resume}
use Rattle.gomp_types.specs.Servers.{served_by}
use Rattle.gomp_events.specs.declared.event.Arrival.{Arrival}
use Rattle.gomp_board.specs.declared.op.Op.{Op}
use Rattle.gomp_board.specs.declared.op.Op.TheVariants as ops
use Rattle.gomp_board.specs.declared.op.TeamCancel.{TeamCancel}
use Rattle.gomp_dispatch.specs.Serves.{board_op, cancel_op, point_op, team_cancel}
use Rattle.gomp_locks.specs.BookCalls.{BookCall, holds_gained, holds_lost}
use Rattle.gomp_locks.specs.BookCalls.BookCall.{start_critical}
use Rattle.gomp_model.specs.Calls.{row_of}
use Rattle.gomp_team_board.specs.Parts.{PartView, part_of, part_after}
use Rattle.gomp_team_book.specs.Parts.{BookPartView, counted_more}
use Rattle.gomp_member.specs.Own.{OwnView, own_meant}
use Rattle.gomp_ring.specs.RingSeats.{SeatView}
use Rattle.gomp_team.specs.Answers.{AnswersWithRoom, TeamAnswers}
use Rattle.gomp_team.proofs.AnswerLaws.{resume_repeats_nothing}
use Rattle.gomp_team.specs.Moves.{made_plainly, moved_by_op, moved_by_start, arriving_op, moved_together, moved_by, events_part, book_call, gained_part, lost_part, holds_part, releases_part}

-- The part of the team's events

-- an operation that gives no event if it is answered to wait: a creation and an arrival do
abbrev IsQuiet : Op → Type 0
IsQuiet (ops.Create desc) = ⊥
IsQuiet (ops.Arrive tag leaving) = ⊥
IsQuiet op = Unit {0}

abbrev QuietIfAny : Option Op → Type 0
QuietIfAny None = Unit {0}
QuietIfAny (Some op) = IsQuiet op

part_as_it_was : (amount creates passes starts : ℕ) (part : PartView) → amount ≡ part.amount → creates ≡ part.counts.creates → passes ≡ part.counts.passes → starts ≡ part.counts.starts
    → part_of part.parts amount (record { creates = creates; passes = passes; starts = starts }) ≡ part
part_as_it_was amount creates passes starts part one two three four = rw (one, two, three, four) refl

quiet_op_on_wait : (op : Op) (part : PartView) → IsQuiet op → part_after op Wait part ≡ part
quiet_op_on_wait (ops.Create desc) part quiet = absurd quiet
quiet_op_on_wait (ops.Arrive tag leaving) part quiet = absurd quiet
quiet_op_on_wait (ops.Cancel named true allowed) part quiet = part_as_it_was _ _ _ _ part (omega arith) (omega arith) (omega arith) (omega arith)
quiet_op_on_wait (ops.Cancel named false allowed) part quiet = part_as_it_was _ _ _ _ part (omega arith) (omega arith) (omega arith) (omega arith)
quiet_op_on_wait _ part quiet = part_as_it_was _ _ _ _ part (omega arith) (omega arith) (omega arith) (omega arith)

quiet_if_any_on_wait : (op : Option Op) (part : PartView) → QuietIfAny op → moved_by_op op Wait part ≡ part
quiet_if_any_on_wait None part quiet = refl
quiet_if_any_on_wait (Some op) part quiet = quiet_op_on_wait op part quiet

cancels_quietly : (clause : Bool) (named : Option TeamCancel) → QuietIfAny (cancel_op true clause named)
cancels_quietly clause None = tt
cancels_quietly clause (Some named) = tt

points_quietly : (named : Option TeamCancel) → QuietIfAny (point_op true named)
points_quietly None = tt
points_quietly (Some named) = tt

repeated_quietly : (call : Call) → QuietIfAny (board_op (made_plainly true) call)
repeated_quietly (calls.Cancel kind clause) = cancels_quietly clause (team_cancel kind)
repeated_quietly (calls.Point kind) = points_quietly (team_cancel kind)
repeated_quietly call = tt

start_on_wait : (starts : Option Shape) (part : PartView) → moved_by_start starts Wait part ≡ part
start_on_wait None part = refl
start_on_wait (Some shape) part = refl

together_on_wait : (arrives : Option Arrival) (puts : Bool) (starts : Option Shape) (part : PartView) → moved_together (arriving_op true arrives) puts starts Wait part ≡ part
together_on_wait (Some kind) puts starts part = quiet_op_on_wait ops.AwaitBarrier part tt
together_on_wait None true starts part = quiet_op_on_wait (ops.Put 0 []) part tt
together_on_wait None false starts part = start_on_wait starts part

served_on_wait : (server : Server) (call : Call) (part : PartView) → moved_by server true call Wait part ≡ part
served_on_wait Book call part = refl
served_on_wait Board call part = quiet_if_any_on_wait (board_op (made_plainly true) call) part (repeated_quietly call)
served_on_wait Shares call part = start_on_wait (row_of call).starts part
served_on_wait Team call part = together_on_wait (row_of call).arrives (row_of call).puts (row_of call).starts part

resume_on_wait : (repeated : Bool) (call : Call) (part : PartView) → is_resume call ≡ true → events_part repeated call Wait part ≡ part
resume_on_wait repeated calls.Resume part is = refl
resume_on_wait repeated call part is = absurd (cc)

-- a call that is repeated, or a resume, moves no part of the events by a wait
pub waits_move_no_events : (repeated : Bool) (call : Call) (part : PartView) → (repeated || is_resume call) ≡ true → events_part repeated call Wait part ≡ part
waits_move_no_events true call part again = served_on_wait (served_by call) call part
waits_move_no_events false call part again = resume_on_wait false call part again

-- The parts of holds and of releases

gains_none_on_wait : (call : BookCall) → holds_gained call Wait ≡ 0
gains_none_on_wait (start_critical name) = refl
gains_none_on_wait _ = refl

loses_none_on_wait : (call : BookCall) → holds_lost call Wait ≡ 0
loses_none_on_wait (start_critical name) = refl
loses_none_on_wait _ = refl

book_part_as_it_was : (more : ℕ) (part : BookPartView) → more ≡ 0 → counted_more more part ≡ part
book_part_as_it_was more part none =
    let same : part.amount + more ≡ part.amount = omega arith in
    rw same refl

gained_on_wait : (call : Option BookCall) (part : BookPartView) → gained_part call Wait part ≡ part
gained_on_wait None part = refl
gained_on_wait (Some call) part = book_part_as_it_was _ part (gains_none_on_wait call)

lost_on_wait : (call : Option BookCall) (part : BookPartView) → lost_part call Wait part ≡ part
lost_on_wait None part = refl
lost_on_wait (Some call) part = book_part_as_it_was _ part (loses_none_on_wait call)

-- nor of holds, nor of releases
pub waits_move_no_holds : (repeated : Bool) (call : Call) (part : BookPartView) → holds_part repeated call Wait part ≡ part
waits_move_no_holds repeated call part = gained_on_wait (book_call repeated call) part

pub waits_move_no_releases : (repeated : Bool) (call : Call) (part : BookPartView) → releases_part repeated call Wait part ≡ part
waits_move_no_releases repeated call part = lost_on_wait (book_call repeated call) part

-- a resume that has nothing to repeat is answered as one that is made
pub nothing_answered_again : (allowed : Bool) (own : OwnView) (seat : SeatView) (reply : Reply) → own.waits.open_call ≡ None → TeamAnswers allowed false own calls.Resume seat reply → AnswersWithRoom true allowed true own (own_meant own calls.Resume) seat reply
nothing_answered_again allowed own seat reply none answered =
    subst (λ (waiting : Option Call). AnswersWithRoom true allowed true own (call_meant calls.Resume waiting) seat reply) (sym none) (inr (resume_repeats_nothing allowed own seat seat reply answered))
