-- What the rows of the calls of cancellation say, and what the row of every call says of cancellation, of members that leave and of the room that it keeps.
use Rattle.std.proofs.Common.{◌≡◌, true, false, List, [], ◌∷◌, Some, None, refl}
use Rattle.std.specs.Prelude.{Bool, Option, pos, map, ◌++◌}
use Rattle.gomp_types.specs.declared.call.Call.{Call}
use Rattle.gomp_types.specs.declared.call.Call.TheVariants.{LoopNext, LoopEnd, LoopEndCancel, SectionsStart, SectionsNext, SectionsEnd, SectionsEndCancel, OrderedStart, Barrier, RegionEnd, TaskCreate, TaskEnd, GroupStart, Cancel, Point}
use Rattle.gomp_types.specs.declared.cancel.CancelKind.{CancelKind}
use Rattle.gomp_types.specs.declared.cancel.CancelKind.TheVariants.{Parallel, Loop, Sections, Taskgroup}
use Rattle.gomp_types.specs.declared.cancel.Scope.TheVariants.{Region, OneShare, OneGroup}
use Rattle.gomp_types.specs.declared.loop_desc.EndKind.TheVariants.{Cancellable}
use Rattle.gomp_types.specs.declared.refusal.Refusal.TheVariants.{TraceFull}
use Rattle.gomp_types.specs.declared.reply.Reply.{Reply}
use Rattle.gomp_types.specs.declared.reply.Reply.TheVariants.{Finished, Passed, Cancelled, Wait, Created, Run as RunTask, Dropped, Cancelling, Refused}
use Rattle.gomp_types.specs.declared.shape.Shape.{Shape}
use Rattle.gomp_types.specs.declared.task.Task.TheVariants.{Implicit, Explicit}
use Rattle.gomp_types.specs.declared.refusal.Place.TheVariants.{Barrier as AtBarrier}
use Rattle.gomp_events.specs.declared.event.Arrival.TheVariants.{ShareEnd, RegionEnd as RegionEndArrival}
use Rattle.gomp_events.specs.declared.event.Event.{Event}
use Rattle.gomp_events.specs.declared.event.Event.TheVariants.{Enter, Take, Drained, End, Arrive, Pass, Create, Start, Group, Cancel as CancelEvent, Discard, See}
use Rattle.gomp_types.specs.ExampleShapes.{four}
use Rattle.gomp_events.specs.EventLists.{at}
use Rattle.gomp_types.specs.Sections.{sections_shape}
use Rattle.gomp_events.specs.TaskExamples.{one_job, other_job, at_once}
use Rattle.gomp_model.specs.Starts.{end_room}
use Rattle.gomp_model.specs.Tasks.{is_dropped}
use Rattle.gomp_model.specs.Calls.{row_of}
use Rattle.gomp_model.specs.Examples.{past_with, dynamic_loop, lock_answers, share_answers, task_answers, all_refusals}
use Rattle.gomp_model.proofs.RowExamples.{starts, ends, arrivals, in_team, in_book, others, flags, takers, keys, kinds, three_locks}
use Rattle.gomp_model.proofs.TaskRowExamples.{on_tasks, creations, rooms}

-- the cancel constructs with a true clause, those with a false one, and the cancellation points
abbrev pub cancels_of : Bool → List Call
cancels_of clause = Cancel Parallel clause ∷ Cancel Loop clause ∷ Cancel Sections clause ∷ Cancel Taskgroup clause ∷ []

abbrev pub points : List Call
points = Point Parallel ∷ Point Loop ∷ Point Sections ∷ Point Taskgroup ∷ []

abbrev pub on_cancellation : List Call
on_cancellation = cancels_of true ++ (cancels_of false ++ points)

-- the ends of a loop and of sections that may be cancelled
abbrev pub cancel_ends : List Call
cancel_ends = LoopEndCancel ∷ SectionsEndCancel ∷ []

-- all calls without those on cancellation
abbrev pub on_no_cancellation : List Call
on_no_cancellation = in_team ++ (in_book ++ (on_tasks ++ others))

-- Events before

-- a loop of four iterations that may be cancelled
abbrev pub cancellable_four : Shape
cancellable_four = record (four false) { end_kind = Cancellable }

-- the region is cancelled, and the first member has not seen that
abbrev pub region_unseen : List Event
region_unseen = CancelEvent 1 Region ∷ []

-- it has
abbrev pub leaves_the_region : List Event
leaves_the_region = CancelEvent 1 Region ∷ See 0 Parallel ∷ []

-- it is in a cancelled loop, and has not seen that
abbrev pub loop_unseen : List Event
loop_unseen = Enter 0 0 cancellable_four ∷ Take 0 0 0 2 ∷ CancelEvent 1 (OneShare 0) ∷ []

-- it has
abbrev pub leaves_the_loop : List Event
leaves_the_loop = loop_unseen ++ See 0 Loop ∷ []

-- a group in which it executes a task is cancelled
abbrev pub task_unseen : List Event
task_unseen = Group 0 0 ∷ Create 1 0 (Implicit 0) one_job ∷ Start 1 0 ∷ CancelEvent 0 (OneGroup 0) ∷ []

-- and it has seen that
abbrev pub leaves_the_task : List Event
leaves_the_task = task_unseen ++ See 0 Taskgroup ∷ []

-- these in turn
abbrev all_of_these : List (List Event)
all_of_these = [] ∷ region_unseen ∷ leaves_the_region ∷ loop_unseen ∷ leaves_the_loop ∷ task_unseen ∷ leaves_the_task ∷ []

-- Room that is kept

-- which of these replies have these calls keep the room that they asked for
abbrev kept : List Reply → List Call → List (List Bool)
kept replies calls = map (λ call. map (row_of call).keeps_room replies) calls

-- a creation that is dropped keeps none, and a construct that does not cancel
pub room_of_replies :
    (map is_dropped (Dropped ∷ Created 1 ∷ Wait ∷ Cancelled ∷ Refused TraceFull ∷ []) ≡ true ∷ false ∷ false ∷ false ∷ false ∷ [])
    × (kept (Dropped ∷ Created 1 ∷ Wait ∷ RunTask 1 7 70 true ∷ []) (TaskCreate one_job ∷ TaskCreate at_once ∷ []) ≡ (false ∷ true ∷ true ∷ true ∷ []) ∷ (false ∷ true ∷ true ∷ true ∷ []) ∷ [])
    × (kept (Cancelling true ∷ Cancelling false ∷ Finished ∷ []) (cancels_of true) ≡ map (λ call. true ∷ false ∷ false ∷ []) (cancels_of true))
    × (kept (Cancelling true ∷ Cancelling false ∷ Finished ∷ []) (cancels_of false ++ points) ≡ map (λ call. false ∷ false ∷ false ∷ []) (cancels_of false ++ points))
room_of_replies = (refl, refl, refl, refl)

-- every other call keeps it, whatever it is answered
abbrev no_droppers : List Call
no_droppers = in_team ++ (in_book ++ (TaskEnd ∷ GroupStart ∷ (others ++ cancel_ends)))

pub room_of_others :
    kept (Cancelled ∷ Dropped ∷ Cancelling true ∷ Cancelling false ∷ Finished ∷ Wait ∷ task_answers ++ (share_answers ++ lock_answers)) no_droppers
    ≡ map (λ call. map (λ reply. true) (Cancelled ∷ Dropped ∷ Cancelling true ∷ Cancelling false ∷ Finished ∷ Wait ∷ task_answers ++ (share_answers ++ lock_answers))) no_droppers
room_of_others = refl

-- Flags of the calls of cancellation

-- what these calls may cancel
abbrev cancelled_by : List Call → List (Option CancelKind)
cancelled_by calls = map (λ call. (row_of call).cancels) calls

-- a cancel construct what it names; a cancellation point nothing, and no other call
pub kinds_of_cancels :
    (map (λ clause. cancelled_by (cancels_of clause)) (true ∷ false ∷ []) ≡ map (λ clause. Some Parallel ∷ Some Loop ∷ Some Sections ∷ Some Taskgroup ∷ []) (true ∷ false ∷ []))
    × (cancelled_by (points ++ (on_no_cancellation ++ cancel_ends)) ≡ map (λ call. None) (points ++ (on_no_cancellation ++ cancel_ends)))
kinds_of_cancels = (refl, refl)

-- a cancellation of the region or of a group asks for the room of an event, and so takes memory; one of a share, a point and an end do neither
pub memory_of_cancellation :
    (map (λ clause. takers [] (cancels_of clause)) (true ∷ false ∷ []) ≡ map (λ clause. true ∷ false ∷ false ∷ true ∷ []) (true ∷ false ∷ []))
    × (takers [] (points ++ cancel_ends) ≡ map (λ call. false) (points ++ cancel_ends))
    × (map (λ clause. rooms (cancels_of clause)) (true ∷ false ∷ []) ≡ map (λ clause. 1 ∷ 0 ∷ 0 ∷ 1 ∷ []) (true ∷ false ∷ [])) × (rooms (points ++ cancel_ends) ≡ map (λ call. 0) (points ++ cancel_ends))
memory_of_cancellation = (refl, refl, refl, refl)

-- the start of a share that may be cancelled asks for the room of the barrier at its end
pub room_of_cancellable_shares :
    (end_room Cancellable ≡ 2) × (rooms (dynamic_loop (pos 1) (pos 0) (pos 4) Cancellable ∷ SectionsStart 3 Cancellable ∷ []) ≡ 2 ∷ 2 ∷ [])
    × ((row_of (SectionsStart 3 Cancellable)).starts ≡ Some (sections_shape 3 Cancellable))
    × ((row_of (dynamic_loop (pos 2) (pos 0) (pos 4) Cancellable)).starts ≡ Some cancellable_four)
room_of_cancellable_shares = (refl, refl, refl, refl)

-- the ends arrive at a barrier; none of the others does, stays in its place, puts words, asks the book of names and locks, holds any, starts a share or creates a task
pub flags_of_cancellation :
    (kinds (cancel_ends ++ on_cancellation) ≡ Some ShareEnd ∷ Some ShareEnd ∷ map (λ call. None) on_cancellation)
    × (flags (λ row. row.stays) (cancel_ends ++ on_cancellation) ≡ map (λ call. false) (cancel_ends ++ on_cancellation))
    × (flags (λ row. row.puts) (cancel_ends ++ on_cancellation) ≡ map (λ call. false) (cancel_ends ++ on_cancellation))
    × (keys (cancel_ends ++ on_cancellation) ≡ map (λ call. None) (cancel_ends ++ on_cancellation))
    × (map (λ call. (row_of call).starts) (cancel_ends ++ on_cancellation) ≡ map (λ call. None) (cancel_ends ++ on_cancellation))
    × (creations (cancel_ends ++ on_cancellation) ≡ map (λ call. None) (cancel_ends ++ on_cancellation))
flags_of_cancellation = (refl, refl, refl, refl, refl, refl)

-- they leave the locks that there are, and differ where an arrival would
pub others_of_cancellation :
    (map (λ call. (row_of call).locks (Cancelling true) three_locks) (cancel_ends ++ on_cancellation) ≡ map (λ call. three_locks) (cancel_ends ++ on_cancellation))
    × (map (λ call. (row_of call).place 0 (Pass 0 0 ∷ [])) cancel_ends ≡ AtBarrier 1 ∷ AtBarrier 1 ∷ [])
    × (map (λ call. (row_of call).missing 0 (past_with 2 [])) (cancel_ends ++ on_cancellation) ≡ map (λ call. []) (cancel_ends ++ on_cancellation))
others_of_cancellation = (refl, refl, refl)

-- Arrivals in a cancelled region

-- what these calls begin with there, in a loop that may be cancelled
abbrev begun : List Event → List Call → List (List Event)
begun happened calls = map (λ call. (row_of call).begins 0 (past_with 2 happened)) calls

-- they leave the share, and then the member has arrived, as at every other end
pub begun_if_uncancelled :
    begun (Enter 0 0 cancellable_four ∷ []) cancel_ends ≡ (Arrive 0 0 (at ShareEnd 1) ∷ End 0 0 ∷ []) ∷ (Arrive 0 0 (at ShareEnd 1) ∷ End 0 0 ∷ []) ∷ []
begun_if_uncancelled = refl

-- in a cancelled region the share is left, and nobody arrives but at the region's end
pub begun_if_cancelled :
    (begun (Enter 0 0 cancellable_four ∷ region_unseen) (arrivals ++ cancel_ends) ≡ (End 0 0 ∷ []) ∷ (End 0 0 ∷ []) ∷ [] ∷ (Arrive 0 0 (at RegionEndArrival 1) ∷ []) ∷ (End 0 0 ∷ []) ∷ (End 0 0 ∷ []) ∷ [])
    × (begun region_unseen (TaskCreate one_job ∷ TaskCreate at_once ∷ []) ≡ [] ∷ [] ∷ []) × (begun task_unseen (TaskCreate one_job ∷ []) ≡ [] ∷ [])
begun_if_cancelled = (refl, refl, refl)

-- who ends a cancelled share sees that it is cancelled, if it has not
pub seen_by_the_end :
    (begun loop_unseen cancel_ends ≡ (Arrive 0 0 (at ShareEnd 1) ∷ End 0 0 ∷ See 0 Loop ∷ []) ∷ (Arrive 0 0 (at ShareEnd 1) ∷ End 0 0 ∷ See 0 Loop ∷ []) ∷ [])
    × (begun leaves_the_loop cancel_ends ≡ (Arrive 0 0 (at ShareEnd 1) ∷ End 0 0 ∷ []) ∷ (Arrive 0 0 (at ShareEnd 1) ∷ End 0 0 ∷ []) ∷ [])
    × (begun (loop_unseen ++ Drained 0 0 ∷ []) (LoopEndCancel ∷ []) ≡ (Arrive 0 0 (at ShareEnd 1) ∷ End 0 0 ∷ []) ∷ [])
seen_by_the_end = (refl, refl, refl)

-- a cancel construct and a cancellation point begin with nothing
pub begun_by_cancels : map (λ happened. begun happened on_cancellation) all_of_these ≡ map (λ happened. map (λ call. []) on_cancellation) all_of_these
begun_by_cancels = refl

-- Events that a reply gives

-- those of this call by the first member after these events, for each of these replies
abbrev given : List Event → Call → List Reply → List Event
given happened call [] = []
given happened call (reply ∷ replies) = (row_of call).gives 0 (past_with 2 happened) reply ++ given happened call replies

-- the calls that a cancelled region cuts short
abbrev cut_calls : List Call
cut_calls = starts ++ (LoopNext ∷ OrderedStart (pos 0) ∷ LoopEnd ∷ SectionsEnd ∷ Barrier ∷ cancel_ends)

-- a member that is answered so sees that the region is cancelled
pub given_by_cut_calls : map (λ call. given region_unseen call (Cancelled ∷ [])) cut_calls ≡ map (λ call. See 0 Parallel ∷ []) cut_calls
given_by_cut_calls = refl

-- no other call gives anything by that answer
abbrev uncut_calls : List Call
uncut_calls = SectionsNext ∷ ends ++ (RegionEnd ∷ in_book ++ (on_tasks ++ (others ++ on_cancellation)))

pub none_given_by_others : map (λ call. given region_unseen call (Cancelled ∷ Dropped ∷ [])) uncut_calls ≡ map (λ call. []) uncut_calls
none_given_by_others = refl

-- an end passes a barrier or starts a task as every other end
pub given_by_cancel_ends :
    map (λ call. given [] call (Passed ∷ RunTask 3 8 80 false ∷ Wait ∷ Finished ∷ Cancelling true ∷ Dropped ∷ [])) cancel_ends ≡ map (λ call. Pass 0 0 ∷ Start 3 0 ∷ []) cancel_ends
given_by_cancel_ends = refl

-- two tasks that nobody has started, one of them in a group with one that the member executes
abbrev two_unstarted : List Event
two_unstarted = Create 1 1 (Implicit 1) one_job ∷ Group 0 0 ∷ Create 2 0 (Implicit 0) one_job ∷ Start 2 0 ∷ Create 3 0 (Explicit 2) other_job ∷ []

-- a cancellation discards what it reaches, the newest first in the list, and its member has seen it
pub given_by_cancels :
    (given two_unstarted (Cancel Parallel true) (Cancelling true ∷ []) ≡ See 0 Parallel ∷ Discard 3 0 ∷ Discard 1 0 ∷ CancelEvent 0 Region ∷ [])
    × (given two_unstarted (Cancel Taskgroup true) (Cancelling true ∷ []) ≡ See 0 Taskgroup ∷ Discard 3 0 ∷ CancelEvent 0 (OneGroup 0) ∷ [])
    × (given (Create 1 1 (Implicit 1) one_job ∷ Enter 0 0 cancellable_four ∷ []) (Cancel Loop true) (Cancelling true ∷ []) ≡ See 0 Loop ∷ CancelEvent 0 (OneShare 0) ∷ [])
    × (given (Create 1 1 (Implicit 1) one_job ∷ Enter 0 0 (sections_shape 3 Cancellable) ∷ []) (Cancel Sections true) (Cancelling true ∷ []) ≡ See 0 Sections ∷ CancelEvent 0 (OneShare 0) ∷ [])
given_by_cancels = (refl, refl, refl, refl)

-- by a false clause and at a cancellation point a member sees one, and cancels nothing
pub given_by_points :
    (map (λ call. given two_unstarted call (Cancelling true ∷ [])) (cancels_of false) ≡ (See 0 Parallel ∷ []) ∷ (See 0 Loop ∷ []) ∷ (See 0 Sections ∷ []) ∷ (See 0 Taskgroup ∷ []) ∷ [])
    × (map (λ call. given two_unstarted call (Cancelling true ∷ [])) points ≡ (See 0 Parallel ∷ []) ∷ (See 0 Loop ∷ []) ∷ (See 0 Sections ∷ []) ∷ (See 0 Taskgroup ∷ []) ∷ [])
given_by_points = (refl, refl)

-- nothing happens if it is answered that nothing is cancelled, or answered as another call
pub none_given_by_cancels :
    map (λ call. given two_unstarted call (Cancelling false ∷ Dropped ∷ Cancelled ∷ Finished ∷ Wait ∷ task_answers ++ (share_answers ++ (lock_answers ++ all_refusals)))) on_cancellation ≡ map (λ call. []) on_cancellation
none_given_by_cancels = refl
