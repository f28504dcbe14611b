-- The cancel and cancellation point constructs: what they are tested for, what they are answered, and which events they give. OpenMP API 5.2, sections 16.1 and 16.2.
use Rattle.std.specs.Prelude.{ℕ, ◌≡◌, ◌&&◌, ◌||◌, nat_lt, not, Bool, true, false, if◌then◌else◌, List, [], ◌∷◌, ◌++◌, Option, Some, None}
use Rattle.std.proofs.Common.{zero, suc}
use Rattle.gomp_types.specs.declared.cancel.CancelKind.{CancelKind}
use Rattle.gomp_types.specs.declared.cancel.CancelKind.TheVariants.{Parallel, Taskgroup}
use Rattle.gomp_types.specs.declared.cancel.Scope.{Scope}
use Rattle.gomp_types.specs.declared.refusal.Refusal.TheVariants.{NotInTask, NoGroup}
use Rattle.gomp_types.specs.declared.reply.Reply.{Reply}
use Rattle.gomp_types.specs.declared.reply.Reply.TheVariants.{Wait, Cancelled, Dropped, Cancelling}
use Rattle.gomp_types.specs.declared.task.TaskDesc.{TaskDesc}
use Rattle.gomp_events.specs.declared.event.Event.{Event}
use Rattle.gomp_events.specs.declared.event.Event.TheVariants.{Cancel, Discard, See}
use Rattle.gomp_events.specs.declared.room.TheConstants.{CANCEL_ROOM}
use Rattle.gomp_types.specs.Tests.{Test}
use Rattle.gomp_events.specs.Tasks.{tasks_created, executed_task, in_task}
use Rattle.gomp_events.specs.Goals.{is_unstarted}
use Rattle.gomp_events.specs.TaskCalls.{has_some, group_open_tests, outside_tasks_tests, CreatesTask, creates}
use Rattle.gomp_events.specs.Cancels.{is_covered, would_be_covered, groups_over, scope_of, names_cancelled}

-- Tests

-- a construct that names the region or a share is outside of every explicit task; one that names a group is in a task whose completion a group's end waits for, and which has no group open
abbrev pub cancel_tests : CancelKind → ℕ → List Event → List Test
cancel_tests Taskgroup m h = (not (in_task m h), NotInTask) ∷ (not (has_some (groups_over (executed_task m h) h)), NoGroup) ∷ group_open_tests m h
cancel_tests kind m h = outside_tasks_tests m h

-- the room that a construct asks for: that of a cancellation of the region or of a group; one of a share is stored nowhere (own)
abbrev pub cancel_room : CancelKind → ℕ
cancel_room Parallel = CANCEL_ROOM
cancel_room Taskgroup = CANCEL_ROOM
cancel_room _ = 0

-- whether it may find no memory for that
abbrev pub cancel_asks : CancelKind → Bool
cancel_asks kind = nat_lt 0 (cancel_room kind)

-- whether the reply has it keep the room: it cancelled
abbrev pub keeps_cancel : Bool → Reply → Bool
keeps_cancel clause (Cancelling true) = clause
keeps_cancel clause _ = false

-- Answers

-- the answer to a cancel construct with this clause; to a cancellation point it is that with a false one. If the control variable allows no cancellation, nothing is cancelled
abbrev pub TellsCancelled : Bool → CancelKind → Bool → ℕ → List Event → Reply → Type 0
TellsCancelled allowed kind clause m h reply = reply ≡ Cancelling (allowed && (clause || names_cancelled kind m h))

-- whether a cancellation would reach a task that the member creates now
abbrev pub creates_covered : ℕ → List Event → Bool
creates_covered m h = would_be_covered (executed_task m h) h

-- the answer to the creator of a task: if one that is reached, or would be, that it is dropped
abbrev pub AnswersCreation : Bool → ℕ → List Event → Reply → Type 0
AnswersCreation true m h reply = reply ≡ Dropped
AnswersCreation false m h reply = CreatesTask m h reply

abbrev pub CreatesOrDrops : ℕ → List Event → Reply → Type 0
CreatesOrDrops m h reply = AnswersCreation (creates_covered m h) m h reply

-- the answer in a region that is cancelled or not, to a call which is answered so if it is not: cancelled, whatever it asks
abbrev pub OrIsCancelled : Bool → (Reply → Type 0) → Reply → Type 0
OrIsCancelled true May reply = reply ≡ Cancelled
OrIsCancelled false May reply = May reply

-- or cancelled only if it would have to wait
abbrev pub OrWaitsCancelled : Bool → (Reply → Type 0) → Reply → Type 0
OrWaitsCancelled true May Wait = ⊥
OrWaitsCancelled true May Cancelled = May Wait
OrWaitsCancelled true May reply = May reply
OrWaitsCancelled false May reply = May reply

-- Events, the newest first

-- these, unless something is cancelled
abbrev pub unless_cancelled : Bool → List Event → List Event
unless_cancelled true events = []
unless_cancelled false events = events

-- the next task, unless it would be reached
abbrev pub creates_uncovered : ℕ → TaskDesc → List Event → List Event
creates_uncovered m desc h = unless_cancelled (creates_covered m h) (creates m desc h)

-- those of a reply, with that the member sees that the region is cancelled if it is answered so
abbrev pub sees_cancelled : ℕ → Reply → List Event → List Event
sees_cancelled m Cancelled events = See m Parallel ∷ []
sees_cancelled m _ events = events

-- those of the tasks 1 to n that are discarded: they are reached, and nobody has started them
abbrev pub discards_to : ℕ → ℕ → List Event → List Event
discards_to zero m h = []
discards_to (suc k) m h =
    if is_unstarted (suc k) h && is_covered (suc k) h then Discard (suc k) m ∷ discards_to k m h else discards_to k m h

-- all that are, once this is cancelled
abbrev pub discards : ℕ → Scope → List Event → List Event
discards m scope h = discards_to (tasks_created h) m (Cancel m scope ∷ h)

-- the cancellation of this, and the tasks that it discards, in the order of their numbers
abbrev pub cancels : ℕ → Option Scope → List Event → List Event
cancels m None h = []
cancels m (Some scope) h = discards m scope h ++ Cancel m scope ∷ []

-- a true clause cancels
abbrev pub cancels_by : Bool → CancelKind → ℕ → List Event → List Event
cancels_by true kind m h = cancels m (scope_of kind m h) h
cancels_by false kind m h = []

-- if it tells that what it names is cancelled, the member has seen that
abbrev pub tells_cancelled : CancelKind → Bool → ℕ → List Event → Reply → List Event
tells_cancelled kind clause m h (Cancelling true) = See m kind ∷ cancels_by clause kind m h
tells_cancelled kind clause m h _ = []
