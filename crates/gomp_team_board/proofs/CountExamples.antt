-- What each operation gives by each of its replies, and what a history has.
use Rattle.std.proofs.Common.{◌≡◌, ℕ, Bool, true, false, List, [], ◌∷◌, Some, None, refl}
use Rattle.std.specs.Prelude.{map}
use Rattle.gomp_types.specs.declared.cancel.CancelKind.TheVariants.{Parallel as AtRegion}
use Rattle.gomp_types.specs.declared.cancel.Scope.TheVariants.{Region, OneShare, OneGroup}
use Rattle.gomp_types.specs.declared.refusal.Place.{Place}
use Rattle.gomp_types.specs.declared.refusal.Refusal.TheVariants.{BadMember, Ended, Waiting, NotInside, GroupOpen, Mismatch, NoMemory}
use Rattle.gomp_types.specs.declared.reply.Reply.TheVariants.{Finished, Passed, Wait, Created, Cancelled, Dropped, Cancelling, Run, TaskDone, Stopped, Refused}
use Rattle.gomp_types.specs.declared.task.TaskDesc.{TaskDesc}
use Rattle.gomp_types.specs.declared.task.Task.TheVariants.{Implicit}
use Rattle.gomp_types.specs.declared.depend.Dep.{Dep}
use Rattle.gomp_events.specs.declared.event.Event.{Event}
use Rattle.gomp_events.specs.declared.event.Event.TheVariants as events
use Rattle.gomp_events.specs.declared.event.Tag.{Tag}
use Rattle.gomp_board.specs.declared.op.Op.TheVariants as ops
use Rattle.gomp_board.specs.declared.op.TeamCancel.{TeamCancel}
use Rattle.gomp_board.specs.Examples.{seven}
use Rattle.gomp_team_board.specs.Counts.{counted_events, events_given}
use Rattle.gomp_team_board.specs.Parts.{part_after, new_part, merged_part, counts_in}
use Rattle.gomp_team_board.specs.Locked.{comes_first}
use Rattle.gomp_team_board.specs.Shared.{wakes}

-- Replies

-- a creation gives the task, and its start if the member executes it at once
pub events_of_a_creation : (desc : TaskDesc) (t code arg : ℕ)
    → map (events_given (ops.Create desc)) (Created t ∷ Run t code arg true ∷ Run t code arg false ∷ Wait ∷ Dropped ∷ Refused NoMemory ∷ Refused Mismatch ∷ []) ≡ 1 ∷ 2 ∷ 2 ∷ 1 ∷ 0 ∷ 0 ∷ 1 ∷ []
events_of_a_creation desc t code arg = refl

-- the wait for an undeferred task gives a start
pub events_of_a_wait_for_its_own : (t code arg : ℕ) → map (events_given ops.AwaitOwn) (Run t code arg true ∷ Run t code arg false ∷ Wait ∷ Dropped ∷ Refused NotInside ∷ []) ≡ 1 ∷ 1 ∷ 0 ∷ 0 ∷ 0 ∷ []
events_of_a_wait_for_its_own t code arg = refl

-- the end of a task gives that
pub events_of_an_end : (leaving waiting : Bool) (t : ℕ) → map (events_given (ops.EndTask leaving)) (TaskDone t waiting ∷ Refused Waiting ∷ []) ≡ 1 ∷ 0 ∷ []
events_of_an_end leaving waiting t = refl

-- a taskwait gives nothing that is stored, but the start of a task
pub events_of_a_taskwait : (items : List Dep) (t code arg : ℕ) → map (events_given (ops.Taskwait items)) (Passed ∷ Run t code arg false ∷ Wait ∷ Refused Ended ∷ []) ≡ 0 ∷ 1 ∷ 0 ∷ 0 ∷ []
events_of_a_taskwait items t code arg = refl

pub events_of_its_wait : (items : List Dep) (t code arg : ℕ) → map (events_given (ops.AwaitChildren items)) (Passed ∷ Run t code arg false ∷ Wait ∷ Refused NotInside ∷ []) ≡ 0 ∷ 1 ∷ 0 ∷ 0 ∷ []
events_of_its_wait items t code arg = refl

-- a group is opened and ended, at once or after a wait
pub events_of_a_group_opened : map (events_given ops.OpenGroup) (Finished ∷ Refused NoMemory ∷ []) ≡ 1 ∷ 0 ∷ []
events_of_a_group_opened = refl

pub events_of_a_group_ended : (t code arg : ℕ) → map (events_given ops.EndGroup) (Passed ∷ Run t code arg false ∷ Wait ∷ Refused Waiting ∷ []) ≡ 1 ∷ 1 ∷ 0 ∷ 0 ∷ []
events_of_a_group_ended t code arg = refl

pub events_of_its_groups_wait : (t code arg : ℕ) → map (events_given ops.AwaitGroup) (Passed ∷ Run t code arg false ∷ Wait ∷ Refused NotInside ∷ []) ≡ 1 ∷ 1 ∷ 0 ∷ 0 ∷ []
events_of_its_groups_wait t code arg = refl

-- an arrival gives itself, and with it a pass or the start of a task; in a cancelled region nothing
pub events_of_an_arrival : (tag : Tag) (leaving : Bool) (t code arg : ℕ)
    → map (events_given (ops.Arrive tag leaving)) (Passed ∷ Run t code arg false ∷ Wait ∷ Cancelled ∷ Refused NoMemory ∷ Refused Mismatch ∷ []) ≡ 2 ∷ 2 ∷ 1 ∷ 0 ∷ 0 ∷ 1 ∷ []
events_of_an_arrival tag leaving t code arg = refl

pub events_of_its_barriers_wait : (t code arg : ℕ) → map (events_given ops.AwaitBarrier) (Passed ∷ Run t code arg false ∷ Wait ∷ Cancelled ∷ Refused NotInside ∷ []) ≡ 1 ∷ 1 ∷ 0 ∷ 0 ∷ 0 ∷ []
events_of_its_barriers_wait t code arg = refl

-- room gives nothing, and words one event each
pub events_of_room_and_words : (more share : ℕ) (words : List ℕ) → map (λ op. events_given op Finished) (ops.Reserve more ∷ ops.Put share words ∷ ops.Got share words ∷ []) ≡ 0 ∷ 1 ∷ 1 ∷ []
events_of_room_and_words more share words = refl

-- a cancellation counts as one, whatever it discards
pub events_of_a_cancellation : (names : TeamCancel) (allowed : Bool) → map (events_given (ops.Cancel names true allowed)) (Cancelling true ∷ Cancelling false ∷ Refused NoMemory ∷ []) ≡ 1 ∷ 0 ∷ 0 ∷ []
events_of_a_cancellation names allowed = refl

pub no_events_of_a_false_clause : (names : TeamCancel) (allowed : Bool) → map (events_given (ops.Cancel names false allowed)) (Cancelling true ∷ Cancelling false ∷ []) ≡ 0 ∷ 0 ∷ []
no_events_of_a_false_clause names allowed = refl

pub no_events_of_a_point : (names : TeamCancel) (allowed : Bool) → map (events_given (ops.Point names allowed)) (Cancelling true ∷ Cancelling false ∷ []) ≡ 0 ∷ 0 ∷ []
no_events_of_a_point names allowed = refl

-- a break gives itself: by a stop, and by a mismatch
pub events_of_a_break : (place : Place) (back : ℕ) → map (events_given (ops.Break place back)) (Stopped ∷ Refused Mismatch ∷ Refused BadMember ∷ []) ≡ 1 ∷ 1 ∷ 0 ∷ []
events_of_a_break place back = refl

-- Histories

-- of two members: the first creates two tasks and starts one, cancels the region, which discards the other, and sees that; the second has words, and leaves a share
abbrev both : List Event
both =
    events.Done 1 0 ∷ events.See 0 AtRegion ∷ events.Discard 2 0 ∷ events.Cancel 0 Region ∷ events.Start 1 0
    ∷ events.Create 2 0 (Implicit 0) seven ∷ events.End 0 1 ∷ events.Got 0 1 (5 ∷ []) ∷ events.Create 1 0 (Implicit 0) seven ∷ events.Waited 1 [] ∷ []

pub counted_of_both : counted_events both ≡ 6
counted_of_both = refl

pub of_the_first : counts_in 0 both ≡ record { creates = 2; passes = 0; starts = 1 }
of_the_first = refl

pub of_the_second : counts_in 1 (events.Pass 0 1 ∷ both) ≡ record { creates = 0; passes = 1; starts = 0 }
of_the_second = refl

-- a cancelled share is stored by no board
pub share_uncounted : counted_events (events.Cancel 0 (OneShare 4) ∷ events.Cancel 0 (OneGroup 4) ∷ []) ≡ 1
share_uncounted = refl

-- Parts

-- a member creates an undeferred task, which it executes at once, and ends; then it passes a barrier on arrival
pub part_of_a_creator : (desc : TaskDesc) (tag : Tag)
    → part_after (ops.Arrive tag false) Passed (part_after (ops.EndTask false) (TaskDone 1 false) (part_after (ops.Create desc) (Run 1 7 9 true) (new_part 1 0)))
    ≡ record { parts = 1; amount = 5; counts = record { creates = 1; passes = 1; starts = 1 } }
part_of_a_creator desc tag = refl

-- another part is taken in
pub parts_of_two : merged_part (record { parts = 1; amount = 5; counts = record { creates = 1; passes = 1; starts = 1 } }) (new_part 3 4) ≡ record { parts = 4; amount = 9; counts = record { creates = 1; passes = 1; starts = 1 } }
parts_of_two = refl

-- Notifications

-- of each operation the replies that it may have: which wake the members that sleep
pub woken_by_tasks : (desc : TaskDesc) (items : List Dep) (leaving waiting : Bool) (t code arg : ℕ)
    → (map (wakes (ops.Create desc)) (Created t ∷ Run t code arg true ∷ Run t code arg false ∷ Wait ∷ Dropped ∷ Refused NoMemory ∷ []) ≡ true ∷ false ∷ false ∷ false ∷ false ∷ false ∷ [])
    × (map (wakes ops.AwaitOwn) (Run t code arg true ∷ Wait ∷ Dropped ∷ []) ≡ false ∷ false ∷ false ∷ [])
    × (map (wakes (ops.EndTask leaving)) (TaskDone t waiting ∷ Refused Waiting ∷ []) ≡ true ∷ false ∷ [])
    × (map (wakes (ops.Taskwait items)) (Passed ∷ Run t code arg false ∷ Wait ∷ []) ≡ false ∷ false ∷ false ∷ [])
    × (map (wakes (ops.AwaitChildren items)) (Passed ∷ Run t code arg false ∷ Wait ∷ []) ≡ false ∷ false ∷ false ∷ [])
woken_by_tasks desc items leaving waiting t code arg = (refl, refl, refl, refl, refl)

pub woken_by_groups : (t code arg : ℕ)
    → (wakes ops.OpenGroup Finished ≡ false)
    × (map (wakes ops.EndGroup) (Passed ∷ Run t code arg false ∷ Wait ∷ []) ≡ false ∷ false ∷ false ∷ [])
    × (map (wakes ops.AwaitGroup) (Passed ∷ Run t code arg false ∷ Wait ∷ []) ≡ false ∷ false ∷ false ∷ [])
woken_by_groups t code arg = (refl, refl, refl)

-- a barrier of any number of members is passed with one notification, that of the last arrival, if no task is open
pub woken_by_barriers : (tag : Tag) (leaving : Bool) (t code arg : ℕ)
    → (map (wakes (ops.Arrive tag leaving)) (Passed ∷ Run t code arg false ∷ Wait ∷ Cancelled ∷ Refused Mismatch ∷ Refused NoMemory ∷ []) ≡ true ∷ false ∷ false ∷ false ∷ true ∷ false ∷ [])
    × (map (wakes ops.AwaitBarrier) (Passed ∷ Run t code arg false ∷ Wait ∷ Cancelled ∷ []) ≡ false ∷ false ∷ false ∷ false ∷ [])
woken_by_barriers tag leaving t code arg = (refl, refl)

pub woken_by_words_and_ends : (more share back : ℕ) (words : List ℕ) (named : TeamCancel) (allowed : Bool) (place : Place)
    → (map (λ op. wakes op Finished) (ops.Reserve more ∷ ops.Put share words ∷ ops.Got share words ∷ []) ≡ false ∷ true ∷ false ∷ [])
    × (map (wakes (ops.Cancel named true allowed)) (Cancelling true ∷ Cancelling false ∷ []) ≡ true ∷ false ∷ [])
    × (map (wakes (ops.Cancel named false allowed)) (Cancelling true ∷ Cancelling false ∷ []) ≡ false ∷ false ∷ [])
    × (map (wakes (ops.Point named allowed)) (Cancelling true ∷ Cancelling false ∷ []) ≡ false ∷ false ∷ [])
    × (map (wakes (ops.Break place back)) (Stopped ∷ Refused Mismatch ∷ Refused Ended ∷ []) ≡ true ∷ true ∷ false ∷ [])
woken_by_words_and_ends more share back words named allowed place = (refl, refl, refl, refl, refl)

-- Refusals that callers find

-- E22 was found: it comes first of no test, of one of E25 and of one of E22, not of one of E4; nothing that was found never does
pub found_by_number : map (comes_first (Some NotInside)) (None ∷ Some GroupOpen ∷ Some NotInside ∷ Some Waiting ∷ []) ≡ true ∷ true ∷ true ∷ false ∷ []
found_by_number = refl

pub nothing_found_by_number : map (comes_first None) (None ∷ Some Waiting ∷ []) ≡ false ∷ false ∷ []
nothing_found_by_number = refl
