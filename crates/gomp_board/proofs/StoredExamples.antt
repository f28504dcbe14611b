-- Which events are stored, and for how many there is room that are still to come: counts by hand.
use Rattle.std.proofs.Common.{◌≡◌, ℕ, true, false, List, [], ◌∷◌, refl}
use Rattle.std.specs.Prelude.{◌==◌, map}
use Rattle.gomp_types.specs.declared.key.Key.{Key}
use Rattle.gomp_types.specs.declared.shape.Shape.{Shape}
use Rattle.gomp_types.specs.declared.task.Task.{Task}
use Rattle.gomp_types.specs.declared.task.Task.TheVariants.{Implicit}
use Rattle.gomp_types.specs.declared.task.TaskDesc.{TaskDesc}
use Rattle.gomp_types.specs.declared.refusal.Place.{Place}
use Rattle.gomp_types.specs.declared.refusal.Place.TheVariants.{Stopped as AtStop}
use Rattle.gomp_events.specs.declared.event.Arrival.TheVariants.{Barrier}
use Rattle.gomp_events.specs.declared.event.Tag.{Tag}
use Rattle.gomp_events.specs.declared.event.Event.TheVariants.{Enter, Take, Drained, End, HandOn, Part, PartEnd, Put, Got, Arrive, Pass, Hold, Free, Create, Start, Done, Group, GroupEnd, Waited, Break}
use Rattle.gomp_events.specs.EventLists.{at}
use Rattle.gomp_types.specs.ExampleShapes.{four}
use Rattle.gomp_events.specs.TaskCalls.{first_room}
use Rattle.gomp_board.specs.Stored.{is_stored, stored, IsNotStored, AreAside}
use Rattle.gomp_board.specs.Owed.{owed_by_tasks, has_group_ended, count_below, owed_by_groups, owed_by_member, owed_by_members, owed_for_break, owed}
use Rattle.gomp_events.specs.TaskExamples.{job_with}
use Rattle.gomp_board.specs.Examples.{creates_root, one_ready, one_runs, one_done, other_runs, group_empty, group_done, first_waits, both_wait, second_ends, both_end, first_left, stopped}

-- Stored events

-- words, arrivals and passes
pub words_are_stored : (share m : ℕ) (payload : List ℕ) → (is_stored (Put share m payload) ≡ true) × (is_stored (Got share m payload) ≡ true)
words_are_stored share m payload = (refl, refl)

pub arrivals_are_stored : (barrier m : ℕ) (tag : Tag) → (is_stored (Arrive barrier m tag) ≡ true) × (is_stored (Pass barrier m) ≡ true)
arrivals_are_stored barrier m tag = (refl, refl)

-- what becomes of a task
pub tasks_are_stored : (t m : ℕ) (p : Task) (desc : TaskDesc) → (is_stored (Create t m p desc) ≡ true) × (is_stored (Start t m) ≡ true) × (is_stored (Done t m) ≡ true)
tasks_are_stored t m p desc = (refl, refl, refl)

-- and of a group
pub groups_are_stored : (q m : ℕ) → (is_stored (Group q m) ≡ true) × (is_stored (GroupEnd q m) ≡ true)
groups_are_stored q m = (refl, refl)

-- a break
pub breaks_are_stored : (m : ℕ) (place : Place) → is_stored (Break m place) ≡ true
breaks_are_stored m place = refl

-- not what a member does in its shares
pub shares_are_not_stored : (share m low high k : ℕ) (shape : Shape) →
    (is_stored (Enter share m shape) ≡ false) × (is_stored (Take share m low high) ≡ false) × (is_stored (Drained share m) ≡ false) × (is_stored (End share m) ≡ false)
    × (is_stored (HandOn share m k) ≡ false) × (is_stored (Part share m k) ≡ false) × (is_stored (PartEnd share m) ≡ false)
shares_are_not_stored share m low high k shape = (refl, refl, refl, refl, refl, refl, refl)

-- nor what names and locks keep, nor a taskwait
pub holders_are_not_stored : (key : Key) (m : ℕ) (p : Task) → (is_stored (Hold key m p) ≡ false) × (is_stored (Free key m p) ≡ false) × (is_stored (Waited m []) ≡ false)
holders_are_not_stored key m p = (refl, refl, refl)

-- what a member does in its shares changes nothing for a board
pub shares_leave_boards : (share m low high k : ℕ) (shape : Shape) →
    IsNotStored (Enter share m shape) × IsNotStored (Take share m low high) × IsNotStored (Drained share m) × IsNotStored (End share m) × IsNotStored (HandOn share m k) × IsNotStored (Part share m k) × IsNotStored (PartEnd share m)
shares_leave_boards share m low high k shape = (tt, tt, tt, tt, tt, tt, tt)

-- nor what names and locks keep
pub holders_leave_boards : (key : Key) (m : ℕ) (p : Task) → IsNotStored (Hold key m p) × IsNotStored (Free key m p)
holders_leave_boards key m p = (tt, tt)

-- what is stored does, and a taskwait that is passed too soon
pub words_concern_boards : (share m : ℕ) (payload : List ℕ) → (IsNotStored (Put share m payload) → ⊥) × (IsNotStored (Got share m payload) → ⊥)
words_concern_boards share m payload = (λ is. is, λ is. is)

pub arrivals_concern_boards : (barrier m : ℕ) (tag : Tag) → (IsNotStored (Arrive barrier m tag) → ⊥) × (IsNotStored (Pass barrier m) → ⊥)
arrivals_concern_boards barrier m tag = (λ is. is, λ is. is)

pub tasks_concern_boards : (t m : ℕ) (p : Task) (desc : TaskDesc) → (IsNotStored (Create t m p desc) → ⊥) × (IsNotStored (Start t m) → ⊥) × (IsNotStored (Done t m) → ⊥)
tasks_concern_boards t m p desc = (λ is. is, λ is. is, λ is. is)

pub groups_concern_boards : (q m : ℕ) → (IsNotStored (Group q m) → ⊥) × (IsNotStored (GroupEnd q m) → ⊥) × (IsNotStored (Waited m []) → ⊥)
groups_concern_boards q m = (λ is. is, λ is. is, λ is. is)

pub breaks_concern_boards : (m : ℕ) (place : Place) → IsNotStored (Break m place) → ⊥
breaks_concern_boards m place = λ is. is

-- of several none may
pub all_leave_boards : AreAside (End 0 1 ∷ Drained 0 1 ∷ []) × (AreAside (End 0 1 ∷ Start 1 1 ∷ []) → ⊥) × (AreAside (Pass 0 1 ∷ End 0 1 ∷ []) → ⊥)
all_leave_boards = ((tt, (tt, tt)), λ all. all.1.0, λ all. all.0)

-- the others stay in their order
pub stored_of_a_list : stored (Waited 0 [] ∷ Done 1 0 ∷ Enter 0 0 (four false) ∷ Start 1 0 ∷ Waited 1 [] ∷ Create 1 0 (Implicit 0) (job_with 7 9 []) ∷ Take 0 1 0 2 ∷ []) ≡ one_done
stored_of_a_list = refl

pub stored_of_none : stored [] ≡ []
stored_of_none = refl

-- Tasks

-- a task that nobody has started owes its start and its end
pub ready_task_owes : (owed_by_tasks [] ≡ 0) × (owed_by_tasks one_ready ≡ 2)
ready_task_owes = (refl, refl)

-- one that runs its end, whoever runs it
pub running_task_owes : (owed_by_tasks one_runs ≡ 1) × (owed_by_tasks other_runs ≡ 1)
running_task_owes = (refl, refl)

-- one that is done owes nothing
pub done_task_owes : owed_by_tasks one_done ≡ 0
done_task_owes = refl

-- each task owes its own: of three one is done, one runs, and one was not started
pub three_tasks_owe : owed_by_tasks (Start 3 1 ∷ creates_root 3 ∷ creates_root 2 ∷ one_done) ≡ 3
three_tasks_owe = refl

-- Groups

-- that a group was ended is said of it alone
pub group_end_is_seen : map (λ q. has_group_ended q (GroupEnd 1 0 ∷ Group 1 0 ∷ Group 0 0 ∷ [])) (0 ∷ 1 ∷ 2 ∷ []) ≡ false ∷ true ∷ false ∷ []
group_end_is_seen = refl

-- and still after other events
pub group_end_is_kept : map (λ q. has_group_ended q (GroupEnd 0 0 ∷ Waited 0 [] ∷ GroupEnd 1 0 ∷ Group 1 0 ∷ Group 0 0 ∷ [])) (0 ∷ 1 ∷ 2 ∷ []) ≡ true ∷ true ∷ false ∷ []
group_end_is_kept = refl

-- numbers below three are 0, 1 and 2
pub counted_below : map (count_below 3) ((λ q. q == 0) ∷ (λ q. q == 2) ∷ (λ q. q == 3) ∷ (λ q. true) ∷ (λ q. false) ∷ []) ≡ 1 ∷ 1 ∷ 0 ∷ 3 ∷ 0 ∷ []
counted_below = refl

pub none_below : count_below 0 (λ q. true) ≡ 0
none_below = refl

-- each open group owes its end
pub open_groups_owe : map owed_by_groups ([] ∷ group_empty ∷ group_done ∷ (Group 1 1 ∷ group_empty) ∷ []) ≡ 0 ∷ 1 ∷ 1 ∷ 2 ∷ []
open_groups_owe = refl

-- one that was ended none
pub ended_groups_owe : map owed_by_groups ((GroupEnd 1 0 ∷ Group 1 0 ∷ group_empty) ∷ (GroupEnd 0 0 ∷ group_empty) ∷ []) ≡ 1 ∷ 0 ∷ []
ended_groups_owe = refl

-- Members

-- the region's end and the pass there, and a pass at each other barrier at which it waits
pub member_owes : map (λ h. owed_by_member 0 h) ([] ∷ first_waits ∷ (Pass 0 0 ∷ both_wait) ∷ both_end ∷ first_left ∷ []) ≡ 2 ∷ 3 ∷ 2 ∷ 1 ∷ 0 ∷ []
member_owes = refl

-- another member's arrival and pass change nothing of it
pub other_member_owes : map (λ h. owed_by_member 1 h) ([] ∷ first_waits ∷ (Pass 0 0 ∷ both_wait) ∷ second_ends ∷ first_left ∷ []) ≡ 2 ∷ 2 ∷ 3 ∷ 1 ∷ 1 ∷ []
other_member_owes = refl

-- all members of the team, and no others
pub team_owes : map (λ members. owed_by_members members first_waits) (0 ∷ 1 ∷ 2 ∷ 3 ∷ []) ≡ 0 ∷ 3 ∷ 5 ∷ 7 ∷ []
team_owes = refl

-- one break, once
pub break_is_owed : map owed_for_break ([] ∷ one_done ∷ stopped ∷ (Break 0 AtStop ∷ stopped) ∷ []) ≡ 1 ∷ 1 ∷ 0 ∷ 0 ∷ []
break_is_owed = refl

-- All

-- a new team of two owes two arrivals, two passes and a break, and is made with room for them
pub new_team_of_two : (owed 2 [] ≡ 5) × (first_room 2 ≡ 5) × (first_room 0 ≡ 1) × (first_room 64 ≡ 129)
new_team_of_two = (refl, refl, refl, refl)

-- a task two more, and it is less by one with each of its events
pub task_by_task : map (owed 2) (one_ready ∷ one_runs ∷ one_done ∷ []) ≡ 7 ∷ 6 ∷ 5 ∷ []
task_by_task = refl

-- all together: a task that runs, an open group, a member at a barrier
pub all_together : (owed 2 (Arrive 0 1 (at Barrier 0) ∷ Group 0 0 ∷ one_runs) ≡ 8) × (owed 2 (Break 0 AtStop ∷ Arrive 0 1 (at Barrier 0) ∷ Group 0 0 ∷ one_runs) ≡ 7)
all_together = (refl, refl)

-- once both have left and the team was stopped, nothing
pub nothing_is_left : owed 2 (Break 1 AtStop ∷ Pass 0 1 ∷ first_left) ≡ 0
nothing_is_left = refl
