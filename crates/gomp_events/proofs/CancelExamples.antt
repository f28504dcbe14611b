-- What is cancelled, which tasks that reaches, and who leaves: each definition computed, with an event more and one less.
use Rattle.std.proofs.Common.{◌≡◌, true, false, List, [], ◌∷◌, Some, None, refl}
use Rattle.std.specs.Prelude.{pos, map}
use Rattle.gomp_types.specs.declared.cancel.CancelKind.TheVariants.{Parallel, Loop, Sections, Taskgroup}
use Rattle.gomp_types.specs.declared.cancel.Scope.TheVariants.{Region, OneShare, OneGroup}
use Rattle.gomp_types.specs.declared.loop_desc.EndKind.TheVariants.{Nowait, Cancellable}
use Rattle.gomp_types.specs.declared.shape.ShareKind.TheVariants.{Dynamic as ByDynamic}
use Rattle.gomp_types.specs.declared.refusal.Refusal.TheVariants.{InsideTask, NotInTask, NoGroup, GroupOpen}
use Rattle.gomp_types.specs.declared.reply.Reply.TheVariants.{Wait, Created, Cancelled, Dropped, Cancelling}
use Rattle.gomp_types.specs.declared.shape.Shape.{Shape}
use Rattle.gomp_types.specs.declared.task.Task.TheVariants.{Implicit, Explicit}
use Rattle.gomp_events.specs.declared.event.Event.{Event}
use Rattle.gomp_events.specs.declared.event.Event.TheVariants.{Enter, End, Arrive, Pass, Create, Start, Done, Group, GroupEnd, Cancel, Discard, See}
use Rattle.gomp_events.specs.declared.event.Arrival.TheVariants.{Barrier, RegionEnd}
use Rattle.gomp_events.specs.EventLists.{at}
use Rattle.gomp_events.specs.Goals.{may_pass}
use Rattle.gomp_types.specs.Sections.{sections_shape}
use Rattle.gomp_events.specs.Seen.{seen_of}
use Rattle.gomp_types.specs.Singles.{single_shape}
use Rattle.gomp_events.specs.TaskExamples.{after, one_job}
use Rattle.gomp_events.specs.Cancels.{is_cancelled, share_cancelled, own_cancelled, groups_over, groups_within, is_covered, would_be_covered, scope_of, names_cancelled, may_be_cancelled, leaves_region, leaves_share, leaves_task, is_leaving}
use Rattle.gomp_events.specs.CancelCalls.{cancel_tests, cancel_room, cancel_asks, keeps_cancel, TellsCancelled, CreatesOrDrops, OrIsCancelled, OrWaitsCancelled, unless_cancelled, creates_uncovered, sees_cancelled, discards, tells_cancelled}
use Rattle.gomp_events.specs.TaskCalls.{end_task_tests, end_region_tests}

-- member 0 has opened a group and created a task in it, which member 1 executes; in the group member 0 executes a second task; the first has opened a group of its own, and created a third task in that
abbrev groups_in_groups : List Event
groups_in_groups =
    after
    (Group 0 0 ∷ Create 1 0 (Implicit 0) one_job ∷ Start 1 1 ∷ Create 2 0 (Implicit 0) one_job ∷ Start 2 0
    ∷ Group 1 1 ∷ Create 3 1 (Explicit 1) one_job ∷ [])

-- the group of member 0 is cancelled
abbrev outer_cancelled : List Event
outer_cancelled = Cancel 0 (OneGroup 0) ∷ groups_in_groups

-- the groups over a task are those around it, the last opened first; over an implicit task there is none
pub groups_over_tasks :
    (map (λ t. groups_over (Explicit t) groups_in_groups) (1 ∷ 2 ∷ 3 ∷ []) ≡ (0 ∷ []) ∷ (0 ∷ []) ∷ (1 ∷ 0 ∷ []) ∷ []) × (groups_over (Implicit 0) groups_in_groups ≡ [])
groups_over_tasks = (refl, refl)

-- within a task are its own open groups too
pub groups_within_tasks :
    (groups_within (Implicit 0) groups_in_groups ≡ 0 ∷ []) × (groups_within (Implicit 1) groups_in_groups ≡ [])
    × (groups_within (Explicit 1) groups_in_groups ≡ 1 ∷ 0 ∷ []) × (groups_within (Explicit 1) (GroupEnd 1 1 ∷ groups_in_groups) ≡ 0 ∷ [])
groups_within_tasks = (refl, refl, refl, refl)

-- what each kind names: the region; the share, of its kind; the last group over the task
pub named_by_each_kind :
    (scope_of Parallel 0 [] ≡ Some Region) × (scope_of Taskgroup 0 groups_in_groups ≡ Some (OneGroup 0)) × (scope_of Taskgroup 1 groups_in_groups ≡ Some (OneGroup 0))
    × (scope_of Taskgroup 1 (Start 3 1 ∷ groups_in_groups) ≡ Some (OneGroup 1)) × (scope_of Taskgroup 0 (after (Group 0 0 ∷ [])) ≡ None)
named_by_each_kind = (refl, refl, refl, refl, refl)

-- member 0 is in a loop that may be cancelled, or in sections
abbrev cancellable_loop : Shape
cancellable_loop = record { start = pos 0; incr = pos 1; trips = 9; kind = ByDynamic; chunk = 2; ordered = false; end_kind = Cancellable }

abbrev in_a_loop : List Event
in_a_loop = after (Enter 0 0 (single_shape false) ∷ End 0 0 ∷ Enter 1 0 cancellable_loop ∷ [])

abbrev in_sections : List Event
in_sections = after (Enter 0 0 (sections_shape 3 Cancellable) ∷ [])

pub named_shares :
    (scope_of Loop 0 in_a_loop ≡ Some (OneShare 1)) × (scope_of Sections 0 in_a_loop ≡ None) × (scope_of Sections 0 in_sections ≡ Some (OneShare 0))
    × (scope_of Loop 0 in_sections ≡ None) × (scope_of Loop 1 in_a_loop ≡ None)
named_shares = (refl, refl, refl, refl, refl)

-- a share may be cancelled by the kind of its end
pub shares_that_may_be_cancelled :
    map may_be_cancelled (None ∷ Some (1, cancellable_loop) ∷ Some (1, record cancellable_loop { end_kind = Nowait }) ∷ []) ≡ false ∷ true ∷ false ∷ []
shares_that_may_be_cancelled = refl

-- a cancelled share is neither another one nor the region
pub one_share_cancelled :
    (map (λ i. share_cancelled i (Cancel 1 (OneShare 1) ∷ in_a_loop)) (0 ∷ 1 ∷ []) ≡ false ∷ true ∷ []) × (is_cancelled (Cancel 1 (OneShare 1) ∷ in_a_loop) ≡ false)
    × (own_cancelled 0 (Cancel 1 (OneShare 1) ∷ in_a_loop) ≡ true) × (own_cancelled 0 (Cancel 1 (OneShare 0) ∷ in_a_loop) ≡ false) × (share_cancelled 1 (Cancel 1 Region ∷ in_a_loop) ≡ false)
    × (own_cancelled 1 (Cancel 1 (OneShare 0) ∷ Cancel 1 (OneShare 1) ∷ in_a_loop) ≡ false)
one_share_cancelled = (refl, refl, refl, refl, refl, refl)

-- a cancelled group reaches its tasks, and those of groups within it; a group within it reaches its own alone; the region reaches all
pub tasks_that_are_reached :
    (map (λ t. is_covered t outer_cancelled) (1 ∷ 2 ∷ 3 ∷ []) ≡ true ∷ true ∷ true ∷ [])
    × (map (λ t. is_covered t (Cancel 1 (OneGroup 1) ∷ groups_in_groups)) (1 ∷ 2 ∷ 3 ∷ []) ≡ false ∷ false ∷ true ∷ [])
    × (map (λ t. is_covered t (Cancel 1 Region ∷ groups_in_groups)) (1 ∷ 2 ∷ 3 ∷ []) ≡ true ∷ true ∷ true ∷ [])
    × (map (λ t. is_covered t (Cancel 1 (OneShare 0) ∷ groups_in_groups)) (1 ∷ 2 ∷ 3 ∷ []) ≡ false ∷ false ∷ false ∷ [])
tasks_that_are_reached = (refl, refl, refl, refl)

-- a new task would be reached in the cancelled group, in a task of it, and not in a member's that is outside of it
pub tasks_that_would_be :
    (map (λ p. would_be_covered p outer_cancelled) (Implicit 0 ∷ Implicit 1 ∷ Explicit 1 ∷ Explicit 3 ∷ []) ≡ true ∷ false ∷ true ∷ true ∷ [])
    × (would_be_covered (Implicit 0) (GroupEnd 0 0 ∷ Done 2 0 ∷ outer_cancelled) ≡ false) × (would_be_covered (Implicit 1) (Cancel 0 Region ∷ groups_in_groups) ≡ true)
tasks_that_would_be = (refl, refl, refl)

-- of the reached tasks those are discarded that nobody has started, the newest first in the list
pub tasks_that_are_discarded :
    (discards 0 (OneGroup 0) groups_in_groups ≡ Discard 3 0 ∷ []) × (discards 0 (OneGroup 0) (Create 4 0 (Explicit 2) one_job ∷ groups_in_groups) ≡ Discard 4 0 ∷ Discard 3 0 ∷ [])
    × (discards 0 (OneGroup 0) (Start 3 1 ∷ groups_in_groups) ≡ []) × (discards 0 (OneShare 0) groups_in_groups ≡ [])
tasks_that_are_discarded = (refl, refl, refl, refl)

-- a true clause cancels, and its member sees that; a false one, and a cancellation point, see what is cancelled; else nothing happens
pub events_of_a_cancel :
    (tells_cancelled Taskgroup true 0 groups_in_groups (Cancelling true) ≡ See 0 Taskgroup ∷ Discard 3 0 ∷ Cancel 0 (OneGroup 0) ∷ [])
    × (tells_cancelled Taskgroup false 1 outer_cancelled (Cancelling true) ≡ See 1 Taskgroup ∷ []) × (tells_cancelled Taskgroup true 0 groups_in_groups (Cancelling false) ≡ [])
    × (tells_cancelled Loop true 0 in_a_loop (Cancelling true) ≡ See 0 Loop ∷ Cancel 0 (OneShare 1) ∷ [])
events_of_a_cancel = (refl, refl, refl, refl)

-- it tells of the region, of the share, and of a group around the task, be it the last opened or one around that, or the region
pub cancellations_that_are_told :
    (map (λ kind. names_cancelled kind 1 outer_cancelled) (Parallel ∷ Loop ∷ Sections ∷ Taskgroup ∷ []) ≡ false ∷ false ∷ false ∷ true ∷ [])
    × (names_cancelled Taskgroup 1 (Cancel 1 (OneGroup 1) ∷ groups_in_groups) ≡ false) × (names_cancelled Taskgroup 1 (Cancel 1 Region ∷ groups_in_groups) ≡ true)
    × (names_cancelled Loop 0 (Cancel 1 Region ∷ in_a_loop) ≡ false) × (names_cancelled Loop 0 (Cancel 1 (OneShare 1) ∷ in_a_loop) ≡ true)
    × (names_cancelled Sections 0 (Cancel 1 (OneShare 1) ∷ in_a_loop) ≡ false) × (names_cancelled Sections 0 (Cancel 1 (OneShare 0) ∷ in_sections) ≡ true)
    × (names_cancelled Taskgroup 1 (Start 3 1 ∷ outer_cancelled) ≡ true)
cancellations_that_are_told = (refl, refl, refl, refl, refl, refl, refl, refl)

-- if the control variable allows none, nothing is cancelled, whatever was
pub answers_to_a_cancel :
    TellsCancelled true Parallel true 0 [] (Cancelling true) × TellsCancelled true Parallel false 0 [] (Cancelling false) × TellsCancelled false Parallel true 0 [] (Cancelling false)
    × TellsCancelled true Parallel false 0 (Cancel 1 Region ∷ []) (Cancelling true) × TellsCancelled false Parallel false 0 (Cancel 1 Region ∷ []) (Cancelling false)
answers_to_a_cancel = (refl, refl, refl, refl, refl)

-- what a construct is tested for, by what it names
pub tests_of_a_cancel :
    (cancel_tests Parallel 0 groups_in_groups ≡ (true, InsideTask) ∷ []) × (cancel_tests Loop 0 in_a_loop ≡ (false, InsideTask) ∷ [])
    × (cancel_tests Taskgroup 0 groups_in_groups ≡ (false, NotInTask) ∷ (false, NoGroup) ∷ (false, GroupOpen) ∷ [])
    × (cancel_tests Taskgroup 1 groups_in_groups ≡ (false, NotInTask) ∷ (false, NoGroup) ∷ (true, GroupOpen) ∷ [])
    × (cancel_tests Taskgroup 0 [] ≡ (true, NotInTask) ∷ (true, NoGroup) ∷ (false, GroupOpen) ∷ [])
tests_of_a_cancel = (refl, refl, refl, refl, refl)

-- a member leaves the region for good, a share until its end, a task until its end; not the next share, nor a task that it starts
pub members_that_leave :
    (map (λ h. leaves_region 0 h) ([] ∷ (See 0 Parallel ∷ []) ∷ (See 1 Parallel ∷ []) ∷ (End 0 0 ∷ Done 1 0 ∷ See 0 Parallel ∷ []) ∷ (See 0 Loop ∷ []) ∷ []) ≡ false ∷ true ∷ false ∷ true ∷ false ∷ [])
    × (map (λ h. leaves_share 0 h) ((See 0 Loop ∷ []) ∷ (See 0 Sections ∷ []) ∷ (See 0 Taskgroup ∷ []) ∷ (End 0 1 ∷ See 0 Loop ∷ []) ∷ (End 0 0 ∷ See 0 Loop ∷ []) ∷ (Enter 1 0 cancellable_loop ∷ See 0 Loop ∷ []) ∷ (Enter 0 1 cancellable_loop ∷ See 0 Loop ∷ []) ∷ []) ≡ true ∷ true ∷ false ∷ true ∷ false ∷ false ∷ true ∷ [])
    × (map (λ h. leaves_task 0 h) ((See 0 Taskgroup ∷ []) ∷ (See 0 Loop ∷ []) ∷ (Done 2 1 ∷ See 0 Taskgroup ∷ []) ∷ (Done 2 0 ∷ See 0 Taskgroup ∷ []) ∷ (See 1 Taskgroup ∷ []) ∷ (Start 2 1 ∷ See 0 Taskgroup ∷ []) ∷ (Start 2 0 ∷ See 0 Taskgroup ∷ []) ∷ []) ≡ true ∷ false ∷ true ∷ false ∷ false ∷ true ∷ false ∷ [])
    × (map (λ h. is_leaving 0 h) ([] ∷ (See 0 Parallel ∷ []) ∷ (See 0 Sections ∷ []) ∷ (See 0 Taskgroup ∷ []) ∷ (See 1 Taskgroup ∷ []) ∷ []) ≡ false ∷ true ∷ true ∷ true ∷ false ∷ [])
members_that_leave = (refl, refl, refl, refl)

-- at its place a member sees that it leaves its share, and not that it leaves the region or a task, nor what another leaves
pub leaving_that_is_seen : map (λ h. (seen_of 0 h).leaving) ((See 0 Loop ∷ []) ∷ (See 0 Parallel ∷ []) ∷ (See 0 Taskgroup ∷ []) ∷ (See 1 Loop ∷ []) ∷ []) ≡ true ∷ false ∷ false ∷ false ∷ []
leaving_that_is_seen = refl

-- the region or a group asks for the room of an event, and may find no memory; a share does neither
pub room_of_a_cancel :
    (map cancel_room (Parallel ∷ Loop ∷ Sections ∷ Taskgroup ∷ []) ≡ 1 ∷ 0 ∷ 0 ∷ 1 ∷ []) × (map cancel_asks (Parallel ∷ Loop ∷ Sections ∷ Taskgroup ∷ []) ≡ true ∷ false ∷ false ∷ true ∷ [])
room_of_a_cancel = (refl, refl)

-- a construct that cancels keeps it
pub room_that_is_kept :
    (map (keeps_cancel true) (Cancelling true ∷ Cancelling false ∷ Dropped ∷ []) ≡ true ∷ false ∷ false ∷ []) × (map (keeps_cancel false) (Cancelling true ∷ Cancelling false ∷ []) ≡ false ∷ false ∷ [])
room_that_is_kept = (refl, refl)

-- a task that would be reached is not created, and its creator is told so; any other is created as always
pub created_or_dropped :
    (creates_uncovered 0 one_job outer_cancelled ≡ []) × (creates_uncovered 0 one_job groups_in_groups ≡ Create 4 0 (Explicit 2) one_job ∷ [])
    × CreatesOrDrops 0 outer_cancelled Dropped × (CreatesOrDrops 0 outer_cancelled (Created 4) → ⊥)
    × CreatesOrDrops 0 (Create 4 0 (Explicit 2) one_job ∷ groups_in_groups) (Created 4) × (CreatesOrDrops 0 (Create 4 0 (Explicit 2) one_job ∷ groups_in_groups) Dropped → ⊥)
created_or_dropped = (refl, refl, refl, λ is. absurd (cc), refl, λ is. absurd (cc))

-- a call that is cut short in a cancelled region is answered so, whatever it would be answered else
pub answers_cut_short :
    OrIsCancelled true (λ reply. reply ≡ Wait) Cancelled × (OrIsCancelled true (λ reply. reply ≡ Wait) Wait → ⊥) × OrIsCancelled false (λ reply. reply ≡ Wait) Wait × (OrIsCancelled false (λ reply. reply ≡ Wait) Cancelled → ⊥)
answers_cut_short = (refl, λ is. absurd (cc), refl, λ is. absurd (cc))

-- one that would wait is answered so instead, and any other as always
pub answers_uncancelled :
    OrWaitsCancelled true (λ reply. reply ≡ Wait) Cancelled × (OrWaitsCancelled true (λ reply. reply ≡ Wait) Wait → ⊥) × OrWaitsCancelled true (λ reply. reply ≡ Dropped) Dropped × (OrWaitsCancelled true (λ reply. reply ≡ Dropped) Cancelled → ⊥)
    × OrWaitsCancelled false (λ reply. reply ≡ Wait) Wait × (OrWaitsCancelled false (λ reply. reply ≡ Wait) Cancelled → ⊥)
answers_uncancelled = (refl, λ is. is, refl, λ is. absurd (cc), refl, λ is. absurd (cc))

-- a member that is answered so sees that the region is cancelled
pub seen_when_cut_short :
    (sees_cancelled 1 Cancelled (Cancel 0 Region ∷ []) ≡ See 1 Parallel ∷ []) × (sees_cancelled 1 Wait (Cancel 0 Region ∷ []) ≡ Cancel 0 Region ∷ []) × (unless_cancelled true (Cancel 0 Region ∷ []) ≡ [])
    × (unless_cancelled false (Cancel 0 Region ∷ []) ≡ Cancel 0 Region ∷ [])
seen_when_cut_short = (refl, refl, refl, refl)

-- the ends of a task and of the region leave no group open, unless their member gives it up; they are made outside of tasks, or in one
pub ends_that_leave_groups :
    (end_task_tests false 0 groups_in_groups ≡ (false, NotInTask) ∷ (false, GroupOpen) ∷ []) × (end_task_tests false 1 groups_in_groups ≡ (false, NotInTask) ∷ (true, GroupOpen) ∷ [])
    × (end_task_tests true 1 groups_in_groups ≡ (false, NotInTask) ∷ []) × (end_region_tests false 1 groups_in_groups ≡ (true, InsideTask) ∷ (true, GroupOpen) ∷ [])
    × (end_region_tests true 1 groups_in_groups ≡ (true, InsideTask) ∷ [])
ends_that_leave_groups = (refl, refl, refl, refl, refl)

-- in a cancelled region a member passes the region's end once all are there, at whatever barrier they were, and once; no other barrier is passed, though all have arrived there, nor by one who has not
pub passes_of_a_cancelled_region :
    (map (λ m. may_pass 2 m (after (Arrive 0 0 (at Barrier 0) ∷ Arrive 0 1 (at Barrier 0) ∷ Cancel 1 Region ∷ []))) (0 ∷ 1 ∷ []) ≡ false ∷ false ∷ [])
    × (map (λ m. may_pass 2 m (after (Arrive 0 0 (at Barrier 0) ∷ Cancel 1 Region ∷ Arrive 0 1 (at RegionEnd 0) ∷ []))) (0 ∷ 1 ∷ []) ≡ false ∷ false ∷ [])
    × (map (λ m. may_pass 2 m (after (Arrive 0 0 (at Barrier 0) ∷ Cancel 1 Region ∷ Arrive 0 1 (at RegionEnd 0) ∷ Arrive 0 0 (at RegionEnd 0) ∷ []))) (0 ∷ 1 ∷ 2 ∷ []) ≡ true ∷ true ∷ false ∷ [])
    × (map (λ m. may_pass 2 m (after (Arrive 0 0 (at Barrier 0) ∷ Cancel 1 Region ∷ Arrive 0 1 (at RegionEnd 0) ∷ Arrive 0 0 (at RegionEnd 0) ∷ Pass 0 0 ∷ []))) (0 ∷ 1 ∷ []) ≡ false ∷ true ∷ [])
passes_of_a_cancelled_region = (refl, refl, refl, refl)
