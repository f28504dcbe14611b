-- What the rows of groups and tasks say, and when they stand for events: for each line of a definition what it says, and what it alone refuses.
use Rattle.std.proofs.Common.{◌≡◌, ℕ, ◌+◌, ◌<◌, ◌≤◌, true, false, List, [], ◌∷◌, ◌++◌, Some, None, suc, zero, refl, ap, ◌∙◌, sym, arith}
use Rattle.std.specs.Prelude.{◌==◌, if◌then◌else◌, map}
use Rattle.std.proofs.lemmas.Option.{same_Some}
use Rattle.gomp_rows.specs.Rows.{row_no, HasRow}
use Rattle.gomp_types.specs.declared.cancel.CancelKind.{CancelKind}
use Rattle.gomp_types.specs.declared.cancel.Scope.{Scope}
use Rattle.gomp_types.specs.declared.refusal.Place.{Place}
use Rattle.gomp_types.specs.declared.key.Key.{Key}
use Rattle.gomp_types.specs.declared.shape.Shape.{Shape}
use Rattle.gomp_types.specs.declared.task.Task.{Task}
use Rattle.gomp_types.specs.declared.task.Task.TheVariants.{Implicit, Explicit}
use Rattle.gomp_events.specs.declared.event.Tag.{Tag}
use Rattle.gomp_events.specs.declared.event.Event.TheVariants.{Enter, Take, Drained, End, HandOn, Part, PartEnd, Put, Got, Arrive, Pass, Hold, Free, Create, Start, Done, Discard, Group, GroupEnd, Waited, Cancel, See, Break}
use Rattle.gomp_events.specs.Laws.{Always}
use Rattle.gomp_events.specs.Tasks.{open_tasks, is_child, is_created, is_complete, same_task, contains}
use Rattle.gomp_events.specs.Groups.{in_group, open_groups}
use Rattle.gomp_events.specs.Cancels.{first_in, groups_over, groups_within}
use Rattle.gomp_events.specs.TaskRules.{TaskRule}
use Rattle.gomp_types.proofs.Booleans.{other_number, one_is_below_two}
use Rattle.gomp_events.proofs.OpenTasks.{created_high}
use Rattle.gomp_groups.specs.declared.rows.SeatedTask.{SeatedTask}
use Rattle.gomp_groups.specs.Rows.{no_seat, outer_at, pending_at, since_at, seat_at, IsSeatedIn, IsChain, IsNested, same_group, own_group, some_marked, CountsOneMore, with_seat, members_with_seat, needed_row, after_child, members_after_child}
use Rattle.gomp_groups.specs.Stands.{GroupsStand}
use Rattle.gomp_groups.specs.Calls.{last_open, tasks_before, IsLastOf, Executes, MayClose, MayCreateIn, Completes, MayComplete, IsNoGroupEvent}
use Rattle.gomp_groups.specs.Examples.{some_desc, group_with, seat_with, task_with, ended_with, one_in_group, discarded, grandchild, child_left, both_ended, one_group, one_task, one_member, three_groups, three_tasks, two_members, two_tasks, no_rows}

-- no later number is that of one of three groups or tasks
not_zero : (n : ℕ) → (0 == suc n) ≡ false
not_zero n = other_number 0 (suc n) (λ e. omega (arith, e))

not_two : (n : ℕ) → (2 == suc (suc (suc n))) ≡ false
not_two n = other_number 2 (suc (suc (suc n))) (λ e. omega (arith, e))

not_three : (n : ℕ) → (3 == suc (suc (suc (suc n)))) ≡ false
not_three n = other_number 3 (suc (suc (suc (suc n)))) (λ e. omega (arith, e))

-- Rows and seats

-- the group around the last one, and how many tasks are open in it
pub outer_of_the_last : outer_at three_groups 2 ≡ Some 1
outer_of_the_last = refl

pub pending_of_the_last : pending_at three_groups 2 ≡ 1
pending_of_the_last = refl

-- and how many were created before it
pub since_of_the_last : since_at three_groups 2 ≡ 2
since_of_the_last = refl

-- a group that was not opened is in no other, and has no task
pub outer_of_no_group : outer_at three_groups 3 ≡ None
outer_of_no_group = refl

pub pending_of_no_group : pending_at three_groups 3 ≡ 0
pending_of_no_group = refl

pub since_of_no_group : since_at three_groups 3 ≡ 0
since_of_no_group = refl

-- the seat of a member, and of a task: these are numbered from 1
pub seat_of_a_member : seat_at three_tasks two_members (Implicit 0) ≡ seat_with 2 None (Some 1)
seat_of_a_member = refl

pub seat_of_a_task : seat_at three_tasks two_members (Explicit 2) ≡ seat_with 1 (Some 1) (Some 2)
seat_of_a_task = refl

-- no task has the number 0, and none beyond the last has a seat
pub seat_of_no_task : seat_at three_tasks two_members (Explicit 0) ≡ no_seat
seat_of_no_task = refl

pub seat_beyond_the_tasks : seat_at three_tasks two_members (Explicit 4) ≡ no_seat
seat_beyond_the_tasks = refl

pub seat_beyond_the_members : seat_at three_tasks two_members (Implicit 2) ≡ no_seat
seat_beyond_the_members = refl

-- who is seated
pub member_is_seated : IsSeatedIn three_tasks two_members (Implicit 1)
member_is_seated = omega arith

pub task_is_seated : IsSeatedIn three_tasks two_members (Explicit 3)
task_is_seated = refl

-- a complete task that has a row still is
pub ended_task_is_seated : IsSeatedIn two_tasks [] (Explicit 1)
ended_task_is_seated = refl

-- and who is not
pub other_member_is_not_seated : IsSeatedIn three_tasks two_members (Implicit 2) → ⊥
other_member_is_not_seated is = absurd (omega (arith, is))

pub task_zero_is_not_seated : IsSeatedIn three_tasks two_members (Explicit 0) → ⊥
task_zero_is_not_seated is = absurd (cc)

pub later_task_is_not_seated : IsSeatedIn three_tasks two_members (Explicit 4) → ⊥
later_task_is_not_seated is = absurd (cc)

-- nor is one whose row was taken out: it has no child
pub task_without_row_is_not_seated : IsSeatedIn no_rows two_members (Explicit 2) → ⊥
task_without_row_is_not_seated is = absurd (cc)

pub seat_without_a_row : seat_at no_rows two_members (Explicit 2) ≡ no_seat
seat_without_a_row = refl

-- Rows that are written and taken out

-- a task's seat is written into its row, or that of its member
pub seat_of_one_written : with_seat two_tasks (Explicit 2) (seat_with 3 None (Some 4)) ≡ ended_with (Implicit 0) (seat_with 1 None None) ∷ task_with (Explicit 1) (seat_with 3 None (Some 4)) ∷ []
seat_of_one_written = refl

pub seat_of_ended_written : with_seat two_tasks (Explicit 1) (seat_with 3 None (Some 4)) ≡ ended_with (Implicit 0) (seat_with 3 None (Some 4)) ∷ task_with (Explicit 1) (seat_with 0 None None) ∷ []
seat_of_ended_written = refl

pub seat_of_a_member_written : (with_seat two_tasks (Implicit 1) (seat_with 3 None (Some 4)) ≡ two_tasks) × (members_with_seat two_members (Implicit 1) (seat_with 3 None (Some 4)) ≡ seat_with 2 None (Some 1) ∷ seat_with 3 None (Some 4) ∷ []) × (members_with_seat two_members (Explicit 1) (seat_with 3 None (Some 4)) ≡ two_members)
seat_of_a_member_written = (refl, refl, refl)

-- a complete task's row is kept while a child of it is open, and no longer
pub complete_row_with_a_child : needed_row (record { parent = Implicit 0; seat = seat_with 1 None None; complete = true }) ≡ ended_with (Implicit 0) (seat_with 1 None None)
complete_row_with_a_child = refl

pub complete_row_without_a_child : needed_row (record { parent = Implicit 0; seat = seat_with 0 (Some 1) (Some 2); complete = true }) ≡ None
complete_row_without_a_child = refl

-- that of an open one always
pub open_row_without_a_child : needed_row (record { parent = Implicit 0; seat = seat_with 0 None None; complete = false }) ≡ task_with (Implicit 0) (seat_with 0 None None)
open_row_without_a_child = refl

-- a child's end takes its parent's row out, if that is complete and has no other open child
pub last_child_takes_row_out : after_child two_tasks (Explicit 1) ≡ None ∷ task_with (Explicit 1) (seat_with 0 None None) ∷ []
last_child_takes_row_out = refl

pub one_of_two_children : after_child (ended_with (Implicit 0) (seat_with 2 None None) ∷ []) (Explicit 1) ≡ ended_with (Implicit 0) (seat_with 1 None None) ∷ []
one_of_two_children = refl

pub child_of_an_open_task : after_child (task_with (Implicit 0) (seat_with 1 (Some 3) (Some 4)) ∷ []) (Explicit 1) ≡ task_with (Implicit 0) (seat_with 0 (Some 3) (Some 4)) ∷ []
child_of_an_open_task = refl

pub child_of_a_member : (after_child two_tasks (Implicit 0) ≡ two_tasks) × (members_after_child two_members (Implicit 0) ≡ seat_with 1 None (Some 1) ∷ seat_with 0 None None ∷ []) × (members_after_child two_members (Explicit 1) ≡ two_members)
child_of_a_member = (refl, refl, refl)

-- Chains

-- the groups from the last one outwards
pub chain_of_three : IsChain three_groups (Some 2) (2 ∷ 1 ∷ 0 ∷ [])
chain_of_three = (refl, omega arith, (refl, omega arith, (refl, omega arith, refl)))

-- a chain that begins elsewhere
pub chain_elsewhere : IsChain three_groups (Some 1) (2 ∷ 1 ∷ 0 ∷ []) → ⊥
chain_elsewhere chain = absurd (let first = chain.0 in cc)

-- one that leaves a group out
pub chain_with_a_gap : IsChain three_groups (Some 2) (2 ∷ 0 ∷ []) → ⊥
chain_with_a_gap chain = absurd (let next = chain.2.0 in cc)

-- one that ends too early
pub chain_too_short : IsChain three_groups (Some 2) (2 ∷ 1 ∷ []) → ⊥
chain_too_short chain = absurd (let end = chain.2.2 in cc)

-- one to a group that was not opened
pub chain_to_no_group : IsChain three_groups (Some 3) (3 ∷ []) → ⊥
chain_to_no_group chain = absurd (let within = chain.1 in omega (arith, within))

-- groups lie in earlier ones
pub three_are_nested : IsNested three_groups
three_are_nested zero = tt
three_are_nested (suc zero) = omega arith
three_are_nested (suc (suc zero)) = omega arith
three_are_nested (suc (suc (suc q))) = tt

-- a group in itself
pub not_in_itself : IsNested (group_with None 0 0 ∷ group_with (Some 1) 0 0 ∷ []) → ⊥
not_in_itself nested = absurd (let lt = nested 1 in omega (arith, lt))

-- The group that a task has open itself

pub same_groups : (same_group None None ≡ true) × (same_group (Some 3) (Some 3) ≡ true)
same_groups = (refl, refl)

pub other_groups : (same_group (Some 3) (Some 4) ≡ false) × (same_group (Some 3) None ≡ false) × (same_group None (Some 3) ≡ false)
other_groups = (refl, refl, refl)

-- a group of an implicit task, and one that a child opened
pub own_of_a_member : own_group (seat_with 2 None (Some 1)) ≡ Some 1
own_of_a_member = refl

pub own_of_a_child : own_group (seat_with 1 (Some 1) (Some 2)) ≡ Some 2
own_of_a_child = refl

-- a task that is in a group has not opened it
pub none_of_its_own : own_group (seat_with 0 (Some 2) (Some 2)) ≡ None
none_of_its_own = refl

pub no_groups_at_all : own_group no_seat ≡ None
no_groups_at_all = refl

-- the last open group is the one that was opened last
pub last_of_the_member : last_open (Implicit 0) grandchild ≡ Some 1
last_of_the_member = refl

pub last_of_the_child : last_open (Explicit 2) grandchild ≡ Some 2
last_of_the_child = refl

pub last_of_the_grandchild : last_open (Explicit 3) grandchild ≡ None
last_of_the_grandchild = refl

-- once it is ended, the one before it
pub last_after_an_end : last_open (Implicit 0) (GroupEnd 1 0 ∷ Group 1 0 ∷ one_in_group) ≡ Some 0
last_after_an_end = refl

-- so many tasks were created before each of the three, and before one that was not opened none
pub tasks_before_groups : map (λ q. tasks_before q grandchild) (0 ∷ 1 ∷ 2 ∷ 3 ∷ []) ≡ 0 ∷ 1 ∷ 2 ∷ 0 ∷ []
tasks_before_groups = refl

-- the groups that wait for a task: those of its parent, and those that wait for that
pub over_the_grandchild : groups_over (Explicit 3) grandchild ≡ 2 ∷ 1 ∷ 0 ∷ []
over_the_grandchild = refl

-- no group waits for an implicit task
pub over_the_member : groups_over (Implicit 0) grandchild ≡ []
over_the_member = refl

-- the innermost of them, which `cancel taskgroup` names, was opened last
pub innermost_of_the_grandchild : first_in (groups_over (Explicit 3) grandchild) ≡ Some 2
innermost_of_the_grandchild = refl

pub innermost_of_the_member : first_in (groups_over (Implicit 0) grandchild) ≡ None
innermost_of_the_member = refl

pub last_of_three : IsLastOf (2 ∷ 1 ∷ 0 ∷ []) 2
last_of_three = (refl, later)
  where
    later : (x : ℕ) → contains x (2 ∷ 1 ∷ 0 ∷ []) ≡ true → x ≤ 2
    later zero there = omega arith
    later (suc zero) there = omega arith
    later (suc (suc zero)) there = omega arith
    later (suc (suc (suc x))) there = absurd (let no : false ≡ true = rw (not_two x, one_is_below_two (suc x), not_zero (suc (suc x))) at there in cc)

-- an earlier one, and a later one that is none of them, are not the last
pub earlier_is_not_the_last : IsLastOf (2 ∷ 1 ∷ 0 ∷ []) 1 → ⊥
earlier_is_not_the_last is = absurd (let most = is.1 2 refl in omega (arith, most))

pub other_is_not_the_last : IsLastOf (2 ∷ 1 ∷ 0 ∷ []) 3 → ⊥
other_is_not_the_last is = absurd (let there = is.0 in cc)

-- Marks

-- one of three groups has its mark, and none of two others
pub mark_of_the_second : some_marked (false ∷ true ∷ false ∷ []) (2 ∷ 1 ∷ 0 ∷ []) ≡ true
mark_of_the_second = refl

pub mark_of_another : some_marked (false ∷ true ∷ false ∷ []) (2 ∷ 0 ∷ []) ≡ false
mark_of_another = refl

-- nor has a group that was not opened, nor any of none
pub mark_of_no_group : some_marked (true ∷ true ∷ []) (2 ∷ []) ≡ false
mark_of_no_group = refl

pub mark_of_none : some_marked (true ∷ true ∷ []) [] ≡ false
mark_of_none = refl

-- Counts

-- a task in the outer two of three groups
pub counts_in_two : CountsOneMore (1 ∷ 0 ∷ []) three_groups (group_with None 4 0 ∷ group_with (Some 0) 3 1 ∷ group_with (Some 1) 1 2 ∷ [])
counts_in_two = record { len = refl; outer = outer; pending = pending; since = since }
  where
    outer : (q : ℕ) → outer_at (group_with None 4 0 ∷ group_with (Some 0) 3 1 ∷ group_with (Some 1) 1 2 ∷ []) q ≡ outer_at three_groups q
    outer zero = refl
    outer (suc zero) = refl
    outer (suc (suc zero)) = refl
    outer (suc (suc (suc q))) = refl

    pending : (q : ℕ) → pending_at (group_with None 4 0 ∷ group_with (Some 0) 3 1 ∷ group_with (Some 1) 1 2 ∷ []) q ≡ pending_at three_groups q + (if contains q (1 ∷ 0 ∷ []) then 1 else 0)
    pending zero = refl
    pending (suc zero) = refl
    pending (suc (suc zero)) = refl
    pending (suc (suc (suc q))) = rw (one_is_below_two (suc q), not_zero (suc (suc q))) refl

    since : (q : ℕ) → since_at (group_with None 4 0 ∷ group_with (Some 0) 3 1 ∷ group_with (Some 1) 1 2 ∷ []) q ≡ since_at three_groups q
    since zero = refl
    since (suc zero) = refl
    since (suc (suc zero)) = refl
    since (suc (suc (suc q))) = refl

-- a group is lost
pub counts_fewer_groups : CountsOneMore [] one_group [] → ⊥
counts_fewer_groups counts = absurd (let len = counts.len in omega (arith, len))

-- a group lies in another one
pub counts_another_outer : CountsOneMore [] (group_with None 0 0 ∷ group_with None 0 0 ∷ []) (group_with None 0 0 ∷ group_with (Some 0) 0 0 ∷ []) → ⊥
counts_another_outer counts = absurd (let outer = counts.outer 1 in cc)

-- a group is counted in which the task is not
pub counts_another_group : CountsOneMore [] one_group (group_with None 2 0 ∷ []) → ⊥
counts_another_group counts = absurd (let pending = counts.pending 0 in omega (arith, pending))

-- one in which it is is not counted
pub counts_no_group : CountsOneMore (0 ∷ []) one_group one_group → ⊥
counts_no_group counts = absurd (let pending = counts.pending 0 in omega (arith, pending))

-- a group was opened later
pub counts_a_later_group : CountsOneMore [] one_group (group_with None 1 1 ∷ []) → ⊥
counts_a_later_group counts = absurd (let since = counts.since 0 in omega (arith, since))

-- When rows stand for events

-- the rows of the grandchild's list: it is counted in all three groups, and is a child of the task that created it alone
pub grandchild_stands : GroupsStand three_groups three_tasks two_members grandchild
grandchild_stands = record { opened = refl; created = refl; nested = three_are_nested; pending = pending; since = since; gone = gone; complete = complete; needed = needed; parent = parent; children = children; around = around; last = last; rule = rule }
  where
    pending : (q : ℕ) → open_tasks (λ t. in_group q t grandchild) grandchild ≡ pending_at three_groups q
    pending zero = refl
    pending (suc zero) = refl
    pending (suc (suc zero)) = refl
    pending (suc (suc (suc q))) = rw (not_two q, one_is_below_two (suc q), not_zero (suc (suc q))) refl

    since : (q : ℕ) → tasks_before q grandchild ≡ since_at three_groups q
    since zero = refl
    since (suc zero) = refl
    since (suc (suc zero)) = refl
    since (suc (suc (suc q))) = rw (not_two q, one_is_below_two (suc q), not_zero (suc (suc q))) refl

    gone : (t : ℕ) → is_created t grandchild ≡ true → row_no three_tasks t ≡ None → is_complete t grandchild ≡ true
    gone zero made none = absurd (cc)
    gone (suc zero) made none = absurd (cc)
    gone (suc (suc zero)) made none = absurd (cc)
    gone (suc (suc (suc zero))) made none = absurd (cc)
    gone (suc (suc (suc (suc t)))) made none = absurd (let high = created_high (suc (suc (suc (suc t)))) grandchild made in omega (arith, high))

    complete : (t : ℕ) (row : SeatedTask) → row_no three_tasks t ≡ Some row → is_complete t grandchild ≡ row.complete
    complete zero row is = absurd (cc)
    complete (suc zero) row is = ap (λ (r : SeatedTask). r.complete) (same_Some _ row is)
    complete (suc (suc zero)) row is = ap (λ (r : SeatedTask). r.complete) (same_Some _ row is)
    complete (suc (suc (suc zero))) row is = ap (λ (r : SeatedTask). r.complete) (same_Some _ row is)
    complete (suc (suc (suc (suc t)))) row is = absurd (cc)

    needed : (t : ℕ) (row : SeatedTask) → row_no three_tasks t ≡ Some row → row.complete ≡ true → 0 < row.seat.children
    needed t row is over = absurd (let e = complete t row is in let none = by t in let no : false ≡ true = sym none ∙ e ∙ over in cc)
      where
        by : (t : ℕ) → is_complete t grandchild ≡ false
        by t = refl

    parent : (t : ℕ) (row : SeatedTask) → row_no three_tasks t ≡ Some row → (p : Task) → is_child p t grandchild ≡ same_task row.parent p
    parent zero row is p = absurd (cc)
    parent (suc zero) row is p = ap (λ (r : SeatedTask). same_task r.parent p) (same_Some _ row is)
    parent (suc (suc zero)) row is p = ap (λ (r : SeatedTask). same_task r.parent p) (same_Some _ row is)
    parent (suc (suc (suc zero))) row is p = ap (λ (r : SeatedTask). same_task r.parent p) (same_Some _ row is)
    parent (suc (suc (suc (suc t)))) row is p = absurd (cc)

    children : (p : Task) → open_tasks (λ t. is_child p t grandchild) grandchild ≡ (seat_at three_tasks two_members p).children
    children (Implicit zero) = refl
    children (Implicit (suc zero)) = refl
    children (Implicit (suc (suc m))) = rw (not_zero (suc m)) refl
    children (Explicit zero) = refl
    children (Explicit (suc zero)) = refl
    children (Explicit (suc (suc zero))) = refl
    children (Explicit (suc (suc (suc zero)))) = refl
    children (Explicit (suc (suc (suc (suc t))))) = rw (not_two (suc t)) refl

    around : (p : Task) → IsSeatedIn three_tasks two_members p → IsChain three_groups (seat_at three_tasks two_members p).around (groups_over p grandchild)
    around (Implicit zero) seated = refl
    around (Implicit (suc zero)) seated = refl
    around (Implicit (suc (suc m))) seated = refl
    around (Explicit zero) seated = refl
    around (Explicit (suc zero)) seated = (refl, omega arith, refl)
    around (Explicit (suc (suc zero))) seated = (refl, omega arith, (refl, omega arith, refl))
    around (Explicit (suc (suc (suc zero)))) seated = chain_of_three
    around (Explicit (suc (suc (suc (suc t))))) seated = absurd (cc)

    last : (p : Task) → IsSeatedIn three_tasks two_members p → IsChain three_groups (seat_at three_tasks two_members p).last (open_groups p grandchild ++ groups_over p grandchild)
    last (Implicit zero) seated = (refl, omega arith, (refl, omega arith, refl))
    last (Implicit (suc zero)) seated = refl
    last (Implicit (suc (suc m))) seated = rw (not_zero (suc m)) refl
    last (Explicit zero) seated = refl
    last (Explicit (suc zero)) seated = (refl, omega arith, refl)
    last (Explicit (suc (suc zero))) seated = chain_of_three
    last (Explicit (suc (suc (suc zero)))) seated = chain_of_three
    last (Explicit (suc (suc (suc (suc t))))) seated = absurd (cc)

    rule : Always (TaskRule 2) grandchild
    rule = (
      record { member = omega arith; number = refl; current = refl; away = λ free. refl; shallow = omega arith; uncovered = refl },
      (
        record { member = omega arith; number = refl },
        (
          record { member = omega arith; may = refl; own = λ undeferred. absurd (cc) },
          (
            record { member = omega arith; number = refl; current = refl; away = λ free. refl; shallow = omega arith; uncovered = refl },
            (
              record { member = omega arith; number = refl },
              (record { member = omega arith; number = refl; current = refl; away = λ free. refl; shallow = omega arith; uncovered = refl }, (record { member = omega arith; number = refl }, tt)),
            ),
          ),
        ),
      ),
    )

-- a group that nobody opened
pub row_of_no_group : GroupsStand (group_with None 0 0 ∷ []) [] [] [] → ⊥
row_of_no_group stands = absurd (let opened = stands.opened in omega (arith, opened))

-- a task without its row
pub task_without_a_row : GroupsStand [] [] (seat_with 1 None None ∷ []) (Create 1 0 (Implicit 0) some_desc ∷ []) → ⊥
task_without_a_row stands = absurd (let created = stands.created in omega (arith, created))

-- a group that was ended, in a later one
pub group_in_a_later_one : GroupsStand (group_with (Some 1) 0 0 ∷ []) [] (no_seat ∷ []) (GroupEnd 0 0 ∷ Group 0 0 ∷ []) → ⊥
group_in_a_later_one stands = absurd (let lt = stands.nested 0 in omega (arith, lt))

-- a group whose task is not counted
pub group_of_no_task : GroupsStand (group_with None 0 0 ∷ []) one_task one_member one_in_group → ⊥
group_of_no_task stands = absurd (let pending = stands.pending 0 in omega (arith, pending))

-- a group that is kept as if it had been opened after its task
pub group_after_its_task : GroupsStand (group_with None 1 1 ∷ []) one_task one_member one_in_group → ⊥
group_after_its_task stands = absurd (let since = stands.since 0 in omega (arith, since))

-- the grandchild counted in its own group alone
pub grandchild_in_one_group : GroupsStand (group_with None 2 0 ∷ group_with (Some 0) 1 1 ∷ group_with (Some 1) 1 2 ∷ []) three_tasks two_members grandchild → ⊥
grandchild_in_one_group stands = absurd (let pending = stands.pending 0 in omega (arith, pending))

-- a task that another one created
pub task_of_another_parent : GroupsStand one_group (task_with (Implicit 1) (seat_with 0 (Some 0) (Some 0)) ∷ []) one_member one_in_group → ⊥
task_of_another_parent stands = absurd (let parent = stands.parent 1 _ refl (Implicit 1) in cc)

-- a child that is not counted, and one of the other member that is
pub child_not_counted : GroupsStand one_group one_task (seat_with 0 None (Some 0) ∷ seat_with 0 None None ∷ []) one_in_group → ⊥
child_not_counted stands = absurd (let children = stands.children (Implicit 0) in omega (arith, children))

pub child_of_the_other_member : GroupsStand one_group one_task (seat_with 1 None (Some 0) ∷ seat_with 1 None None ∷ []) one_in_group → ⊥
child_of_the_other_member stands = absurd (let children = stands.children (Implicit 1) in omega (arith, children))

-- the grandchild counted as a child of its grandparent
pub grandchild_as_a_child : GroupsStand three_groups three_tasks (seat_with 3 None (Some 1) ∷ seat_with 0 None None ∷ []) grandchild → ⊥
grandchild_as_a_child stands = absurd (let children = stands.children (Implicit 0) in omega (arith, children))

-- a task that is in no group, as if it had opened its parent's
pub task_in_no_group : GroupsStand one_group (task_with (Implicit 0) (seat_with 0 None (Some 0)) ∷ []) one_member one_in_group → ⊥
task_in_no_group stands = absurd (let around = stands.around (Explicit 1) refl in let first = around.0 in cc)

-- a task whose children are in no group
pub child_in_no_group : GroupsStand one_group (task_with (Implicit 0) (seat_with 0 (Some 0) None) ∷ []) one_member one_in_group → ⊥
child_in_no_group stands = absurd (let last = stands.last (Explicit 1) refl in let first = last.0 in cc)

-- a member whose last group is the first that it opened
pub first_group_as_the_last : GroupsStand (group_with None 0 0 ∷ group_with (Some 0) 0 0 ∷ []) [] (seat_with 0 None (Some 0) ∷ []) (Group 1 0 ∷ Group 0 0 ∷ []) → ⊥
first_group_as_the_last stands = absurd (let last = stands.last (Implicit 0) (omega arith) in let first = last.0 in cc)

-- a group in which the one around it was forgotten
pub outer_forgotten : GroupsStand (group_with None 0 0 ∷ group_with None 0 0 ∷ []) [] (seat_with 0 None (Some 1) ∷ []) (Group 1 0 ∷ Group 0 0 ∷ []) → ⊥
outer_forgotten stands = absurd (let last = stands.last (Implicit 0) (omega arith) in let next = last.2.0 in cc)

-- a task that was started before it was created
pub started_before_created : GroupsStand [] [] (no_seat ∷ []) (Start 1 0 ∷ []) → ⊥
started_before_created stands = absurd (let may = stands.rule.0.may in cc)

-- a group that was ended while a grandchild was open
pub ended_with_a_grandchild : GroupsStand (group_with None 1 0 ∷ []) [] [] (GroupEnd 0 0 ∷ Create 2 0 (Explicit 1) some_desc ∷ Start 1 0 ∷ one_in_group) → ⊥
ended_with_a_grandchild stands = absurd (let complete = stands.rule.0.complete in cc)

-- no number has a row
no_task_left : (t : ℕ) → HasRow {T = SeatedTask} (None ∷ []) t → ⊥
no_task_left zero there = absurd (cc)
no_task_left (suc zero) there = absurd (cc)
no_task_left (suc (suc t)) there = absurd (cc)

-- the task was discarded: it has no row any more, is open in no group, and for no parent
pub discarded_stands : GroupsStand (group_with None 0 0 ∷ []) (None ∷ []) (seat_with 0 None (Some 0) ∷ seat_with 0 None None ∷ []) discarded
discarded_stands = record { opened = refl; created = refl; nested = nested; pending = pending; since = since; gone = gone; complete = λ t row is. absurd (no_row t row is); needed = λ t row is. absurd (no_row t row is); parent = λ t row is. absurd (no_row t row is); children = children; around = around; last = last; rule = rule }
  where
    nested : IsNested (group_with None 0 0 ∷ [])
    nested zero = tt
    nested (suc q) = tt

    pending : (q : ℕ) → open_tasks (λ t. in_group q t discarded) discarded ≡ pending_at (group_with None 0 0 ∷ []) q
    pending zero = refl
    pending (suc q) = rw (not_zero q) refl

    since : (q : ℕ) → tasks_before q discarded ≡ since_at (group_with None 0 0 ∷ []) q
    since zero = refl
    since (suc q) = rw (not_zero q) refl

    gone : (t : ℕ) → is_created t discarded ≡ true → row_no {T = SeatedTask} (None ∷ []) t ≡ None → is_complete t discarded ≡ true
    gone zero made none = absurd (cc)
    gone (suc zero) made none = refl
    gone (suc (suc t)) made none = absurd (let high = created_high (suc (suc t)) discarded made in omega (arith, high))

    no_row : (t : ℕ) (row : SeatedTask) → row_no (None ∷ []) t ≡ Some row → ⊥
    no_row zero row is = absurd (cc)
    no_row (suc zero) row is = absurd (cc)
    no_row (suc (suc t)) row is = absurd (cc)

    children : (p : Task) → open_tasks (λ t. is_child p t discarded) discarded ≡ (seat_at (None ∷ []) (seat_with 0 None (Some 0) ∷ seat_with 0 None None ∷ []) p).children
    children (Implicit zero) = refl
    children (Implicit (suc zero)) = refl
    children (Implicit (suc (suc m))) = rw (not_zero (suc m)) refl
    children (Explicit zero) = refl
    children (Explicit (suc zero)) = refl
    children (Explicit (suc (suc t))) = refl

    around : (p : Task) → IsSeatedIn (None ∷ []) (seat_with 0 None (Some 0) ∷ seat_with 0 None None ∷ []) p → IsChain (group_with None 0 0 ∷ []) (seat_at (None ∷ []) (seat_with 0 None (Some 0) ∷ seat_with 0 None None ∷ []) p).around (groups_over p discarded)
    around (Implicit zero) seated = refl
    around (Implicit (suc zero)) seated = refl
    around (Implicit (suc (suc m))) seated = refl
    around (Explicit t) seated = absurd (no_task_left t seated)

    last : (p : Task) → IsSeatedIn (None ∷ []) (seat_with 0 None (Some 0) ∷ seat_with 0 None None ∷ []) p → IsChain (group_with None 0 0 ∷ []) (seat_at (None ∷ []) (seat_with 0 None (Some 0) ∷ seat_with 0 None None ∷ []) p).last (groups_within p discarded)
    last (Implicit zero) seated = (refl, omega arith, refl)
    last (Implicit (suc zero)) seated = refl
    last (Implicit (suc (suc m))) seated = rw (not_zero (suc m)) refl
    last (Explicit t) seated = absurd (no_task_left t seated)

    rule : Always (TaskRule 2) discarded
    rule = (
      record { member = omega arith; unstarted = refl; covered = refl },
      (
        tt,
        (record { member = omega arith; number = refl; current = refl; away = λ free. refl; shallow = omega arith; uncovered = refl }, (record { member = omega arith; number = refl }, tt)),
      ),
    )

-- it does not stand open in its group
pub discarded_in_its_group : GroupsStand one_group (None ∷ []) (seat_with 0 None (Some 0) ∷ seat_with 0 None None ∷ []) discarded → ⊥
discarded_in_its_group stands = absurd (let pending = stands.pending 0 in omega (arith, pending))

-- nor is it an open child
pub discarded_child : GroupsStand (group_with None 0 0 ∷ []) (None ∷ []) one_member discarded → ⊥
discarded_child stands = absurd (let children = stands.children (Implicit 0) in omega (arith, children))

-- a task that is discarded though nothing is cancelled
pub discarded_uncancelled : GroupsStand (group_with None 0 0 ∷ []) (None ∷ []) (seat_with 0 None (Some 0) ∷ []) (Discard 1 0 ∷ one_in_group) → ⊥
discarded_uncancelled stands = absurd (let covered = stands.rule.0.covered in cc)

-- nor has it a row
pub discarded_with_a_row : GroupsStand (group_with None 0 0 ∷ []) one_task (seat_with 0 None (Some 0) ∷ seat_with 0 None None ∷ []) discarded → ⊥
discarded_with_a_row stands = absurd (let e = stands.complete 1 _ refl in cc)

-- a complete task with an open child keeps its row, which says so
pub child_left_stands : GroupsStand [] two_tasks (no_seat ∷ []) child_left
child_left_stands = record { opened = refl; created = refl; nested = λ q. tt; pending = λ q. refl; since = λ q. refl; gone = gone; complete = complete; needed = needed; parent = parent; children = children; around = around; last = last; rule = rule }
  where
    gone : (t : ℕ) → is_created t child_left ≡ true → row_no two_tasks t ≡ None → is_complete t child_left ≡ true
    gone zero made none = absurd (cc)
    gone (suc zero) made none = absurd (cc)
    gone (suc (suc zero)) made none = absurd (cc)
    gone (suc (suc (suc t))) made none = absurd (let high = created_high (suc (suc (suc t))) child_left made in omega (arith, high))

    complete : (t : ℕ) (row : SeatedTask) → row_no two_tasks t ≡ Some row → is_complete t child_left ≡ row.complete
    complete zero row is = absurd (cc)
    complete (suc zero) row is = ap (λ (r : SeatedTask). r.complete) (same_Some _ row is)
    complete (suc (suc zero)) row is = ap (λ (r : SeatedTask). r.complete) (same_Some _ row is)
    complete (suc (suc (suc t))) row is = absurd (cc)

    needed : (t : ℕ) (row : SeatedTask) → row_no two_tasks t ≡ Some row → row.complete ≡ true → 0 < row.seat.children
    needed zero row is over = absurd (cc)
    needed (suc zero) row is over = let count : 1 ≡ row.seat.children = ap (λ (r : SeatedTask). r.seat.children) (same_Some _ row is) in omega (arith, count)
    needed (suc (suc zero)) row is over = absurd (let no : false ≡ true = ap (λ (r : SeatedTask). r.complete) (same_Some _ row is) ∙ over in cc)
    needed (suc (suc (suc t))) row is over = absurd (cc)

    parent : (t : ℕ) (row : SeatedTask) → row_no two_tasks t ≡ Some row → (p : Task) → is_child p t child_left ≡ same_task row.parent p
    parent zero row is p = absurd (cc)
    parent (suc zero) row is p = ap (λ (r : SeatedTask). same_task r.parent p) (same_Some _ row is)
    parent (suc (suc zero)) row is p = ap (λ (r : SeatedTask). same_task r.parent p) (same_Some _ row is)
    parent (suc (suc (suc t))) row is p = absurd (cc)

    children : (p : Task) → open_tasks (λ t. is_child p t child_left) child_left ≡ (seat_at two_tasks (no_seat ∷ []) p).children
    children (Implicit zero) = refl
    children (Implicit (suc m)) = rw (not_zero m) refl
    children (Explicit zero) = refl
    children (Explicit (suc zero)) = refl
    children (Explicit (suc (suc zero))) = refl
    children (Explicit (suc (suc (suc t)))) = rw (one_is_below_two (suc t)) refl

    around : (p : Task) → IsSeatedIn two_tasks (no_seat ∷ []) p → IsChain [] (seat_at two_tasks (no_seat ∷ []) p).around (groups_over p child_left)
    around (Implicit zero) seated = refl
    around (Implicit (suc m)) seated = refl
    around (Explicit zero) seated = refl
    around (Explicit (suc zero)) seated = refl
    around (Explicit (suc (suc zero))) seated = refl
    around (Explicit (suc (suc (suc t)))) seated = absurd (cc)

    last : (p : Task) → IsSeatedIn two_tasks (no_seat ∷ []) p → IsChain [] (seat_at two_tasks (no_seat ∷ []) p).last (groups_within p child_left)
    last (Implicit zero) seated = refl
    last (Implicit (suc m)) seated = refl
    last (Explicit zero) seated = refl
    last (Explicit (suc zero)) seated = refl
    last (Explicit (suc (suc zero))) seated = refl
    last (Explicit (suc (suc (suc t)))) seated = absurd (cc)

    rule : Always (TaskRule 1) child_left
    rule = (
      record { member = omega arith; current = refl },
      (
        record { member = omega arith; number = refl; current = refl; away = λ free. refl; shallow = omega arith; uncovered = refl },
        (
          record { member = omega arith; may = refl; own = λ undeferred. absurd (cc) },
          (record { member = omega arith; number = refl; current = refl; away = λ free. refl; shallow = omega arith; uncovered = refl }, tt),
        ),
      ),
    )

-- it does not stand without that row, nor with one that says that it is open
pub child_left_alone : GroupsStand [] (None ∷ task_with (Explicit 1) (seat_with 0 None None) ∷ []) (no_seat ∷ []) child_left → ⊥
child_left_alone stands = absurd (let children = stands.children (Explicit 1) in omega (arith, children))

pub child_left_of_an_open_task : GroupsStand [] (task_with (Implicit 0) (seat_with 1 None None) ∷ task_with (Explicit 1) (seat_with 0 None None) ∷ []) (no_seat ∷ []) child_left → ⊥
child_left_of_an_open_task stands = absurd (let e = stands.complete 1 _ refl in cc)

-- nor without that of the child
pub open_child_without_a_row : GroupsStand [] (ended_with (Implicit 0) (seat_with 1 None None) ∷ None ∷ []) (no_seat ∷ []) child_left → ⊥
open_child_without_a_row stands = absurd (let e = stands.gone 2 refl refl in cc)

-- once the child is complete too, neither has a row
pub both_ended_stand : GroupsStand [] no_rows (no_seat ∷ []) both_ended
both_ended_stand = record { opened = refl; created = refl; nested = λ q. tt; pending = λ q. refl; since = λ q. refl; gone = gone; complete = λ t row is. absurd (no_row t row is); needed = λ t row is. absurd (no_row t row is); parent = λ t row is. absurd (no_row t row is); children = children; around = around; last = last; rule = (record { member = omega arith; current = refl }, (record { member = omega arith; may = refl; own = λ undeferred. absurd (cc) }, child_left_stands.rule)) }
  where
    gone : (t : ℕ) → is_created t both_ended ≡ true → row_no no_rows t ≡ None → is_complete t both_ended ≡ true
    gone zero made none = absurd (cc)
    gone (suc zero) made none = refl
    gone (suc (suc zero)) made none = refl
    gone (suc (suc (suc t))) made none = absurd (let high = created_high (suc (suc (suc t))) both_ended made in omega (arith, high))

    no_row : (t : ℕ) (row : SeatedTask) → row_no no_rows t ≡ Some row → ⊥
    no_row zero row is = absurd (cc)
    no_row (suc zero) row is = absurd (cc)
    no_row (suc (suc zero)) row is = absurd (cc)
    no_row (suc (suc (suc t))) row is = absurd (cc)

    not_seated : (t : ℕ) → HasRow no_rows t → ⊥
    not_seated zero there = absurd (cc)
    not_seated (suc zero) there = absurd (cc)
    not_seated (suc (suc zero)) there = absurd (cc)
    not_seated (suc (suc (suc t))) there = absurd (cc)

    children : (p : Task) → open_tasks (λ t. is_child p t both_ended) both_ended ≡ (seat_at no_rows (no_seat ∷ []) p).children
    children (Implicit zero) = refl
    children (Implicit (suc m)) = rw (not_zero m) refl
    children (Explicit zero) = refl
    children (Explicit (suc zero)) = refl
    children (Explicit (suc (suc zero))) = refl
    children (Explicit (suc (suc (suc t)))) = rw (one_is_below_two (suc t)) refl

    around : (p : Task) → IsSeatedIn no_rows (no_seat ∷ []) p → IsChain [] (seat_at no_rows (no_seat ∷ []) p).around (groups_over p both_ended)
    around (Implicit zero) seated = refl
    around (Implicit (suc m)) seated = refl
    around (Explicit t) seated = absurd (not_seated t seated)

    last : (p : Task) → IsSeatedIn no_rows (no_seat ∷ []) p → IsChain [] (seat_at no_rows (no_seat ∷ []) p).last (groups_within p both_ended)
    last (Implicit zero) seated = refl
    last (Implicit (suc m)) seated = refl
    last (Explicit t) seated = absurd (not_seated t seated)

-- the parent's row does not stand after its last child's end
pub parent_row_left_in : GroupsStand [] (ended_with (Implicit 0) (seat_with 0 None None) ∷ None ∷ []) (no_seat ∷ []) both_ended → ⊥
parent_row_left_in stands = absurd (let some = stands.needed 1 _ refl refl in omega (arith, some))

-- Calls

-- member 0 executes its task, and may end its last group only
pub executes_its_task : Executes 2 0 (Explicit 2) grandchild
executes_its_task = record { member = omega arith; current = refl }

pub other_executes_another : Executes 2 1 (Explicit 2) grandchild → ⊥
other_executes_another executes = absurd (let current = executes.current in cc)

pub no_member_executes : Executes 2 2 (Implicit 2) grandchild → ⊥
no_member_executes executes = absurd (let member = executes.member in omega (arith, member))

pub closes_its_group : MayClose 2 0 0 (Implicit 0) (Group 0 0 ∷ [])
closes_its_group = record { current = refl; rule = record { member = omega arith; outer = []; last = refl; complete = refl } }

-- not a group of another task
pub closes_for_another : MayClose 2 0 0 (Implicit 1) (Group 0 0 ∷ []) → ⊥
closes_for_another may = absurd (let current = may.current in cc)

-- nor one with an open task
pub closes_with_a_task : MayClose 2 0 0 (Implicit 0) one_in_group → ⊥
closes_with_a_task may = absurd (let complete = may.rule.complete in cc)

-- nor the first that it opened
pub closes_the_first : MayClose 2 0 0 (Implicit 0) (Group 1 0 ∷ Group 0 0 ∷ []) → ⊥
closes_the_first may = absurd (let last = may.rule.last in cc)

-- the next task is created in the task that the member executes
pub creates_in_its_task : MayCreateIn 2 0 (Explicit 2) grandchild
creates_in_its_task = record { member = omega arith; number = refl; current = refl; away = λ free. refl; shallow = omega arith; uncovered = refl }

pub creates_in_another : MayCreateIn 2 0 (Implicit 0) grandchild → ⊥
creates_in_another may = absurd (let current = may.current in cc)

-- a task is complete when it is ended, and when it is discarded
pub ended_is_complete : Completes 1 (Done 1 0)
ended_is_complete = refl

pub discarded_is_complete : Completes 1 (Discard 1 0)
discarded_is_complete = refl

-- another one is not, nor one that is started
pub another_completes : Completes 1 (Done 2 0) → ⊥
another_completes is = absurd (omega (arith, is))

pub start_completes : Completes 1 (Start 1 0) → ⊥
start_completes is = is

-- the member ends the task that it executes
pub completes_its_task : MayComplete 2 2 (Done 2 0) grandchild
completes_its_task = record { completes = refl; rule = record { member = omega arith; current = refl } }

-- not one that nobody has started
pub completes_unstarted : MayComplete 2 1 (Done 1 0) one_in_group → ⊥
completes_unstarted may = absurd (let current = may.rule.current in cc)

-- nor another than is asked for
pub completes_another : MayComplete 2 1 (Done 2 0) grandchild → ⊥
completes_another may = absurd (let same = may.completes in omega (arith, same))

-- tasks that are created, ended or discarded, and groups, are seen
pub group_tasks_are_seen : (t m : ℕ) (parent : Task) → (IsNoGroupEvent (Create t m parent some_desc) → ⊥) × (IsNoGroupEvent (Done t m) → ⊥) × (IsNoGroupEvent (Discard t m) → ⊥)
group_tasks_are_seen t m parent = (λ is. is, λ is. is, λ is. is)

pub groups_are_seen : (q m : ℕ) → (IsNoGroupEvent (Group q m) → ⊥) × (IsNoGroupEvent (GroupEnd q m) → ⊥)
groups_are_seen q m = (λ is. is, λ is. is)

-- a cancellation is not: it is the tasks that it discards
pub cancels_change_no_group : (m : ℕ) (scope : Scope) (kind : CancelKind) → IsNoGroupEvent (Cancel m scope) × IsNoGroupEvent (See m kind)
cancels_change_no_group m scope kind = (tt, tt)

-- a start and a wait are not, nor is what shares, barriers and locks see
pub starts_change_no_group : (t m : ℕ) → IsNoGroupEvent (Start t m) × IsNoGroupEvent (Waited m [])
starts_change_no_group t m = (tt, tt)

pub share_events_are_aside : (share m low high k : ℕ) (shape : Shape) → IsNoGroupEvent (Enter share m shape) × IsNoGroupEvent (Take share m low high) × IsNoGroupEvent (Drained share m) × IsNoGroupEvent (End share m) × IsNoGroupEvent (HandOn share m k) × IsNoGroupEvent (Part share m k) × IsNoGroupEvent (PartEnd share m)
share_events_are_aside share m low high k shape = (tt, tt, tt, tt, tt, tt, tt)

pub the_others_are_aside : (n m : ℕ) (payload : List ℕ) (tag : Tag) (key : Key) (task : Task) (place : Place) → IsNoGroupEvent (Put n m payload) × IsNoGroupEvent (Got n m payload) × IsNoGroupEvent (Arrive n m tag) × IsNoGroupEvent (Pass n m) × IsNoGroupEvent (Hold key m task) × IsNoGroupEvent (Free key m task) × IsNoGroupEvent (Break m place)
the_others_are_aside n m payload tag key task place = (tt, tt, tt, tt, tt, tt, tt)
