-- No definition on events cuts a number: what passes unchanged is stated of every number, and each limit is computed at both of its ends.
-- (Of turns, words, passed barriers and the barrier of a child: ShareReadings and TaskReadings.)
use Rattle.std.proofs.Common.{◌≡◌, ℕ, zero, suc, ◌+◌, ◌-◌, ◌<◌, ◌≤◌, true, false, List, [], ◌∷◌, length, Some, None, refl, arith}
use Rattle.std.specs.Prelude.{◌≢◌, map, nat_lt}
use Rattle.std.proofs.lemmas.Bool.{lt-ltb}
use Rattle.std.proofs.lemmas.Bool.Decides.{nat_tests}
use Rattle.gomp_types.specs.declared.limits.TheConstants.{OPEN_SHARES, MAX_DEPENDS}
use Rattle.gomp_types.specs.declared.refusal.Refusal.TheVariants.{TooManyDepends}
use Rattle.gomp_types.specs.declared.refusal.Place.{Place}
use Rattle.gomp_types.specs.declared.shape.Shape.{Shape}
use Rattle.gomp_types.specs.declared.task.Task.{Task}
use Rattle.gomp_types.specs.declared.task.Task.TheVariants.{Implicit, Explicit}
use Rattle.gomp_types.specs.declared.task.TaskDesc.{TaskDesc}
use Rattle.gomp_types.specs.declared.depend.Dep.{Dep}
use Rattle.gomp_types.specs.declared.depend.DepKind.TheVariants.{DepOut}
use Rattle.gomp_events.specs.declared.event.Tag.{Tag}
use Rattle.gomp_events.specs.declared.event.Event.{Event}
use Rattle.gomp_events.specs.declared.event.Event.TheVariants.{Enter, Take, HandOn, Part, Put, Arrive, Create, Start, Group, Break}
use Rattle.gomp_types.specs.declared.cancel.Scope.TheVariants.{OneShare, OneGroup}
use Rattle.gomp_types.specs.Tests.{first_holding}
use Rattle.gomp_events.specs.Depends.{waits_for}
use Rattle.gomp_events.specs.Events.{has_room, is_over, shares_entered, open_share, last_piece, turn, next_part, payload_at, arrival, tag_at, clash_of, shape_at}
use Rattle.gomp_events.specs.Seen.{seen_of}
use Rattle.gomp_events.specs.Tasks.{contains, executed_task, task_depth, same_task, tasks_created, task_stack, task_runner, task_desc, newest_child}
use Rattle.gomp_events.specs.Groups.{groups_opened, open_groups}
use Rattle.gomp_events.specs.Cancels.{same_scope}
use Rattle.gomp_events.specs.TaskCalls.{lacks_room, first_room, items_tests}
use Rattle.gomp_types.proofs.Booleans.{same_number, other_number}

-- a task with a writer's item on this address
abbrev writer_at : ℕ → TaskDesc
writer_at addr = record { code = 1; arg = 2; undeferred = false; final_task = false; deps = record { kind = DepOut; addr = addr } ∷ [] }

-- two writers of these addresses, with the largest numbers of tasks
abbrev writers_at : ℕ → ℕ → List Event
writers_at old new = Create 1048576 0 (Implicit 0) (writer_at new) ∷ Create 1048575 0 (Implicit 0) (writer_at old) ∷ []

-- the second waits for the first on one address of 64 bits, and not on one that agrees with it in 32 bits alone
pub writers_of_large_addresses : map (λ old. waits_for 1048576 1048575 (writers_at old 18446744073709551615)) (18446744073709551615 ∷ 18446744073709551614 ∷ 4294967295 ∷ 9223372036854775807 ∷ 0 ∷ []) ≡ true ∷ false ∷ false ∷ false ∷ false ∷ []
writers_of_large_addresses = refl

pub writers_of_low_addresses : map (λ old. waits_for 1048576 1048575 (writers_at old 0)) (0 ∷ 1 ∷ 256 ∷ 65536 ∷ 4294967296 ∷ 9223372036854775808 ∷ []) ≡ true ∷ false ∷ false ∷ false ∷ false ∷ false ∷ []
writers_of_low_addresses = refl

-- as many items as written, up to 16, are no reason to refuse a clause
pub sixteen_items_are_fine : (items : List Dep) → length items ≤ 16 → first_holding (items_tests items) ≡ None
sixteen_items_are_fine items few = let is : nat_lt MAX_DEPENDS (length items) ≡ false = grind (arith, nat_tests, few) in rw is refl

pub seventeen_items_are_refused : (items : List Dep) → 16 < length items → first_holding (items_tests items) ≡ Some TooManyDepends
seventeen_items_are_refused items many = let is : nat_lt MAX_DEPENDS (length items) ≡ true = lt-ltb MAX_DEPENDS (length items) many in rw is refl

-- two tasks with other numbers are two tasks
pub other_explicit_task : (t u : ℕ) → t ≢ u → same_task (Explicit t) (Explicit u) ≡ false
other_explicit_task t u differ = rw (other_number t u differ) refl

pub other_implicit_task : (m n : ℕ) → m ≢ n → same_task (Implicit m) (Implicit n) ≡ false
other_implicit_task m n differ = rw (other_number m n differ) refl

-- what is cancelled differs by its number
pub scopes_of_two_numbers : (i j : ℕ) → i ≢ j → (same_scope (OneShare i) (OneShare j) ≡ false) × (same_scope (OneGroup i) (OneGroup j) ≡ false)
scopes_of_two_numbers i j differ = rw (other_number i j differ) (refl, refl)

pub entered_share_is_counted : (share m : ℕ) (shape : Shape) (h : List Event) → (shares_entered m (Enter share m shape ∷ h) ≡ shares_entered m h + 1) × (open_share m (Enter share m shape ∷ h) ≡ Some (share, shape)) × (shape_at share (Enter share m shape ∷ h) ≡ Some shape)
entered_share_is_counted share m shape h = rw (same_number m, same_number share) (refl, refl, refl)

pub share_of_another_is_not_counted : (share m n : ℕ) (shape : Shape) (h : List Event) → n ≢ m → (shares_entered m (Enter share n shape ∷ h) ≡ shares_entered m h) × (open_share m (Enter share n shape ∷ h) ≡ open_share m h)
share_of_another_is_not_counted share m n shape h differ = rw (other_number n m differ) (refl, refl)

pub taken_piece_keeps_its_ends : (share m low high : ℕ) (h : List Event) → last_piece m (Take share m low high ∷ h) ≡ Some (low, high)
taken_piece_keeps_its_ends share m low high h = rw (same_number m) refl

pub piece_of_another_share_is_not_counted : (share other m piece : ℕ) (h : List Event) → other ≢ share → turn share (HandOn other m piece ∷ h) ≡ turn share h
piece_of_another_share_is_not_counted share other m piece h differ = rw (other_number other share differ) refl

pub part_keeps_its_iteration : (share m iteration : ℕ) (h : List Event) → next_part m (Part share m iteration ∷ h) ≡ iteration + 1
part_keeps_its_iteration share m iteration h = rw (same_number m) refl

pub words_of_another_share : (share other m : ℕ) (words : List ℕ) (h : List Event) → other ≢ share → payload_at share (Put other m words ∷ h) ≡ payload_at share h
words_of_another_share share other m words h differ = rw (other_number other share differ) refl

pub arrival_keeps_its_tag : (barrier m : ℕ) (tag : Tag) (h : List Event) → (arrival barrier m (Arrive barrier m tag ∷ h) ≡ Some tag) × (tag_at barrier (Arrive barrier m tag ∷ h) ≡ Some tag)
arrival_keeps_its_tag barrier m tag h = rw (same_number barrier, same_number m) (refl, refl)

pub arrival_at_another_barrier : (barrier other m : ℕ) (tag : Tag) (h : List Event) → other ≢ barrier → (arrival barrier m (Arrive other m tag ∷ h) ≡ arrival barrier m h) × (tag_at barrier (Arrive other m tag ∷ h) ≡ tag_at barrier h)
arrival_at_another_barrier barrier other m tag h differ = rw (other_number other barrier differ) (refl, refl)

pub break_keeps_member_and_place : (m : ℕ) (place : Place) → clash_of (Break m place ∷ []) ≡ Some (record { member = m; place = place })
break_keeps_member_and_place m place = refl

pub created_task_is_counted : (task m : ℕ) (parent : Task) (desc : TaskDesc) (h : List Event) → (tasks_created (Create task m parent desc ∷ h) ≡ suc (tasks_created h)) × (task_desc task (Create task m parent desc ∷ h) ≡ Some desc)
created_task_is_counted task m parent desc h = rw (same_number task) (refl, refl)

pub newest_child_keeps_its_number : (task m p : ℕ) (desc : TaskDesc) (h : List Event) → (newest_child (Explicit p) (Create task m (Explicit p) desc ∷ h) ≡ task) × (newest_child (Implicit p) (Create task m (Implicit p) desc ∷ h) ≡ task)
newest_child_keeps_its_number task m p desc h = rw (same_number p) (refl, refl)

pub started_task_keeps_its_number : (task m : ℕ) (h : List Event) → (task_stack m (Start task m ∷ h) ≡ task ∷ task_stack m h) × (task_runner task (Start task m ∷ h) ≡ Some m)
started_task_keeps_its_number task m h = rw (same_number m, same_number task) (refl, refl)

pub opened_group_is_counted : (group m : ℕ) (h : List Event) → groups_opened (Group group m ∷ h) ≡ groups_opened h + 1
opened_group_is_counted group m h = refl

-- a group is the last that its task has opened, by its whole number
pub opened_group_keeps_its_number : (group m p : ℕ) (h : List Event) → (executed_task m h ≡ Explicit p → open_groups (Explicit p) (Group group m ∷ h) ≡ group ∷ open_groups (Explicit p) h) × (executed_task m h ≡ Implicit p → open_groups (Implicit p) (Group group m ∷ h) ≡ group ∷ open_groups (Implicit p) h)
opened_group_keeps_its_number group m p h = ((λ current. rw (current, same_number p) refl), (λ current. rw (current, same_number p) refl))

-- a task lies one deeper than its parent, and is bound to the next barrier of its member
pub child_lies_one_deeper : (task m p : ℕ) (desc : TaskDesc) (h : List Event) → (task_depth task (Create task m (Explicit p) desc ∷ h) ≡ task_depth p h + 1) × (task_depth task (Create task m (Implicit p) desc ∷ h) ≡ 1)
child_lies_one_deeper task m p desc h = rw (same_number task) (refl, refl)

-- a list has its first number, and another one only behind that
pub list_has_its_number : (x : ℕ) (xs : List ℕ) → contains x (x ∷ xs) ≡ true
list_has_its_number x xs = rw (same_number x) refl

pub list_has_another_number : (x y : ℕ) (xs : List ℕ) → y ≢ x → contains x (y ∷ xs) ≡ contains x xs
list_has_another_number x y xs differ = rw (other_number y x differ) refl

-- what is seen of a member has all that the events say
pub seen_has_its_numbers : (m : ℕ) (h : List Event) → ((seen_of m h).entered ≡ shares_entered m h) × ((seen_of m h).current ≡ open_share m h) × ((seen_of m h).piece ≡ last_piece m h) × ((seen_of m h).next_part ≡ next_part m h)
seen_has_its_numbers m h = (refl, refl, refl, refl)

-- a share opens with seven others open, and else once the eighth before it is over
pub first_shares_have_room : (members share : ℕ) (h : List Event) → share < 8 → has_room members share h ≡ true
first_shares_have_room members share h first = rw (lt-ltb share OPEN_SHARES first) refl

pub later_share_has_room : (members share : ℕ) (h : List Event) → has_room members (share + 8) h ≡ is_over members share h
later_share_has_room members share h =
    let late : nat_lt (share + 8) OPEN_SHARES ≡ false = grind (arith, nat_tests) in
    let same : share + 8 - 8 ≡ share = omega arith in
    rw (late, same) refl

-- room that fits the limit is granted, to its last event, and one event more is not
pub room_up_to_the_limit : (limit room more : ℕ) → room + more ≤ limit → lacks_room limit room more ≡ false
room_up_to_the_limit limit room zero fits = refl
room_up_to_the_limit limit room (suc more) fits = grind (arith, nat_tests, fits)

pub room_beyond_the_limit : (limit room more : ℕ) → limit < room + suc more → lacks_room limit room (suc more) ≡ true
room_beyond_the_limit limit room more lacks = lt-ltb limit (room + suc more) lacks

-- of the largest team and the smallest
pub first_room_at_both_ends : (first_room 1 ≡ 3) × (first_room 64 ≡ 129)
first_room_at_both_ends = (refl, refl)
