-- What is owed after each stored event: the event and what is owed then are no more than what was owed and what the event's operation asks for.
use Rattle.std.proofs.Common.{◌≡◌, ◌≢◌, ℕ, ◌+◌, ◌<◌, ◌≤◌, Bool, true, false, List, [], ◌∷◌, None, refl, ap, sym, arith, suc, zero, inl, inr, add-one}
use Rattle.std.specs.Prelude.{◌&&◌, ◌||◌, ◌==◌, not, if◌then◌else◌, nat_le}
use Rattle.std.proofs.lemmas.Bool.{cases_Bool, cases_lt}
use Rattle.std.proofs.lemmas.Bool.Decides.{nat_tests, eqb_tells}
use Rattle.gomp_types.specs.declared.task.Task.{Task}
use Rattle.gomp_types.specs.declared.task.Task.TheVariants.{Explicit}
use Rattle.gomp_types.specs.declared.task.TaskDesc.{TaskDesc}
use Rattle.gomp_types.specs.declared.refusal.Place.{Place}
use Rattle.gomp_events.specs.declared.event.Arrival.{Arrival}
use Rattle.gomp_events.specs.declared.event.Arrival.TheVariants.{Barrier, ShareEnd, RegionEnd}
use Rattle.gomp_events.specs.declared.event.Tag.{Tag}
use Rattle.gomp_events.specs.declared.event.Event.{Event}
use Rattle.gomp_events.specs.declared.event.Event.TheVariants.{Put, Got, Create, Start, Done, Group, GroupEnd, Arrive, Pass, Cancel, Discard, Break}
use Rattle.gomp_types.specs.declared.cancel.Scope.{Scope}
use Rattle.gomp_events.specs.Events.{at_barrier, at_region_end, is_region_end, clash_of}
use Rattle.gomp_events.specs.Cancels.{is_cancelled}
use Rattle.gomp_events.specs.Tasks.{tasks_created, executed_task, has_started, is_complete, how_many}
use Rattle.gomp_events.specs.Groups.{groups_opened, open_groups}
use Rattle.gomp_events.specs.Goals.{is_unstarted, may_start}
use Rattle.gomp_events.specs.Laws.{Always}
use Rattle.gomp_events.specs.TaskRules.{TaskRule, MayEndGroup}
use Rattle.gomp_events.specs.TaskCalls.{first_room}
use Rattle.gomp_events.specs.declared.room.TheConstants.{TASK_ROOM, GROUP_ROOM, ARRIVAL_ROOM, PAYLOAD_ROOM}
use Rattle.gomp_types.proofs.Booleans.{same_number, other_number, not_both, not_false}
use Rattle.gomp_events.proofs.OpenTasks.{how_many_same, one_less, open_done, open_discard, created_low, created_high, one_more}
use Rattle.gomp_events.proofs.Suspended.{unstarted_is_fresh, startable_is_fresh, runner_has_started, current_open}
use Rattle.gomp_events.proofs.TaskRoom.{uncreated_not_started}
use Rattle.gomp_board.specs.Owed.{owed_by_tasks, has_group_ended, count_below, owed_by_groups, owed_by_member, owed_by_members, owed_for_break, owed}
use Rattle.gomp_board.specs.Ops.{arrival_asks, arrival_keeps, words_ask, words_keep}
use Rattle.gomp_board.specs.Boards.{ArrivesFirst}
use Rattle.gomp_board.proofs.GroupsOpen.{next_not_ended, last_not_ended}

-- Members

-- what no event changes for any member is owed as before
members_owe_same : (members : ℕ) (g h : List Event) → ((m : ℕ) → owed_by_member m g ≡ owed_by_member m h) → owed_by_members members g ≡ owed_by_members members h
members_owe_same zero g h same = refl
members_owe_same (suc m) g h same = rw (same m, members_owe_same m g h same) refl

-- if one member alone owes otherwise, all together do by as much
members_owe_other : (members x a b : ℕ) (g h : List Event) → x < members → ((m : ℕ) → m ≢ x → owed_by_member m g ≡ owed_by_member m h) → owed_by_member x g + a ≡ owed_by_member x h + b → owed_by_members members g + a ≡ owed_by_members members h + b
members_owe_other zero x a b g h low same here = absurd (omega arith)
members_owe_other (suc m) x a b g h low same here =
    elim (cases_lt x m) [
      | inl below ↦
          let rest = members_owe_other m x a b g h below same here in
          let last = same m (λ e. omega (arith, e, below)) in
          omega (arith, rest, last)
      | inr past ↦
          let e : x ≡ m = omega (arith, past, low) in
          let rest = below_same m (λ n lower. same n (λ at. omega (arith, at, e, lower))) in
          let last : owed_by_member m g + a ≡ owed_by_member m h + b = rw (← e) here in
          omega (arith, rest, last)
    ]
  where
    below_same : (n : ℕ) → ((k : ℕ) → k < n → owed_by_member k g ≡ owed_by_member k h) → owed_by_members n g ≡ owed_by_members n h
    below_same zero each = refl
    below_same (suc k) each = rw (each k (omega arith), below_same k (λ j lower. each j (omega (arith, lower)))) refl

-- Tasks

created_owes : (members m task : ℕ) (p : Task) (desc : TaskDesc) (h : List Event) → Always (TaskRule members) h → owed_by_tasks (Create task m p desc ∷ h) ≡ owed_by_tasks h + 2
created_owes members m task p desc h all =
    let new = uncreated_not_started members h all (suc (tasks_created h)) (omega arith) in
    rw (new.0, new.1) (omega arith)

started_owes : (m task : ℕ) (h : List Event) → may_start m task h ≡ true → owed_by_tasks (Start task m ∷ h) + 1 ≡ owed_by_tasks h
started_owes m task h may =
    let is = startable_is_fresh m task h may in
    let unstarted =
    one_less (tasks_created h) task (λ u. not (has_started u h) && not (is_complete u h)) (λ u. not (task == u || has_started u h) && not (is_complete u h)) (created_low task h is.0) (created_high task h is.0)
    (rw (is.1, is.2) refl) (rw (same_number task) refl) (λ u differ. rw (other_number task u (λ e. differ (sym e))) refl) in
    omega (arith, unstarted)

-- a task that was started is counted among those that were not neither before nor after its end
still_counted : (task : ℕ) (h : List Event) → has_started task h ≡ true →
    how_many (tasks_created h) (λ u. not (has_started u h) && not (is_complete u h)) ≡ how_many (tasks_created h) (λ u. not (has_started u h) && not (task == u || is_complete u h))
still_counted task h on =
    how_many_same (tasks_created h) (λ u. not (has_started u h) && not (is_complete u h)) (λ u. not (has_started u h) && not (task == u || is_complete u h)) (λ u low high.
    elim (eqb_tells task u) [
      | inl e ↦ rw (← e.1, on) refl
      | inr e ↦ rw e.0 refl
    ])

done_owes : (members m task : ℕ) (h : List Event) → Always (TaskRule members) h → executed_task m h ≡ Explicit task → owed_by_tasks (Done task m ∷ h) + 1 ≡ owed_by_tasks h
done_owes members m task h all current =
    let is = current_open members m task h all current in
    let fewer = open_done (λ t. true) task m h is.0 refl is.1 in
    let same = still_counted task h (runner_has_started task m h is.2) in
    omega (arith, fewer, same)

discarded_owes : (m task : ℕ) (h : List Event) → is_unstarted task h ≡ true → owed_by_tasks (Discard task m ∷ h) + 2 ≡ owed_by_tasks h
discarded_owes m task h un =
    let is = unstarted_is_fresh task h un in
    let fewer = open_discard (λ t. true) task m h is.0 refl is.2 in
    let unstarted =
    one_less (tasks_created h) task (λ u. not (has_started u h) && not (is_complete u h)) (λ u. not (has_started u h) && not (task == u || is_complete u h)) (created_low task h is.0) (created_high task h is.0)
    (rw (is.1, is.2) refl) (rw (is.1, same_number task) refl) (λ u differ. rw (other_number task u (λ e. differ (sym e))) refl) in
    omega (arith, fewer, unstarted)

-- Groups

count_same : (n : ℕ) (p q : ℕ → Bool) → ((k : ℕ) → k < n → p k ≡ q k) → count_below n p ≡ count_below n q
count_same zero p q same = refl
count_same (suc k) p q same = rw (same k (omega arith), count_same k p q (λ j low. same j (omega (arith, low)))) refl

owed_count_less : (n x : ℕ) (p q : ℕ → Bool) → x < n → p x ≡ true → q x ≡ false → ((k : ℕ) → k ≢ x → p k ≡ q k) → count_below n p ≡ count_below n q + 1
owed_count_less zero x p q low is isnt same = absurd (omega arith)
owed_count_less (suc k) x p q low is isnt same =
    elim (cases_lt x k) [
      | inl below ↦
          let here : p k ≡ q k = same k (λ e. omega (arith, e, below)) in
          rw here (one_more (q k) (count_below k p) (count_below k q) (owed_count_less k x p q below is isnt same))
      | inr past ↦
          let last : k ≡ x = omega (arith, past, low) in
          let in_p : p k ≡ true = rw last is in
          let in_q : q k ≡ false = rw last isnt in
          let rest : count_below k p ≡ count_below k q = count_same k p q (λ j lower. same j (λ e. omega (arith, e, last, lower))) in
          rw (in_p, in_q) (ap (λ n. n + 1) rest)
    ]

opened_owes : (members m q : ℕ) (h : List Event) → Always (TaskRule members) h → owed_by_groups (Group q m ∷ h) ≡ owed_by_groups h + 1
opened_owes members m q h all = rw (add-one, next_not_ended members h all) refl

ended_owes : (members m q : ℕ) (p : Task) (outer : List ℕ) (h : List Event) → Always (TaskRule members) h → open_groups p h ≡ q ∷ outer → owed_by_groups (GroupEnd q m ∷ h) + 1 ≡ owed_by_groups h
ended_owes members m q p outer h all last =
    let is = last_not_ended members q p outer h all last in
    sym (owed_count_less (groups_opened h) q (λ k. not (has_group_ended k h)) (λ k. not (q == k || has_group_ended k h)) is.0
    (rw is.1 refl) (rw (same_number q) refl) (λ k differ. rw (other_number q k (λ e. differ (sym e))) refl))

-- All

-- a task's creation asks for three events: itself, the start and the end
pub create_owes : (members m task : ℕ) (p : Task) (desc : TaskDesc) (h : List Event) → Always (TaskRule members) h → owed members (Create task m p desc ∷ h) + 1 ≡ owed members h + TASK_ROOM
create_owes members m task p desc h all =
    let tasks = created_owes members m task p desc h all in
    let rest = members_owe_same members (Create task m p desc ∷ h) h (λ x. refl) in
    omega (arith, tasks, rest)

pub start_owes : (members m task : ℕ) (h : List Event) → may_start m task h ≡ true → owed members (Start task m ∷ h) + 1 ≡ owed members h
start_owes members m task h may =
    let tasks = started_owes m task h may in
    let rest = members_owe_same members (Start task m ∷ h) h (λ x. refl) in
    omega (arith, tasks, rest)

pub end_owes : (members m task : ℕ) (h : List Event) → Always (TaskRule members) h → executed_task m h ≡ Explicit task → owed members (Done task m ∷ h) + 1 ≡ owed members h
end_owes members m task h all current =
    let tasks = done_owes members m task h all current in
    let rest = members_owe_same members (Done task m ∷ h) h (λ x. refl) in
    omega (arith, tasks, rest)

-- a discard is one event for two
pub discard_owes : (members m task : ℕ) (h : List Event) → is_unstarted task h ≡ true → owed members (Discard task m ∷ h) + 2 ≡ owed members h
discard_owes members m task h un =
    let tasks = discarded_owes m task h un in
    let rest = members_owe_same members (Discard task m ∷ h) h (λ x. refl) in
    omega (arith, tasks, rest)

-- a cancellation owes nothing more
pub cancel_owes : (members m : ℕ) (scope : Scope) (h : List Event) → owed members (Cancel m scope ∷ h) ≡ owed members h
cancel_owes members m scope h = let rest = members_owe_same members (Cancel m scope ∷ h) h (λ x. refl) in omega (arith, rest)

-- that of a group for two: itself and its end
pub group_owes : (members m q : ℕ) (h : List Event) → Always (TaskRule members) h → owed members (Group q m ∷ h) + 1 ≡ owed members h + GROUP_ROOM
group_owes members m q h all =
    let groups = opened_owes members m q h all in
    let rest = members_owe_same members (Group q m ∷ h) h (λ x. refl) in
    omega (arith, groups, rest)

pub group_end_owes : (members m q : ℕ) (h : List Event) → Always (TaskRule members) h → MayEndGroup members q m h → owed members (GroupEnd q m ∷ h) + 1 ≡ owed members h
group_end_owes members m q h all may =
    let groups = ended_owes members m q (executed_task m h) may.outer h all may.last in
    let rest = members_owe_same members (GroupEnd q m ∷ h) h (λ x. refl) in
    omega (arith, groups, rest)

-- an arrival asks for two: itself and the pass; that at the region's end for none
-- or one event less, if the member waited at another barrier
arrived_again : (x barrier : ℕ) (tag : Tag) (h : List Event) → at_barrier x h ≡ true → at_region_end x h ≡ false → is_region_end tag.kind ≡ true → owed_by_member x (Arrive barrier x tag ∷ h) + 2 ≡ owed_by_member x h + 0
arrived_again x barrier tag h there before ends = rw (same_number x, there, before, ends) refl

arrived_owes : (x barrier : ℕ) (tag : Tag) (h : List Event) → at_barrier x h ≡ false → at_region_end x h ≡ false →
    owed_by_member x (Arrive barrier x tag ∷ h) + 1 ≡ owed_by_member x h + (if is_region_end tag.kind then 0 else 2)
arrived_owes x barrier tag h away before = rw (same_number x, away, before) (by (is_region_end tag.kind))
  where
    by : (b : Bool) → 1 + (if b || false then 0 else 2) + 1 ≡ 0 + 2 + (if b then 0 else 2)
    by true = refl
    by false = refl

other_arrived : (x m barrier : ℕ) (tag : Tag) (h : List Event) → m ≢ x → owed_by_member m (Arrive barrier x tag ∷ h) ≡ owed_by_member m h
other_arrived x m barrier tag h differ = rw (other_number x m (λ e. differ (sym e))) refl

-- what the member keeps of its room and what the arrival asks for are enough for the two
asks_enough : (kind : Arrival) (kept : ℕ) → (if is_region_end kind then 0 else 2) + arrival_keeps kind kept ≡ arrival_asks kind kept + kept
asks_enough Barrier kept = refl
asks_enough ShareEnd kept =
    elim (cases_Bool (nat_le ARRIVAL_ROOM kept)) [
      | inl enough ↦ rw enough (grind (arith, nat_tests, enough))
      | inr little ↦ rw little refl
    ]
asks_enough RegionEnd kept = refl

pub arrival_owes : (members m barrier kept : ℕ) (tag : Tag) (h : List Event) → m < members → ArrivesFirst m tag h →
    owed members (Arrive barrier m tag ∷ h) + 1 + arrival_keeps tag.kind kept ≤ owed members h + arrival_asks tag.kind kept + kept
arrival_owes members m barrier kept tag h low first =
    let enough = asks_enough tag.kind kept in
    elim (cases_Bool (at_barrier m h)) [
      | inl there ↦
          let cancelled = not_false (is_cancelled h) (whole_is_never there) in
          let ends = first.ends cancelled in
          let all = members_owe_other members m 2 0 (Arrive barrier m tag ∷ h) h low (λ x differ. other_arrived m x barrier tag h differ) (arrived_again m barrier tag h there first.before ends) in
          let none : 0 + arrival_keeps tag.kind kept ≡ arrival_asks tag.kind kept + kept = rw ends at enough in
          omega (arith, all, none)
      | inr away ↦
          let all = members_owe_other members m 1 (if is_region_end tag.kind then 0 else 2) (Arrive barrier m tag ∷ h) h low (λ x differ. other_arrived m x barrier tag h differ) (arrived_owes m barrier tag h away first.before) in
          omega (arith, all, enough)
    ]
  where
    whole_is_never : at_barrier m h ≡ true → not (is_cancelled h) ≡ false
    whole_is_never there = elim (cases_Bool (is_cancelled h)) [
      | inl cancelled ↦ rw cancelled refl
      | inr whole ↦ absurd (not_both (at_barrier m h) there (first.away whole))
    ]

passed_owes : (x barrier : ℕ) (h : List Event) → at_barrier x h ≡ true → owed_by_member x (Pass barrier x ∷ h) + 1 ≡ owed_by_member x h + 0
passed_owes x barrier h there = rw (same_number x, there) (omega arith)

other_passed : (x m barrier : ℕ) (h : List Event) → m ≢ x → owed_by_member m (Pass barrier x ∷ h) ≡ owed_by_member m h
other_passed x m barrier h differ = rw (other_number x m (λ e. differ (sym e))) refl

pub pass_owes : (members m barrier : ℕ) (h : List Event) → m < members → at_barrier m h ≡ true → owed members (Pass barrier m ∷ h) + 1 ≡ owed members h
pass_owes members m barrier h low there =
    let all = members_owe_other members m 1 0 (Pass barrier m ∷ h) h low (λ x differ. other_passed m x barrier h differ) (passed_owes m barrier h there) in
    omega (arith, all)

-- words owe nothing more
pub put_owes : (members share m : ℕ) (words : List ℕ) (h : List Event) → owed members (Put share m words ∷ h) ≡ owed members h
put_owes members share m words h = let rest = members_owe_same members (Put share m words ∷ h) h (λ x. refl) in omega (arith, rest)

pub got_owes : (members share m : ℕ) (words : List ℕ) (h : List Event) → owed members (Got share m words ∷ h) ≡ owed members h
got_owes members share m words h = let rest = members_owe_same members (Got share m words ∷ h) h (λ x. refl) in omega (arith, rest)

-- what the member keeps of its room and what they ask for are enough for them
pub words_enough : (kept : ℕ) → 1 + words_keep kept ≡ words_ask kept + kept
words_enough kept =
    elim (cases_Bool (nat_le PAYLOAD_ROOM kept)) [
      | inl enough ↦ rw enough (grind (arith, nat_tests, enough))
      | inr little ↦ rw little refl
    ]

-- and a break none, since each team is made with room for one
pub break_owes : (members m : ℕ) (place : Place) (h : List Event) → clash_of h ≡ None → owed members (Break m place ∷ h) + 1 ≡ owed members h
break_owes members m place h whole =
    let rest = members_owe_same members (Break m place ∷ h) h (λ x. refl) in
    let one : owed_for_break h ≡ 1 = rw whole refl in
    omega (arith, rest, one)

-- a new team is made with room for what is owed
first_owed : (members : ℕ) → owed_by_members members [] + 1 ≡ first_room members
first_owed zero = refl
first_owed (suc m) = let rest = first_owed m in omega (arith, rest)

pub new_team_owes : (members : ℕ) → owed members [] ≡ first_room members
new_team_owes members = let all = first_owed members in omega (arith, all)
