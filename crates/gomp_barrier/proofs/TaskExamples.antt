-- What the barriers count of tasks, and what a member waits for: for each line of a definition what it says, and what it alone refuses.
use Rattle.std.proofs.Common.{◌≡◌, ℕ, ◌+◌, ◌<◌, ◌≤◌, Bool, true, false, [], ◌∷◌, Some, None, suc, zero, refl, arith}
use Rattle.std.specs.Prelude.{All}
use Rattle.gomp_types.specs.declared.task.Task.TheVariants.{Implicit, Explicit}
use Rattle.gomp_events.specs.declared.event.Event.TheVariants.{Pass, Done}
use Rattle.gomp_events.specs.Tasks.{epoch, is_complete}
use Rattle.gomp_events.specs.Goals.{may_pass}
use Rattle.gomp_types.proofs.Booleans.{other_number}
use Rattle.gomp_events.proofs.OpenTasks.{created_high}
use Rattle.gomp_barrier.specs.declared.front.BarrierSeat.{BarrierSeat}
use Rattle.gomp_barrier.specs.declared.front.Front.{Front}
use Rattle.gomp_barrier.specs.Calls.{IsTaskOpen, MayBind, MayRelease}
use Rattle.gomp_barrier.specs.Seats.{IsThere, has_come_to_end}
use Rattle.gomp_barrier.specs.Bound.{of_parity, open_bound, bound_count, one_more, one_less, TasksStand}
use Rattle.gomp_barrier.specs.Stands.{Stands, MayTurn}
use Rattle.gomp_barrier.proofs.BarrierSteps.{new_barriers_stand, task_bound, task_released}
use Rattle.gomp_barrier.specs.Examples.{at_barrier_tag, creates, two_tasks, tasks_ended, next_task, task_after_end, seat_with, front_with, bound_with, no_tasks, barriers_with, new_seat, new_front, front_there, front_at_end, seat_behind, seat_ahead, seat_at_end, front_between}

-- What a member waits for, by the events

-- both have arrived, and two tasks are open that are bound to the barrier
pub waits_for_bound_tasks : may_pass 2 0 two_tasks ≡ false
waits_for_bound_tasks = refl

-- a child is bound to the barrier of its parent, and is waited for when that is complete
pub waits_for_the_child : may_pass 2 0 (Done 1 0 ∷ two_tasks) ≡ false
waits_for_the_child = refl

-- once both are complete either member passes
pub passes_after_both : may_pass 2 0 (Done 2 1 ∷ Done 1 0 ∷ two_tasks) ≡ true
passes_after_both = refl

-- the first passes while a task is open that is bound to the next barrier
pub passes_before_the_next : may_pass 2 0 next_task ≡ true
passes_before_the_next = refl

-- at the region's end it does not
pub open_task_at_the_end : may_pass 2 0 task_after_end ≡ false
open_task_at_the_end = refl

-- nor if one has not arrived
pub waits_for_the_other : may_pass 3 0 (Done 2 1 ∷ Done 1 0 ∷ two_tasks) ≡ false
waits_for_the_other = refl

-- Counts

-- parities of numbers
pub parities_of_numbers : (of_parity true 3 ≡ true) × (of_parity true 2 ≡ false) × (of_parity false 2 ≡ true) × (of_parity false 3 ≡ false) × (of_parity false 0 ≡ true)
parities_of_numbers = (refl, refl, refl, refl, refl)

-- two open tasks are bound to the first barrier, and none to the second
pub counts_of_two_tasks : (open_bound false two_tasks ≡ 2) × (open_bound true two_tasks ≡ 0)
counts_of_two_tasks = (refl, refl)

-- a task that is complete is not counted
pub counts_without_complete_ones : (open_bound false (Done 1 0 ∷ two_tasks) ≡ 1) × (open_bound false next_task ≡ 0) × (open_bound true next_task ≡ 1)
counts_without_complete_ones = (refl, refl, refl)

-- each parity has its own count
pub counts_by_parity : (bound_count (bound_with 2 5) false ≡ 2) × (bound_count (bound_with 2 5) true ≡ 5)
counts_by_parity = (refl, refl)

-- a task counts for its own parity alone
pub one_more_of_each : (one_more (bound_with 2 5) false ≡ bound_with 3 5) × (one_more (bound_with 2 5) true ≡ bound_with 2 6)
one_more_of_each = (refl, refl)

pub one_less_of_each : (one_less (bound_with 2 5) false ≡ bound_with 1 5) × (one_less (bound_with 2 5) true ≡ bound_with 2 4)
one_less_of_each = (refl, refl)

-- When the counts stand for the events

both_counts : (P : Bool → Type 0) → P false → P true → (odd : Bool) → P odd
both_counts P even odd false = even
both_counts P even odd true = odd

-- no task but these three is created
one_of_three : (P : ℕ → Type 0) → (IsTaskOpen 1 next_task → P 1) → (IsTaskOpen 2 next_task → P 2) → (IsTaskOpen 3 next_task → P 3) → (t : ℕ) → IsTaskOpen t next_task → P t
one_of_three P one two three zero is = absurd (let made = is.0 in cc)
one_of_three P one two three (suc zero) is = one is
one_of_three P one two three (suc (suc zero)) is = two is
one_of_three P one two three (suc (suc (suc zero))) is = three is
one_of_three P one two three (suc (suc (suc (suc t)))) is = absurd (let high = created_high (suc (suc (suc (suc t)))) next_task is.0 in omega (arith, high))

not_done_yet : (t : ℕ) → 3 < t → is_complete t next_task ≡ false
not_done_yet t lt = rw (other_number 2 t (λ same. omega (arith, same, lt)), other_number 1 t (λ same. omega (arith, same, lt))) refl

-- two tasks are complete, and one is bound to the barrier after the front
pub counts_stand : TasksStand (bound_with 0 1) 0 next_task
counts_stand = record {
  counted = both_counts (λ odd. open_bound odd next_task ≡ bound_count (bound_with 0 1) odd) refl refl;
  near = λ whole. one_of_three (λ t. (0 ≤ epoch t next_task) × (epoch t next_task ≤ 0 + 1)) (λ is. absurd (let open' = is.1 in cc)) (λ is. absurd (let open' = is.1 in cc)) (λ is. (omega arith, omega arith));
  unborn = not_done_yet;
}

-- a complete task is counted as open
pub counts_of_a_complete_task : TasksStand (bound_with 2 0) 0 (Done 1 0 ∷ two_tasks) → ⊥
counts_of_a_complete_task st = absurd (let counted = st.counted false in omega (arith, counted))

-- an open one is not counted
pub counts_without_an_open_task : TasksStand no_tasks 0 two_tasks → ⊥
counts_without_an_open_task st = absurd (let counted = st.counted false in omega (arith, counted))

-- the counts are swapped
pub counts_of_the_other_parity : TasksStand (bound_with 0 2) 0 two_tasks → ⊥
counts_of_the_other_parity st = absurd (let counted = st.counted true in omega (arith, counted))

-- a task is bound to a barrier before the front
pub bound_before_the_front : TasksStand (bound_with 2 0) 2 two_tasks → ⊥
bound_before_the_front st = absurd (let near = st.near refl 1 (refl, refl) in let low = near.0 in omega (arith, low))

-- or two barriers after it
pub bound_two_after : TasksStand (bound_with 1 0) 0 (creates 1 0 (Implicit 0) ∷ Pass 1 0 ∷ Pass 0 0 ∷ []) → ⊥
bound_two_after st = absurd (let near = st.near refl 1 (refl, refl) in let high = near.1 in omega (arith, high))

-- a task is ended that was not created
pub ended_before_it_was : TasksStand no_tasks 0 (Done 1 0 ∷ []) → ⊥
ended_before_it_was st = absurd (let unborn = st.unborn 1 (omega arith) in cc)

-- so barriers whose counts are wrong do not stand for the events
pub barriers_with_wrong_counts : Stands (barriers_with (seat_behind ∷ seat_behind ∷ []) front_there no_tasks) two_tasks → ⊥
barriers_with_wrong_counts stands = absurd (let counted = stands.tasks.counted false in omega (arith, counted))

-- nor barriers of which one was passed while a task that is bound to it was open
pub barriers_passed_before_tasks : Stands (barriers_with (seat_with true None false ∷ seat_behind ∷ []) front_there (bound_with 2 0)) (Pass 0 0 ∷ two_tasks) → ⊥
barriers_passed_before_tasks stands = absurd (let met = stands.rule.0.met in cc)

-- nor those whose region's end was passed while any task was
pub barriers_left_before_tasks : Stands (barriers_with (seat_with true None true ∷ seat_with true None true ∷ []) (front_with true 1 None None) (bound_with 0 1)) (Pass 0 0 ∷ task_after_end) → ⊥
barriers_left_before_tasks stands = absurd (let met = stands.rule.0.met in cc)

-- When a member may pass the front, by the seats and the counts

-- two seats at the front
two_there : (front : Front) (a b : BarrierSeat) → IsThere front a → IsThere front b → All (IsThere front) (a ∷ b ∷ [])
two_there front a b first second zero d below = first
two_there front a b first second (suc zero) d below = second
two_there front a b first second (suc (suc k)) d below = absurd (omega arith)

-- both have arrived, and no task is open
pub turn_without_tasks : MayTurn (barriers_with (seat_behind ∷ seat_behind ∷ []) front_there no_tasks) seat_behind
turn_without_tasks = record { behind = refl; there = two_there front_there seat_behind seat_behind refl refl; bound = refl; ended = λ come. refl }

-- tasks are open that are bound to the next barrier
pub turn_with_later_tasks : MayTurn (barriers_with (seat_behind ∷ seat_behind ∷ []) front_there (bound_with 0 4)) seat_behind
turn_with_later_tasks = record { behind = refl; there = two_there front_there seat_behind seat_behind refl refl; bound = refl; ended = λ come. absurd (cc) }

-- the member has passed the front
pub turn_of_one_ahead : MayTurn (barriers_with (seat_behind ∷ seat_ahead ∷ []) front_between no_tasks) seat_ahead → ⊥
turn_of_one_ahead may = absurd (let behind = may.behind in cc)

-- one has not arrived
pub turn_before_another : MayTurn (barriers_with (seat_behind ∷ new_seat ∷ []) front_there no_tasks) seat_behind → ⊥
turn_before_another may = absurd (let there = may.there 1 new_seat (omega arith) in cc)

-- a task is open that is bound to the front
pub turn_before_a_task : MayTurn (barriers_with (seat_behind ∷ seat_behind ∷ []) front_there (bound_with 1 0)) seat_behind → ⊥
turn_before_a_task may = absurd (let bound = may.bound in omega (arith, bound))

-- of an odd number
pub turn_at_an_odd_front : MayTurn (barriers_with (seat_with true (Some at_barrier_tag) false ∷ []) (front_with true 1 (Some at_barrier_tag) None) (bound_with 0 1)) (seat_with true (Some at_barrier_tag) false) → ⊥
turn_at_an_odd_front may = absurd (let bound = may.bound in omega (arith, bound))

-- at the region's end one that is bound to the barrier after it
pub turn_at_the_end : MayTurn (barriers_with (seat_at_end ∷ seat_at_end ∷ []) front_at_end (bound_with 0 1)) seat_at_end → ⊥
turn_at_the_end may = absurd (let ended = may.ended refl in omega (arith, ended))

-- who has come to the region's end: at it, and past it
pub members_at_the_end : (has_come_to_end seat_at_end ≡ true) × (has_come_to_end (seat_with true None true) ≡ true) × (has_come_to_end seat_behind ≡ false) × (has_come_to_end new_seat ≡ false)
members_at_the_end = (refl, refl, refl, refl)

-- Tasks that are created and ended

-- a task of the second member, which has passed the first barrier, is the third and bound to the second barrier
pub third_task_binds : MayBind 2 3 (Implicit 1) true tasks_ended
third_task_binds = record { number = refl; parent_is = omega arith; parity = refl }

-- and one of the first member, which has not, to the first
pub task_behind_binds : MayBind 2 3 (Implicit 0) false tasks_ended
task_behind_binds = record { number = refl; parent_is = omega arith; parity = refl }

-- a child of that task too
pub child_binds : MayBind 2 4 (Explicit 3) true next_task
child_binds = record { number = refl; parent_is = (refl, refl); parity = refl }

-- it has another number
pub bind_another_number : MayBind 2 4 (Implicit 1) true tasks_ended → ⊥
bind_another_number may = absurd (let number = may.number in omega (arith, number))

-- it is a child of a stranger's
pub bind_for_a_stranger : MayBind 2 3 (Implicit 2) false tasks_ended → ⊥
bind_for_a_stranger may = absurd (let parent = may.parent_is in omega (arith, parent))

-- or of a task that is complete, or was not created
pub bind_in_a_complete_task : MayBind 2 3 (Explicit 2) false tasks_ended → ⊥
bind_in_a_complete_task may = absurd (let incomplete = may.parent_is.1 in cc)

pub bind_in_no_task : MayBind 2 3 (Explicit 3) false tasks_ended → ⊥
bind_in_no_task may = absurd (let created = may.parent_is.0 in cc)

-- it is bound to a barrier of the other parity
pub bind_the_other_parity : MayBind 2 3 (Implicit 1) false tasks_ended → ⊥
bind_the_other_parity may = absurd (let parity = may.parity in cc)

-- the third task is open, and bound to the second barrier
pub third_task_ends : MayRelease 3 true next_task
third_task_ends = record { is_open = (refl, refl); parity = refl }

-- the first is complete
pub release_twice : MayRelease 1 false next_task → ⊥
release_twice may = absurd (let incomplete = may.is_open.1 in cc)

-- the fourth was not created
pub release_too_early : MayRelease 4 false next_task → ⊥
release_too_early may = absurd (let created = may.is_open.0 in cc)

-- the third is not bound to the first barrier
pub release_the_other_parity : MayRelease 3 false next_task → ⊥
release_the_other_parity may = absurd (let parity = may.parity in cc)

-- the one member of a new team creates a task, and ends it
pub one_task_stands : Stands (barriers_with (new_seat ∷ []) new_front (bound_with 1 0)) (creates 1 0 (Implicit 0) ∷ [])
one_task_stands =
    task_bound (new_seat ∷ []) new_front no_tasks false 1 0 (Implicit 0) (record { code = 0; arg = 0; undeferred = false; final_task = false; deps = [] }) false [] (new_barriers_stand (new_seat ∷ []) 1 (omega arith) refl)
    (record { number = refl; parent_is = omega arith; parity = refl })

pub ended_task_stands : Stands (barriers_with (new_seat ∷ []) new_front no_tasks) (Done 1 0 ∷ creates 1 0 (Implicit 0) ∷ [])
ended_task_stands = task_released (new_seat ∷ []) new_front (bound_with 1 0) false 1 0 false (creates 1 0 (Implicit 0) ∷ []) one_task_stands (record { is_open = (refl, refl); parity = refl })
