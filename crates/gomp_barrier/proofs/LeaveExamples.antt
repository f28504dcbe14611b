-- What the barriers of a cancelled region answer, and when they stand for the events: for each line of a definition what it says, and what it alone refuses.
use Rattle.std.proofs.Common.{◌≡◌, ℕ, ◌^◌, ◌-◌, Bool, true, false, [], ◌∷◌, Some, None, suc, zero, refl, arith}
use Rattle.std.specs.Prelude.{All}
use Rattle.gomp_types.specs.declared.cancel.CancelKind.TheVariants.{Parallel}
use Rattle.gomp_types.specs.declared.cancel.Scope.TheVariants.{Region, OneShare, OneGroup}
use Rattle.gomp_types.specs.declared.task.Task.TheVariants.{Implicit}
use Rattle.gomp_events.specs.declared.event.Event.TheVariants.{Arrive, Pass, Cancel, Discard, See}
use Rattle.gomp_events.specs.Goals.{may_pass}
use Rattle.gomp_barrier.specs.declared.front.BarrierSeat.{BarrierSeat}
use Rattle.gomp_barrier.specs.Calls.{barrier_seen, accepts_arrival, IsShareOrGroup, IsNoBarrierEvent}
use Rattle.gomp_barrier.specs.Seats.{has_odd_number, tag_for, number_for, barrier_of, has_come_to_end, seat_accepts, gone_from, SeatStands}
use Rattle.gomp_barrier.specs.Bound.{open_bound, bound_count, TasksStand}
use Rattle.gomp_barrier.specs.Stands.{Stands, MayLeave}
use Rattle.gomp_barrier.proofs.TaskExamples.{turn_without_tasks}
use Rattle.gomp_barrier.proofs.BarrierSteps.{new_barriers_stand, arrive_keeps, turn_keeps, cancel_keeps, leave_keeps}
use Rattle.gomp_barrier.specs.Examples.{at_barrier_tag, at_end_tag, both_arrived, first_left, creates, cancelled_at_barrier, both_at_end, one_left, ends_apart, left_apart, seat_with, front_with, bound_with, no_tasks, barriers_with, cancelled_with, sees_barrier, gone_seat, new_seat, new_front, front_there, front_at_end, front_between, seat_at_end, seat_behind, seat_ahead}

-- Arrivals

-- while the region is not cancelled, with the tag of the others alone
pub accepts_the_same_tag : (accepts_arrival 1 at_barrier_tag (Arrive 0 0 at_barrier_tag ∷ []) ≡ true) × (accepts_arrival 1 at_end_tag (Arrive 0 0 at_barrier_tag ∷ []) ≡ false)
accepts_the_same_tag = (refl, refl)

-- so too if a share or a group is cancelled
pub accepts_beside_a_share : (accepts_arrival 1 at_end_tag (Cancel 0 (OneShare 0) ∷ Arrive 0 0 at_barrier_tag ∷ []) ≡ false) × (accepts_arrival 1 at_barrier_tag (Cancel 0 (OneGroup 1) ∷ Arrive 0 0 at_barrier_tag ∷ []) ≡ true)
accepts_beside_a_share = (refl, refl)

-- in a cancelled one at its end, whether the member waits at another barrier or not
pub accepts_the_end : (accepts_arrival 0 at_end_tag cancelled_at_barrier ≡ true) × (accepts_arrival 1 at_end_tag cancelled_at_barrier ≡ true)
accepts_the_end = (refl, refl)

-- and at no other barrier, though others are there
pub accepts_no_barrier : accepts_arrival 0 at_barrier_tag cancelled_at_barrier ≡ false
accepts_no_barrier = refl

-- nor once the member has passed it
pub accepts_none_after_the_end : (accepts_arrival 0 at_end_tag one_left ≡ false) × (accepts_arrival 0 at_end_tag (Cancel 1 Region ∷ first_left) ≡ false)
accepts_none_after_the_end = (refl, refl)

-- Passes

-- at a barrier at which all are a member passes, and once the region is cancelled it does not
pub passes_no_barrier : (may_pass 2 0 both_arrived ≡ true) × (may_pass 2 0 (Cancel 1 Region ∷ both_arrived) ≡ false)
passes_no_barrier = (refl, refl)

-- nor the end before the other has come there
pub passes_not_alone : may_pass 2 0 (Arrive 0 0 at_end_tag ∷ cancelled_at_barrier) ≡ false
passes_not_alone = refl

-- then both pass it, one after the other
pub passes_the_end_of_all : (may_pass 2 0 both_at_end ≡ true) × (may_pass 2 1 both_at_end ≡ true) × (may_pass 2 1 one_left ≡ true)
passes_the_end_of_all = (refl, refl, refl)

-- a member passes it once, though it still has arrived there
pub passes_the_end_once : may_pass 2 0 one_left ≡ false
passes_the_end_once = refl

-- members at two numbers pass too
pub passes_by_two_numbers : (may_pass 2 0 ends_apart ≡ true) × (may_pass 2 1 ends_apart ≡ true)
passes_by_two_numbers = (refl, refl)

-- not before a task is complete; a discarded one is
pub passes_after_a_discard : (may_pass 1 0 (Arrive 0 0 at_end_tag ∷ Cancel 0 Region ∷ creates 1 0 (Implicit 0) ∷ []) ≡ false) × (may_pass 1 0 (Arrive 0 0 at_end_tag ∷ Discard 1 0 ∷ Cancel 0 Region ∷ creates 1 0 (Implicit 0) ∷ []) ≡ true)
passes_after_a_discard = (refl, refl)

-- What a member sees

-- who has passed the end sees the number after it, and that it has left
pub seen_after_it_left : barrier_seen 0 one_left ≡ sees_barrier 1 None None true
seen_after_it_left = refl

-- the other still waits at the end
pub seen_before_it_leaves : barrier_seen 1 one_left ≡ sees_barrier 0 (Some at_end_tag) (Some at_end_tag) false
seen_before_it_leaves = refl

-- members that came to it from two barriers see two numbers, each one more than before; at the first the other had arrived
pub seen_one_barrier_apart : (barrier_seen 0 left_apart ≡ sees_barrier 1 (Some at_end_tag) None true) × (barrier_seen 1 left_apart ≡ sees_barrier 2 None None true)
seen_one_barrier_apart = (refl, refl)

-- What the barriers see

pub cancelled_regions_are_seen : (task m : ℕ) → (IsNoBarrierEvent (Cancel m Region) → ⊥) × (IsNoBarrierEvent (Discard task m) → ⊥) × (IsShareOrGroup Region → ⊥)
cancelled_regions_are_seen task m = (λ is. is, λ is. is, λ is. is)

pub cancelled_parts_are_aside : (share group m : ℕ) → IsNoBarrierEvent (Cancel m (OneShare share)) × IsNoBarrierEvent (Cancel m (OneGroup group)) × IsNoBarrierEvent (See m Parallel)
cancelled_parts_are_aside share group m = (tt, tt, tt)

-- Seats

-- a member leaves a cancelled region with the parity that it had, and has passed one barrier more
pub gone_from_the_end : (gone_from seat_at_end ≡ gone_seat false) × (gone_from (seat_with true (Some at_end_tag) false) ≡ gone_seat true)
gone_from_the_end = (refl, refl)

pub parity_once_gone : (has_odd_number (gone_seat false) ≡ true) × (has_odd_number (gone_seat true) ≡ false) × (has_odd_number seat_ahead ≡ true) × (has_odd_number new_seat ≡ false)
parity_once_gone = (refl, refl, refl, refl)

-- its barrier is the one after that
pub barrier_once_gone : (barrier_of front_between 6 (gone_seat false) ≡ 7) × (barrier_of front_between 6 (gone_seat true) ≡ 8)
barrier_once_gone = (refl, refl)

-- so is the number, which stays at the largest one
pub number_once_gone : (number_for front_between (gone_seat false) ≡ 1) × (number_for front_between (gone_seat true) ≡ 2) × (number_for (front_with false (2 ^ 64 - 2) None None) (gone_seat true) ≡ 2 ^ 64 - 1)
number_once_gone = (refl, refl, refl)

-- at it stands the tag of those that are ahead; two barriers on stands none
pub tag_once_gone : (tag_for front_between (gone_seat false) ≡ Some at_end_tag) × (tag_for front_between (gone_seat true) ≡ None)
tag_once_gone = (refl, refl)

-- it has come to the end
pub gone_has_come : has_come_to_end (gone_seat false) ≡ true
gone_has_come = refl

-- whom the seat lets arrive, as the events do
pub seat_accepts_the_end : (seat_accepts true front_there seat_behind at_end_tag ≡ true) × (seat_accepts true front_there new_seat at_barrier_tag ≡ false) × (seat_accepts true front_at_end (gone_seat false) at_end_tag ≡ false)
seat_accepts_the_end = (refl, refl, refl)

pub seat_accepts_the_tag : (seat_accepts false front_there new_seat at_barrier_tag ≡ true) × (seat_accepts false front_there new_seat at_end_tag ≡ false)
seat_accepts_the_tag = (refl, refl)

-- a member that is gone from a region that is not cancelled
pub gone_uncancelled : SeatStands new_front 0 0 (gone_seat false) (Pass 0 0 ∷ Arrive 0 0 at_end_tag ∷ []) → ⊥
gone_uncancelled seat = absurd (let cancelled = (seat.gone_is refl).0 in cc)

-- or that has not left it
pub gone_and_not_left : SeatStands new_front 0 0 (record { odd = false; arrived = None; left = false; gone = true }) (Pass 0 0 ∷ Arrive 0 0 at_barrier_tag ∷ Cancel 0 Region ∷ []) → ⊥
gone_and_not_left seat = absurd (let left = (seat.gone_is refl).1 in cc)

-- When a member may leave, by the seats and the counts

two_come : (a b : BarrierSeat) → has_come_to_end a ≡ true → has_come_to_end b ≡ true → All (λ seat. has_come_to_end seat ≡ true) (a ∷ b ∷ [])
two_come a b first second zero d below = first
two_come a b first second (suc zero) d below = second
two_come a b first second (suc (suc k)) d below = absurd (omega arith)

pub leaves_with_another : MayLeave (seat_at_end ∷ seat_at_end ∷ []) no_tasks seat_at_end
leaves_with_another = record { stays = refl; come = two_come seat_at_end seat_at_end refl refl; even = refl; odd = refl }

pub leaves_after_another : MayLeave (gone_seat false ∷ seat_at_end ∷ []) no_tasks seat_at_end
leaves_after_another = record { stays = refl; come = two_come (gone_seat false) seat_at_end refl refl; even = refl; odd = refl }

-- it has left already
pub leaves_twice : MayLeave (gone_seat false ∷ seat_at_end ∷ []) no_tasks (gone_seat false) → ⊥
leaves_twice may = absurd (let stays = may.stays in cc)

-- one has not come to the end
pub leaves_before_another : MayLeave (seat_at_end ∷ seat_behind ∷ []) no_tasks seat_at_end → ⊥
leaves_before_another may = absurd (let come = may.come 1 seat_behind (omega arith) in cc)

-- a task is open, whichever barrier it is bound to
pub leaves_before_a_task : (MayLeave (seat_at_end ∷ []) (bound_with 1 0) seat_at_end → ⊥) × (MayLeave (seat_at_end ∷ []) (bound_with 0 1) seat_at_end → ⊥)
leaves_before_a_task = (λ may. absurd (let even = may.even in omega (arith, even)), λ may. absurd (let odd = may.odd in omega (arith, odd)))

-- When the barriers stand for the events

-- a cancelled region, as if it were not, and the other way round
pub barriers_without_the_flag : Stands (barriers_with (new_seat ∷ []) new_front no_tasks) (Cancel 0 Region ∷ []) → ⊥
barriers_without_the_flag stands = absurd (let flag = stands.cancelled in cc)

pub barriers_with_the_flag : Stands (cancelled_with (new_seat ∷ []) new_front no_tasks) (Cancel 0 (OneShare 0) ∷ []) → ⊥
barriers_with_the_flag stands = absurd (let flag = stands.cancelled in cc)

-- in a cancelled region a task may be bound two barriers after the front
pub bound_far_when_cancelled : TasksStand (bound_with 1 0) 0 (Cancel 0 Region ∷ creates 1 0 (Implicit 0) ∷ Pass 1 0 ∷ Pass 0 0 ∷ [])
bound_far_when_cancelled = record { counted = counts; near = λ whole. absurd (cc); unborn = λ t lt. refl }
  where
    counts : (odd : Bool) → open_bound odd (Cancel 0 Region ∷ creates 1 0 (Implicit 0) ∷ Pass 1 0 ∷ Pass 0 0 ∷ []) ≡ bound_count (bound_with 1 0) odd
    counts true = refl
    counts false = refl

-- the second member waits at a barrier, and the first cancels
pub stands_when_cancelled : Stands (cancelled_with (new_seat ∷ seat_behind ∷ []) front_there no_tasks) cancelled_at_barrier
stands_when_cancelled =
    cancel_keeps (new_seat ∷ seat_behind ∷ []) front_there no_tasks false 0 (Arrive 0 1 at_barrier_tag ∷ [])
    (arrive_keeps (new_seat ∷ new_seat ∷ []) new_front no_tasks false 1 new_seat at_barrier_tag [] (new_barriers_stand (new_seat ∷ new_seat ∷ []) 2 (omega arith) refl) refl refl)

-- both arrive at the end
pub stands_at_the_end : Stands (cancelled_with (seat_at_end ∷ seat_at_end ∷ []) front_at_end no_tasks) both_at_end
stands_at_the_end =
    arrive_keeps (seat_at_end ∷ seat_behind ∷ []) front_at_end no_tasks true 1 seat_behind at_end_tag (Arrive 0 0 at_end_tag ∷ cancelled_at_barrier)
    (arrive_keeps (new_seat ∷ seat_behind ∷ []) front_there no_tasks true 0 new_seat at_end_tag cancelled_at_barrier stands_when_cancelled refl refl) refl refl

-- the first passes it, and the second
pub stands_after_one : Stands (cancelled_with (gone_seat false ∷ seat_at_end ∷ []) front_at_end no_tasks) one_left
stands_after_one = leave_keeps (seat_at_end ∷ seat_at_end ∷ []) front_at_end no_tasks 0 seat_at_end both_at_end stands_at_the_end refl leaves_with_another

pub stands_after_both : Stands (cancelled_with (gone_seat false ∷ gone_seat false ∷ []) front_at_end no_tasks) (Pass 0 1 ∷ one_left)
stands_after_both = leave_keeps (gone_seat false ∷ seat_at_end ∷ []) front_at_end no_tasks 1 seat_at_end one_left stands_after_one refl leaves_after_another

-- the second member has passed the first barrier
one_passed : Stands (barriers_with (seat_behind ∷ seat_with true None false ∷ []) front_there no_tasks) (Pass 0 1 ∷ both_arrived)
one_passed =
    turn_keeps (seat_behind ∷ seat_behind ∷ []) front_there front_there no_tasks 1 seat_behind both_arrived
    (arrive_keeps (seat_behind ∷ new_seat ∷ []) front_there no_tasks false 1 new_seat at_barrier_tag (Arrive 0 0 at_barrier_tag ∷ [])
    (arrive_keeps (new_seat ∷ new_seat ∷ []) new_front no_tasks false 0 new_seat at_barrier_tag [] (new_barriers_stand (new_seat ∷ new_seat ∷ []) 2 (omega arith) refl) refl refl) refl refl)
    refl turn_without_tasks (λ all. absurd (let passed = all 0 seat_behind (omega arith) in cc)) (λ some. refl)

-- the region is cancelled, and both arrive at its end, one barrier apart
pub stands_apart : Stands (cancelled_with (seat_at_end ∷ seat_ahead ∷ []) (front_with false 0 (Some at_end_tag) (Some at_end_tag)) no_tasks) ends_apart
stands_apart =
    arrive_keeps (seat_behind ∷ seat_ahead ∷ []) front_between no_tasks true 0 seat_behind at_end_tag (Arrive 1 1 at_end_tag ∷ Cancel 0 Region ∷ Pass 0 1 ∷ both_arrived)
    (arrive_keeps (seat_behind ∷ seat_with true None false ∷ []) front_there no_tasks true 1 (seat_with true None false) at_end_tag (Cancel 0 Region ∷ Pass 0 1 ∷ both_arrived)
    (cancel_keeps (seat_behind ∷ seat_with true None false ∷ []) front_there no_tasks false 0 (Pass 0 1 ∷ both_arrived) one_passed) refl refl) refl refl

-- both pass it, and the front stays
pub stands_once_apart : Stands (cancelled_with (gone_seat false ∷ gone_seat true ∷ []) (front_with false 0 (Some at_end_tag) (Some at_end_tag)) no_tasks) left_apart
stands_once_apart =
    leave_keeps (seat_at_end ∷ gone_seat true ∷ []) (front_with false 0 (Some at_end_tag) (Some at_end_tag)) no_tasks 0 seat_at_end (Pass 1 1 ∷ ends_apart)
    (leave_keeps (seat_at_end ∷ seat_ahead ∷ []) (front_with false 0 (Some at_end_tag) (Some at_end_tag)) no_tasks 1 seat_ahead ends_apart stands_apart refl
    (record { stays = refl; come = two_come seat_at_end seat_ahead refl refl; even = refl; odd = refl })) refl
    (record { stays = refl; come = two_come seat_at_end (gone_seat true) refl refl; even = refl; odd = refl })
