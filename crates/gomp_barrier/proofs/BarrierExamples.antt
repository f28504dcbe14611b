-- What the calls of the barriers answer and add, and when seats stand for events: for each line of a definition what it says, and what it alone refuses.
use Rattle.std.proofs.Common.{◌≡◌, ℕ, Bool, ◌-◌, ◌<◌, ◌≤◌, ◌^◌, true, false, List, [], ◌∷◌, Some, None, suc, zero, slice_get, refl, subst, ap, arith}
use Rattle.std.specs.Prelude.{◌==◌, get_or, is_some}
use Rattle.std.proofs.lemmas.Bool.Decides.{nat_tests}
use Rattle.gomp_types.specs.declared.refusal.Place.{Place}
use Rattle.gomp_types.specs.declared.key.Key.{Key}
use Rattle.gomp_types.specs.declared.task.Task.{Task}
use Rattle.gomp_types.specs.declared.task.TaskDesc.{TaskDesc}
use Rattle.gomp_types.specs.declared.shape.Shape.{Shape}
use Rattle.gomp_types.proofs.Booleans.{one_is_below_two}
use Rattle.gomp_events.specs.declared.event.Tag.{Tag}
use Rattle.gomp_events.specs.declared.event.Event.TheVariants.{Enter, Take, Drained, End, HandOn, Part, PartEnd, Put, Got, Arrive, Pass, Hold, Free, Create, Start, Done, Group, GroupEnd, Waited, Break}
use Rattle.gomp_events.specs.declared.event.Event.{Event}
use Rattle.gomp_events.specs.Events.{arrival, tag_at}
use Rattle.gomp_events.specs.Tasks.{tasks_created, is_complete}
use Rattle.gomp_events.proofs.OpenTasks.{created_low, created_high}
use Rattle.gomp_barrier.specs.declared.front.BarrierSeat.{BarrierSeat}
use Rattle.gomp_barrier.specs.Calls.{barrier_seen, arrived_after, turn_after, IsNoBarrierEvent}
use Rattle.gomp_barrier.specs.Seats.{differ, is_ahead, tag_for, number_for, IsThere, arrived_at, passed_by, next_front, barrier_of, SeatStands, FrontStands, SomeBehind}
use Rattle.gomp_barrier.specs.Bound.{open_bound, bound_count, TasksStand}
use Rattle.gomp_barrier.specs.Stands.{Stands, barrier_members}
use Rattle.gomp_barrier.specs.Examples.{at_barrier_tag, at_end_tag, both_arrived, second_ahead, first_left, seat_with, front_with, no_tasks, barriers_with, sees_barrier, new_seat, new_front, seat_behind, seat_ahead, front_between}

-- What a member sees

-- nobody has arrived
pub seen_when_nobody_arrived : barrier_seen 0 [] ≡ sees_barrier 0 None None false
seen_when_nobody_arrived = refl

-- the other has arrived
pub seen_after_the_other : barrier_seen 0 (Arrive 0 1 at_barrier_tag ∷ []) ≡ sees_barrier 0 (Some at_barrier_tag) None false
seen_after_the_other = refl

-- the other is one barrier ahead, and each sees its own
pub seen_behind : barrier_seen 0 second_ahead ≡ sees_barrier 0 (Some at_barrier_tag) (Some at_barrier_tag) false
seen_behind = refl

-- the one that is ahead sees the region's end
pub seen_ahead : barrier_seen 1 second_ahead ≡ sees_barrier 1 (Some at_end_tag) (Some at_end_tag) false
seen_ahead = refl

-- a member has passed the region's end, and the other has not
pub seen_after_the_region : barrier_seen 0 first_left ≡ sees_barrier 2 None None true
seen_after_the_region = refl

-- the other still waits at it
pub seen_before_the_end : barrier_seen 1 first_left ≡ sees_barrier 1 (Some at_end_tag) (Some at_end_tag) false
seen_before_the_end = refl

-- What the calls add

-- an arrival is at the member's next barrier
pub arrival_adds : arrived_after true 1 at_end_tag (Pass 0 1 ∷ both_arrived) ≡ second_ahead
arrival_adds = refl

-- an arrival that is refused adds nothing
pub refused_arrival_adds : arrived_after false 1 at_end_tag both_arrived ≡ both_arrived
refused_arrival_adds = refl

-- and so is a pass
pub pass_adds : turn_after true 0 (Arrive 1 0 at_end_tag ∷ Pass 0 0 ∷ second_ahead) ≡ first_left
pass_adds = refl

-- nor does a pass
pub refused_pass_adds : turn_after false 0 both_arrived ≡ both_arrived
refused_pass_adds = refl

-- the barriers see arrivals, passes, and tasks that are created and ended
pub arrivals_are_seen : (barrier m : ℕ) (tag : Tag) → (IsNoBarrierEvent (Arrive barrier m tag) → ⊥) × (IsNoBarrierEvent (Pass barrier m) → ⊥)
arrivals_are_seen barrier m tag = (λ is. is, λ is. is)

-- both events of a task
pub tasks_are_seen : (task m : ℕ) (parent : Task) (desc : TaskDesc) → (IsNoBarrierEvent (Create task m parent desc) → ⊥) × (IsNoBarrierEvent (Done task m) → ⊥)
tasks_are_seen task m parent desc = (λ is. is, λ is. is)

-- not its start, nor what a task waits for
pub starts_are_aside : (task group m : ℕ) → IsNoBarrierEvent (Start task m) × IsNoBarrierEvent (Group group m) × IsNoBarrierEvent (GroupEnd group m) × IsNoBarrierEvent (Waited m [])
starts_are_aside task group m = (tt, tt, tt, tt)

-- and nothing else
pub shares_are_aside : (share m low high k : ℕ) (shape : Shape) → IsNoBarrierEvent (Enter share m shape) × IsNoBarrierEvent (Take share m low high) × IsNoBarrierEvent (Drained share m) × IsNoBarrierEvent (End share m) × IsNoBarrierEvent (HandOn share m k) × IsNoBarrierEvent (Part share m k) × IsNoBarrierEvent (PartEnd share m)
shares_are_aside share m low high k shape = (tt, tt, tt, tt, tt, tt, tt)

-- nor words, names and locks, and a break
pub words_and_breaks_are_aside : (share m : ℕ) (payload : List ℕ) (key : Key) (task : Task) (place : Place) → IsNoBarrierEvent (Put share m payload) × IsNoBarrierEvent (Got share m payload) × IsNoBarrierEvent (Hold key m task) × IsNoBarrierEvent (Free key m task) × IsNoBarrierEvent (Break m place)
words_and_breaks_are_aside share m payload key task place = (tt, tt, tt, tt, tt)

-- A member's seat and the front

-- a member is ahead if the parities differ
pub parities_differ : (differ true false ≡ true) × (differ false true ≡ true)
parities_differ = (refl, refl)

-- if they agree it is not
pub parities_agree : (differ true true ≡ false) × (differ false false ≡ false)
parities_agree = (refl, refl)

-- the second member has passed the front
pub second_is_ahead : is_ahead front_between seat_ahead ≡ true
second_is_ahead = refl

-- the first has not
pub first_is_not_ahead : is_ahead front_between seat_behind ≡ false
first_is_not_ahead = refl

-- also if the front's number is odd
pub behind_an_odd_front : is_ahead (front_with true 1 None None) (seat_with true None false) ≡ false
behind_an_odd_front = refl

-- a member that has passed an even number is ahead there
pub ahead_of_an_odd_front : is_ahead (front_with true 1 None None) new_seat ≡ true
ahead_of_an_odd_front = refl

-- each has the tag of its next barrier
pub tag_of_the_second : tag_for front_between seat_ahead ≡ Some at_end_tag
tag_of_the_second = refl

-- the first member that of the front
pub tag_of_the_first : tag_for front_between seat_behind ≡ Some at_barrier_tag
tag_of_the_first = refl

-- and its number, which stays at the largest one
pub number_of_the_second : number_for front_between seat_ahead ≡ 1
number_of_the_second = refl

-- the first member has the front's number
pub number_of_the_first : number_for front_between seat_behind ≡ 0
number_of_the_first = refl

-- past the largest number it stays
pub number_at_the_limit : number_for (front_with false (2 ^ 64 - 1) None None) seat_ahead ≡ 2 ^ 64 - 1
number_at_the_limit = refl

-- it reaches the largest number
pub number_below_the_limit : number_for (front_with false (2 ^ 64 - 2) None None) seat_ahead ≡ 2 ^ 64 - 1
number_below_the_limit = refl

-- the barrier of the second member is the one after the front
pub barrier_of_the_second : barrier_of front_between 0 seat_ahead ≡ 1
barrier_of_the_second = refl

-- that of the first is the front
pub barrier_of_the_first : barrier_of front_between 0 seat_behind ≡ 0
barrier_of_the_first = refl

-- who has arrived is there, and who has passed, whether it has arrived at the next one or not
pub arrived_is_there : IsThere front_between seat_behind
arrived_is_there = refl

-- a member that has passed is there
pub passed_is_there : IsThere front_between (seat_with true None false)
passed_is_there = refl

-- one that has neither arrived nor passed is not
pub others_are_not_there : IsThere front_between new_seat → ⊥
others_are_not_there there = absurd (cc)

-- nor is one that has passed the region's end, at the next barrier
pub left_is_not_there : IsThere new_front (seat_with false None true) → ⊥
left_is_not_there there = absurd (cc)

-- an arrival is noted at the front or at the barrier after it
pub arrival_at_the_front : arrived_at (front_with false 6 None (Some at_end_tag)) new_seat at_barrier_tag ≡ front_with false 6 (Some at_barrier_tag) (Some at_end_tag)
arrival_at_the_front = refl

-- a member that is ahead arrives at the barrier after it
pub arrival_after_the_front : arrived_at (front_with false 6 (Some at_barrier_tag) None) (seat_with true None false) at_end_tag ≡ front_with false 6 (Some at_barrier_tag) (Some at_end_tag)
arrival_after_the_front = refl

-- a member that passes has not arrived at the next one; it has left the region if this was its end
pub passes_a_barrier : passed_by seat_behind false ≡ seat_with true None false
passes_a_barrier = refl

-- a member that passes the region's end has left
pub passes_the_end : passed_by seat_ahead true ≡ seat_with false None true
passes_the_end = refl

-- and it stays so
pub stays_left : passed_by (seat_with true (Some at_end_tag) true) false ≡ seat_with false None true
stays_left = refl

-- the front that all have passed is the next barrier
pub front_advances : next_front front_between ≡ front_with true 1 (Some at_end_tag) None
front_advances = refl

-- two barriers on the parity is the first again
pub front_advances_back : next_front (front_with true 1 (Some at_end_tag) None) ≡ front_with false 2 None None
front_advances_back = refl

-- the number stays at the largest one
pub front_at_the_limit : next_front (front_with true (2 ^ 64 - 1) None None) ≡ front_with false (2 ^ 64 - 1) None None
front_at_the_limit = refl

-- When a seat stands for the events

-- of a number below one
only_zero : (P : ℕ → Type 0) → P 0 → (g : ℕ) → g < 1 → P g
only_zero P zero-is zero below = zero-is
only_zero P zero-is (suc g) below = absurd (omega arith)

-- no later number is that of one of the two barriers
not_the_first : (g : ℕ) → (0 == suc (suc g)) ≡ false
not_the_first g = grind (arith, nat_tests)

-- the seats when the second member is ahead
first_stands : SeatStands front_between 0 0 seat_behind second_ahead
first_stands = record { passed_is = refl; here = refl; behind = λ g below. absurd (omega arith); beyond = not_later; left_is = refl; gone_is = λ e. absurd (cc) }
  where
    not_later : (g : ℕ) → 0 < g → arrival g 0 second_ahead ≡ None
    not_later zero below = absurd (omega arith)
    not_later (suc zero) below = refl
    not_later (suc (suc g)) below = rw (not_the_first g, one_is_below_two g) refl

second_stands : SeatStands front_between 0 1 seat_ahead second_ahead
second_stands = record { passed_is = refl; here = refl; behind = only_zero (λ g. is_some (arrival g 1 second_ahead) ≡ true) refl; beyond = not_later; left_is = refl; gone_is = λ e. absurd (cc) }
  where
    not_later : (g : ℕ) → 1 < g → arrival g 1 second_ahead ≡ None
    not_later zero below = absurd (omega arith)
    not_later (suc zero) below = absurd (omega arith)
    not_later (suc (suc g)) below = rw (not_the_first g, one_is_below_two g) refl

-- the first member's seat
pub seat_stands_behind : SeatStands front_between 0 0 seat_behind second_ahead
seat_stands_behind = first_stands

-- the second member's seat
pub seat_stands_ahead : SeatStands front_between 0 1 seat_ahead second_ahead
seat_stands_ahead = second_stands

-- a member that has not passed, as if it had
pub seat_not_passed : SeatStands front_between 0 1 seat_ahead (Arrive 1 1 at_end_tag ∷ both_arrived) → ⊥
seat_not_passed seat = absurd (let passed = seat.passed_is in omega arith)

-- one that has arrived, as if it had not
pub seat_not_arrived : SeatStands new_front 0 0 new_seat both_arrived → ⊥
seat_not_arrived seat = absurd (let here = seat.here in cc)

-- one that has passed if it has not arrived
pub seat_not_behind : SeatStands new_front 0 0 (seat_with true None false) (Pass 0 0 ∷ []) → ⊥
seat_not_behind seat = absurd (let behind = seat.behind 0 (omega arith) in cc)

-- one that has arrived at a barrier to come
pub seat_beyond : SeatStands new_front 0 0 new_seat (Arrive 1 0 at_barrier_tag ∷ []) → ⊥
seat_beyond seat = absurd (let beyond = seat.beyond 1 (omega arith) in cc)

-- one that has not left the region, as if it had
pub seat_not_left : SeatStands new_front 0 0 (seat_with false None true) [] → ⊥
seat_not_left seat = absurd (let left = seat.left_is in cc)

-- When the front does: without members it is the front alone

front_seatless : (m : ℕ) (seat : BarrierSeat) → slice_get {X = BarrierSeat} [] m ≡ Some seat → SeatStands front_between 0 m seat second_ahead
front_seatless zero seat at = absurd (cc)
front_seatless (suc m) seat at = absurd (cc)

-- the front between them
pub front_stands : FrontStands [] front_between 0 second_ahead
front_stands = record { parity = refl; number = refl; tag = refl; next = refl; beyond = not_later; seat = front_seatless }
  where
    not_later : (g : ℕ) → 2 ≤ g → tag_at g second_ahead ≡ None
    not_later zero below = absurd (omega arith)
    not_later (suc zero) below = absurd (omega arith)
    not_later (suc (suc g)) below = rw (not_the_first g, one_is_below_two g) refl

-- it has another parity
pub front_of_another_parity : FrontStands [] (front_with true 0 None None) 0 [] → ⊥
front_of_another_parity front = absurd (let parity = front.parity in cc)

-- it has another number
pub front_of_another_number : FrontStands [] (front_with false 1 None None) 0 [] → ⊥
front_of_another_number front = absurd (let number = front.number in omega arith)

-- members have arrived, and it has no tag
pub front_without_its_tag : FrontStands [] new_front 0 both_arrived → ⊥
front_without_its_tag front = absurd (let tag = front.tag in cc)

-- a member has arrived at the next barrier, and it has no tag for that
pub front_without_the_next_tag : FrontStands [] new_front 0 (Arrive 1 0 at_end_tag ∷ []) → ⊥
front_without_the_next_tag front = absurd (let next = front.next in cc)

-- a member has arrived two barriers on
pub front_two_behind : FrontStands [] new_front 0 (Arrive 2 0 at_end_tag ∷ []) → ⊥
front_two_behind front = absurd (let beyond = front.beyond 2 (omega arith) in cc)

-- a seat that does not stand for the events
pub front_of_another_seat : FrontStands (seat_with false None true ∷ []) new_front 0 [] → ⊥
front_of_another_seat front = seat_not_left (front.seat 0 (seat_with false None true) refl)

-- some member is behind if one has not passed the front
pub first_is_behind : SomeBehind front_between (seat_behind ∷ seat_ahead ∷ [])
first_is_behind all = absurd (let passed = all 0 seat_behind (omega arith) in cc)

both_ahead : (k : ℕ) (other : BarrierSeat) → k < 2 → is_ahead front_between (get_or (seat_ahead ∷ seat_ahead ∷ []) k other) ≡ true
both_ahead zero other below = refl
both_ahead (suc zero) other below = refl
both_ahead (suc (suc k)) other below = absurd (omega arith)

-- nobody is if both have passed
pub nobody_is_behind : SomeBehind front_between (seat_ahead ∷ seat_ahead ∷ []) → ⊥
nobody_is_behind behind = behind both_ahead

-- When both do

-- the barriers of two members, of which the second is ahead
two_seats : (P : ℕ → BarrierSeat → Type 0) (a b : BarrierSeat) → P 0 a → P 1 b → (m : ℕ) (seat : BarrierSeat) → slice_get (a ∷ b ∷ []) m ≡ Some seat → P m seat
two_seats P a b first second zero seat at = let same : a ≡ seat = cc in subst (P 0) same first
two_seats P a b first second (suc zero) seat at = let same : b ≡ seat = cc in subst (P 1) same second
two_seats P a b first second (suc (suc m)) seat at = absurd (cc)

-- no task was created
no_tasks_stand : (h : List Event) → tasks_created h ≡ 0 → ((t : ℕ) → is_complete t h ≡ false) → TasksStand no_tasks 0 h
no_tasks_stand h none never = record {
  counted = λ odd. open_none_yet odd;
  near = λ whole t is. absurd (let low = created_low t h is.0 in let high = created_high t h is.0 in omega (arith, low, high, none));
  unborn = λ t lt. never t;
}
  where
    open_none_yet : (odd : Bool) → open_bound odd h ≡ bound_count no_tasks odd
    open_none_yet true = rw none refl
    open_none_yet false = rw none refl

-- the barriers of the two members
pub barriers_stand : Stands (barriers_with (seat_behind ∷ seat_ahead ∷ []) front_between no_tasks) second_ahead
barriers_stand = record {
  least = 0;
  tasks = no_tasks_stand second_ahead refl (λ t. refl);
  barrier = record { parity = refl; number = refl; tag = refl; next = refl; beyond = front_stands.beyond; seat = two_seats (λ m seat. SeatStands front_between 0 m seat second_ahead) seat_behind seat_ahead first_stands second_stands };
  behind = first_is_behind;
  cancelled = refl;
  rule = (
    record { number = refl; same = λ whole other at. absurd (cc); ends = λ on. absurd (cc) },
    (record { number = refl; met = refl }, (record { number = refl; same = λ whole other at. cc; ends = λ on. absurd (cc) }, (record { number = refl; same = λ whole other at. absurd (cc); ends = λ on. absurd (cc) }, tt))),
  );
}

-- the team has two members
pub two_seats_are_two_members : barrier_members (barriers_with (seat_behind ∷ seat_ahead ∷ []) front_between no_tasks) ≡ 2
two_seats_are_two_members = refl

-- a front with a tag at which nobody has arrived
pub barriers_of_another_front : Stands (barriers_with (new_seat ∷ []) (front_with false 0 (Some at_end_tag) None) no_tasks) [] → ⊥
barriers_of_another_front stands = absurd (let tag = stands.barrier.tag in cc)

-- a front that all have passed
pub barriers_all_passed : Stands (barriers_with (seat_ahead ∷ seat_ahead ∷ []) front_between no_tasks) (Arrive 1 0 at_end_tag ∷ Pass 0 0 ∷ second_ahead) → ⊥
barriers_all_passed stands = nobody_is_behind stands.behind

-- members that arrived with two tags
pub barriers_of_two_tags : Stands (barriers_with (seat_behind ∷ seat_with false (Some at_end_tag) false ∷ []) (front_with false 0 (Some at_end_tag) None) no_tasks) (Arrive 0 1 at_end_tag ∷ Arrive 0 0 at_barrier_tag ∷ []) → ⊥
barriers_of_two_tags stands = absurd (let same = ap (λ (tag : Tag). tag.kind) (stands.rule.0.same refl at_barrier_tag refl) in cc)

-- a member that passed alone
pub barriers_passed_alone : Stands (barriers_with (seat_with true None false ∷ new_seat ∷ []) (front_with false 0 (Some at_barrier_tag) None) no_tasks) (Pass 0 0 ∷ Arrive 0 0 at_barrier_tag ∷ []) → ⊥
barriers_passed_alone stands = absurd (let met = stands.rule.0.met in cc)
