-- Events, and the barriers of a team that stand for them or do not, that the examples share. Each list has the newest event first. (own)
use Rattle.std.specs.Prelude.{ℕ, Bool, true, false, List, [], ◌∷◌, Option, Some, None}
use Rattle.gomp_events.specs.declared.event.Arrival.TheVariants.{Barrier, RegionEnd}
use Rattle.gomp_events.specs.declared.event.Tag.{Tag}
use Rattle.gomp_events.specs.declared.event.Event.{Event}
use Rattle.gomp_types.specs.declared.task.Task.{Task}
use Rattle.gomp_types.specs.declared.task.Task.TheVariants.{Implicit, Explicit}
use Rattle.gomp_events.specs.declared.event.Event.TheVariants.{Arrive, Pass, Create, Done, Cancel}
use Rattle.gomp_types.specs.declared.cancel.Scope.TheVariants.{Region}
use Rattle.gomp_barrier.specs.declared.barriers.AtBarrier.{AtBarrier}
use Rattle.gomp_barrier.specs.declared.front.BarrierSeat.{BarrierSeat}
use Rattle.gomp_barrier.specs.declared.front.Front.{Front}
use Rattle.gomp_barrier.specs.declared.bound.BoundTasks.{BoundTasks}
use Rattle.gomp_barrier.specs.Stands.{BarriersView}

-- the arrivals at a barrier and at the region's end, after no share
abbrev pub at_barrier_tag : Tag
at_barrier_tag = record { kind = Barrier; shares = 0 }

abbrev pub at_end_tag : Tag
at_end_tag = record { kind = RegionEnd; shares = 0 }

-- both members arrive at the first barrier
abbrev pub both_arrived : List Event
both_arrived = Arrive 0 1 at_barrier_tag ∷ Arrive 0 0 at_barrier_tag ∷ []

-- the second passes it and arrives at the region's end
abbrev pub second_ahead : List Event
second_ahead = Arrive 1 1 at_end_tag ∷ Pass 0 1 ∷ both_arrived

-- the first follows, and passes the region's end
abbrev pub first_left : List Event
first_left = Pass 1 0 ∷ Arrive 1 0 at_end_tag ∷ Pass 0 0 ∷ second_ahead

-- a member creates a task
abbrev pub creates : ℕ → ℕ → Task → Event
creates task member parent = Create task member parent (record { code = 0; arg = 0; undeferred = false; final_task = false; deps = [] })

-- the first member creates a task, and a child of it; then both arrive at the first barrier
abbrev pub two_tasks : List Event
two_tasks = Arrive 0 1 at_barrier_tag ∷ Arrive 0 0 at_barrier_tag ∷ creates 2 0 (Explicit 1) ∷ creates 1 0 (Implicit 0) ∷ []

-- both tasks are ended, and the second member passes the barrier
abbrev pub tasks_ended : List Event
tasks_ended = Pass 0 1 ∷ Done 2 1 ∷ Done 1 0 ∷ two_tasks

-- it creates a task, which is bound to the next barrier
abbrev pub next_task : List Event
next_task = creates 3 1 (Implicit 1) ∷ tasks_ended

-- both arrive at the region's end, and the second member passes it and creates a task
abbrev pub task_after_end : List Event
task_after_end = creates 1 1 (Implicit 1) ∷ Pass 0 1 ∷ Arrive 0 1 at_end_tag ∷ Arrive 0 0 at_end_tag ∷ []

-- the second waits at a barrier, and the first cancels the region
abbrev pub cancelled_at_barrier : List Event
cancelled_at_barrier = Cancel 0 Region ∷ Arrive 0 1 at_barrier_tag ∷ []

-- then both arrive at its end
abbrev pub both_at_end : List Event
both_at_end = Arrive 0 1 at_end_tag ∷ Arrive 0 0 at_end_tag ∷ cancelled_at_barrier

-- and the first passes it
abbrev pub one_left : List Event
one_left = Pass 0 0 ∷ both_at_end

-- the second has passed the first barrier when the first member cancels the region; then both arrive at its end
abbrev pub ends_apart : List Event
ends_apart = Arrive 0 0 at_end_tag ∷ Arrive 1 1 at_end_tag ∷ Cancel 0 Region ∷ Pass 0 1 ∷ both_arrived

-- and both pass it
abbrev pub left_apart : List Event
left_apart = Pass 0 0 ∷ Pass 1 1 ∷ ends_apart

abbrev pub seat_with : Bool → Option Tag → Bool → BarrierSeat
seat_with odd arrived left = record { odd = odd; arrived = arrived; left = left; gone = false }

abbrev pub front_with : Bool → ℕ → Option Tag → Option Tag → Front
front_with odd number tag next = record { odd = odd; number = number; tag = tag; next = next }

-- so many open tasks are bound to barriers of even and of odd numbers
abbrev pub bound_with : ℕ → ℕ → BoundTasks
bound_with even odd = record { even = even; odd = odd }

abbrev pub no_tasks : BoundTasks
no_tasks = bound_with 0 0

abbrev pub barriers_with : List BarrierSeat → Front → BoundTasks → BarriersView
barriers_with seats front tasks = record { seats = seats; front = front; tasks = tasks; cancelled = false }

-- and of a cancelled region
abbrev pub cancelled_with : List BarrierSeat → Front → BoundTasks → BarriersView
cancelled_with seats front tasks = record { seats = seats; front = front; tasks = tasks; cancelled = true }

abbrev pub sees_barrier : ℕ → Option Tag → Option Tag → Bool → AtBarrier
sees_barrier number tag arrived left = record { number = number; tag = tag; arrived = arrived; left = left }

-- a member that has neither arrived nor passed
abbrev pub new_seat : BarrierSeat
new_seat = seat_with false None false

-- the first barrier, at which nobody has arrived
abbrev pub new_front : Front
new_front = front_with false 0 None None

-- and at which both members have arrived
abbrev pub front_there : Front
front_there = front_with false 0 (Some at_barrier_tag) None

-- the region's end, if it is the first barrier
abbrev pub front_at_end : Front
front_at_end = front_with false 0 (Some at_end_tag) None

abbrev pub seat_at_end : BarrierSeat
seat_at_end = seat_with false (Some at_end_tag) false

-- the seats and the front when the second member is ahead
abbrev pub seat_behind : BarrierSeat
seat_behind = seat_with false (Some at_barrier_tag) false

abbrev pub seat_ahead : BarrierSeat
seat_ahead = seat_with true (Some at_end_tag) false

abbrev pub front_between : Front
front_between = front_with false 0 (Some at_barrier_tag) (Some at_end_tag)

-- a member that has passed the end of a cancelled region, by how many it had passed before
abbrev pub gone_seat : Bool → BarrierSeat
gone_seat odd = record { odd = odd; arrived = None; left = true; gone = true }
