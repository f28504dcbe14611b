-- How many open tasks are bound to the barriers, by the parity of their numbers. OpenMP API 5.2, sections 12.1 and 15.3.1.
use Rattle.std.specs.Prelude.{ℕ, ◌+◌, ◌-◌, ◌<◌, ◌≤◌, ◌≡◌, Bool, true, false, not, List}
use Rattle.gomp_events.specs.declared.event.Event.{Event}
use Rattle.gomp_events.specs.Cancels.{is_cancelled}
use Rattle.gomp_events.specs.Tasks.{tasks_created, is_complete, epoch, open_tasks, is_odd}
use Rattle.gomp_barrier.specs.declared.bound.BoundTasks.{BoundTasks}
use Rattle.gomp_barrier.specs.Calls.{IsTaskOpen}

-- whether a number is odd, or whether it is even
abbrev pub of_parity : Bool → ℕ → Bool
of_parity true n = is_odd n
of_parity false n = not (is_odd n)

-- how many open tasks are bound to barriers of this parity, by the events
abbrev pub open_bound : Bool → List Event → ℕ
open_bound odd h = open_tasks (λ t. of_parity odd (epoch t h)) h

-- and by the counts
abbrev pub bound_count : BoundTasks → Bool → ℕ
bound_count tasks true = tasks.odd
bound_count tasks false = tasks.even

-- the counts with one task more that is bound to a barrier of this parity
abbrev pub one_more : BoundTasks → Bool → BoundTasks
one_more tasks true = record { even = tasks.even; odd = tasks.odd + 1 }
one_more tasks false = record { even = tasks.even + 1; odd = tasks.odd }

-- and with one less
abbrev pub one_less : BoundTasks → Bool → BoundTasks
one_less tasks true = record { even = tasks.even; odd = tasks.odd - 1 }
one_less tasks false = record { even = tasks.even - 1; odd = tasks.odd }

-- the counts say what the events do; `least` is the number of the front
pub record TasksStand (tasks : BoundTasks) (least : ℕ) (h : List Event) : Type 0 where
  -- so many open tasks are bound to barriers of each parity
  pub counted : (odd : Bool) → open_bound odd h ≡ bound_count tasks odd
  -- an open task is bound to the front or to the barrier after it, while the region is not cancelled
  pub near : is_cancelled h ≡ false → (t : ℕ) → IsTaskOpen t h → (least ≤ epoch t h) × (epoch t h ≤ least + 1)
  -- a task that was not created is not complete
  pub unborn : (t : ℕ) → tasks_created h < t → is_complete t h ≡ false
