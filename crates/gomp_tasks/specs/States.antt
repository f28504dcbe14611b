-- The states of a task, by what happened, and how they move. A row keeps less: whether nobody has started a task, and not whether it is ready. OpenMP API 5.2, chapter 12 and sections 15.9.5 and 16.1.
use Rattle.std.specs.Prelude.{ℕ, ◌≡◌, true, false, List}
use Rattle.gomp_events.specs.declared.event.Event.{Event}
use Rattle.gomp_events.specs.declared.event.Event.TheVariants as events
use Rattle.gomp_events.specs.Depends.{is_free}
use Rattle.gomp_events.specs.Laws.{Happened}
use Rattle.gomp_events.specs.TaskLaws.{IsCreated, IsTaskDone}
use Rattle.gomp_tasks.specs.declared.rows.TaskState.{TaskState}
use Rattle.gomp_tasks.specs.declared.rows.TaskState.TheVariants as kept

-- what has become of a task that was created
pub data State : Type 0 where
  -- nobody has started it, and a task for which it waits is not complete
  Held : State
  -- nobody has started it, and it waits for no such task
  Ready : State
  -- this member has started it, and not ended it
  Running : ℕ → State
  -- this member has started it, and ended it
  Done : ℕ → State
  -- a cancellation has discarded it
  Discarded : State

-- the task was created, nobody has started it, and it is not done
pub record IsUnstarted (t : ℕ) (h : List Event) : Type 0 where
  pub created : IsCreated t h
  pub unstarted : (m : ℕ) → Happened (events.Start t m) h → ⊥
  pub incomplete : IsTaskDone t h → ⊥

-- the task is in this state, by what happened
abbrev pub InState : ℕ → State → List Event → Type 0
InState t Held h = IsUnstarted t h × (is_free t h ≡ false)
InState t Ready h = IsUnstarted t h × (is_free t h ≡ true)
InState t (Running m) h = Happened (events.Start t m) h × (IsTaskDone t h → ⊥)
InState t (Done m) h = Happened (events.Start t m) h × Happened (events.Done t m) h
InState t Discarded h = (m : ℕ) × Happened (events.Discard t m) h

-- the state of a task after one event more: the same, or the next
abbrev pub MovesTo : State → State → Type 0
MovesTo Held Held = Unit {0}
MovesTo Held Ready = Unit {0}
MovesTo Held Discarded = Unit {0}
MovesTo Ready Ready = Unit {0}
MovesTo Ready (Running m) = Unit {0}
MovesTo Ready Discarded = Unit {0}
MovesTo (Running m) (Running n) = m ≡ n
MovesTo (Running m) (Done n) = m ≡ n
MovesTo (Done m) (Done n) = m ≡ n
MovesTo Discarded Discarded = Unit {0}
MovesTo _ _ = ⊥

-- a state that a task may have at any later time: the same, or one further on
abbrev pub Precedes : State → State → Type 0
Precedes Held _ = Unit {0}
Precedes Ready Held = ⊥
Precedes Ready _ = Unit {0}
Precedes (Running m) (Running n) = m ≡ n
Precedes (Running m) (Done n) = m ≡ n
Precedes (Done m) (Done n) = m ≡ n
Precedes Discarded Discarded = Unit {0}
Precedes _ _ = ⊥

-- what a row keeps of it
abbrev pub kept_state : State → TaskState
kept_state Held = kept.Unstarted
kept_state Ready = kept.Unstarted
kept_state (Running m) = kept.Running m
kept_state (Done m) = kept.Done m
kept_state Discarded = kept.Discarded
