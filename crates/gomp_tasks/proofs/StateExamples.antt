-- The states of tasks in lists of events, and what each state alone says.
use Rattle.std.proofs.Common.{◌≡◌, ℕ, false, List, refl, inl, inr}
use Rattle.gomp_types.specs.declared.task.Task.TheVariants.{Implicit, Explicit}
use Rattle.gomp_events.specs.declared.event.Event.{Event}
use Rattle.gomp_events.specs.Tasks.{has_started, is_complete}
use Rattle.gomp_events.specs.TaskLaws.{IsCreated}
use Rattle.gomp_types.proofs.Booleans.{not_both}
use Rattle.gomp_events.proofs.TaskEvents.{start_happened, open_is_not_done}
use Rattle.gomp_tasks.specs.declared.rows.TaskState.TheVariants as states
use Rattle.gomp_tasks.specs.Examples.{second_desc, two_created, two_started, second_done, second_discarded, writer_desc, reader_desc, writer_and_reader, writer_runs, writer_ended}
use Rattle.gomp_tasks.specs.States.{State, IsUnstarted, InState, MovesTo, Precedes, kept_state}

unstarted_by_tests : (t : ℕ) (h : List Event) → IsCreated t h → has_started t h ≡ false → is_complete t h ≡ false → IsUnstarted t h
unstarted_by_tests t h made off open' = record { created = made; unstarted = λ m start. not_both (has_started t h) (start_happened t m h start) off; incomplete = open_is_not_done t h open' }

-- the second task is ready, the first member runs it, and has ended it; or a cancellation discards it
pub states_by_events : InState 2 State.Ready two_created × InState 2 (State.Running 0) two_started × InState 2 (State.Done 0) second_done × InState 2 State.Discarded second_discarded
states_by_events = (
  (unstarted_by_tests 2 two_created (0, Explicit 1, second_desc, inl refl) refl refl, refl),
  (inl refl, open_is_not_done 2 two_started refl),
  (inr (inl refl), inl refl),
  (0, inl refl),
)

-- a task that reads what another writes is held until that is done, also while it runs
pub reader_is_held : InState 2 State.Held writer_and_reader × InState 2 State.Held writer_runs × InState 2 State.Ready writer_ended
reader_is_held = (
  (unstarted_by_tests 2 writer_and_reader (0, Implicit 0, reader_desc, inl refl) refl refl, refl),
  (unstarted_by_tests 2 writer_runs (0, Implicit 0, reader_desc, inr (inl refl)) refl refl, refl),
  (unstarted_by_tests 2 writer_ended (0, Implicit 0, reader_desc, inr (inr (inl refl))) refl refl, refl),
)

-- the other never is
pub writer_is_ready : InState 1 State.Ready writer_and_reader
writer_is_ready = (unstarted_by_tests 1 writer_and_reader (0, Implicit 0, writer_desc, inr (inl refl)) refl refl, refl)

-- how states move: they stay
pub states_that_stay : (m : ℕ) → MovesTo State.Held State.Held × MovesTo State.Ready State.Ready × MovesTo (State.Running m) (State.Running m) × MovesTo (State.Done m) (State.Done m) × MovesTo State.Discarded State.Discarded
states_that_stay m = (tt, tt, refl, refl, tt)

-- or go on
pub states_that_go_on : (m : ℕ) → MovesTo State.Held State.Ready × MovesTo State.Ready (State.Running m) × MovesTo (State.Running m) (State.Done m) × MovesTo State.Held State.Discarded × MovesTo State.Ready State.Discarded
states_that_go_on m = (tt, tt, refl, tt, tt)

-- over many events they go further
pub states_further_on : (m : ℕ) → Precedes State.Held (State.Done m) × Precedes State.Held State.Discarded × Precedes State.Ready (State.Done m) × Precedes (State.Running m) (State.Done m)
states_further_on m = (tt, tt, tt, refl)

-- a row keeps one state for the first two
pub states_in_a_row : (m : ℕ) → (kept_state State.Held ≡ states.Unstarted) × (kept_state State.Ready ≡ states.Unstarted) × (kept_state (State.Running m) ≡ states.Running m) × (kept_state (State.Done m) ≡ states.Done m) × (kept_state State.Discarded ≡ states.Discarded)
states_in_a_row m = (refl, refl, refl, refl, refl)
