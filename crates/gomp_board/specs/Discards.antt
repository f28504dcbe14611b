-- What a cancellation does to the history and the scheduler of a board: it discards tasks. OpenMP API 5.2, section 16.1.
use Rattle.std.specs.Prelude.{ℕ, ◌≡◌, ◌≤◌, ◌&&◌, false, List, ◌∷◌, ◌++◌, reverse}
use Rattle.gomp_events.specs.declared.event.Event.{Event}
use Rattle.gomp_events.specs.declared.event.Event.TheVariants.{Discard}
use Rattle.gomp_events.specs.Tasks.{tasks_created}
use Rattle.gomp_events.specs.Goals.{is_unstarted}
use Rattle.gomp_events.specs.Cancels.{is_covered}
use Rattle.gomp_events.specs.TaskRules.{MayDiscard}
use Rattle.gomp_events.specs.CancelCalls.{discards_to}
use Rattle.gomp_scheduler.specs.Schedulers.{SchedulerView, Stands as SchedulerStands, scheduler_members}
use Rattle.gomp_board.specs.Stored.{stored}

-- the scheduler stands for the events, and so does the history, which these are
pub record DiscardsStand (s : SchedulerView) (events : List Event) (h : List Event) : Type 0 where
  pub scheduler : SchedulerStands s h
  pub history : stored h ≡ reverse events

-- what stood for events after which the task may be discarded now stands for these and its discard
abbrev pub DiscardsTask : ℕ → ℕ → SchedulerView → SchedulerView → List Event → List Event → Type 0
DiscardsTask task m scheduler after events events_after =
    (h : List Event) → DiscardsStand scheduler events h → MayDiscard (scheduler_members scheduler) task m h → DiscardsStand after events_after (Discard task m ∷ h)

-- none of the first k tasks is one that nobody has started and that a cancellation reaches
abbrev pub NoneToDiscard : ℕ → List Event → Type 0
NoneToDiscard k h = (t : ℕ) → t ≤ k → (is_unstarted t h && is_covered t h) ≡ false

-- what stood for events after which none of the first k tasks is to be discarded now stands for these and the discard of each task that a cancellation reaches
abbrev pub DiscardsAll : ℕ → ℕ → SchedulerView → SchedulerView → List Event → List Event → Type 0
DiscardsAll k m scheduler after events events_after = (h : List Event) → DiscardsStand scheduler events h → NoneToDiscard k h → DiscardsStand after events_after (discards_to (tasks_created h) m h ++ h)
