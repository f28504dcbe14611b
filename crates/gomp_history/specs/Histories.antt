-- The stored events of a team, and where its tasks are created among them. (own)
use Rattle.std.specs.Prelude.{ℕ, ◌≡◌, ◌<◌, ◌+◌, ◌^◌, min, List, [], ◌∷◌, ◌++◌, length, reverse}
use Rattle.std.proofs.Common.{suc}
use Rattle.gomp_events.specs.declared.event.Event.{Event}
use Rattle.gomp_events.specs.declared.event.Event.TheVariants.{Create}
use Rattle.gomp_events.specs.Tasks.{tasks_created}
use Rattle.gomp_growth.specs.Growth.{growth_of}

-- a history, as data
pub record HistoryView : Type 0 where
  -- the stored events, the oldest first
  pub events : List Event
  -- for so many events there is memory, these and others
  pub capacity : ℕ
  -- and for the places of so many more tasks
  pub task_room : ℕ

-- the event creates no task
abbrev pub CreatesNone : Event → Type 0
CreatesNone (Create task m parent desc) = ⊥
CreatesNone _ = Unit {0}

-- the places of the events that create tasks, the oldest first; the oldest event has place 0
abbrev pub creation_places : List Event → List ℕ
creation_places [] = []
creation_places (Create task m parent desc ∷ earlier) = creation_places earlier ++ length earlier ∷ []
creation_places (_ ∷ earlier) = creation_places earlier

-- tasks are numbered from 1 in the order of their creation
abbrev pub AreNumbered : List Event → Type 0
AreNumbered [] = Unit {0}
AreNumbered (Create task m parent desc ∷ earlier) = (task ≡ suc (tasks_created earlier)) × AreNumbered earlier
AreNumbered (_ ∷ earlier) = AreNumbered earlier

-- what holds of every history
pub record IsHistory (capacity : ℕ) (events : List Event) (places : List ℕ) : Type 0 where
  pub kept : places ≡ creation_places (reverse events)
  pub numbered : AreNumbered (reverse events)
  -- a place has 32 bits
  pub small : capacity < 2 ^ 32

-- for how many events memory is taken if there is too little for so many: for so many and the growth besides, as far as a place has 32 bits
abbrev pub events_memory : ℕ → ℕ
events_memory room = min (room + growth_of 16 room) 4294967295
