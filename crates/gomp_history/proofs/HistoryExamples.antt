-- What histories compute to, and what their definitions rule out. (own)
use Rattle.std.proofs.Common.{◌≡◌, ℕ, false, List, [], ◌∷◌, ◌++◌, refl, suc, length}
use Rattle.std.specs.Prelude.{◌≢◌, map}
use Rattle.gomp_types.specs.declared.task.Task.{Task}
use Rattle.gomp_types.specs.declared.task.Task.TheVariants.{Implicit, Explicit}
use Rattle.gomp_types.specs.declared.task.TaskDesc.{TaskDesc}
use Rattle.gomp_events.specs.declared.event.Event.{Event}
use Rattle.gomp_events.specs.declared.event.Event.TheVariants.{Create, Start, Done}
use Rattle.gomp_events.specs.Tasks.{tasks_created}
use Rattle.gomp_history.specs.Histories.{CreatesNone, creation_places, AreNumbered, events_memory}

abbrev some_desc : TaskDesc
some_desc = record { code = 1; arg = 2; undeferred = false; final_task = false; deps = [] }

-- member 0 creates a task, starts it, and creates another one in it; the newest event stands first
abbrev two_tasks : List Event
two_tasks = Create 2 0 (Explicit 1) some_desc ∷ Start 1 0 ∷ Create 1 0 (Implicit 0) some_desc ∷ []

-- the tasks' events have the places 0 and 2
pub places_of_two : (creation_places two_tasks ≡ 0 ∷ 2 ∷ []) × (creation_places (Done 2 0 ∷ two_tasks) ≡ 0 ∷ 2 ∷ [])
places_of_two = (refl, refl)

pub two_are_numbered : AreNumbered two_tasks
two_are_numbered = (refl, (refl, tt))

-- a number that is left out, or given twice, rules the list out
pub number_is_next : (t m : ℕ) (parent : Task) (desc : TaskDesc) (h : List Event) → t ≢ suc (tasks_created h) → AreNumbered (Create t m parent desc ∷ h) → ⊥
number_is_next t m parent desc h other numbered = other numbered.0

-- what a later list says of an earlier task is as before
pub numbered_before : (event : Event) (h : List Event) → AreNumbered (event ∷ h) → AreNumbered h
numbered_before (Create t m parent desc) h numbered = numbered.1
numbered_before _ h numbered = numbered

-- an event that creates a task is none that creates no task, and gives the place of those before it
pub creation_is_told : (t m : ℕ) (parent : Task) (desc : TaskDesc) → CreatesNone (Create t m parent desc) → ⊥
creation_is_told t m parent desc none = none

pub place_of_creation : (t m : ℕ) (parent : Task) (desc : TaskDesc) (h : List Event) → creation_places (Create t m parent desc ∷ h) ≡ creation_places h ++ length h ∷ []
place_of_creation t m parent desc h = refl

-- the memory of so many events: a sixteenth more, and at least 64 more, to 2^32 - 1 in all
pub memory_by_steps : map events_memory (0 ∷ 7 ∷ 1024 ∷ 1039 ∷ 1040 ∷ 16000 ∷ 4042322160 ∷ 4042322161 ∷ 4294967295 ∷ []) ≡ 64 ∷ 71 ∷ 1088 ∷ 1103 ∷ 1105 ∷ 17000 ∷ 4294967295 ∷ 4294967295 ∷ 4294967295 ∷ []
memory_by_steps = refl
