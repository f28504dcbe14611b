-- The tasks that a member may start as far as they themselves allow it: nobody has started them, they are deferred, and wait for no open task. OpenMP API 5.2, sections 12.5 and 15.9.5.
use Rattle.std.specs.Prelude.{ℕ, ◌≡◌, ◌&&◌, ◌||◌, not, Bool, true, if◌then◌else◌, List}
use Rattle.gomp_events.specs.declared.event.Event.{Event}
use Rattle.gomp_events.specs.Tasks.{contains, has_started, is_complete, is_undeferred}
use Rattle.gomp_events.specs.Depends.{is_free}
use Rattle.gomp_events.specs.Goals.{is_unstarted}
use Rattle.gomp_ready.specs.Ready.{AreOnce, with_task}

-- whether the task is one of them
abbrev pub is_listed : ℕ → List Event → Bool
is_listed t h = is_unstarted t h && (not (is_undeferred t h) && is_free t h)

-- the tasks, the lowest number first, with one that is created, if it is to stand there
abbrev pub listed_with : Bool → ℕ → List ℕ → List ℕ
listed_with listed t ids = if listed then with_task t ids else ids

-- whether a cancellation has discarded it
abbrev pub was_discarded : ℕ → List Event → Bool
was_discarded t h = is_complete t h && not (has_started t h)

-- these are the ready tasks, each once, and perhaps some that were discarded since
pub record AreReady (ids : List ℕ) (h : List Event) : Type 0 where
  pub listed : (t : ℕ) → is_listed t h ≡ true → contains t ids ≡ true
  pub ready : (t : ℕ) → contains t ids ≡ true → (is_listed t h || was_discarded t h) ≡ true
  pub once : AreOnce ids

-- nobody has started any of these tasks, and none was discarded
abbrev pub AreUnstarted : List ℕ → List Event → Type 0
AreUnstarted ids h = (t : ℕ) → contains t ids ≡ true → is_unstarted t h ≡ true
