-- What the words of a scheduler, of its groups and of its ready tasks leave in: no list, member or task is refused beyond what they say; and what they refuse of ready tasks.
use Rattle.std.proofs.Common.{◌≡◌, ℕ, ◌<◌, Bool, true, false, List, [], ◌∷◌, suc, refl, inl, inr}
use Rattle.std.specs.Prelude.{◌==◌, slice_index_or}
use Rattle.gomp_events.specs.declared.event.Event.{Event}
use Rattle.gomp_events.specs.declared.event.Event.TheVariants.{Enter, Take, Drained, End, HandOn, Part, PartEnd, Put, Got, Hold, Free, Waited, See, Break}
use Rattle.gomp_types.specs.declared.cancel.CancelKind.{CancelKind}
use Rattle.gomp_types.specs.declared.cancel.Scope.TheVariants.{Region, OneGroup}
use Rattle.gomp_types.specs.declared.depend.Dep.{Dep}
use Rattle.gomp_types.specs.declared.key.Key.{Key}
use Rattle.gomp_types.specs.declared.refusal.Place.{Place}
use Rattle.gomp_types.specs.declared.shape.Shape.{Shape}
use Rattle.gomp_types.specs.declared.task.Task.{Task}
use Rattle.gomp_events.specs.Tasks.{contains, executed_task, is_undeferred, tasks_created}
use Rattle.gomp_events.specs.Cancels.{is_covered}
use Rattle.gomp_events.specs.Goals.{is_unstarted}
use Rattle.gomp_events.specs.TaskRules.{MayCreate, MayStart}
use Rattle.gomp_types.proofs.Booleans.{not_both, or_tells, or_right, is_equal, same_number}
use Rattle.gomp_groups.specs.Rows.{some_marked}
use Rattle.gomp_ready.specs.Ready.{AnswersBy}
use Rattle.gomp_scheduler.specs.Calls.{IsNoSchedulerEvent}
use Rattle.gomp_scheduler.specs.ReadyTasks.{AreUnstarted}
use Rattle.gomp_scheduler.specs.Schedulers.{SchedulerView, AreSealed, IsOfTeam, scheduler_members}
use Rattle.gomp_scheduler.specs.Startable.{CreatesNext, MayStartOwn}

-- Ready tasks

-- no test is left out that answers by this one, whatever it says of any task
pub never_another_test_than_it_answers_by : (answers : ℕ → Bool → Type 0) (test : ℕ → Bool) → ((t : ℕ) (answer : Bool) → answers t answer → answer ≡ test t) → (AnswersBy answers test → ⊥) → ⊥
never_another_test_than_it_answers_by answers test by left_out = left_out by

-- once the discarded tasks were forgotten none is left that somebody has started, or that is complete
pub never_left_unless_unstarted : (t : ℕ) (ids : List ℕ) (h : List Event) → contains t ids ≡ true → is_unstarted t h ≡ false → AreUnstarted ids h → ⊥
never_left_unless_unstarted t ids h there other are = not_both (is_unstarted t h) (are t there) other

-- Cancellations

-- the region may be cancelled, and each group that was opened, the last one too
pub never_barred_from_the_region : (groups : ℕ) → (IsOfTeam Region groups → ⊥) → ⊥
never_barred_from_the_region groups barred = barred tt

pub never_barred_from_an_opened_group : (q groups : ℕ) → q < groups → (IsOfTeam (OneGroup q) groups → ⊥) → ⊥
never_barred_from_an_opened_group q groups opened barred = barred opened

-- tasks may be left that nobody has started, if no cancellation reaches them
pub never_unsealed_with_none_reached : (h : List Event) → ((t : ℕ) → is_unstarted t h ≡ true → is_covered t h ≡ false) → (AreSealed h → ⊥) → ⊥
never_unsealed_with_none_reached h none unsealed = unsealed none

-- Groups

one_is_marked : (marks : List Bool) (qs : List ℕ) (q : ℕ) → contains q qs ≡ true → slice_index_or marks q false ≡ true → some_marked marks qs ≡ true
one_is_marked marks [] q there mark = absurd (cc)
one_is_marked marks (x ∷ qs) q there mark = elim (or_tells (x == q) (contains q qs) there) [
  | inl here ↦ let same = is_equal x q here in rw (same, mark) refl
  | inr further ↦ or_right (slice_index_or marks x false) (some_marked marks qs) (one_is_marked marks qs q further mark)
]

none_is_marked : (marks : List Bool) (qs : List ℕ) → ((q : ℕ) → contains q qs ≡ true → slice_index_or marks q false ≡ false) → some_marked marks qs ≡ false
none_is_marked marks [] none = refl
none_is_marked marks (x ∷ qs) none = rw (none x (rw (same_number x) refl), none_is_marked marks qs (λ q there. none q (or_right (x == q) (contains q qs) there))) refl

-- the mark of no group is overlooked, whatever its number, and none is seen that is not there
pub never_unmarked_with_a_marked_group : (marks : List Bool) (qs : List ℕ) (q : ℕ) → contains q qs ≡ true → slice_index_or marks q false ≡ true → some_marked marks qs ≡ false → ⊥
never_unmarked_with_a_marked_group marks qs q there mark none = not_both (some_marked marks qs) (one_is_marked marks qs q there mark) none

pub never_marked_without_a_marked_group : (marks : List Bool) (qs : List ℕ) → ((q : ℕ) → contains q qs ≡ true → slice_index_or marks q false ≡ false) → some_marked marks qs ≡ true → ⊥
never_marked_without_a_marked_group marks qs none marked = not_both (some_marked marks qs) marked (none_is_marked marks qs none)

-- A member's own tasks

-- nothing but the rule and that the task is undeferred is asked of its start, nothing but the rule of the next creation
pub never_barred_from_its_own : (m t : ℕ) (s : SchedulerView) (h : List Event) → MayStart (scheduler_members s) t m h → is_undeferred t h ≡ true → (MayStartOwn m t s h → ⊥) → ⊥
never_barred_from_its_own m t s h rule undeferred barred = barred (record { rule = rule; undeferred = undeferred })

pub never_barred_from_creating : (m : ℕ) (s : SchedulerView) (h : List Event) → MayCreate (scheduler_members s) (suc (tasks_created h)) m (executed_task m h) h → (CreatesNext m s h → ⊥) → ⊥
never_barred_from_creating m s h rule barred = barred rule

-- Other events

-- a scheduler sees nothing of shares and locks, of a wait, or of what is seen of a cancellation
pub scheduler_ignores_shares : (share m low high k : ℕ) (shape : Shape) → IsNoSchedulerEvent (Enter share m shape) × IsNoSchedulerEvent (Take share m low high) × IsNoSchedulerEvent (Drained share m) × IsNoSchedulerEvent (End share m) × IsNoSchedulerEvent (HandOn share m k) × IsNoSchedulerEvent (Part share m k) × IsNoSchedulerEvent (PartEnd share m)
scheduler_ignores_shares share m low high k shape = (tt, tt, tt, tt, tt, tt, tt)

pub scheduler_ignores_the_others : (n m : ℕ) (payload : List ℕ) (items : List Dep) (key : Key) (task : Task) (kind : CancelKind) (place : Place) → IsNoSchedulerEvent (Put n m payload) × IsNoSchedulerEvent (Got n m payload) × IsNoSchedulerEvent (Hold key m task) × IsNoSchedulerEvent (Free key m task) × IsNoSchedulerEvent (Waited m items) × IsNoSchedulerEvent (See m kind) × IsNoSchedulerEvent (Break m place)
scheduler_ignores_the_others n m payload items key task kind place = (tt, tt, tt, tt, tt, tt, tt)
