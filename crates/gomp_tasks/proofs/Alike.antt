-- What two lists of events have in common for which the same tasks stand.
use Rattle.std.proofs.Common.{◌≡◌, ℕ, ◌<◌, true, false, List, [], ◌∷◌, Option, Some, None, length, slice_get, refl, ap, ◌∙◌, sym, arith, suc, zero, inl, inr}
use Rattle.std.specs.Prelude.{◌&&◌, ◌||◌}
use Rattle.std.proofs.lemmas.Bool.{cases_Bool}
use Rattle.gomp_types.specs.declared.task.Task.{Task}
use Rattle.gomp_types.specs.declared.task.Task.TheVariants.{Implicit, Explicit}
use Rattle.gomp_events.specs.declared.event.Event.{Event}
use Rattle.gomp_events.specs.Tasks.{tasks_created, task_stack, same_task, of_explicit, is_ancestor}
use Rattle.gomp_events.specs.Goals.{is_unstarted}
use Rattle.gomp_rows.specs.Rows.{row_no, HasRow}
use Rattle.gomp_tasks.specs.declared.rows.Newest.{Newest}
use Rattle.gomp_tasks.specs.declared.rows.TaskRow.{TaskRow}
use Rattle.gomp_tasks.specs.Stands.{TasksView, TablesStand, Stands, task_members}
use Rattle.gomp_tasks.proofs.RowsAt.{row_or_none, row_under}
use Rattle.gomp_tasks.proofs.StartedTasks.{through_parent}
use Rattle.gomp_tasks.proofs.TasksKeep.{row_of_created, unstarted_has_row}

-- As many tasks were created

pub alike_created : (tasks : TasksView) (h g : List Event) → Stands tasks h → Stands tasks g → tasks_created h ≡ tasks_created g
alike_created tasks h g st other = st.count ∙ sym other.count

-- The started tasks of a member are the same

has_stack : (stacks : List (List ℕ)) (m : ℕ) → m < length stacks → (ts : List ℕ) × (slice_get stacks m ≡ Some ts)
has_stack stacks m low = by stacks m low
  where
    by : (stacks : List (List ℕ)) (m : ℕ) → m < length stacks → (ts : List ℕ) × (slice_get stacks m ≡ Some ts)
    by [] m low = absurd (omega (arith, low))
    by (ts ∷ rest) zero low = (ts, refl)
    by (ts ∷ rest) (suc m) low = by rest m (omega (arith, low))

pub alike_stack : (tasks : TasksView) (m : ℕ) (h g : List Event) → Stands tasks h → Stands tasks g → m < task_members tasks → task_stack m h ≡ task_stack m g
alike_stack tasks m h g st other low = let found = has_stack tasks.stacks m low in st.stack m found.0 found.1 ∙ sym (other.stack m found.0 found.1)

-- A task that has a row is under the same tasks; tasks up to `most` are looked through

alike_under : (rows : List (Option TaskRow)) (stacks : List (List ℕ)) (roots : List Newest) (h g : List Event) → TablesStand rows stacks roots h → TablesStand rows stacks roots g → (a : Task) (most t : ℕ) → t < most → HasRow rows t → is_ancestor a t h ≡ is_ancestor a t g
alike_under rows stacks roots h g st other a zero t lt has = absurd (omega (arith, lt))
alike_under rows stacks roots h g st other a (suc most) t lt has =
    let found = row_under rows t has in
    let is = (st.kept_row t found.0 found.1).parent in
    let too = (other.kept_row t found.0 found.1).parent in
    is.ancestors a ∙ by found.0.parent (λ q up.
    let less = (is.older q up).1 in
    alike_under rows stacks roots h g st other a most q (omega (arith, lt, less)) (st.parent t q found.0 found.1 up)) ∙ sym (too.ancestors a)
  where
    by : (p : Task) → ((q : ℕ) → p ≡ Explicit q → is_ancestor a q h ≡ is_ancestor a q g) → (same_task p a || of_explicit (λ q. is_ancestor a q h) p) ≡ (same_task p a || of_explicit (λ q. is_ancestor a q g) p)
    by (Implicit m) same = refl
    by (Explicit q) same = ap (λ b. same_task (Explicit q) a || b) (same q refl)

-- Nobody has started the same tasks

alike_unstarted : (rows : List (Option TaskRow)) (stacks : List (List ℕ)) (roots : List Newest) (h g : List Event) → TablesStand rows stacks roots h → TablesStand rows stacks roots g → (t : ℕ) (row : TaskRow) → row_no rows t ≡ Some row → is_unstarted t h ≡ is_unstarted t g
alike_unstarted rows stacks roots h g st other t row at =
    let one = (st.kept_row t row at).state in
    let two = (other.kept_row t row at).state in
    rw (row_of_created rows stacks roots t row h st at, row_of_created rows stacks roots t row g other at, one.started, one.complete, two.started, two.complete) refl

-- none has that has no row
rowless_is_started : (rows : List (Option TaskRow)) (stacks : List (List ℕ)) (roots : List Newest) (h : List Event) → TablesStand rows stacks roots h → (t : ℕ) → row_no rows t ≡ None → is_unstarted t h ≡ false
rowless_is_started rows stacks roots h st t none = elim (cases_Bool (is_unstarted t h)) [
  | inl un ↦ absurd (let found = row_under rows t (unstarted_has_row rows stacks roots t h st un) in let e : Some found.0 ≡ None = sym found.1 ∙ none in cc)
  | inr over ↦ over
]

-- so of the tasks that nobody has started the same ones are under a task
pub alike_below : (tasks : TasksView) (a : Task) (t : ℕ) (h g : List Event) → Stands tasks h → Stands tasks g → (is_unstarted t h && is_ancestor a t h) ≡ (is_unstarted t g && is_ancestor a t g)
alike_below tasks a t h g st other = elim (row_or_none (row_no tasks.rows t)) [
  | inl none ↦ rw (rowless_is_started tasks.rows tasks.stacks tasks.roots h st t none, rowless_is_started tasks.rows tasks.stacks tasks.roots g other t none) refl
  | inr found ↦ rw (alike_unstarted tasks.rows tasks.stacks tasks.roots h g st other t found.0 found.1, alike_under tasks.rows tasks.stacks tasks.roots h g st other a (suc t) t (omega arith) (rw found.1 refl)) refl
]

-- A task that nobody has started is under what a task above it is under

pub unstarted_under : (tasks : TasksView) (a : Task) (s t : ℕ) (h : List Event) → Stands tasks h → is_unstarted t h ≡ true → is_ancestor (Explicit s) t h ≡ true → is_ancestor a s h ≡ true → is_ancestor a t h ≡ true
unstarted_under tasks a s t h st un below top = through_parent tasks.rows tasks.stacks tasks.roots h st a s top (suc t) t (omega arith) (unstarted_has_row tasks.rows tasks.stacks tasks.roots t h st un) below
