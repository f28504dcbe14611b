-- What becomes of a row of a team's tasks as events come.
use Rattle.std.proofs.Common.{◌≡◌, ◌≢◌, ℕ, ◌+◌, ◌<◌, Bool, true, false, List, ◌∷◌, Some, None, refl, ap, ◌∙◌, sym, arith}
use Rattle.std.specs.Prelude.{◌==◌, ◌||◌}
use Rattle.gomp_types.specs.declared.task.Task.{Task}
use Rattle.gomp_types.specs.declared.task.Task.TheVariants.{Implicit, Explicit}
use Rattle.gomp_types.specs.declared.task.TaskDesc.{TaskDesc}
use Rattle.gomp_events.specs.declared.event.Event.{Event}
use Rattle.gomp_events.specs.declared.event.Event.TheVariants.{Create, Start, Done, Discard}
use Rattle.gomp_events.specs.Tasks.{same_task, of_explicit, has_started, task_runner, is_complete, is_ancestor, depth_of, epoch_of_child, is_odd, is_final}
use Rattle.gomp_types.proofs.Booleans.{same_number, other_number}
use Rattle.gomp_events.proofs.TaskDepths.{new_depth, old_depth}
use Rattle.gomp_events.proofs.TaskReadings.{bound_as_a_child_would_be}
use Rattle.gomp_events.proofs.LaterTasks.{old_epoch}
use Rattle.gomp_tasks.specs.declared.rows.Newest.{Newest}
use Rattle.gomp_tasks.specs.declared.rows.TaskState.{TaskState}
use Rattle.gomp_tasks.specs.declared.rows.TaskState.TheVariants as states
use Rattle.gomp_tasks.specs.declared.rows.TaskRow.{TaskRow}
use Rattle.gomp_tasks.specs.Rows.{IsState, NewestIs, RowStands, unstarted_row, no_newest, newest_kept, in_state}
use Rattle.gomp_tasks.specs.Calls.{IsNoTaskEvent}
use Rattle.gomp_tasks.proofs.NewestKeep.{CreatesNone, newest_child_stays}

-- A row, whatever number of children have one

pub row_with_children : (t k : ℕ) (row : TaskRow) (h : List Event) → RowStands t row h → RowStands t (record row { kept_children = k }) h
row_with_children t k row h st = record { parent = st.parent; root = st.root; depth = st.depth; odd = st.odd; undeferred = st.undeferred; final_is = st.final_is; state = st.state; newest = st.newest }

-- An event that creates no task

-- the row in the state that the task then has
pub row_in_state : (t : ℕ) (row : TaskRow) (state : TaskState) (event : Event) (h : List Event) → CreatesNone event → IsState t state (event ∷ h) → RowStands t row h → RowStands t (in_state state row) (event ∷ h)
row_in_state t row state (Create task m p desc) h none is st = absurd none
row_in_state t row state _ h none is st = record {
  parent = record { children = st.parent.children; ancestors = st.parent.ancestors; older = st.parent.older };
  root = st.root;
  depth = st.depth;
  odd = st.odd;
  undeferred = st.undeferred;
  final_is = st.final_is;
  state = is;
  newest = newest_child_stays (Explicit t) (newest_kept row) _ h none st.newest;
}

-- The state of a task

pub state_aside : (t : ℕ) (state : TaskState) (event : Event) (h : List Event) → IsNoTaskEvent event → IsState t state h → IsState t state (event ∷ h)
state_aside t state (Create task m p desc) h is st = absurd is
state_aside t state (Start task m) h is st = absurd is
state_aside t state (Done task m) h is st = absurd is
state_aside t state (Discard task m) h is st = absurd is
state_aside t state _ h is st = record { started = st.started; complete = st.complete; runner = st.runner }

-- the event takes this task to this state, and no other task to another
pub record Takes (t : ℕ) (state : TaskState) (event : Event) (h : List Event) : Type 0 where
  pub own : IsState t state (event ∷ h)
  pub others : (x : ℕ) (old : TaskState) → x ≢ t → IsState x old h → IsState x old (event ∷ h)

pub start_takes : (t m : ℕ) (h : List Event) → is_complete t h ≡ false → Takes t (states.Running m) (Start t m) h
start_takes t m h open' = record {
  own = record { started = rw (same_number t) refl; complete = open'; runner = rw (same_number t) refl };
  others = λ x old apart is.
      let other : (t == x) ≡ false = other_number t x (λ same. apart (sym same)) in
      record { started = rw other is.started; complete = is.complete; runner = rw other is.runner };
}

pub end_takes : (t m : ℕ) (h : List Event) → has_started t h ≡ true → task_runner t h ≡ Some m → Takes t (states.Done m) (Done t m) h
end_takes t m h on who = record {
  own = record { started = on; complete = rw (same_number t) refl; runner = who };
  others = λ x old apart is.
      let other : (t == x) ≡ false = other_number t x (λ same. apart (sym same)) in
      record { started = is.started; complete = rw other is.complete; runner = is.runner };
}

pub discard_takes : (t m : ℕ) (h : List Event) → has_started t h ≡ false → task_runner t h ≡ None → Takes t states.Discarded (Discard t m) h
discard_takes t m h fresh nobody = record {
  own = record { started = fresh; complete = rw (same_number t) refl; runner = nobody };
  others = λ x old apart is.
      let other : (t == x) ≡ false = other_number t x (λ same. apart (sym same)) in
      record { started = is.started; complete = rw other is.complete; runner = is.runner };
}

-- A task that is created

-- the ancestors of a parent that is older than the new task
ancestors_kept : (task m : ℕ) (p : Task) (desc : TaskDesc) (up a : Task) (h : List Event) → ((q : ℕ) → up ≡ Explicit q → (task == q) ≡ false) →
    (same_task up a || of_explicit (λ q. is_ancestor a q h) up) ≡ (same_task up a || of_explicit (λ q. is_ancestor a q (Create task m p desc ∷ h)) up)
ancestors_kept task m p desc (Implicit x) a h older = refl
ancestors_kept task m p desc (Explicit q) a h older = rw (older q refl) refl

-- a row of another task, with the task that then was created last in it
pub old_row : (task m t : ℕ) (p : Task) (desc : TaskDesc) (row : TaskRow) (newest : Newest) (h : List Event) → (task == t) ≡ false → ((q : ℕ) → q < t → (task == q) ≡ false) → NewestIs (Explicit t) newest (Create task m p desc ∷ h) → RowStands t row h → RowStands t (record row { newest = newest.task; newest_undeferred = newest.undeferred }) (Create task m p desc ∷ h)
old_row task m t p desc row newest h other older is st = record {
  parent = record {
    children = λ q. rw other (st.parent.children q);
    ancestors = λ a. rw other (st.parent.ancestors a ∙ ancestors_kept task m p desc row.parent a h (λ q e. older q (st.parent.older q e).1));
    older = st.parent.older;
  };
  root = λ k. rw other (st.root k);
  depth = old_depth t task m p desc h other ∙ st.depth;
  odd = ap is_odd (old_epoch t task m p desc h other) ∙ st.odd;
  undeferred = rw other st.undeferred;
  final_is = rw other st.final_is;
  state = record { started = st.state.started; complete = st.state.complete; runner = st.state.runner };
  newest = is;
}

pub new_row : (t m : ℕ) (p : Task) (desc : TaskDesc) (root depth : ℕ) (odd in_final : Bool) (h : List Event) → IsState t states.Unstarted h → NewestIs (Explicit t) no_newest (Create t m p desc ∷ h) → ((q : ℕ) → p ≡ Explicit q → (0 < q) × (q < t)) → ((k : ℕ) → (same_task p (Implicit k) || of_explicit (λ q. is_ancestor (Implicit k) q h) p) ≡ (root == k)) → depth ≡ depth_of p h + 1 → odd ≡ is_odd (epoch_of_child p h) → in_final ≡ of_explicit (λ q. is_final q h) p →
    RowStands t (unstarted_row desc p root depth odd in_final) (Create t m p desc ∷ h)
new_row t m p desc root depth odd in_final h state none older top deep odd_is final_is = record {
  parent = record {
    children = λ q. rw (same_number t) refl;
    ancestors = λ a. rw (same_number t) (ancestors_kept t m p desc p a h (λ q e. other_number t q (λ same. let lt = (older q e).1 in omega (arith, lt, same))));
    older = older;
  };
  root = λ k. rw (same_number t) (top k);
  depth = new_depth t m p desc h ∙ sym deep;
  odd = ap is_odd (bound_as_a_child_would_be t m p desc h) ∙ sym odd_is;
  undeferred = rw (same_number t, final_is) refl;
  final_is = rw (same_number t, final_is) refl;
  state = record { started = state.started; complete = state.complete; runner = state.runner };
  newest = none;
}
