-- When rows and stacks stand for events, and what the calls ask for: for each line of a definition what it says, and what it alone refuses.
use Rattle.std.proofs.Math.Bool.{or-false}
use Rattle.std.proofs.Common.{◌≡◌, ℕ, ◌<◌, true, false, List, [], ◌∷◌, Option, Some, None, slice_get, refl, subst, ap, arith, suc, zero}
use Rattle.std.specs.Prelude.{◌==◌, map, count_by}
use Rattle.gomp_types.specs.declared.cancel.CancelKind.{CancelKind}
use Rattle.gomp_types.specs.declared.cancel.Scope.{Scope}
use Rattle.gomp_types.specs.declared.cancel.Scope.TheVariants.{Region}
use Rattle.gomp_types.specs.declared.refusal.Place.{Place}
use Rattle.gomp_types.specs.declared.shape.Shape.{Shape}
use Rattle.gomp_types.specs.declared.key.Key.{Key}
use Rattle.gomp_events.specs.declared.event.Tag.{Tag}
use Rattle.gomp_events.specs.declared.event.Arrival.TheVariants as arrivals
use Rattle.gomp_types.specs.declared.task.Task.{Task}
use Rattle.gomp_types.specs.declared.depend.Dep.{Dep}
use Rattle.gomp_types.specs.declared.task.Task.TheVariants.{Implicit, Explicit}
use Rattle.gomp_types.specs.declared.task.TaskDesc.{TaskDesc}
use Rattle.gomp_events.specs.declared.event.Event.{Event}
use Rattle.gomp_events.specs.declared.event.Event.TheVariants.{Enter, Take, Drained, End, HandOn, Part, PartEnd, Put, Got, Arrive, Pass, Hold, Free, Create, Start, Done, Group, GroupEnd, Waited, Cancel, Discard, See, Break}
use Rattle.gomp_events.specs.Tasks.{tasks_created, is_created, is_complete, task_stack, executed_task, innermost_task}
use Rattle.gomp_events.specs.Laws.{Always}
use Rattle.gomp_events.specs.TaskRules.{TaskRule}
use Rattle.gomp_events.proofs.OpenTasks.{created_low, created_high}
use Rattle.gomp_events.specs.Cancels.{first_in}
use Rattle.gomp_rows.specs.Rows.{row_no, HasRow}
use Rattle.gomp_tasks.specs.declared.tasks.TheConstants.{MAX_TASKS}
use Rattle.gomp_tasks.specs.declared.rows.TaskState.TheVariants as states
use Rattle.gomp_tasks.specs.declared.rows.Newest.{Newest}
use Rattle.gomp_tasks.specs.declared.rows.TaskRow.{TaskRow}
use Rattle.gomp_tasks.specs.Rows.{is_started, is_over, is_needed, Follows, runner_of, no_newest, IsState, IsParent, NewestIs, RowStands}
use Rattle.gomp_tasks.specs.Stands.{TasksView, task_members, count_of, IsNumber, IsKept, IsTask, is_row_of_child, Stands, AreSame, AreTasks}
use Rattle.gomp_tasks.specs.Calls.{MayCreateNext, task_or_implicit, is_under_all, IsNoTaskEvent}
use Rattle.gomp_tasks.proofs.TasksKeep.{executed_has_row}
use Rattle.gomp_tasks.specs.Examples.{first_desc, one_created, two_created, two_started, second_done, second_discarded, writer_and_reader, writer_ended, newest_first, newest_second, first_with, second_with, first_running, second_running, rows_of_two, rows_of_first, tasks_with, both_running}

-- What is kept of a task

-- a task that runs was started, and one that a member has ended; not one that was discarded
pub states_started : (is_started states.Unstarted ≡ false) × (is_started (states.Running 3) ≡ true) × (is_started (states.Done 3) ≡ true) × (is_started states.Discarded ≡ false)
states_started = (refl, refl, refl, refl)

-- the latter two are complete
pub states_over : (is_over states.Unstarted ≡ false) × (is_over (states.Running 3) ≡ false) × (is_over (states.Done 3) ≡ true) × (is_over states.Discarded ≡ true)
states_over = (refl, refl, refl, refl)

-- a row is needed as long as its task is not complete, and then for each child
pub rows_needed : map is_needed (first_with 0 (states.Running 0) ∷ second_with states.Unstarted ∷ first_with 0 (states.Done 0) ∷ first_with 0 states.Discarded ∷ first_with 1 (states.Done 0) ∷ first_with 2 states.Discarded ∷ []) ≡ true ∷ true ∷ false ∷ false ∷ true ∷ true ∷ []
rows_needed = refl

-- a state stays, or moves to the next one
pub states_that_follow : Follows states.Unstarted states.Unstarted × Follows states.Unstarted (states.Running 3) × Follows (states.Running 3) (states.Running 3) × Follows (states.Running 3) (states.Done 3) × Follows (states.Done 3) (states.Done 3)
states_that_follow = (tt, tt, refl, refl, refl)

-- a task that nobody has started may be discarded
pub discarded_states_follow : Follows states.Unstarted states.Discarded × Follows states.Discarded states.Discarded
discarded_states_follow = (tt, tt)

-- the innermost of two tasks, and of none
pub first_of_a_stack : (first_in (2 ∷ 1 ∷ []) ≡ Some 2) × (first_in [] ≡ None)
first_of_a_stack = (refl, refl)

-- When a state does

-- a task that nobody has started, one that runs, one that is complete
pub states_told : IsState 2 states.Unstarted two_created × IsState 2 (states.Running 0) two_started × IsState 2 (states.Done 0) second_done
states_told = (record { started = refl; complete = refl; runner = refl }, record { started = refl; complete = refl; runner = refl }, record { started = refl; complete = refl; runner = refl })

-- a task that runs, as if nobody had started it
pub state_not_started : IsState 2 states.Unstarted two_started → ⊥
state_not_started is = absurd (let on = is.started in cc)

-- one that is complete, as if it runs
pub state_not_complete : IsState 2 (states.Running 0) second_done → ⊥
state_not_complete is = absurd (let over = is.complete in cc)

-- one that another member runs
pub state_of_another_runner : IsState 2 (states.Running 1) two_started → ⊥
state_of_another_runner is = absurd (let runner = is.runner in cc)

-- one that was discarded
pub state_of_a_discarded : IsState 2 states.Discarded second_discarded
state_of_a_discarded = record { started = refl; complete = refl; runner = refl }

-- as if a member had ended it
pub discarded_not_ended : IsState 2 (states.Done 0) second_discarded → ⊥
discarded_not_ended is = absurd (let on = is.started in cc)

-- as if it could be started
pub discarded_not_unstarted : IsState 2 states.Unstarted second_discarded → ⊥
discarded_not_unstarted is = absurd (let over = is.complete in cc)

-- one that a member ended, as if it was discarded, and one that nobody has started
pub ended_not_discarded : (IsState 2 states.Discarded second_done → ⊥) × (IsState 2 states.Discarded two_created → ⊥)
ended_not_discarded = (λ is. absurd (let on = is.started in cc), λ is. absurd (let over = is.complete in cc))

-- who started a task
pub runners_of_states : (runner_of states.Unstarted ≡ None) × (runner_of (states.Running 3) ≡ Some 3) × (runner_of (states.Done 3) ≡ Some 3) × (runner_of states.Discarded ≡ None)
runners_of_states = (refl, refl, refl, refl)

-- When a parent does

-- the second task was created in the first
first_is_parent : IsParent 2 (Explicit 1) two_started
first_is_parent = record {
  children = λ p. refl;
  ancestors = λ a. refl;
  older = λ p e. let same : 1 ≡ p = cc in (omega (arith, same), omega (arith, same));
}

-- and the first in an implicit one
implicit_is_parent : IsParent 1 (Implicit 0) two_started
implicit_is_parent = record { children = λ p. refl; ancestors = λ a. refl; older = λ p e. absurd (cc) }

pub parents_told : IsParent 2 (Explicit 1) two_started × IsParent 1 (Implicit 0) two_started
parents_told = (first_is_parent, implicit_is_parent)

-- another task with the same ancestors: two that were created in each other, against the rule
pub parent_of_another : IsParent 3 (Explicit 1) (Create 3 0 (Explicit 2) first_desc ∷ Create 2 0 (Explicit 1) first_desc ∷ Create 1 0 (Explicit 2) first_desc ∷ Create 2 0 (Explicit 1) first_desc ∷ []) → ⊥
parent_of_another is = absurd (let other = is.children (Explicit 2) in cc)

-- an ancestor that the parent has no more: it was created twice, against the rule
pub parent_of_other_ancestors : IsParent 2 (Explicit 1) (Create 1 1 (Implicit 1) first_desc ∷ Create 2 0 (Explicit 1) first_desc ∷ Create 1 0 (Implicit 0) first_desc ∷ []) → ⊥
parent_of_other_ancestors is = absurd (let other = is.ancestors (Implicit 0) in cc)

-- a parent that is younger
pub parent_is_younger : IsParent 1 (Explicit 2) (Create 1 0 (Explicit 2) first_desc ∷ []) → ⊥
parent_is_younger is = absurd (let older = (is.older 2 refl).1 in omega arith)

-- one whose number is none
pub parent_is_none : IsParent 1 (Explicit 0) (Create 1 0 (Explicit 0) first_desc ∷ []) → ⊥
parent_is_none is = absurd (let some = (is.older 0 refl).0 in omega arith)

-- When a row does

first_row_stands : RowStands 1 first_running two_started
first_row_stands = record { parent = implicit_is_parent; root = λ m. or-false (0 == m); depth = refl; odd = refl; undeferred = refl; final_is = refl; state = record { started = refl; complete = refl; runner = refl }; newest = record { task = refl; undeferred = refl } }

second_row_stands : RowStands 2 second_running two_started
second_row_stands = record { parent = first_is_parent; root = λ m. or-false (0 == m); depth = refl; odd = refl; undeferred = refl; final_is = refl; state = record { started = refl; complete = refl; runner = refl }; newest = record { task = refl; undeferred = refl } }

-- the rows of both tasks
pub rows_stand : RowStands 1 first_running two_started × RowStands 2 second_running two_started
rows_stand = (first_row_stands, second_row_stands)

-- with the parent of its parent
pub row_of_another_parent : RowStands 2 (record second_running { parent = Implicit 0 }) two_started → ⊥
row_of_another_parent row = absurd (let other = row.parent.children (Implicit 0) in cc)

-- below the implicit task of another member
pub row_of_another_root : RowStands 2 (record second_running { root = 1 }) two_started → ⊥
row_of_another_root row = absurd (let root = row.root 1 in cc)

-- as deep as its parent
pub row_of_another_depth : RowStands 2 (record second_running { depth = 1 }) two_started → ⊥
row_of_another_depth row = absurd (let depth = row.depth in omega arith)

-- bound to the barrier before
pub row_of_another_barrier : RowStands 2 (record second_running { odd = false }) two_started → ⊥
row_of_another_barrier row = absurd (let odd = row.odd in cc)

-- deferred, though its parent is final
pub row_of_a_deferred : RowStands 2 (record second_running { undeferred = false }) two_started → ⊥
row_of_a_deferred row = absurd (let undeferred = row.undeferred in cc)

-- not final
pub row_of_no_final : RowStands 2 (record second_running { final_task = false }) two_started → ⊥
row_of_no_final row = absurd (let final_is = row.final_is in cc)

-- started by another member
pub row_of_another_runner : RowStands 2 (record second_running { state = states.Running 1 }) two_started → ⊥
row_of_another_runner row = absurd (let runner = row.state.runner in cc)

-- done while it runs
pub row_of_another_state : RowStands 2 (record second_running { state = states.Done 0 }) two_started → ⊥
row_of_another_state row = absurd (let over = row.state.complete in cc)

-- another task as the newest in it, and as if that were deferred
pub row_of_another_newest : RowStands 1 (record first_running { newest = 1 }) two_started → ⊥
row_of_another_newest row = absurd (let task : 2 ≡ 1 = row.newest.task in omega (arith, task))

pub row_of_a_deferred_newest : RowStands 1 (record first_running { newest_undeferred = false }) two_started → ⊥
row_of_a_deferred_newest row = absurd (let undeferred = row.newest.undeferred in cc)

-- whatever number of children it says to have a row: that is for the other rows to tell
pub row_of_any_children : (kept : ℕ) → RowStands 1 (first_with kept (states.Running 0)) two_started
row_of_any_children kept = record { parent = implicit_is_parent; root = λ m. or-false (0 == m); depth = refl; odd = refl; undeferred = refl; final_is = refl; state = record { started = refl; complete = refl; runner = refl }; newest = record { task = refl; undeferred = refl } }

-- Which task is the newest

-- in one of two members' implicit tasks, in the other's, in an explicit one and in one without a child
pub newest_told : NewestIs (Implicit 0) newest_first two_started × NewestIs (Implicit 1) no_newest two_started × NewestIs (Explicit 1) newest_second two_started × NewestIs (Explicit 2) no_newest two_started
newest_told = (record { task = refl; undeferred = refl }, record { task = refl; undeferred = refl }, record { task = refl; undeferred = refl }, record { task = refl; undeferred = refl })

-- of two children of one task the second, also once it is complete
pub newest_of_two_children : NewestIs (Implicit 0) (record { task = 2; undeferred = false }) writer_and_reader × (NewestIs (Implicit 0) (record { task = 1; undeferred = false }) writer_ended → ⊥) × NewestIs (Explicit 1) newest_second second_done × NewestIs (Explicit 1) newest_second second_discarded
newest_of_two_children = (record { task = refl; undeferred = refl }, λ is. absurd (let task : 2 ≡ 1 = is.task in omega (arith, task)), record { task = refl; undeferred = refl }, record { task = refl; undeferred = refl })

-- When all do

of_two_rows : (P : ℕ → TaskRow → Type 0) (a b : Option TaskRow) → ((row : TaskRow) → a ≡ Some row → P 1 row) → ((row : TaskRow) → b ≡ Some row → P 2 row) → (t : ℕ) (row : TaskRow) → row_no (a ∷ b ∷ []) t ≡ Some row → P t row
of_two_rows P a b first second zero row at = absurd (cc)
of_two_rows P a b first second (suc zero) row at = first row at
of_two_rows P a b first second (suc (suc zero)) row at = second row at
of_two_rows P a b first second (suc (suc (suc k))) row at = absurd (cc)

this_row : (P : TaskRow → Type 0) (a : TaskRow) → P a → (row : TaskRow) → Some a ≡ Some row → P row
this_row P a is row e = let same : a ≡ row = cc in subst P same is

no_such_row : (P : TaskRow → Type 0) (row : TaskRow) → None ≡ Some row → P row
no_such_row P row e = absurd (cc)

gone_of_two : (a b : Option TaskRow) (h : List Event) → tasks_created h ≡ 2 → (a ≡ None → is_complete 1 h ≡ true) → (b ≡ None → is_complete 2 h ≡ true) → (t : ℕ) → is_created t h ≡ true → row_no (a ∷ b ∷ []) t ≡ None → is_complete t h ≡ true
gone_of_two a b h two first second zero made none = absurd (let low = created_low 0 h made in omega (arith, low))
gone_of_two a b h two first second (suc zero) made none = first none
gone_of_two a b h two first second (suc (suc zero)) made none = second none
gone_of_two a b h two first second (suc (suc (suc k))) made none = absurd (let high = created_high (suc (suc (suc k))) h made in omega (arith, high, two))

of_two : {A : Type 0} (P : ℕ → A → Type 0) (a b : A) → P 0 a → P 1 b → (m : ℕ) (x : A) → slice_get (a ∷ b ∷ []) m ≡ Some x → P m x
of_two P a b first second zero x at = let same : a ≡ x = cc in subst (P 0) same first
of_two P a b first second (suc zero) x at = let same : b ≡ x = cc in subst (P 1) same second
of_two P a b first second (suc (suc m)) x at = absurd (cc)

-- the tasks of two members, of which the first runs two
pub tasks_stand : Stands both_running two_started
tasks_stand = record {
  count = refl;
  kept_row = of_two_rows (λ t row. RowStands t row two_started) _ _ (this_row (λ row. RowStands 1 row two_started) first_running first_row_stands) (this_row (λ row. RowStands 2 row two_started) second_running second_row_stands);
  gone = gone_of_two _ _ two_started refl (λ none. absurd (cc)) (λ none. absurd (cc));
  needed = of_two_rows (λ t row. is_over row.state ≡ true → 0 < row.kept_children) _ _ (this_row (λ row. is_over row.state ≡ true → 0 < row.kept_children) first_running (λ over. omega arith)) (this_row (λ row. is_over row.state ≡ true → 0 < row.kept_children) second_running (λ over. absurd (cc)));
  children = of_two_rows (λ t row. count_by (is_row_of_child t) rows_of_two ≡ row.kept_children) _ _ (this_row (λ row. 1 ≡ row.kept_children) first_running refl) (this_row (λ row. 0 ≡ row.kept_children) second_running refl);
  parent = λ t p row at is. of_two_rows (λ t row. row.parent ≡ Explicit p → HasRow rows_of_two p) _ _ (this_row (λ row. row.parent ≡ Explicit p → HasRow rows_of_two p) first_running (λ up. absurd (cc))) (this_row (λ row. row.parent ≡ Explicit p → HasRow rows_of_two p) second_running (λ up. let same : 1 ≡ p = cc in subst (λ (x : ℕ). HasRow rows_of_two x) same refl)) t row at is;
  stack = of_two (λ m ts. task_stack m two_started ≡ ts) (2 ∷ 1 ∷ []) [] refl refl;
  root = of_two (λ m newest. NewestIs (Implicit m) newest two_started) newest_first no_newest newest_told.0 newest_told.1;
  members = refl;
  rule = (
    record { member = omega arith; may = refl; own = λ undeferred. refl },
    (
      record { member = omega arith; number = refl; current = refl; away = λ e. refl; shallow = omega arith; uncovered = refl },
      (
        record { member = omega arith; may = refl; own = λ undeferred. absurd (cc) },
        (record { member = omega arith; number = refl; current = refl; away = λ e. refl; shallow = omega arith; uncovered = refl }, (tt, tt)),
      ),
    ),
  );
}

-- once the second is complete, the first alone has a row, by whatever it became so
first_alone : (stack : List ℕ) (h : List Event) → tasks_created h ≡ 2 → RowStands 1 (first_with 0 (states.Running 0)) h → is_complete 2 h ≡ true → task_stack 0 h ≡ stack → task_stack 1 h ≡ [] → NewestIs (Implicit 0) newest_first h → NewestIs (Implicit 1) no_newest h → Always (TaskRule 2) h → Stands (tasks_with rows_of_first stack [] 3) h
first_alone stack h two first over own other newest none rule = record {
  count = two;
  kept_row = of_two_rows (λ t row. RowStands t row h) _ _ (this_row (λ row. RowStands 1 row h) (first_with 0 (states.Running 0)) first) (no_such_row (λ row. RowStands 2 row h));
  gone = gone_of_two _ _ h two (λ no_row. absurd (cc)) (λ no_row. over);
  needed = of_two_rows (λ t row. is_over row.state ≡ true → 0 < row.kept_children) _ _ (this_row (λ row. is_over row.state ≡ true → 0 < row.kept_children) (first_with 0 (states.Running 0)) (λ complete. absurd (cc))) (no_such_row (λ row. is_over row.state ≡ true → 0 < row.kept_children));
  children = of_two_rows (λ t row. count_by (is_row_of_child t) rows_of_first ≡ row.kept_children) _ _ (this_row (λ row. 0 ≡ row.kept_children) (first_with 0 (states.Running 0)) refl) (no_such_row (λ row. count_by (is_row_of_child 2) rows_of_first ≡ row.kept_children));
  parent = λ t p row at is. of_two_rows (λ t row. row.parent ≡ Explicit p → HasRow rows_of_first p) _ _ (this_row (λ row. row.parent ≡ Explicit p → HasRow rows_of_first p) (first_with 0 (states.Running 0)) (λ up. absurd (cc))) (no_such_row (λ row. row.parent ≡ Explicit p → HasRow rows_of_first p)) t row at is;
  stack = of_two (λ m ts. task_stack m h ≡ ts) stack [] own other;
  root = of_two (λ m found. NewestIs (Implicit m) found h) newest_first no_newest newest none;
  members = refl;
  rule = rule;
}

pub row_taken_out_at_the_end : Stands (tasks_with rows_of_first (1 ∷ []) [] 3) second_done
row_taken_out_at_the_end =
    first_alone (1 ∷ []) second_done refl
    (record { parent = record { children = λ p. refl; ancestors = λ a. refl; older = λ p e. absurd (cc) }; root = λ m. or-false (0 == m); depth = refl; odd = refl; undeferred = refl; final_is = refl; state = record { started = refl; complete = refl; runner = refl }; newest = record { task = refl; undeferred = refl } })
    refl refl refl (record { task = refl; undeferred = refl }) (record { task = refl; undeferred = refl }) (record { member = omega arith; current = refl }, tasks_stand.rule)

-- the first runs the first, and the second was discarded
pub row_taken_out_by_a_discard : Stands (tasks_with rows_of_first (1 ∷ []) [] 3) second_discarded
row_taken_out_by_a_discard =
    first_alone (1 ∷ []) second_discarded refl
    (record { parent = record { children = λ p. refl; ancestors = λ a. refl; older = λ p e. absurd (cc) }; root = λ m. or-false (0 == m); depth = refl; odd = refl; undeferred = refl; final_is = refl; state = record { started = refl; complete = refl; runner = refl }; newest = record { task = refl; undeferred = refl } })
    refl refl refl (record { task = refl; undeferred = refl }) (record { task = refl; undeferred = refl }) (record { member = omega arith; unstarted = refl; covered = refl }, (tt, tasks_stand.rule.1))

-- a complete task has a row for a child of it that is not
pub row_kept_for_a_child : Stands (tasks_with (Some (first_with 1 (states.Done 0)) ∷ Some (second_with states.Unstarted) ∷ []) [] [] 3) (Done 1 0 ∷ two_created)
row_kept_for_a_child = record {
  count = refl;
  kept_row = of_two_rows (λ t row. RowStands t row (Done 1 0 ∷ two_created)) _ _
      (this_row (λ row. RowStands 1 row (Done 1 0 ∷ two_created)) (first_with 1 (states.Done 0)) (record { parent = record { children = λ p. refl; ancestors = λ a. refl; older = λ p e. absurd (cc) }; root = λ m. or-false (0 == m); depth = refl; odd = refl; undeferred = refl; final_is = refl; state = record { started = refl; complete = refl; runner = refl }; newest = record { task = refl; undeferred = refl } }))
      (this_row (λ row. RowStands 2 row (Done 1 0 ∷ two_created)) (second_with states.Unstarted) (record { parent = record { children = λ p. refl; ancestors = λ a. refl; older = first_is_parent.older }; root = λ m. or-false (0 == m); depth = refl; odd = refl; undeferred = refl; final_is = refl; state = record { started = refl; complete = refl; runner = refl }; newest = record { task = refl; undeferred = refl } }));
  gone = gone_of_two _ _ (Done 1 0 ∷ two_created) refl (λ none. absurd (cc)) (λ none. absurd (cc));
  needed = of_two_rows (λ t row. is_over row.state ≡ true → 0 < row.kept_children) _ _ (this_row (λ row. is_over row.state ≡ true → 0 < row.kept_children) (first_with 1 (states.Done 0)) (λ over. omega arith)) (this_row (λ row. is_over row.state ≡ true → 0 < row.kept_children) (second_with states.Unstarted) (λ over. absurd (cc)));
  children = of_two_rows (λ t row. count_by (is_row_of_child t) (Some (first_with 1 (states.Done 0)) ∷ Some (second_with states.Unstarted) ∷ []) ≡ row.kept_children) _ _ (this_row (λ row. 1 ≡ row.kept_children) (first_with 1 (states.Done 0)) refl) (this_row (λ row. 0 ≡ row.kept_children) (second_with states.Unstarted) refl);
  parent = λ t p row at is. of_two_rows (λ t row. row.parent ≡ Explicit p → HasRow (Some (first_with 1 (states.Done 0)) ∷ Some (second_with states.Unstarted) ∷ []) p) _ _ (this_row (λ row. row.parent ≡ Explicit p → HasRow (Some (first_with 1 (states.Done 0)) ∷ Some (second_with states.Unstarted) ∷ []) p) (first_with 1 (states.Done 0)) (λ up. absurd (cc))) (this_row (λ row. row.parent ≡ Explicit p → HasRow (Some (first_with 1 (states.Done 0)) ∷ Some (second_with states.Unstarted) ∷ []) p) (second_with states.Unstarted) (λ up. let same : 1 ≡ p = cc in subst (λ (x : ℕ). HasRow (Some (first_with 1 (states.Done 0)) ∷ Some (second_with states.Unstarted) ∷ []) x) same refl)) t row at is;
  stack = of_two (λ m ts. task_stack m (Done 1 0 ∷ two_created) ≡ ts) [] [] refl refl;
  root = of_two (λ m newest. NewestIs (Implicit m) newest (Done 1 0 ∷ two_created)) newest_first no_newest (record { task = refl; undeferred = refl }) (record { task = refl; undeferred = refl });
  members = refl;
  rule = (record { member = omega arith; current = refl }, tasks_stand.rule.1);
}

-- What no rows stand for

-- a row left in, though its task is complete and no child of it has one
pub row_left_in : Stands (tasks_with (Some (first_with 1 (states.Running 0)) ∷ Some (second_with (states.Done 0)) ∷ []) (1 ∷ []) [] 3) second_done → ⊥
row_left_in stands = absurd (let needed : 0 < 0 = stands.needed 2 (second_with (states.Done 0)) refl refl in omega (arith, needed))

-- the count of the parent not lowered, or lowered twice
pub count_not_lowered : Stands (tasks_with (Some (first_with 1 (states.Running 0)) ∷ None ∷ []) (1 ∷ []) [] 3) second_done → ⊥
count_not_lowered stands = absurd (let children : 0 ≡ 1 = stands.children 1 (first_with 1 (states.Running 0)) refl in omega (arith, children))

pub count_lowered_twice : Stands (tasks_with (Some (first_with 0 (states.Running 0)) ∷ Some second_running ∷ []) (2 ∷ 1 ∷ []) [] 3) two_started → ⊥
count_lowered_twice stands = absurd (let children : 1 ≡ 0 = stands.children 1 (first_with 0 (states.Running 0)) refl in omega (arith, children))

-- the row of a task taken out that is not complete: of one that runs, and of one that nobody has started
pub running_row_taken_out : Stands (tasks_with (Some (first_with 0 (states.Running 0)) ∷ None ∷ []) (2 ∷ 1 ∷ []) [] 3) two_started → ⊥
running_row_taken_out stands = absurd (let gone = stands.gone 2 refl refl in cc)

pub unstarted_row_taken_out : Stands (tasks_with rows_of_first (1 ∷ []) [] 3) two_created → ⊥
unstarted_row_taken_out stands = absurd (let gone = stands.gone 2 refl refl in cc)

-- the row of a complete task taken out while a child of it has one
pub parent_row_taken_out : Stands (tasks_with (None ∷ Some (second_with states.Unstarted) ∷ []) [] [] 3) (Done 1 0 ∷ two_created) → ⊥
parent_row_taken_out stands = absurd (let parent = stands.parent 2 1 (second_with states.Unstarted) refl refl in cc)

-- as if the first member had started it
pub discarded_on_a_stack : Stands (tasks_with rows_of_first (2 ∷ 1 ∷ []) [] 3) second_discarded → ⊥
discarded_on_a_stack stands = absurd (let stack = stands.stack 0 (2 ∷ 1 ∷ []) refl in let same = ap first_in stack in cc)

-- a task that runs and was discarded
pub discarded_while_it_runs : Stands (tasks_with rows_of_two (2 ∷ 1 ∷ []) [] 3) (Discard 2 0 ∷ Cancel 0 Region ∷ two_started) → ⊥
discarded_while_it_runs stands = absurd (let unstarted = stands.rule.0.unstarted in cc)

-- whatever room there is
pub tasks_stand_in_any_room : (room : ℕ) → Stands (tasks_with rows_of_two (2 ∷ 1 ∷ []) [] room) two_started
tasks_stand_in_any_room room = tasks_stand

-- they are two members and two tasks
pub tasks_counted : (task_members both_running ≡ 2) × (count_of both_running ≡ 2)
tasks_counted = (refl, refl)

-- a task that was created has no row
pub tasks_without_a_row : Stands (tasks_with [] [] [] 3) one_created → ⊥
tasks_without_a_row stands = absurd (let count = stands.count in omega arith)

-- a row that does not stand for the events
pub tasks_of_another_row : Stands (tasks_with (Some first_running ∷ Some (second_with states.Unstarted) ∷ []) (2 ∷ 1 ∷ []) [] 3) two_started → ⊥
tasks_of_another_row stands = absurd (let row = stands.kept_row 2 (second_with states.Unstarted) refl in let runner = row.state.runner in cc)

-- the oldest task as the innermost
pub tasks_of_another_order : Stands (tasks_with rows_of_two (1 ∷ 2 ∷ []) [] 3) two_started → ⊥
tasks_of_another_order stands = absurd (let stack = stands.stack 0 (1 ∷ 2 ∷ []) refl in let same = ap first_in stack in cc)

-- a started task on no member
pub tasks_on_no_member : Stands (tasks_with rows_of_two (1 ∷ []) [] 3) two_started → ⊥
tasks_on_no_member stands = absurd (let stack = stands.stack 0 (1 ∷ []) refl in let same = ap first_in stack in cc)

-- a task that two members started
pub tasks_started_twice : Stands (tasks_with (Some (first_with 0 (states.Running 1)) ∷ []) (1 ∷ []) (1 ∷ []) 3) (Start 1 1 ∷ Start 1 0 ∷ one_created) → ⊥
tasks_started_twice stands = absurd (let may = stands.rule.0.may in cc)

-- another task as the newest in the first member's implicit one
pub tasks_of_another_newest : Stands (record both_running { roots = newest_second ∷ no_newest ∷ [] }) two_started → ⊥
tasks_of_another_newest stands = absurd (let task : 1 ≡ 2 = (stands.root 0 newest_second refl).task in omega (arith, task))

-- as if it were undeferred
pub tasks_of_an_undeferred_newest : Stands (record both_running { roots = record { task = 1; undeferred = true } ∷ no_newest ∷ [] }) two_started → ⊥
tasks_of_an_undeferred_newest stands = absurd (let undeferred = (stands.root 0 (record { task = 1; undeferred = true }) refl).undeferred in cc)

-- none for the second member
pub tasks_of_fewer_roots : Stands (record both_running { roots = newest_first ∷ [] }) two_started → ⊥
tasks_of_fewer_roots stands = absurd (let members : 1 ≡ 2 = stands.members in omega (arith, members))

-- Numbers

-- the numbers of two tasks
pub numbers_of_two : IsNumber 1 both_running × IsNumber 2 both_running
numbers_of_two = ((omega arith, omega arith), (omega arith, omega arith))

-- 0 is none, nor is that of the next task
pub numbers_of_no_task : (IsNumber 0 both_running → ⊥) × (IsNumber 3 both_running → ⊥)
numbers_of_no_task = ((λ is. absurd (let some = is.0 in omega arith)), (λ is. absurd (let few = is.1 in omega arith)))

-- one has a number whether it has a row or not
pub number_without_a_row : IsNumber 2 (tasks_with rows_of_first [] [] 3) × (IsKept 2 (tasks_with rows_of_first [] [] 3) → ⊥) × IsKept 1 (tasks_with rows_of_first [] [] 3) × (IsKept 0 both_running → ⊥)
number_without_a_row = ((omega arith, omega arith), λ is. absurd (cc), refl, λ is. absurd (cc))

-- an implicit task is one, and an explicit one if it has a row
pub tasks_by_row : IsTask (Implicit 5) both_running × IsTask (Explicit 2) both_running × (IsTask (Explicit 3) both_running → ⊥) × (IsTask (Explicit 2) (tasks_with rows_of_first [] [] 3) → ⊥)
tasks_by_row = (tt, refl, λ is. absurd (cc), λ is. absurd (cc))

-- the rows of children: of this task, of another, of an implicit one, and none
pub rows_of_children : map (is_row_of_child 1) (Some second_running ∷ Some first_running ∷ None ∷ []) ≡ true ∷ false ∷ false ∷ []
rows_of_children = refl

-- the same tasks with more room
pub same_in_more_room : AreSame (tasks_with [] [] [] 3) (tasks_with [] [] [] 0)
same_in_more_room = record { rows = refl; stacks = refl; roots = refl }

-- another row
pub not_the_same_rows : AreSame (tasks_with (Some first_running ∷ []) [] [] 3) (tasks_with [] [] [] 3) → ⊥
not_the_same_rows same = absurd (let rows = same.rows in cc)

-- another started task
pub not_the_same_stacks : AreSame (tasks_with [] (1 ∷ []) [] 3) (tasks_with [] [] [] 3) → ⊥
not_the_same_stacks same = absurd (let stacks = same.stacks in cc)

-- another newest task
pub not_the_same_newest : AreSame (record both_running { roots = newest_second ∷ no_newest ∷ [] }) both_running → ⊥
not_the_same_newest same = absurd (let roots : newest_second ∷ no_newest ∷ [] ≡ newest_first ∷ no_newest ∷ [] = same.roots in let e : newest_second ≡ newest_first = cc in let task : 2 ≡ 1 = ap (λ (newest : Newest). newest.task) e in omega (arith, task))

-- tasks that stand for some events
pub are_tasks : AreTasks both_running
are_tasks = ((two_started, tasks_stand), omega arith)

-- for none: the task that runs is on no member
pub are_no_tasks : AreTasks (tasks_with [] (1 ∷ []) [] 3) → ⊥
are_no_tasks are = let h = are.0.0 in let st = are.0.1 in absurd (
    let top : executed_task 0 h ≡ Explicit 1 = ap (innermost_task 0) (st.stack 0 (1 ∷ []) refl) in
    let row = executed_has_row [] ((1 ∷ []) ∷ [] ∷ []) (newest_first ∷ no_newest ∷ []) 0 1 h st top in cc)

-- more than there are numbers
pub are_too_many_tasks : (tasks : TasksView) → MAX_TASKS < count_of tasks → AreTasks tasks → ⊥
are_too_many_tasks tasks more are = absurd (let few = are.1 in omega (arith, more, few))

-- What the calls ask for

-- the first member creates a task in the second one
pub next_in_a_task : MayCreateNext both_running 0 true two_started
next_in_a_task = record {
  rule = record { member = omega arith; number = refl; current = refl; away = λ e. refl; shallow = omega arith; uncovered = refl };
  odd_is = refl;
}

-- the second member in its implicit one, which is bound to the barrier before
pub next_in_an_implicit_task : MayCreateNext both_running 1 false two_started
next_in_an_implicit_task = record {
  rule = record { member = omega arith; number = refl; current = refl; away = λ e. refl; shallow = omega arith; uncovered = refl };
  odd_is = refl;
}

-- there not while it waits at the barrier
pub next_at_a_barrier : MayCreateNext both_running 1 false (Arrive 0 1 (record { kind = arrivals.Barrier; shares = 0 }) ∷ two_started) → ⊥
next_at_a_barrier may = absurd (let away = may.rule.away refl in cc)

-- bound to another barrier
pub next_of_another_barrier : MayCreateNext both_running 0 false two_started → ⊥
next_of_another_barrier may = absurd (let odd = may.odd_is in cc)

-- the task that a member executes, by the answer of a call
pub task_by_answer : (task_or_implicit 4 (Some 2) ≡ Explicit 2) × (task_or_implicit 4 None ≡ Implicit 4)
task_by_answer = (refl, refl)

-- the second task lies under the first, and any task under all of none
pub under_the_first : (is_under_all (1 ∷ []) 2 two_started ≡ true) × (is_under_all [] 1 two_started ≡ true)
under_the_first = (refl, refl)

-- the first does not lie under the second, nor the second under itself
pub not_under_all : (is_under_all (2 ∷ []) 1 two_started ≡ false) × (is_under_all (2 ∷ 1 ∷ []) 2 two_started ≡ false)
not_under_all = (refl, refl)

-- the tasks see what creates, starts, ends and discards one
pub tasks_are_found : (t m : ℕ) (parent : Task) (desc : TaskDesc) → (IsNoTaskEvent (Create t m parent desc) → ⊥) × (IsNoTaskEvent (Start t m) → ⊥) × (IsNoTaskEvent (Done t m) → ⊥) × (IsNoTaskEvent (Discard t m) → ⊥)
tasks_are_found t m parent desc = (λ is. is, λ is. is, λ is. is, λ is. is)

-- and nothing of the shares
pub shares_are_not_seen : (share m low high k : ℕ) (shape : Shape) (payload : List ℕ) → IsNoTaskEvent (Enter share m shape) × IsNoTaskEvent (Take share m low high) × IsNoTaskEvent (Drained share m) × IsNoTaskEvent (End share m) × IsNoTaskEvent (HandOn share m k) × IsNoTaskEvent (Part share m k) × IsNoTaskEvent (PartEnd share m) × IsNoTaskEvent (Put share m payload) × IsNoTaskEvent (Got share m payload)
shares_are_not_seen share m low high k shape payload = (tt, tt, tt, tt, tt, tt, tt, tt, tt)

-- nor of cancellations, and of who leaves
pub cancellations_are_not_seen : (m : ℕ) (scope : Scope) (kind : CancelKind) → IsNoTaskEvent (Cancel m scope) × IsNoTaskEvent (See m kind)
cancellations_are_not_seen m scope kind = (tt, tt)

-- nor of barriers, names, locks, groups and waits
pub others_are_not_seen : (g m : ℕ) (tag : Tag) (key : Key) (task : Task) (items : List Dep) (place : Place) → IsNoTaskEvent (Arrive g m tag) × IsNoTaskEvent (Pass g m) × IsNoTaskEvent (Hold key m task) × IsNoTaskEvent (Free key m task) × IsNoTaskEvent (Group g m) × IsNoTaskEvent (GroupEnd g m) × IsNoTaskEvent (Waited m items) × IsNoTaskEvent (Break m place)
others_are_not_seen g m tag key task items place = (tt, tt, tt, tt, tt, tt, tt, tt)
