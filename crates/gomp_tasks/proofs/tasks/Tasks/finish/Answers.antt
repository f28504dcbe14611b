use Rattle.std.proofs.Common.{◌≡◌, ◌<◌, ◌∷◌, List, Option, Some, length, slice_set, refl, subst, sym, ap, ◌∙◌}
use Rattle.std.proofs.lemmas.Option.{slice_get_read}
use Rattle.gomp_events.specs.declared.event.Event.{Event}
use Rattle.gomp_events.specs.declared.event.Event.TheVariants.{Done}
use Rattle.gomp_types.specs.declared.task.Task.TheVariants.{Explicit}
use Rattle.gomp_events.specs.Tasks.{after_first, executed_task}
use Rattle.gomp_rows.specs.Rows.{row_no}
use Rattle.gomp_tasks.specs.declared.rows.TaskRow.{TaskRow}
use Rattle.gomp_tasks.specs.declared.rows.TaskState.TheVariants as states
use Rattle.gomp_tasks.specs.Rows.{RowStands, in_state}
use Rattle.gomp_tasks.specs.Stands.{TasksView, Stands, task_members, count_of}
use Rattle.gomp_tasks.specs.Calls.{task_or_implicit}
use Rattle.gomp_tasks.proofs.RowsAt.{row_under, row_given, replaced_row, as_many_rows}
use Rattle.gomp_tasks.proofs.TasksKeep.{tasks_of_view_stand, executed_has_row}
use Rattle.gomp_tasks.proofs.TablesKeep.{end_keeps_tables}
use Rattle.gomp_tasks.proofs.tasks.Tasks.finish.Goals as goal

pub release-requires-clause-known : goal.release-requires-clause-known
release-requires-clause-known c =
    let some = c.self.invariant.0 in
    let st0 = subst (λ (v : TasksView). Stands v some.0) c.self.view_is some.1 in
    let lt : c.args.member < length c.self.inside.stacks.items = subst (λ (v : TasksView). c.args.member < task_members v) (sym c.self.view_is) c.requires.member in
    let top = c.innermost.ensures.value some.0 st0 ∙ ap (task_or_implicit c.args.member) c.in-Some.is in
    let at = slice_get_read c.self.inside.stacks.items _ c.args.member _ refl lt c.index_mut.ensures.value in
    let found = row_under _ c.in-Some.task (executed_has_row _ _ _ c.args.member c.in-Some.task some.0 some.1 top) in
    (Done c.in-Some.task c.args.member ∷ some.0, slice_set c.self.inside.stacks.items c.args.member (after_first c.index_mut.result.now), c.self.inside.roots.items, rw (c.set_state-row.ensures.rows found.0 found.1) (end_keeps_tables _ _ _ c.args.member c.in-Some.task found.0 _ some.0 some.1 lt at found.1 top))

pub returns-clause-count : goal.returns-clause-count
returns-clause-count c =
    let some = c.self.invariant.0 in
    let st0 = subst (λ (v : TasksView). Stands v some.0) c.self.view_is some.1 in
    let top = c.innermost.ensures.value some.0 st0 ∙ ap (task_or_implicit c.args.member) c.in-Some.is in
    let found = row_under _ c.in-Some.task (executed_has_row _ _ _ c.args.member c.in-Some.task some.0 some.1 top) in
    c.release.ensures.count ∙ ap length (c.set_state-row.ensures.rows found.0 found.1) ∙ as_many_rows _ c.in-Some.task (Some (in_state (states.Done c.args.member) found.0)) ∙ ap count_of c.self.view_is

pub returns-clause-number : goal.returns-clause-number
returns-clause-number c =
    let some = c.self.invariant.0 in
    let st0 = subst (λ (v : TasksView). Stands v some.0) c.self.view_is some.1 in
    let top = c.innermost.ensures.value some.0 st0 ∙ ap (task_or_implicit c.args.member) c.in-Some.is in
    let found = row_under _ c.in-Some.task (executed_has_row _ _ _ c.args.member c.in-Some.task some.0 some.1 top) in
    let given = row_given _ c.in-Some.task found.0 found.1 in
    let same = c.release.ensures.count ∙ ap length (c.set_state-row.ensures.rows found.0 found.1) ∙ as_many_rows _ c.in-Some.task (Some (in_state (states.Done c.args.member) found.0)) in
    (given.0, rw same given.1)

-- the row that the task had stands for the events before, and the answer is read from what it then is
row_before : (c : goal.After-release) → (h : List Event) → Stands c.args.self.now h → (row : TaskRow) × RowStands c.in-Some.task row h × (c.set_state-row.result ≡ in_state (states.Done c.args.member) row)
row_before c h st0 =
    let st = tasks_of_view_stand _ _ h c.self.view_is st0 in
    let top : executed_task c.args.member h ≡ Explicit c.in-Some.task = c.innermost.ensures.value h st0 ∙ ap (task_or_implicit c.args.member) c.in-Some.is in
    let found = row_under _ c.in-Some.task (executed_has_row _ _ _ c.args.member c.in-Some.task h st top) in
    let after = replaced_row _ c.in-Some.task found.0 (Some (in_state (states.Done c.args.member) found.0)) found.1 in
    let same : Some c.set_state-row.result ≡ Some (in_state (states.Done c.args.member) found.0) = sym c.set_state-row.ensures.row ∙ ap (λ (rs : List (Option TaskRow)). row_no rs c.in-Some.task) (c.set_state-row.ensures.rows found.0 found.1) ∙ after in
    (found.0, st.kept_row c.in-Some.task found.0 found.1, cc)

pub returns-clause-odd : goal.returns-clause-odd
returns-clause-odd c = λ h st0.
    let row = row_before c h st0 in
    ap (λ (r : TaskRow). r.odd) row.2 ∙ sym row.1.odd

pub returns-clause-undeferred : goal.returns-clause-undeferred
returns-clause-undeferred c = λ h st0.
    let row = row_before c h st0 in
    ap (λ (r : TaskRow). r.undeferred) row.2 ∙ sym row.1.undeferred

pub returns-clause-stands : goal.returns-clause-stands
returns-clause-stands c = λ h ended e st0.
    let st = tasks_of_view_stand _ _ h c.self.view_is st0 in
    let lt : c.args.member < length c.self.inside.stacks.items = subst (λ (v : TasksView). c.args.member < task_members v) (sym c.self.view_is) c.requires.member in
    let top = c.innermost.ensures.value h st0 ∙ ap (task_or_implicit c.args.member) c.in-Some.is in
    let at = slice_get_read c.self.inside.stacks.items _ c.args.member _ refl lt c.index_mut.ensures.value in
    let found = row_under _ c.in-Some.task (executed_has_row _ _ _ c.args.member c.in-Some.task h st top) in
    let same : c.in-Some.task ≡ ended.task = cc in
    rw (← same, c.pop.ensures) (c.release.ensures.stand (Done c.in-Some.task c.args.member ∷ h) _ _ (rw (c.set_state-row.ensures.rows found.0 found.1) (end_keeps_tables _ _ _ c.args.member c.in-Some.task found.0 _ h st lt at found.1 top)))

pub invariant_of-self : goal.invariant_of-self
invariant_of-self c =
    let some = c.self.invariant.0 in
    let few = c.self.invariant.1 in
    let st0 = subst (λ (v : TasksView). Stands v some.0) c.self.view_is some.1 in
    let top = c.innermost.ensures.value some.0 st0 ∙ ap (task_or_implicit c.args.member) c.in-Some.is in
    let found = row_under _ c.in-Some.task (executed_has_row _ _ _ c.args.member c.in-Some.task some.0 some.1 top) in
    let same = c.release.ensures.count ∙ ap length (c.set_state-row.ensures.rows found.0 found.1) ∙ as_many_rows _ c.in-Some.task (Some (in_state (states.Done c.args.member) found.0)) in
    ((Done c.in-Some.task c.args.member ∷ some.0, returns-clause-stands c some.0 _ refl st0), rw same few)
