use Rattle.std.proofs.Common.{◌≡◌, ◌<◌, ◌+◌, ◌∷◌, ◌++◌, [], List, Option, Some, length, refl, subst, sym, ap, ◌∙◌, arith, suc, false}
use Rattle.gomp_events.specs.declared.event.Event.{Event}
use Rattle.gomp_events.specs.declared.event.Event.TheVariants.{Create}
use Rattle.gomp_types.specs.declared.limits.TheConstants.{MAX_TASK_DEPTH}
use Rattle.gomp_types.specs.declared.task.Task.{Task}
use Rattle.gomp_types.specs.declared.task.Task.TheVariants.{Implicit, Explicit}
use Rattle.gomp_events.specs.Tasks.{executed_task, depth_of}
use Rattle.gomp_events.specs.TaskRules.{MayCreate}
use Rattle.gomp_rows.specs.Rows.{row_no, with_row}
use Rattle.gomp_tasks.specs.declared.tasks.TheConstants.{MAX_TASKS}
use Rattle.gomp_tasks.specs.declared.rows.TaskRow.{TaskRow}
use Rattle.gomp_tasks.specs.Rows.{newest_of, unstarted_row, with_child}
use Rattle.gomp_tasks.specs.Stands.{TasksView, Stands, count_of}
use Rattle.gomp_tasks.specs.Calls.{MayCreateNext}
use Rattle.gomp_tasks.proofs.RowsAt.{row_under, replaced_before_put, one_row_more, as_many_rows}
use Rattle.gomp_tasks.proofs.TasksKeep.{tasks_of_view_stand, executed_has_row}
use Rattle.gomp_tasks.proofs.TablesKeep.{few_kept_children, create_in_implicit_keeps, create_in_explicit_keeps}
use Rattle.gomp_tasks.proofs.tasks.Tasks.create.Goals as goal

pub returns-in-Implicit-clause-stands : goal.returns-in-Implicit-clause-stands
returns-in-Implicit-clause-stands c = λ h st0 may0.
    let st = tasks_of_view_stand _ _ h c.self.view_is st0 in
    let may = subst (λ (v : TasksView). MayCreateNext v c.args.member c.args.odd h) (sym c.self.view_is) may0 in
    let top : executed_task c.args.member h ≡ Implicit c.in-Implicit.root = sym (c.current-parent.ensures.value h st0) ∙ c.in-Implicit.is in
    let number : c.count-task.result + 1 ≡ suc (length c.self.inside.rows.rows) = (let counted = c.count-task.ensures.rows ∙ ap count_of (sym c.self.view_is) in omega (arith, counted)) in
    let rule = subst (λ (p : Task). MayCreate (length c.self.inside.stacks.items) (suc (length c.self.inside.rows.rows)) c.args.member p h) top may.rule in
    rw (c.push.ensures.rows, c.as_newest.ensures, c.unstarted-row.ensures, top, number)
    (create_in_implicit_keeps c.self.inside.rows.rows c.self.inside.stacks.items c.self.inside.roots.items c.args.member (suc (length c.self.inside.rows.rows)) c.in-Implicit.root 1 c.args.odd false c.args.desc.now h st refl rule refl (rw top at may.odd_is) refl)

pub invariant_of-self : goal.invariant_of-self
invariant_of-self c =
    let may : (h : List Event) × Stands c.args.self.now h × MayCreateNext c.args.self.now c.args.member c.args.odd h = c.requires.may in
    let few : length c.self.inside.rows.rows < MAX_TASKS = subst (λ (v : TasksView). count_of v < MAX_TASKS) (sym c.self.view_is) c.requires.few in
    let more = ap length c.push.ensures.rows ∙ one_row_more c.self.inside.rows.rows c.unstarted-row.result in
    ((Create (c.count-task.result + 1) c.args.member (executed_task c.args.member may.0) c.args.desc.now ∷ may.0, returns-in-Implicit-clause-stands c may.0 may.1 may.2), omega (arith, few, more))

-- What is asked for in an explicit task

pub add_child-row-requires-clause-few : goal.add_child-row-requires-clause-few
add_child-row-requires-clause-few c =
    let may : (h : List Event) × Stands c.args.self.now h × MayCreateNext c.args.self.now c.args.member c.args.odd h = c.requires.may in
    let st = tasks_of_view_stand _ _ may.0 c.self.view_is may.1 in
    let few : length c.self.inside.rows.rows < MAX_TASKS = subst (λ (v : TasksView). count_of v < MAX_TASKS) (sym c.self.view_is) c.requires.few in
    let top : executed_task c.args.member may.0 ≡ Explicit c.in-Explicit.number = sym (c.current-parent.ensures.value may.0 may.1) ∙ c.in-Explicit.is in
    let above = row_under _ c.in-Explicit.number (executed_has_row _ _ _ c.args.member c.in-Explicit.number may.0 st top) in
    let kept = few_kept_children _ _ _ c.in-Explicit.number above.0 may.0 st above.1 in
    rw above.1 (omega (arith, kept, few))

pub add_child-row-requires-clause-shallow : goal.add_child-row-requires-clause-shallow
add_child-row-requires-clause-shallow c =
    let may : (h : List Event) × Stands c.args.self.now h × MayCreateNext c.args.self.now c.args.member c.args.odd h = c.requires.may in
    let st = tasks_of_view_stand _ _ may.0 c.self.view_is may.1 in
    let top : executed_task c.args.member may.0 ≡ Explicit c.in-Explicit.number = sym (c.current-parent.ensures.value may.0 may.1) ∙ c.in-Explicit.is in
    let above = row_under _ c.in-Explicit.number (executed_has_row _ _ _ c.args.member c.in-Explicit.number may.0 st top) in
    let shallow : depth_of (Explicit c.in-Explicit.number) may.0 < MAX_TASK_DEPTH = subst (λ (p : Task). depth_of p may.0 < MAX_TASK_DEPTH) (sym may.2.rule.current ∙ top) may.2.rule.shallow in
    let depth = (st.kept_row c.in-Explicit.number above.0 above.1).depth in
    rw above.1 (omega (arith, shallow, depth))

pub push-requires-in-Explicit-clause-few : goal.push-requires-in-Explicit-clause-few
push-requires-in-Explicit-clause-few c =
    let may : (h : List Event) × Stands c.args.self.now h × MayCreateNext c.args.self.now c.args.member c.args.odd h = c.requires.may in
    let st = tasks_of_view_stand _ _ may.0 c.self.view_is may.1 in
    let few : length c.self.inside.rows.rows < MAX_TASKS = subst (λ (v : TasksView). count_of v < MAX_TASKS) (sym c.self.view_is) c.requires.few in
    let top : executed_task c.args.member may.0 ≡ Explicit c.in-Explicit.number = sym (c.current-parent.ensures.value may.0 may.1) ∙ c.in-Explicit.is in
    let above = row_under _ c.in-Explicit.number (executed_has_row _ _ _ c.args.member c.in-Explicit.number may.0 st top) in
    let same = ap length (c.add_child-row.ensures.rows above.0 above.1) ∙ as_many_rows _ c.in-Explicit.number _ in
    omega (arith, same, few)

-- The rows in an explicit task

-- the row of the parent
parent_above : (c : goal.After-push-in-Explicit) → (h : List Event) → Stands c.args.self.now h → (above : TaskRow) × (row_no c.self.inside.rows.rows c.in-Explicit.number ≡ Some above)
parent_above c h st0 =
    let st = tasks_of_view_stand _ _ h c.self.view_is st0 in
    let top : executed_task c.args.member h ≡ Explicit c.in-Explicit.number = sym (c.current-parent.ensures.value h st0) ∙ c.in-Explicit.is in
    row_under _ c.in-Explicit.number (executed_has_row _ _ _ c.args.member c.in-Explicit.number h st top)

-- the parent's row notes the new task, whose row is put in
rows_after : (c : goal.After-push-in-Explicit) (above : TaskRow) → row_no c.self.inside.rows.rows c.in-Explicit.number ≡ Some above →
    let new = unstarted_row c.args.desc.now (Explicit c.in-Explicit.number) above.root (above.depth + 1) c.args.odd above.final_task in
    c.push-in-Explicit.new.self.rows ≡ with_row (c.self.inside.rows.rows ++ Some new ∷ []) c.in-Explicit.number (Some (with_child (newest_of (c.count-task.result + 1) new) above))
rows_after c above at =
    c.push-in-Explicit.ensures.rows ∙ ap (λ (rs : List (Option TaskRow)). rs ++ Some c.add_child-row.result ∷ []) (c.add_child-row.ensures.rows above at)
    ∙ replaced_before_put c.self.inside.rows.rows c.add_child-row.result c.in-Explicit.number above (Some (with_child (newest_of (c.count-task.result + 1) c.add_child-row.result) above)) at
    ∙ ap (λ (new : TaskRow). with_row (c.self.inside.rows.rows ++ Some new ∷ []) c.in-Explicit.number (Some (with_child (newest_of (c.count-task.result + 1) new) above))) (c.add_child-row.ensures.row above at)

pub returns-in-Explicit-clause-stands : goal.returns-in-Explicit-clause-stands
returns-in-Explicit-clause-stands c = λ h st0 may0.
    let st = tasks_of_view_stand _ _ h c.self.view_is st0 in
    let may = subst (λ (v : TasksView). MayCreateNext v c.args.member c.args.odd h) (sym c.self.view_is) may0 in
    let top : executed_task c.args.member h ≡ Explicit c.in-Explicit.number = sym (c.current-parent.ensures.value h st0) ∙ c.in-Explicit.is in
    let number : c.count-task.result + 1 ≡ suc (length c.self.inside.rows.rows) = (let counted = c.count-task.ensures.rows ∙ ap count_of (sym c.self.view_is) in omega (arith, counted)) in
    let rule = subst (λ (p : Task). MayCreate (length c.self.inside.stacks.items) (suc (length c.self.inside.rows.rows)) c.args.member p h) top may.rule in
    let above = parent_above c h st0 in
    let was = st.kept_row c.in-Explicit.number above.0 above.1 in
    rw (rows_after c above.0 above.1, top, number)
    (create_in_explicit_keeps c.self.inside.rows.rows c.self.inside.stacks.items c.self.inside.roots.items c.args.member (suc (length c.self.inside.rows.rows)) c.in-Explicit.number (above.0.depth + 1) c.args.odd above.0.final_task above.0 c.args.desc.now h st refl rule
    (ap (λ d. d + 1) (sym was.depth))
    (rw top at may.odd_is)
    (sym was.final_is) above.1)

one_more : (c : goal.After-push-in-Explicit) → length c.push-in-Explicit.new.self.rows ≡ suc (length c.self.inside.rows.rows)
one_more c =
    let may : (h : List Event) × Stands c.args.self.now h × MayCreateNext c.args.self.now c.args.member c.args.odd h = c.requires.may in
    let above = parent_above c may.0 may.1 in
    ap length (rows_after c above.0 above.1) ∙ as_many_rows _ c.in-Explicit.number _ ∙ one_row_more c.self.inside.rows.rows _

pub returns-in-Explicit-clause-number : goal.returns-in-Explicit-clause-number
returns-in-Explicit-clause-number c =
    let counted = c.count-task.ensures.rows ∙ ap count_of (sym c.self.view_is) in
    let more = one_more c in
    omega (arith, counted, more)

pub returns-in-Explicit-clause-count : goal.returns-in-Explicit-clause-count
returns-in-Explicit-clause-count c =
    let same = ap count_of (sym c.self.view_is) in
    let more = one_more c in
    omega (arith, same, more)

pub invariant_of-self-in-Explicit : goal.invariant_of-self-in-Explicit
invariant_of-self-in-Explicit c =
    let may : (h : List Event) × Stands c.args.self.now h × MayCreateNext c.args.self.now c.args.member c.args.odd h = c.requires.may in
    let few : length c.self.inside.rows.rows < MAX_TASKS = subst (λ (v : TasksView). count_of v < MAX_TASKS) (sym c.self.view_is) c.requires.few in
    let more = one_more c in
    ((Create (c.count-task.result + 1) c.args.member (executed_task c.args.member may.0) c.args.desc.now ∷ may.0, returns-in-Explicit-clause-stands c may.0 may.1 may.2), omega (arith, few, more))
