use Rattle.std.proofs.Common.{◌∷◌, List, Some, length, refl, ap, ◌∙◌, sym, subst}
use Rattle.std.proofs.lemmas.Option.{slice_get_read}
use Rattle.gomp_events.specs.declared.event.Event.{Event}
use Rattle.gomp_events.specs.declared.event.Event.TheVariants.{Start}
use Rattle.gomp_events.specs.TaskRules.{MayStart}
use Rattle.gomp_tasks.specs.declared.rows.TaskState.TheVariants.{Running}
use Rattle.gomp_tasks.specs.Rows.{in_state}
use Rattle.gomp_tasks.specs.Stands.{TasksView, Stands, task_members, count_of}
use Rattle.gomp_tasks.proofs.RowsAt.{row_under, row_is_there, replaced_row, as_many_rows}
use Rattle.gomp_tasks.proofs.TasksKeep.{tasks_of_view_stand, startable_has_row, stack_room}
use Rattle.gomp_tasks.proofs.TablesKeep.{start_keeps_tables}
use Rattle.gomp_tasks.proofs.tasks.Tasks.start.Goals as goal

pub push-requires : goal.push-requires
push-requires c =
    let may : (h : List Event) × Stands c.args.self.now h × MayStart (task_members c.args.self.now) c.args.task c.args.member h = c.requires.may in
    let st = tasks_of_view_stand _ _ may.0 c.self.view_is may.1 in
    let rule = subst (λ (v : TasksView). MayStart (task_members v) c.args.task c.args.member may.0) (sym c.self.view_is) may.2 in
    let at = slice_get_read c.self.inside.stacks.items _ c.args.member _ refl rule.member c.index_mut.ensures.value in
    stack_room _ _ _ c.args.member c.args.task _ may.0 st at rule

pub returns-clause-count : goal.returns-clause-count
returns-clause-count c =
    let may : (h : List Event) × Stands c.args.self.now h × MayStart (task_members c.args.self.now) c.args.task c.args.member h = c.requires.may in
    let st = tasks_of_view_stand _ _ may.0 c.self.view_is may.1 in
    let rule = subst (λ (v : TasksView). MayStart (task_members v) c.args.task c.args.member may.0) (sym c.self.view_is) may.2 in
    let found = row_under _ c.args.task (startable_has_row _ _ _ c.args.member c.args.task may.0 st rule) in
    ap length (c.set_state.ensures.rows found.0 found.1) ∙ as_many_rows _ c.args.task (Some (in_state (Running c.args.member) found.0)) ∙ ap count_of c.self.view_is

pub returns-clause-there : goal.returns-clause-there
returns-clause-there c =
    let may : (h : List Event) × Stands c.args.self.now h × MayStart (task_members c.args.self.now) c.args.task c.args.member h = c.requires.may in
    let st = tasks_of_view_stand _ _ may.0 c.self.view_is may.1 in
    let rule = subst (λ (v : TasksView). MayStart (task_members v) c.args.task c.args.member may.0) (sym c.self.view_is) may.2 in
    let found = row_under _ c.args.task (startable_has_row _ _ _ c.args.member c.args.task may.0 st rule) in
    rw (c.set_state.ensures.rows found.0 found.1) (row_is_there _ c.args.task (in_state (Running c.args.member) found.0) (replaced_row _ c.args.task found.0 (Some (in_state (Running c.args.member) found.0)) found.1))

pub returns-clause-stands : goal.returns-clause-stands
returns-clause-stands c = λ h st0 rule0.
    let st = tasks_of_view_stand _ _ h c.self.view_is st0 in
    let rule = subst (λ (v : TasksView). MayStart (task_members v) c.args.task c.args.member h) (sym c.self.view_is) rule0 in
    let at = slice_get_read c.self.inside.stacks.items _ c.args.member _ refl rule.member c.index_mut.ensures.value in
    let found = row_under _ c.args.task (startable_has_row _ _ _ c.args.member c.args.task h st rule) in
    rw (c.push.ensures, c.set_state.ensures.rows found.0 found.1) (start_keeps_tables _ _ _ c.args.member c.args.task found.0 _ h st at found.1 rule)

pub invariant_of-self : goal.invariant_of-self
invariant_of-self c =
    let may : (h : List Event) × Stands c.args.self.now h × MayStart (task_members c.args.self.now) c.args.task c.args.member h = c.requires.may in
    let few = c.self.invariant.1 in
    let st = tasks_of_view_stand _ _ may.0 c.self.view_is may.1 in
    let rule = subst (λ (v : TasksView). MayStart (task_members v) c.args.task c.args.member may.0) (sym c.self.view_is) may.2 in
    let found = row_under _ c.args.task (startable_has_row _ _ _ c.args.member c.args.task may.0 st rule) in
    let same = ap length (c.set_state.ensures.rows found.0 found.1) ∙ as_many_rows _ c.args.task (Some (in_state (Running c.args.member) found.0)) in
    ((Start c.args.task c.args.member ∷ may.0, returns-clause-stands c may.0 may.1 may.2), rw same few)
