use Rattle.std.proofs.Common.{ℕ, ◌∷◌, List, Some, length, ap, ◌∙◌, sym, subst}
use Rattle.gomp_events.specs.declared.event.Event.{Event}
use Rattle.gomp_events.specs.declared.event.Event.TheVariants.{Discard}
use Rattle.gomp_events.specs.TaskRules.{MayDiscard}
use Rattle.gomp_tasks.specs.declared.rows.TaskState.TheVariants.{Discarded}
use Rattle.gomp_tasks.specs.Rows.{in_state}
use Rattle.gomp_tasks.specs.Stands.{TasksView, Stands, task_members, count_of}
use Rattle.gomp_tasks.proofs.RowsAt.{row_under, as_many_rows}
use Rattle.gomp_tasks.proofs.TasksKeep.{tasks_of_view_stand, unstarted_has_row}
use Rattle.gomp_tasks.proofs.TablesKeep.{discard_keeps_tables}
use Rattle.gomp_tasks.proofs.tasks.Tasks.discard.Goals as goal

pub release-requires-clause-known : goal.release-requires-clause-known
release-requires-clause-known c =
    let may : (h : List Event) × (m : ℕ) × Stands c.args.self.now h × MayDiscard (task_members c.args.self.now) c.args.task m h = c.requires.may in
    let st = tasks_of_view_stand _ _ may.0 c.self.view_is may.2 in
    let rule = subst (λ (v : TasksView). MayDiscard (task_members v) c.args.task may.1 may.0) (sym c.self.view_is) may.3 in
    let found = row_under _ c.args.task (unstarted_has_row _ _ _ c.args.task may.0 st rule.unstarted) in
    (Discard c.args.task may.1 ∷ may.0, c.self.inside.stacks.items, c.self.inside.roots.items, rw (c.set_state-row.ensures.rows found.0 found.1) (discard_keeps_tables _ _ _ may.1 c.args.task found.0 may.0 st found.1 rule))

pub returns-clause-count : goal.returns-clause-count
returns-clause-count c =
    let may : (h : List Event) × (m : ℕ) × Stands c.args.self.now h × MayDiscard (task_members c.args.self.now) c.args.task m h = c.requires.may in
    let found = row_under _ c.args.task (unstarted_has_row _ _ _ c.args.task may.0 (tasks_of_view_stand _ _ may.0 c.self.view_is may.2) may.3.unstarted) in
    c.release.ensures.count ∙ ap length (c.set_state-row.ensures.rows found.0 found.1) ∙ as_many_rows _ c.args.task (Some (in_state Discarded found.0)) ∙ ap count_of c.self.view_is

pub returns-clause-stands : goal.returns-clause-stands
returns-clause-stands c = λ h m st0 rule0.
    let st = tasks_of_view_stand _ _ h c.self.view_is st0 in
    let rule = subst (λ (v : TasksView). MayDiscard (task_members v) c.args.task m h) (sym c.self.view_is) rule0 in
    let found = row_under _ c.args.task (unstarted_has_row _ _ _ c.args.task h st rule.unstarted) in
    c.release.ensures.stand (Discard c.args.task m ∷ h) _ _ (rw (c.set_state-row.ensures.rows found.0 found.1) (discard_keeps_tables _ _ _ m c.args.task found.0 h st found.1 rule))

pub invariant_of-self : goal.invariant_of-self
invariant_of-self c =
    let may : (h : List Event) × (m : ℕ) × Stands c.args.self.now h × MayDiscard (task_members c.args.self.now) c.args.task m h = c.requires.may in
    let few = c.self.invariant.1 in
    let found = row_under _ c.args.task (unstarted_has_row _ _ _ c.args.task may.0 (tasks_of_view_stand _ _ may.0 c.self.view_is may.2) may.3.unstarted) in
    let same = c.release.ensures.count ∙ ap length (c.set_state-row.ensures.rows found.0 found.1) ∙ as_many_rows _ c.args.task (Some (in_state Discarded found.0)) in
    ((Discard c.args.task may.1 ∷ may.0, returns-clause-stands c may.0 may.1 may.2 may.3), rw same few)
