use Rattle.std.proofs.Common.{◌≡◌, ℕ, ◌≤◌, List, ◌∷◌, ap, sym, subst, ◌∙◌}
use Rattle.std.specs.Prelude.{if◌then◌else◌}
use Rattle.gomp_events.specs.declared.event.Event.{Event}
use Rattle.gomp_events.specs.Tasks.{contains}
use Rattle.gomp_events.specs.Groups.{groups_around}
use Rattle.gomp_groups.specs.declared.rows.GroupRow.{GroupRow}
use Rattle.gomp_groups.specs.declared.rows.SeatedTask.{SeatedTask}
use Rattle.gomp_rows.specs.Rows.{with_row}
use Rattle.gomp_groups.specs.Rows.{task_at, or_no_task, pending_at, IsChain, CountsOneMore, needed_row, ended_row}
use Rattle.gomp_groups.specs.Stands.{GroupsView, Stands, group_members}
use Rattle.gomp_groups.specs.Calls.{MayComplete}
use Rattle.gomp_groups.proofs.Chains.{chain_unique}
use Rattle.gomp_groups.proofs.Seats.{parent_seated}
use Rattle.gomp_groups.proofs.GroupsKeep.{completed_was_open, open_task_has_row}
use Rattle.gomp_groups.proofs.Fields.{view_stands, row_says, complete_writes}
use Rattle.gomp_groups.proofs.groups.Groups.finish_task.Goals as goal

pub row-row-requires : goal.row-row-requires
row-row-requires c =
    let may = subst (λ (v : GroupsView). (h : List Event) × (event : Event) × Stands v h × MayComplete (group_members v) c.args.task event h) (sym c.self.view_is) c.requires.may in
    let open' = completed_was_open _ c.args.task may.1 may.0 may.2.rule may.3 in
    record { there = open_task_has_row c.self.inside.groups.items c.self.inside.tasks.rows c.self.inside.members.items c.args.task may.0 may.2 open' }

pub remove_task-requires-clause-chain : goal.remove_task-requires-clause-chain
remove_task-requires-clause-chain c =
    let may = subst (λ (v : GroupsView). (h : List Event) × (event : Event) × Stands v h × MayComplete (group_members v) c.args.task event h) (sym c.self.view_is) c.requires.may in
    let open' = completed_was_open _ c.args.task may.1 may.0 may.2.rule may.3 in
    let says = row_says c.self.inside.groups.items c.self.inside.tasks.rows c.self.inside.members.items c.args.task c.row-row.result.now may.0 may.2 open' c.row-row.ensures.value in
    (groups_around c.args.task may.0, subst (λ (xs : List GroupRow). IsChain xs c.row-row.result.now.seat.around (groups_around c.args.task may.0)) (sym c.deref_mut.ensures.value) says.around)

pub remove_task-requires-clause-some : goal.remove_task-requires-clause-some
remove_task-requires-clause-some c =
    let may = subst (λ (v : GroupsView). (h : List Event) × (event : Event) × Stands v h × MayComplete (group_members v) c.args.task event h) (sym c.self.view_is) c.requires.may in
    let open' = completed_was_open _ c.args.task may.1 may.0 may.2.rule may.3 in
    let says = row_says c.self.inside.groups.items c.self.inside.tasks.rows c.self.inside.members.items c.args.task c.row-row.result.now may.0 may.2 open' c.row-row.ensures.value in
    subst (λ (xs : List GroupRow). (qs : List ℕ) → IsChain xs c.row-row.result.now.seat.around qs → (q : ℕ) → (if contains q qs then 1 else 0) ≤ pending_at xs q) (sym c.deref_mut.ensures.value)
    (λ qs chain q.
    let same : groups_around c.args.task may.0 ≡ qs = chain_unique _ _ _ _ says.around chain in
    subst (λ (rs : List ℕ). (if contains q rs then 1 else 0) ≤ pending_at c.self.inside.groups.items q) same (says.some q))

pub end_child-requires-clause-some : goal.end_child-requires-clause-some
end_child-requires-clause-some c =
    let may = subst (λ (v : GroupsView). (h : List Event) × (event : Event) × Stands v h × MayComplete (group_members v) c.args.task event h) (sym c.self.view_is) c.requires.may in
    let open' = completed_was_open _ c.args.task may.1 may.0 may.2.rule may.3 in
    let says = row_says c.self.inside.groups.items c.self.inside.tasks.rows c.self.inside.members.items c.args.task c.row-row.result.now may.0 may.2 open' c.row-row.ensures.value in
    let same : task_at c.self.inside.tasks.rows c.args.task ≡ c.row-row.result.now = ap or_no_task c.row-row.ensures.value in
    rw (c.end_row.ensures.rows, same, c.deref_mut-2.ensures.value) says.child

pub end_child-requires-clause-seated : goal.end_child-requires-clause-seated
end_child-requires-clause-seated c = parent_seated c.end_row.new.tasks.rows c.deref_mut-2.result.now c.row-row.result.now.parent (end_child-requires-clause-some c)

pub returns-clause-stands : goal.returns-clause-stands
returns-clause-stands c = λ h event st may.
    let same : task_at c.self.inside.tasks.rows c.args.task ≡ c.row-row.result.now = ap or_no_task c.row-row.ensures.value in
    let counts = subst (λ (xs : List GroupRow). (qs : List ℕ) → IsChain xs c.row-row.result.now.seat.around qs → CountsOneMore qs c.remove_task.new.groups xs) c.deref_mut.ensures.value c.remove_task.ensures.counts in
    complete_writes c.self.inside.groups.items _ c.self.inside.tasks.rows _ _ _ c.self.inside.members.items _ c.args.task c.row-row.result.now _ _ h event (view_stands _ _ h c.self.view_is st)
    (subst (λ (v : GroupsView). MayComplete (group_members v) c.args.task event h) (sym c.self.view_is) may) c.row-row.ensures.value c.self.inside.groups.ok.0 c.self.inside.members.ok.0 c.deref_mut-2.ensures.value counts (c.end_row.ensures.rows ∙ ap (λ (r : SeatedTask). with_row c.self.inside.tasks.rows c.args.task (needed_row (ended_row r))) same) c.end_child.ensures.rows c.end_child.ensures.seats

pub invariant_of-self : goal.invariant_of-self
invariant_of-self c =
    let may : (h : List Event) × (event : Event) × Stands c.args.self.now h × MayComplete (group_members c.args.self.now) c.args.task event h = c.requires.may in
    (may.1 ∷ may.0, returns-clause-stands c may.0 may.1 may.2 may.3)
