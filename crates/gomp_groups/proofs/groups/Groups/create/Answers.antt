use Rattle.std.proofs.Common.{ℕ, ◌<◌, false, length, List, [], ◌∷◌, ap, ◌∙◌, sym, subst, arith, suc}
use Rattle.gomp_types.specs.declared.task.TaskDesc.{TaskDesc}
use Rattle.gomp_events.specs.declared.event.Event.{Event}
use Rattle.gomp_events.specs.declared.event.Event.TheVariants.{Create}
use Rattle.gomp_events.specs.Tasks.{tasks_created}
use Rattle.gomp_rows.specs.declared.rows.TheConstants.{MAX_ROWS}
use Rattle.gomp_groups.specs.declared.rows.GroupRow.{GroupRow}
use Rattle.gomp_groups.specs.declared.rows.GroupSeat.{GroupSeat}
use Rattle.gomp_groups.specs.Rows.{pending_at, seat_at, IsChain, CountsOneMore}
use Rattle.gomp_groups.specs.Stands.{GroupsView, Stands, group_members}
use Rattle.gomp_groups.specs.Calls.{MayCreateIn}
use Rattle.gomp_groups.proofs.GroupsKeep.{executed_task_has_seat}
use Rattle.gomp_groups.proofs.Fields.{view_stands, seated_at, child_written, pending_most, children_most, create_writes}
use Rattle.gomp_groups.proofs.groups.Groups.create.Goals as goal

pub add_child-group-requires-clause-seated : goal.add_child-group-requires-clause-seated
add_child-group-requires-clause-seated c =
    let may = subst (λ (v : GroupsView). (h : List Event) × (m : ℕ) × Stands v h × MayCreateIn (group_members v) m c.args.parent h) (sym c.self.view_is) c.requires.may in
    let seated = executed_task_has_seat c.self.inside.groups.items c.self.inside.tasks.rows c.self.inside.members.items may.0 may.1 c.args.parent may.2 may.3.member (sym may.3.current) in
    seated_at _ _ _ c.args.parent c.deref_mut.ensures.value seated

pub add_child-group-requires-clause-few : goal.add_child-group-requires-clause-few
add_child-group-requires-clause-few c =
    let (h, st) = c.self.invariant in
    let most = children_most c.self.inside.groups.items c.self.inside.tasks.rows c.self.inside.members.items h c.args.parent st in
    let seat = ap (λ (ms : List GroupSeat). (seat_at c.self.inside.tasks.rows ms c.args.parent).children) c.deref_mut.ensures.value in
    let few : length c.self.inside.tasks.rows < MAX_ROWS = subst (λ (v : GroupsView). length v.tasks < MAX_ROWS) (sym c.self.view_is) c.requires.few in
    omega (arith, most, seat, few)

pub add_task-requires-clause-room : goal.add_task-requires-clause-room
add_task-requires-clause-room c = λ q.
    let (h, st) = c.self.invariant in
    let most = pending_most c.self.inside.groups.items c.self.inside.tasks.rows c.self.inside.members.items h q st in
    let here = ap (λ (xs : List GroupRow). pending_at xs q) c.deref_mut-2.ensures.value in
    let few : length c.self.inside.tasks.rows < MAX_ROWS = subst (λ (v : GroupsView). length v.tasks < MAX_ROWS) (sym c.self.view_is) c.requires.few in
    omega (arith, most, here, few)

pub returns-clause-stands : goal.returns-clause-stands
returns-clause-stands c = λ h m desc st may.
    let now = subst (λ (v : GroupsView). MayCreateIn (group_members v) m c.args.parent h) (sym c.self.view_is) may in
    let seated = executed_task_has_seat c.self.inside.groups.items c.self.inside.tasks.rows c.self.inside.members.items h m c.args.parent (view_stands _ _ h c.self.view_is st) now.member (sym now.current) in
    let group = c.add_child-group.ensures.group ∙ ap (λ (ms : List GroupSeat). (seat_at c.self.inside.tasks.rows ms c.args.parent).last) c.deref_mut.ensures.value in
    let re = child_written c.self.inside.tasks.rows _ _ c.self.inside.members.items _ _ c.args.parent c.deref_mut.ensures.value c.add_child-group.ensures.rows c.add_child-group.ensures.seats c.self.inside.members.ok.0 seated in
    let counts = subst (λ (xs : List GroupRow). (qs : List ℕ) → IsChain xs c.add_child-group.result qs → CountsOneMore qs xs c.add_task.new.groups) c.deref_mut-2.ensures.value c.add_task.ensures.counts in
    create_writes c.self.inside.groups.items _ c.self.inside.tasks.rows _ c.self.inside.members.items c.args.parent _ _ _ _ h m desc (view_stands _ _ h c.self.view_is st)
    now group c.self.inside.groups.ok.0 counts c.push.ensures.rows re

pub invariant_of-self : goal.invariant_of-self
invariant_of-self c =
    let may : (h : List Event) × (m : ℕ) × Stands c.args.self.now h × MayCreateIn (group_members c.args.self.now) m c.args.parent h = c.requires.may in
    let desc : TaskDesc = record { code = 0; arg = 0; undeferred = false; final_task = false; deps = [] } in
    (Create (suc (tasks_created may.0)) may.1 c.args.parent desc ∷ may.0, returns-clause-stands c may.0 may.1 desc may.2 may.3)
