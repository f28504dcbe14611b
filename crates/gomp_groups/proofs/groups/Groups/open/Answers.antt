use Rattle.std.proofs.Common.{ℕ, List, ◌∷◌, ◌∙◌, sym, subst}
use Rattle.gomp_events.specs.declared.event.Event.{Event}
use Rattle.gomp_events.specs.declared.event.Event.TheVariants.{Group}
use Rattle.gomp_groups.specs.Stands.{GroupsView, Stands, group_members}
use Rattle.gomp_groups.specs.Calls.{Executes}
use Rattle.gomp_groups.proofs.GroupsKeep.{executed_task_has_seat}
use Rattle.gomp_groups.proofs.Fields.{view_stands, seated_at, seat_read, seat_written, open_writes}
use Rattle.gomp_groups.proofs.groups.Groups.open.Goals as goal

pub seat_of-seat-requires : goal.seat_of-seat-requires
seat_of-seat-requires c =
    let may = subst (λ (v : GroupsView). (h : List Event) × (m : ℕ) × Stands v h × Executes (group_members v) m c.args.task h) (sym c.self.view_is) c.requires.may in
    let seated = executed_task_has_seat c.self.inside.groups.items c.self.inside.tasks.rows c.self.inside.members.items may.0 may.1 c.args.task may.2 may.3.member may.3.current in
    record { seated = seated_at _ _ _ c.args.task c.deref.ensures.value seated }

pub put_seat-requires : goal.put_seat-requires
put_seat-requires c =
    let may = subst (λ (v : GroupsView). (h : List Event) × (m : ℕ) × Stands v h × Executes (group_members v) m c.args.task h) (sym c.self.view_is) c.requires.may in
    let seated = executed_task_has_seat c.self.inside.groups.items c.self.inside.tasks.rows c.self.inside.members.items may.0 may.1 c.args.task may.2 may.3.member may.3.current in
    record { seated = seated_at _ _ _ c.args.task c.deref_mut.ensures.value seated }

pub returns-clause-stands : goal.returns-clause-stands
returns-clause-stands c = λ h m st executes.
    let now = subst (λ (v : GroupsView). Executes (group_members v) m c.args.task h) (sym c.self.view_is) executes in
    let seat = seat_read _ _ _ c.args.task _ c.deref.ensures.value c.seat_of-seat.ensures.value in
    let seated = executed_task_has_seat c.self.inside.groups.items c.self.inside.tasks.rows c.self.inside.members.items h m c.args.task (view_stands _ _ h c.self.view_is st) now.member now.current in
    let re = seat_written c.self.inside.tasks.rows _ _ c.self.inside.members.items _ _ c.args.task _ c.deref_mut.ensures.value c.put_seat.ensures.rows c.put_seat.ensures.seats c.self.inside.members.ok.0 seated in
    open_writes c.self.inside.groups.items _ c.self.inside.tasks.rows c.self.inside.members.items c.args.task _ _ _ _ _ _ h m (view_stands _ _ h c.self.view_is st)
    now seat (c.len-group.ensures ∙ c.self.inside.groups.ok.0) c.count.ensures.value c.to.ensures c.push_reserved.ensures.items re

pub invariant_of-self : goal.invariant_of-self
invariant_of-self c =
    let may : (h : List Event) × (m : ℕ) × Stands c.args.self.now h × Executes (group_members c.args.self.now) m c.args.task h = c.requires.may in
    (Group c.len-group.result may.1 ∷ may.0, returns-clause-stands c may.0 may.1 may.2 may.3)
