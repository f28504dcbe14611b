use Rattle.std.proofs.Common.{ℕ, List, ◌∷◌, ap, ◌∙◌, sym, subst}
use Rattle.std.proofs.lemmas.Option.{none-some}
use Rattle.gomp_events.specs.declared.event.Event.{Event}
use Rattle.gomp_events.specs.declared.event.Event.TheVariants.{GroupEnd}
use Rattle.gomp_groups.specs.declared.rows.GroupSeat.{GroupSeat}
use Rattle.gomp_groups.specs.Stands.{GroupsView, Stands, group_members}
use Rattle.gomp_groups.specs.Calls.{MayClose}
use Rattle.gomp_groups.proofs.Fields.{view_stands, closes_seated, close_first, seated_at, seat_read, seat_written, close_writes}
use Rattle.gomp_groups.proofs.groups.Groups.close.Goals as goal

pub seat_of-seat-requires : goal.seat_of-seat-requires
seat_of-seat-requires c =
    let may = subst (λ (v : GroupsView). (h : List Event) × (q : ℕ) × (m : ℕ) × Stands v h × MayClose (group_members v) q m c.args.task h) (sym c.self.view_is) c.requires.may in
    let seated = closes_seated c.self.inside.groups.items c.self.inside.tasks.rows c.self.inside.members.items c.args.task may.0 may.1 may.2 may.3 may.4 in
    record { seated = seated_at _ _ _ c.args.task c.deref.ensures.value seated }

pub unreachable-requires : goal.unreachable-requires
unreachable-requires c =
    let may = subst (λ (v : GroupsView). (h : List Event) × (q : ℕ) × (m : ℕ) × Stands v h × MayClose (group_members v) q m c.args.task h) (sym c.self.view_is) c.requires.may in
    let seated = closes_seated c.self.inside.groups.items c.self.inside.tasks.rows c.self.inside.members.items c.args.task may.0 may.1 may.2 may.3 may.4 in
    let first = (close_first c.self.inside.groups.items c.self.inside.tasks.rows c.self.inside.members.items c.args.task may.0 may.1 may.2 _ may.3 seated may.4).0 in
    let seat = seat_read _ _ _ c.args.task _ c.deref.ensures.value c.seat_of-seat.ensures.value in
    none-some may.1 (sym c.in-None.is ∙ c.group.ensures ∙ ap (λ (s : GroupSeat). s.last) seat ∙ first)

pub returns-clause-stands : goal.returns-clause-stands
returns-clause-stands c = λ h q m st may.
    let now = subst (λ (v : GroupsView). MayClose (group_members v) q m c.args.task h) (sym c.self.view_is) may in
    let seat = seat_read _ _ _ c.args.task _ c.deref.ensures.value c.seat_of-seat.ensures.value in
    let seated = closes_seated c.self.inside.groups.items c.self.inside.tasks.rows c.self.inside.members.items c.args.task h q m (view_stands _ _ h c.self.view_is st) now in
    let re = seat_written c.self.inside.tasks.rows _ _ c.self.inside.members.items _ _ c.args.task _ c.deref_mut.ensures.value c.put_seat.ensures.rows c.put_seat.ensures.seats c.self.inside.members.ok.0 seated in
    close_writes c.self.inside.groups.items c.self.inside.tasks.rows c.self.inside.members.items c.args.task _ c.in-Some.group _ _ _ h q m (view_stands _ _ h c.self.view_is st)
    now seat (sym c.group.ensures ∙ c.in-Some.is) c.index.ensures re

pub invariant_of-self : goal.invariant_of-self
invariant_of-self c =
    let may : (h : List Event) × (q : ℕ) × (m : ℕ) × Stands c.args.self.now h × MayClose (group_members c.args.self.now) q m c.args.task h = c.requires.may in
    (GroupEnd may.1 may.2 ∷ may.0, returns-clause-stands c may.0 may.1 may.2 may.3 may.4)
