use Rattle.std.proofs.Common.{◌<◌, ℕ, Option, IfSome, length, subst, sym}
use Rattle.gomp_events.specs.Cancels.{groups_over}
use Rattle.gomp_groups.specs.Stands.{GroupsView}
use Rattle.gomp_groups.specs.Calls.{IsLastOf}
use Rattle.gomp_groups.proofs.Fields.{view_stands, view_seated, seat_read, innermost_is_last, innermost_within}
use Rattle.gomp_groups.proofs.groups.Groups.innermost_around.Goals as goal

pub returns-clause-last : goal.returns-clause-last
returns-clause-last c = λ h st.
    let seat = seat_read _ _ _ c.args.task _ c.deref.ensures.value c.seat_of.ensures.value in
    subst (λ (o : Option ℕ). IfSome o (IsLastOf (groups_over c.args.task h))) (sym c.group.ensures) (innermost_is_last c.self.inside.groups.items c.self.inside.tasks.rows c.self.inside.members.items c.args.task _ h (view_stands _ _ h c.self.view_is st) (view_seated _ _ c.args.task c.self.view_is c.requires.seated) seat)

pub returns-clause-opened : goal.returns-clause-opened
returns-clause-opened c =
    let (h, st) = c.self.invariant in
    let seat = seat_read _ _ _ c.args.task _ c.deref.ensures.value c.seat_of.ensures.value in
    let within = innermost_within c.self.inside.groups.items c.self.inside.tasks.rows c.self.inside.members.items c.args.task _ h st (view_seated _ _ c.args.task c.self.view_is c.requires.seated) seat in
    subst (λ (v : GroupsView). IfSome c.group.result (λ q. q < length v.groups)) c.self.view_is (subst (λ (o : Option ℕ). IfSome o (λ q. q < length c.self.inside.groups.items)) (sym c.group.ensures) within)
