use Rattle.gomp_groups.proofs.Fields.{view_stands, seat_read, children_read}
use Rattle.gomp_groups.proofs.groups.Groups.children_done.Goals as goal

pub returns-clause-value : goal.returns-clause-value
returns-clause-value c = λ h st.
    let seat = seat_read _ _ _ c.args.task _ c.deref.ensures.value c.seat_of.ensures.value in
    children_read c.self.inside.groups.items c.self.inside.tasks.rows c.self.inside.members.items c.args.task _ h (view_stands _ _ h c.self.view_is st) seat
