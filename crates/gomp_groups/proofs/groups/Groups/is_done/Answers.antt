use Rattle.std.proofs.Common.{◌<◌, length, subst, sym}
use Rattle.gomp_groups.specs.Stands.{GroupsView}
use Rattle.gomp_groups.proofs.Fields.{view_stands, done_read}
use Rattle.gomp_groups.proofs.groups.Groups.is_done.Goals as goal

pub returns-clause-value : goal.returns-clause-value
returns-clause-value c = λ h st.
    let lt : c.args.group < length c.self.inside.groups.items = subst (λ (v : GroupsView). c.args.group < length v.groups) (sym c.self.view_is) c.requires.opened in
    done_read c.self.inside.groups.items c.self.inside.tasks.rows c.self.inside.members.items c.args.group _ h (view_stands _ _ h c.self.view_is st) lt c.index.ensures
