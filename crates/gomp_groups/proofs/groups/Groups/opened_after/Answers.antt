use Rattle.std.proofs.Common.{◌<◌, ◌≤◌, length, subst, sym}
use Rattle.gomp_groups.specs.Stands.{GroupsView}
use Rattle.gomp_groups.proofs.Fields.{view_stands, since_most, older_read}
use Rattle.gomp_groups.proofs.groups.Groups.opened_after.Goals as goal

pub returns-clause-few : goal.returns-clause-few
returns-clause-few c =
    let (h, st) = c.self.invariant in
    let lt : c.args.group < length c.self.inside.groups.items = subst (λ (v : GroupsView). c.args.group < length v.groups) (sym c.self.view_is) c.requires.opened in
    let most = since_most c.self.inside.groups.items c.self.inside.tasks.rows c.self.inside.members.items c.args.group _ h st lt c.index.ensures in
    subst (λ (v : GroupsView). c.index.result.now.since ≤ length v.tasks) c.self.view_is most

pub returns-clause-older : goal.returns-clause-older
returns-clause-older c = λ h st t before.
    let lt : c.args.group < length c.self.inside.groups.items = subst (λ (v : GroupsView). c.args.group < length v.groups) (sym c.self.view_is) c.requires.opened in
    older_read c.self.inside.groups.items c.self.inside.tasks.rows c.self.inside.members.items c.args.group t _ h (view_stands _ _ h c.self.view_is st) lt c.index.ensures before
