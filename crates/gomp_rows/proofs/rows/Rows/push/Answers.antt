use Rattle.std.proofs.Common.{ap}
use Rattle.gomp_rows.specs.Rows.{RowsView}
use Rattle.gomp_rows.proofs.Tables.{push_leaves}
use Rattle.gomp_rows.proofs.rows.Rows.push.Goals as goal

pub invariant_of-self : goal.invariant_of-self
invariant_of-self g c =
    let (_, table, front) = push_leaves c.self.inside.slab c.insert_reserved-key.new.self c.self.inside.base c.self.inside.dead c.self.inside.keys.items _ _ c.insert_reserved-key.result c.args.row (ap (λ (v : RowsView _). v.rows) c.self.view_is) c.self.invariant.0 c.self.invariant.1 c.requires.few c.insert_reserved-key.ensures.was_vacant c.insert_reserved-key.ensures.updates c.push_reserved.ensures.items in
    (table, front)

pub returns-clause-rows : goal.returns-clause-rows
returns-clause-rows g c = (push_leaves c.self.inside.slab c.insert_reserved-key.new.self c.self.inside.base c.self.inside.dead c.self.inside.keys.items _ _ c.insert_reserved-key.result c.args.row (ap (λ (v : RowsView _). v.rows) c.self.view_is) c.self.invariant.0 c.self.invariant.1 c.requires.few c.insert_reserved-key.ensures.was_vacant c.insert_reserved-key.ensures.updates c.push_reserved.ensures.items).0
