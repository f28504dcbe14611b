use Rattle.std.proofs.Common.{ap, ◌∙◌}
use Rattle.gomp_rows.specs.Rows.{RowsView}
use Rattle.gomp_rows.specs.Table.{all_keys}
use Rattle.gomp_rows.proofs.Tables.{number_has_key, remove_leaves, keys_dropped, front_dropped}
use Rattle.gomp_rows.proofs.rows.Rows.remove.Goals as goal

pub take_key-key-requires : goal.take_key-key-requires
take_key-key-requires g c = record { there = number_has_key c.self.inside.slab (all_keys c.self.inside.base c.self.inside.keys.items) _ c.args.number (ap (λ (v : RowsView _). v.rows) c.self.view_is) c.requires.there }

pub past_dead-dead-requires-clause-dead : goal.past_dead-dead-requires-clause-dead
past_dead-dead-requires-clause-dead g c = c.take_key-key.ensures.dead _ c.self.invariant.1.0

pub invariant_of-self : goal.invariant_of-self
invariant_of-self g c =
    let dropped = c.drop_front-dropped in
    let fewer = keys_dropped c.self.inside.base c.past_dead-dead.result dropped.result c.take_key-key.new.keys.items c.past_dead-dead.ensures.0 dropped.ensures.few in
    let front = front_dropped c.past_dead-dead.result dropped.result c.take_key-key.new.keys.items c.past_dead-dead.ensures dropped.ensures.few in
    rw dropped.ensures.items ((remove_leaves c.self.inside.slab c.remove.new.self (all_keys c.self.inside.base c.self.inside.keys.items) _ _ c.args.number c.take_key-key.result (ap (λ (v : RowsView _). v.rows) c.self.view_is) c.self.invariant.0 c.take_key-key.ensures.key c.requires.there c.remove.ensures.updates (fewer ∙ c.take_key-key.ensures.rest)).1, front)

pub returns-clause-rows : goal.returns-clause-rows
returns-clause-rows g c =
    let dropped = c.drop_front-dropped in
    let fewer = keys_dropped c.self.inside.base c.past_dead-dead.result dropped.result c.take_key-key.new.keys.items c.past_dead-dead.ensures.0 dropped.ensures.few in
    rw dropped.ensures.items (remove_leaves c.self.inside.slab c.remove.new.self (all_keys c.self.inside.base c.self.inside.keys.items) _ _ c.args.number c.take_key-key.result (ap (λ (v : RowsView _). v.rows) c.self.view_is) c.self.invariant.0 c.take_key-key.ensures.key c.requires.there c.remove.ensures.updates (fewer ∙ c.take_key-key.ensures.rest)).0
