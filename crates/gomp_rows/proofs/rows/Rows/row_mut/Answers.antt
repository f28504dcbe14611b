use Rattle.std.proofs.Common.{refl, ap, ◌∙◌}
use Rattle.gomp_rows.specs.Rows.{RowsView}
use Rattle.gomp_rows.specs.Table.{all_keys}
use Rattle.gomp_rows.proofs.Tables.{number_has_key, row_there, view_after_write}
use Rattle.gomp_rows.proofs.rows.Rows.row_mut.Goals as goal

pub stored_key-key-requires : goal.stored_key-key-requires
stored_key-key-requires g c = record { there = number_has_key c.self.inside.slab (all_keys c.self.inside.base c.self.inside.keys.items) _ c.args.number (ap (λ (v : RowsView _). v.rows) c.self.view_is) c.requires.there }

pub returns : goal.returns
returns g c = (
  (refl, λ w. view_after_write c.self.inside.slab c.self.inside.base c.self.inside.keys.items _ _ c.args.number c.stored_key-key.result w c.self.view_is c.self.invariant.0 c.stored_key-key.ensures c.requires.there),
  record { lends = tt; value = (row_there c.self.inside.slab (all_keys c.self.inside.base c.self.inside.keys.items) _ c.args.number c.stored_key-key.result (ap (λ (v : RowsView _). v.rows) c.self.view_is) c.stored_key-key.ensures c.requires.there).2 ∙ c.index_mut.ensures.value },
)
