use Rattle.std.proofs.Common.{ap, ◌∙◌}
use Rattle.gomp_rows.specs.Rows.{RowsView}
use Rattle.gomp_rows.specs.Table.{all_keys}
use Rattle.gomp_rows.proofs.Tables.{row_there}
use Rattle.gomp_rows.proofs.rows.Rows.row.Goals as goal

pub returns : goal.returns
returns g c = record { value = (row_there c.self.inside.slab (all_keys c.self.inside.base c.self.inside.keys.items) _ c.args.number c.stored_key-key.result (ap (λ (v : RowsView _). v.rows) c.self.view_is) c.stored_key-key.ensures c.requires.there).2 ∙ c.index.ensures }
