use Rattle.std.proofs.Common.{◌<◌, ap, sym, ◌∙◌, arith}
use Rattle.gomp_rows.specs.Rows.{RowsView}
use Rattle.gomp_rows.specs.Table.{all_keys}
use Rattle.gomp_rows.proofs.Tables.{row_found}
use Rattle.gomp_rows.proofs.rows.Rows.get.Goals as goal

pub returns : goal.returns
returns g c =
    let some : 0 < c.key_of-key.result = omega arith in
    record { value = c.get.ensures ∙ sym (row_found c.self.inside.slab (all_keys c.self.inside.base c.self.inside.keys.items) _ c.args.number c.key_of-key.result (ap (λ (v : RowsView _). v.rows) c.self.view_is) c.key_of-key.ensures some) }
