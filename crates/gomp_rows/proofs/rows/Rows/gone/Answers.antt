use Rattle.std.proofs.Common.{ap}
use Rattle.gomp_rows.specs.Rows.{RowsView}
use Rattle.gomp_rows.proofs.Tables.{lowest_have_none, next_has_row}
use Rattle.gomp_rows.proofs.rows.Rows.gone.Goals as goal

pub returns-clause-none : goal.returns-clause-none
returns-clause-none g c = λ number low. lowest_have_none c.self.inside.slab c.self.inside.base c.self.inside.dead c.self.inside.keys.items _ number (ap (λ (v : RowsView _). v.rows) c.self.view_is) c.self.invariant.1 low

pub returns-clause-next : goal.returns-clause-next
returns-clause-next g c = λ more. next_has_row c.self.inside.slab c.self.inside.base c.self.inside.dead c.self.inside.keys.items _ (ap (λ (v : RowsView _). v.rows) c.self.view_is) c.self.invariant.0 c.self.invariant.1 more
