use Rattle.std.proofs.Common.{sym, ◌∙◌}
use Rattle.gomp_groups.proofs.Seats.{parents_row_is_out}
use Rattle.gomp_groups.proofs.rows.end_child.Goals as goal

pub returns-then-over-clause-rows : goal.returns-then-over-clause-rows
returns-then-over-clause-rows c = parents_row_is_out c.args.tasks.now.rows _ c.args.parent c.in-Explicit.number c.row_mut-row.result.now _ c.in-Explicit.is c.row_mut-row.ensures.value (sym c.is_over-over.ensures ∙ c.if-over.true) c.remove.ensures.rows
