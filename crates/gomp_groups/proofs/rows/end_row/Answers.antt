use Rattle.std.proofs.Common.{◌∙◌}
use Rattle.gomp_groups.proofs.Seats.{ended_row_is_out, ended_row_is_kept}
use Rattle.gomp_groups.proofs.rows.end_row.Goals as goal

pub returns-then-children-eq0-clause-rows : goal.returns-then-children-eq0-clause-rows
returns-then-children-eq0-clause-rows c = c.remove.ensures.rows ∙ ended_row_is_out c.args.tasks.now.rows c.args.number c.args.children c.requires.children c.if-children-eq0.true

pub returns-else-children-eq0-clause-rows : goal.returns-else-children-eq0-clause-rows
returns-else-children-eq0-clause-rows c = ended_row_is_kept c.args.tasks.now.rows c.args.number c.args.children c.row_mut.result.now c.row_mut.ensures.value c.requires.children c.if-children-eq0.false
