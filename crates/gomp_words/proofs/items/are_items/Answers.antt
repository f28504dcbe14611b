use Rattle.std.proofs.Common.{ap, sym, ◌∙◌, is_some}
use Rattle.gomp_words.proofs.Readings.{is_some_read}
use Rattle.gomp_words.proofs.items.are_items.Goals as goal

pub loop-rest-preserved : goal.loop-rest-preserved
loop-rest-preserved c = c.loop-rest.invariant ∙ is_some_read c.loop-rest.rest.now c.in-len2-up.len_at_least (sym (ap is_some c.read_dep_kind.ensures) ∙ c.if-is_none.ensures)
