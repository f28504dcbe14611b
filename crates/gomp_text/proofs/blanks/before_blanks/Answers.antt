use Rattle.std.proofs.Common.{◌∙◌, sym}
use Rattle.gomp_text.proofs.BlankLemmas.{last_blank, last_other}
use Rattle.gomp_text.proofs.blanks.before_blanks.Goals as goal

pub loop-text-preserved : goal.loop-text-preserved
loop-text-preserved c = last_blank c.loop-text.text.now c.in-len1-up.len_at_least (sym c.is_blank.ensures ∙ c.if-is_blank.true) ∙ c.loop-text.invariant

pub returns-else-is_blank : goal.returns-else-is_blank
returns-else-is_blank c = sym (last_other c.loop-text.text.now c.in-len1-up.len_at_least (sym c.is_blank.ensures ∙ c.if-is_blank.false)) ∙ c.loop-text.invariant
