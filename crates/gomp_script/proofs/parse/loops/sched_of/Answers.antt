use Rattle.std.proofs.Common.{refl, sym, ◌∙◌}
use Rattle.gomp_script.proofs.parse.loops.sched_of.Goals as goal

pub returns-then-is_word : goal.returns-then-is_word
returns-then-is_word c = rw (sym c.is_word.ensures ∙ c.if-is_word.true) refl

pub returns-then-is_word-2 : goal.returns-then-is_word-2
returns-then-is_word-2 c = rw (sym c.is_word.ensures ∙ c.if-is_word.false, sym c.is_word-2.ensures ∙ c.if-is_word-2.true) refl

pub returns-then-is_word-3 : goal.returns-then-is_word-3
returns-then-is_word-3 c = rw (sym c.is_word.ensures ∙ c.if-is_word.false, sym c.is_word-2.ensures ∙ c.if-is_word-2.false, sym c.is_word-3.ensures ∙ c.if-is_word-3.true) refl

pub returns-then-is_word-4 : goal.returns-then-is_word-4
returns-then-is_word-4 c = rw (sym c.is_word.ensures ∙ c.if-is_word.false, sym c.is_word-2.ensures ∙ c.if-is_word-2.false, sym c.is_word-3.ensures ∙ c.if-is_word-3.false, sym c.is_word-4.ensures ∙ c.if-is_word-4.true) refl
