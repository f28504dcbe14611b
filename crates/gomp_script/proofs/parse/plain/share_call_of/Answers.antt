use Rattle.std.proofs.Common.{refl, sym, ◌∙◌}
use Rattle.gomp_script.proofs.parse.plain.share_call_of.Goals as goal

pub returns-then-is_word : goal.returns-then-is_word
returns-then-is_word c = rw (sym c.is_word.ensures ∙ c.if-is_word.true) refl

pub returns-then-is_word-2 : goal.returns-then-is_word-2
returns-then-is_word-2 c = rw (sym c.is_word.ensures ∙ c.if-is_word.false, sym c.is_word-2.ensures ∙ c.if-is_word-2.true) refl

pub returns-then-is_word-3 : goal.returns-then-is_word-3
returns-then-is_word-3 c = rw (sym c.is_word.ensures ∙ c.if-is_word.false, sym c.is_word-2.ensures ∙ c.if-is_word-2.false, sym c.is_word-3.ensures ∙ c.if-is_word-3.true) refl

pub returns-then-is_word-4 : goal.returns-then-is_word-4
returns-then-is_word-4 c = rw (sym c.is_word.ensures ∙ c.if-is_word.false, sym c.is_word-2.ensures ∙ c.if-is_word-2.false, sym c.is_word-3.ensures ∙ c.if-is_word-3.false, sym c.is_word-4.ensures ∙ c.if-is_word-4.true) refl

pub returns-then-is_word-5 : goal.returns-then-is_word-5
returns-then-is_word-5 c = rw (sym c.is_word.ensures ∙ c.if-is_word.false, sym c.is_word-2.ensures ∙ c.if-is_word-2.false, sym c.is_word-3.ensures ∙ c.if-is_word-3.false, sym c.is_word-4.ensures ∙ c.if-is_word-4.false, sym c.is_word-5.ensures ∙ c.if-is_word-5.true) refl

pub returns-then-is_word-6 : goal.returns-then-is_word-6
returns-then-is_word-6 c = rw (sym c.is_word.ensures ∙ c.if-is_word.false, sym c.is_word-2.ensures ∙ c.if-is_word-2.false, sym c.is_word-3.ensures ∙ c.if-is_word-3.false, sym c.is_word-4.ensures ∙ c.if-is_word-4.false, sym c.is_word-5.ensures ∙ c.if-is_word-5.false, sym c.is_word-6.ensures ∙ c.if-is_word-6.true) refl

pub returns-then-is_word-7 : goal.returns-then-is_word-7
returns-then-is_word-7 c = rw (sym c.is_word.ensures ∙ c.if-is_word.false, sym c.is_word-2.ensures ∙ c.if-is_word-2.false, sym c.is_word-3.ensures ∙ c.if-is_word-3.false, sym c.is_word-4.ensures ∙ c.if-is_word-4.false, sym c.is_word-5.ensures ∙ c.if-is_word-5.false, sym c.is_word-6.ensures ∙ c.if-is_word-6.false, sym c.is_word-7.ensures ∙ c.if-is_word-7.true) refl

pub returns-then-is_word-8 : goal.returns-then-is_word-8
returns-then-is_word-8 c = rw (sym c.is_word.ensures ∙ c.if-is_word.false, sym c.is_word-2.ensures ∙ c.if-is_word-2.false, sym c.is_word-3.ensures ∙ c.if-is_word-3.false, sym c.is_word-4.ensures ∙ c.if-is_word-4.false, sym c.is_word-5.ensures ∙ c.if-is_word-5.false, sym c.is_word-6.ensures ∙ c.if-is_word-6.false, sym c.is_word-7.ensures ∙ c.if-is_word-7.false, sym c.is_word-8.ensures ∙ c.if-is_word-8.true) refl

pub returns-then-is_word-9 : goal.returns-then-is_word-9
returns-then-is_word-9 c = rw (sym c.is_word.ensures ∙ c.if-is_word.false, sym c.is_word-2.ensures ∙ c.if-is_word-2.false, sym c.is_word-3.ensures ∙ c.if-is_word-3.false, sym c.is_word-4.ensures ∙ c.if-is_word-4.false, sym c.is_word-5.ensures ∙ c.if-is_word-5.false, sym c.is_word-6.ensures ∙ c.if-is_word-6.false, sym c.is_word-7.ensures ∙ c.if-is_word-7.false, sym c.is_word-8.ensures ∙ c.if-is_word-8.false, sym c.is_word-9.ensures ∙ c.if-is_word-9.true) refl

pub returns-then-is_word-10 : goal.returns-then-is_word-10
returns-then-is_word-10 c = rw (sym c.is_word.ensures ∙ c.if-is_word.false, sym c.is_word-2.ensures ∙ c.if-is_word-2.false, sym c.is_word-3.ensures ∙ c.if-is_word-3.false, sym c.is_word-4.ensures ∙ c.if-is_word-4.false, sym c.is_word-5.ensures ∙ c.if-is_word-5.false, sym c.is_word-6.ensures ∙ c.if-is_word-6.false, sym c.is_word-7.ensures ∙ c.if-is_word-7.false, sym c.is_word-8.ensures ∙ c.if-is_word-8.false, sym c.is_word-9.ensures ∙ c.if-is_word-9.false, sym c.is_word-10.ensures ∙ c.if-is_word-10.true) refl

pub returns : goal.returns
returns c = rw (sym c.is_word.ensures ∙ c.if-is_word.false, sym c.is_word-2.ensures ∙ c.if-is_word-2.false, sym c.is_word-3.ensures ∙ c.if-is_word-3.false, sym c.is_word-4.ensures ∙ c.if-is_word-4.false, sym c.is_word-5.ensures ∙ c.if-is_word-5.false, sym c.is_word-6.ensures ∙ c.if-is_word-6.false, sym c.is_word-7.ensures ∙ c.if-is_word-7.false, sym c.is_word-8.ensures ∙ c.if-is_word-8.false, sym c.is_word-9.ensures ∙ c.if-is_word-9.false, sym c.is_word-10.ensures ∙ c.if-is_word-10.false) refl
