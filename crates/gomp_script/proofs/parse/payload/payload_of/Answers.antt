use Rattle.std.proofs.Common.{◌≡◌, ◌-◌, ◌∙◌, Err, sym, rules, arith}
use Rattle.std.proofs.lemmas.Grind.{common_steps}
use Rattle.gomp_text.specs.Words.{words_of}
use Rattle.gomp_script.specs.StepText.{unsigned_of, no_more_words}
use Rattle.gomp_script.proofs.PayloadLemmas.{words_end, word_fault, word_kept, words_done, ninth_word}
use Rattle.gomp_script.proofs.parse.payload.payload_of.Goals as goal

pub returns-in_default : goal.returns-in_default
returns-in_default c = grind (arith, words_end)

pub returns-in_err-unsigned_of : goal.returns-in_err-unsigned_of
returns-in_err-unsigned_of c =
    let why = c.in_err-unsigned_of.field-0.0 in
    let fault : unsigned_of c.in-Some.word.now ≡ Err why = sym c.unsigned_of.ensures ∙ c.in_err-unsigned_of.was in
    let given : c.from_residual.result ≡ Err why = search rules in
    let told = word_fault c.loop-i.payload c.loop-i._i c.in-Some.word.now (words_of c.in-Some.after.now) why c.loop-i-test.true fault in
    given ∙ sym told ∙ (rw c.in-Some.ensures.words at c.loop-i.invariant.read)

pub loop-i-preserved : goal.loop-i-preserved
loop-i-preserved c = record { count = grind (arith, common_steps); read = grind (arith, word_kept) }

pub returns-in_err-finish : goal.returns-in_err-finish
returns-in_err-finish c =
    let why = c.in_err-finish.field-0.0 in
    let fault : no_more_words (words_of c.loop-i.rest.now) ≡ Err why = sym c.finish.ensures ∙ c.in_err-finish.was in
    let given : c.from_residual-in_err-finish.result ≡ Err why = search rules in
    let none : 8 - c.loop-i._i ≡ 0 = omega (arith, c.loop-i-test.false) in
    given ∙ sym (ninth_word c.loop-i.payload (words_of c.loop-i.rest.now) why fault) ∙ (rw none at c.loop-i.invariant.read)

pub returns : goal.returns
returns c =
    let none : 8 - c.loop-i._i ≡ 0 = omega (arith, c.loop-i-test.false) in
    let done = words_done c.loop-i.payload (words_of c.loop-i.rest.now) c.in_ok-finish.field-0 (sym c.finish.ensures ∙ c.in_ok-finish.was) in
    sym done ∙ (rw none at c.loop-i.invariant.read)
