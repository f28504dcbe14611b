use Rattle.std.proofs.Common.{◌≡◌, Ok, rules}
use Rattle.gomp_text.specs.Words.{words_of}
use Rattle.gomp_script.specs.StepText.{next_word}
use Rattle.gomp_script.proofs.TextLemmas.{step_by_call}
use Rattle.gomp_script.proofs.parse.step_words.Goals as goal

pub returns : goal.returns
returns c =
    let words = words_of c.args.rest.now in
    let taken : next_word words ≡ Ok (c.in_ok-call.call.now, words_of c.in_ok-call.rest.now) = search rules in
    let made = step_by_call c.args.member.now words (c.in_ok-call.call.now, words_of c.in_ok-call.rest.now) taken in
    record { step = rw made c.call_step.ensures.step; memory = rw made c.call_step.ensures.memory }
