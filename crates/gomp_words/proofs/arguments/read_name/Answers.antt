use Rattle.std.proofs.Common.{ap, sym, ◌∙◌, ◌≡◌, ℕ, List, take, Some}
use Rattle.std.proofs.lemmas.List.{take_all}
use Rattle.std.specs.List.{list_all}
use Rattle.gomp_words.specs.Calls.{is_byte}
use Rattle.gomp_words.proofs.Readings.{name_read}
use Rattle.gomp_words.proofs.arguments.read_name.Goals as goal

pub returns : goal.returns
returns c =
    let all = take_all c.loop-word.word-index c.args.words.now c.loop-word-test.false in
    let kept : c.loop-word.bytes.items ≡ c.args.words.now = c.loop-word.invariant.read ∙ all in
    let name : c.new.result ≡ c.args.words.now = c.new.ensures ∙ ap (λ (bytes : List ℕ). take 33 bytes) (c.as_slice.ensures.value ∙ kept) ∙ take_all 33 c.args.words.now c.if-words-gt-KEPT_BYTES.false in
    ap Some name ∙ sym (name_read c.args.words.now c.if-words-gt-KEPT_BYTES.false (ap (list_all is_byte) (sym all) ∙ c.loop-word.invariant.bytes))
