use Rattle.std.proofs.Common.{◌≡◌, sym, ap, ◌∙◌, Option, rules}
use Rattle.std.specs.Option.{option_or}
use Rattle.gomp_types.specs.declared.call.Call.{Call}
use Rattle.gomp_script.specs.StepText.{share_call_of}
use Rattle.gomp_script.proofs.parse.plain.call_of.Goals as goal

pub returns : goal.returns
returns c =
    let word = c.args.word.now in
    let either : c.or_else.result ≡ option_or c.task_call_of.result (share_call_of word) = search rules in
    let all = either ∙ ap (λ (first : Option Call). option_or first (share_call_of word)) c.task_call_of.ensures in
    rw (sym c.is_word.ensures ∙ c.if-is_word.false, sym c.is_word-2.ensures ∙ c.if-is_word-2.false, sym c.is_word-3.ensures ∙ c.if-is_word-3.false, sym c.is_word-4.ensures ∙ c.if-is_word-4.false, sym c.is_word-5.ensures ∙ c.if-is_word-5.false, sym c.is_word-6.ensures ∙ c.if-is_word-6.false, sym c.is_word-7.ensures ∙ c.if-is_word-7.false) all
