-- What the definitions never let happen, of every call, step, list of words and reply, each by the law in Laws.antt that it cites.
use Rattle.std.proofs.Common.{ℕ, ◌≡◌, ◌≢◌, ◌<◌, ◌^◌, false, List, Some, None, sym, ◌∙◌, ap, arith}
use Rattle.std.specs.List.{All}
use Rattle.gomp_types.specs.declared.call.Call.{Call}
use Rattle.gomp_types.specs.declared.call.Step.{Step}
use Rattle.gomp_types.specs.declared.reply.Reply.{Reply}
use Rattle.gomp_words.specs.declared.step.StepRead.{StepRead}
use Rattle.gomp_words.specs.declared.step.StepRead.TheVariants as asks
use Rattle.gomp_words.specs.Calls.{words_of, call_of, IsSayable}
use Rattle.gomp_words.specs.StepWords.{step_words, step_of}
use Rattle.gomp_words.specs.declared.numbers.Numbers.{Numbers}
use Rattle.gomp_words.specs.Replies.{IsTellable, is_ignored_word, numbers_of, reply_of}
use Rattle.gomp_words.proofs.Exact.{IsWord}
use Rattle.gomp_words.proofs.Laws.{every_call_can_be_said, every_step_can_be_asked, words_say_one_call, words_say_one_step, every_reply_can_be_told, replies_told_apart, reply_kinds_in_range}

-- no call is read as another one, of its kind or not, or as none
pub call_never_read_as_another : (call other : Call) → IsSayable call → call ≢ other → call_of (words_of call) ≡ Some other → ⊥
call_never_read_as_another call other fits differ is = let e : Some call ≡ Some other = sym (every_call_can_be_said call fits) ∙ is in differ (cc)

pub call_never_unsayable : (call : Call) → IsSayable call → call_of (words_of call) ≡ None → ⊥
call_never_unsayable call fits is = let e : Some call ≡ None = sym (every_call_can_be_said call fits) ∙ is in cc

-- no step is read otherwise: as one of another member, as another call, as that of no member, as none
pub step_never_read_otherwise : (step : Step) (found : StepRead) → step.member < 2 ^ 16 → IsSayable step.call → found ≢ asks.Step step → step_of (step_words step) ≡ found → ⊥
step_never_read_otherwise step found member fits differ is = differ (sym is ∙ every_step_can_be_asked step member fits)

-- a call has no two lists of words: none has a word more or less, or another one
pub call_never_said_in_two_ways : (one other : List ℕ) (call : Call) → All IsWord one → All IsWord other → one ≢ other → call_of one ≡ Some call → call_of other ≡ Some call → ⊥
call_never_said_in_two_ways one other call fit fits differ is too = differ (sym (words_say_one_call one call fit is) ∙ words_say_one_call other call fits too)

-- nor has a step
pub step_never_said_in_two_ways : (one other : List ℕ) (step : Step) → All IsWord one → All IsWord other → one ≢ other → step_of one ≡ asks.Step step → step_of other ≡ asks.Step step → ⊥
step_never_said_in_two_ways one other step fit fits differ is too = differ (sym (words_say_one_step one step fit is) ∙ words_say_one_step other step fits too)

-- no reply is read as another one, or as none
pub reply_never_read_as_another : (reply other : Reply) → IsTellable reply → is_ignored_word reply ≡ false → reply ≢ other → reply_of (numbers_of reply) ≡ Some other → ⊥
reply_never_read_as_another reply other fits teams differ is = let e : Some reply ≡ Some other = sym (every_reply_can_be_told reply fits teams) ∙ is in differ (cc)

-- no two replies have the same numbers
pub replies_never_alike : (a b : Reply) → IsTellable a → IsTellable b → is_ignored_word a ≡ false → is_ignored_word b ≡ false → a ≢ b → numbers_of a ≡ numbers_of b → ⊥
replies_never_alike a b fits other teams too differ same = differ (replies_told_apart a b fits other teams too same)

-- no reply has a kind below 10, or one above 28
pub reply_never_of_a_low_kind : (reply : Reply) (numbers : Numbers) → numbers.kind < 10 → numbers_of reply ≡ numbers → ⊥
reply_never_of_a_low_kind reply numbers low is =
    let from = (reply_kinds_in_range reply).0 in
    let same : (numbers_of reply).kind ≡ numbers.kind = ap (λ (n : Numbers). n.kind) is in
    absurd (omega arith)

pub reply_never_of_a_high_kind : (reply : Reply) (numbers : Numbers) → 28 < numbers.kind → numbers_of reply ≡ numbers → ⊥
reply_never_of_a_high_kind reply numbers high is =
    let to = (reply_kinds_in_range reply).1 in
    let same : (numbers_of reply).kind ≡ numbers.kind = ap (λ (n : Numbers). n.kind) is in
    absurd (omega arith)
