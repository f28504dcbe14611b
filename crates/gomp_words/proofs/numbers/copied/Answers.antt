use Rattle.std.proofs.Common.{ℕ, ◌≤◌, List, ap, length}
use Rattle.gomp_words.specs.declared.numbers.Numbers.{Numbers}
use Rattle.gomp_words.proofs.Readings.{eight_words_are}
use Rattle.gomp_words.proofs.numbers.copied.Goals as goal

pub returns-clause-numbers : goal.returns-clause-numbers
returns-clause-numbers c =
    let few : length c.args.payload.now ≤ 8 = rw c.as_slice-words.ensures.words at c.as_slice-words.ensures.few in
    let numbers : List ℕ → Numbers = λ words. record { kind = 14; count = length c.args.payload.now; words = words } in
    rw (c.word_at.ensures, c.word_at-2.ensures, c.word_at-3.ensures, c.word_at-4.ensures, c.word_at-5.ensures, c.word_at-6.ensures, c.word_at-7.ensures, c.word_at-8.ensures, c.as_slice-words.ensures.words)
    (ap numbers (eight_words_are c.args.payload.now few))
