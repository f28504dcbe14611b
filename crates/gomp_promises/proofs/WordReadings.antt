-- A word is the same as itself and as no other, whatever it is.
use Rattle.std.proofs.Common.{◌≡◌, ◌≢◌, ℕ, false, List, inl, inr}
use Rattle.std.proofs.lemmas.Bool.{cases_Bool}
use Rattle.gomp_text.specs.Words.{same_word}
use Rattle.gomp_text.proofs.WordLemmas.{same_means}

-- two words that are not one are not the same
pub other_words_differ : (one other : List ℕ) → one ≢ other → same_word one other ≡ false
other_words_differ one other apart = elim (cases_Bool (same_word one other)) [
  | inl same ↦ absurd (apart (same_means one other same))
  | inr different ↦ different
]
