-- The words of a payload, one by one.
use Rattle.std.proofs.Common.{◌≡◌, ℕ, ◌+◌, ◌-◌, ◌<◌, zero, suc, List, [], ◌∷◌, ◌++◌, Result, Ok, Err, take, drop, refl, ap, sym, append_assoc, arith}
use Rattle.std.proofs.lemmas.List.{append-nil}
use Rattle.gomp_script.specs.declared.parse.Why.{Why}
use Rattle.gomp_script.specs.StepText.{payload_of, unsigned_of, payload_words, no_more_words, ◌>>=◌}

-- these words, and those that are read later
abbrev pub with_words : List ℕ → Result (List ℕ) Why → Result (List ℕ) Why
with_words words (Ok later) = Ok (words ++ later)
with_words words (Err why) = Err why

-- a line that ends early
pub words_end : (payload : List ℕ) (most : ℕ) (words : List (List ℕ)) → words ≡ [] → with_words payload (payload_of most words) ≡ Ok payload
words_end payload zero words none = rw none (ap Ok (append-nil payload))
words_end payload (suc most) words none = rw none (ap Ok (append-nil payload))

-- a word that is no number
pub word_fault : (payload : List ℕ) (i : ℕ) (word : List ℕ) (words : List (List ℕ)) (why : Why) → i < 8 → unsigned_of word ≡ Err why → with_words payload (payload_of (8 - i) (word ∷ words)) ≡ Err why
word_fault payload i word words why less fault =
    let here : 8 - i ≡ suc (8 - (i + 1)) = omega (arith, less) in
    rw (here, fault) refl

kept_first : (payload : List ℕ) (number : ℕ) (read : Result (List ℕ) Why) (done : Result (Unit {0}) Why) → with_words payload ((read >>= λ later. Ok (number ∷ later)) >>= λ words. done >>= λ end. Ok words) ≡ with_words (payload ++ number ∷ []) (read >>= λ words. done >>= λ end. Ok words)
kept_first payload number (Ok later) (Ok done) = ap (λ (all : List ℕ). Ok all) (sym (append_assoc payload (number ∷ []) later))
kept_first payload number (Ok later) (Err why) = refl
kept_first payload number (Err why) done = refl

-- one that is kept
pub word_kept : (payload : List ℕ) (i number : ℕ) (word : List ℕ) (words : List (List ℕ)) → i < 8 → unsigned_of word ≡ Ok number → with_words payload (payload_of (8 - i) (word ∷ words)) ≡ with_words (payload ++ number ∷ []) (payload_of (8 - (i + 1)) words)
word_kept payload i number word words less read =
    let here : 8 - i ≡ suc (8 - (i + 1)) = omega (arith, less) in
    rw (here, read) (kept_first payload number (payload_words (take (8 - (i + 1)) words)) (no_more_words (drop (8 - (i + 1)) words)))

-- the eighth word was the last
pub words_done : (payload : List ℕ) (words : List (List ℕ)) (done : Unit {0}) → no_more_words words ≡ Ok done → with_words payload (payload_of 0 words) ≡ Ok payload
words_done payload words done none = rw none (ap Ok (append-nil payload))

-- a word too many
pub ninth_word : (payload : List ℕ) (words : List (List ℕ)) (why : Why) → no_more_words words ≡ Err why → with_words payload (payload_of 0 words) ≡ Err why
ninth_word payload words why fault = rw fault refl
