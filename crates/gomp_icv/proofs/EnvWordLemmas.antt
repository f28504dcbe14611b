-- The words of the environment, one by one.
use Rattle.std.proofs.Common.{◌≡◌, ℕ, ◌+◌, ◌<◌, ◌≤◌, List, [], ◌∷◌, ◌++◌, Option, None, length, drop, get_or, refl, ap, sym, append_assoc}
use Rattle.std.specs.Prelude.{map}
use Rattle.std.proofs.lemmas.List.{append-nil, drop_all, drop_more}
use Rattle.gomp_types.specs.declared.refusal.Refusal.{Refusal}
use Rattle.gomp_types.specs.declared.refusal.Refusal.TheVariants.{BadEnv}
use Rattle.gomp_icv.specs.Variables.{Variables}
use Rattle.gomp_icv.specs.declared.env.Setting.{Setting}
use Rattle.gomp_icv.specs.EnvWords.{before, read_after, setting_of}

-- what is read, with these refusals before those of it
abbrev pub with_ignored : List Refusal → Variables × List Refusal → Variables × List Refusal
with_ignored ignored read = (read.0, ignored ++ read.1)

pub one_ignored : (ignored : List Refusal) (name : List ℕ) (icv : Variables) (later : Variables → Variables × List Refusal) → with_ignored ignored (before name None icv later) ≡ with_ignored (ignored ++ BadEnv name ∷ []) (later icv)
one_ignored ignored name icv later = ap (λ (all : List Refusal). ((later icv).0, all)) (sym (append_assoc ignored (BadEnv name ∷ []) (later icv).1))

-- what is left begins with the word at this place
pub word_here : {W : Type 0} (f : W → List ℕ × List ℕ) (words : List W) (i : ℕ) (d : W) (icv : Variables) (name value : List ℕ) (setting : Option Setting) → i < length words → name ≡ (f (get_or words i d)).0 → value ≡ (f (get_or words i d)).1 → setting ≡ setting_of name value → read_after (map f (drop i words)) icv ≡ before (f (get_or words i d)).0 setting icv (read_after (map f (drop (i + 1) words)))
word_here f words i d icv name value setting inside e e′ means = rw (drop_more words i d inside, means, e, e′) refl

pub all_words : {W : Type 0} (f : W → List ℕ × List ℕ) (words : List W) (i : ℕ) (icv : Variables) (ignored : List Refusal) → length words ≤ i → with_ignored ignored (read_after (map f (drop i words)) icv) ≡ (icv, ignored)
all_words f words i icv ignored all = rw (drop_all i words all, append-nil ignored) refl
