-- Tests on each element of a list.
use Rattle.std.proofs.Common.{◌≡◌, Bool, true, false, List, [], ◌∷◌, refl}
use Rattle.std.specs.Prelude.{◌&&◌, ◌||◌}
use Rattle.std.specs.List.{list_any, list_all}
use Rattle.gomp_types.proofs.Booleans.{or_false, and_left, and_right, neither_left}

-- a fact holds of each element
abbrev pub Each : {X : Type 0} → (X → Type 0) → List X → Type 0
Each P [] = Unit {0}
Each P (x ∷ xs) = P x × Each P xs

pub each_by : {X : Type 0} (P : X → Type 0) → ((x : X) → P x) → (xs : List X) → Each P xs
each_by P all [] = tt
each_by P all (x ∷ xs) = (all x, each_by P all xs)

pub each_map : {X : Type 0} (P Q : X → Type 0) → ((x : X) → P x → Q x) → (xs : List X) → Each P xs → Each Q xs
each_map P Q f [] each = tt
each_map P Q f (x ∷ xs) each = (f x each.0, each_map P Q f xs each.1)

-- each of a list with each of it, so each with itself
pub each_with_itself : {X : Type 0} (R : X → X → Type 0) → (xs : List X) → Each (λ x. Each (R x) xs) xs → Each (λ x. R x x) xs
each_with_itself R [] each = tt
each_with_itself R (x ∷ xs) each = (each.0.0, each_with_itself R xs (each_map (λ y. R y x × Each (R y) xs) (λ y. Each (R y) xs) (λ y both. both.1) xs each.1))

-- no element passes a test exactly if each fails it
pub each_fails : {X : Type 0} (test : X → Bool) → (xs : List X) → list_any test xs ≡ false → Each (λ x. test x ≡ false) xs
each_fails test [] e = tt
each_fails test (x ∷ xs) e = (neither_left (test x) (list_any test xs) e, each_fails test xs (or_false (test x) (list_any test xs) e))

pub none_passes : {X : Type 0} (test : X → Bool) → (xs : List X) → Each (λ x. test x ≡ false) xs → list_any test xs ≡ false
none_passes test [] each = refl
none_passes test (x ∷ xs) each = rw each.0 (none_passes test xs each.1)

pub each_passes : {X : Type 0} (test : X → Bool) → (xs : List X) → list_all test xs ≡ true → Each (λ x. test x ≡ true) xs
each_passes test [] e = tt
each_passes test (x ∷ xs) e = (and_left (test x) (list_all test xs) e, each_passes test xs (and_right (test x) (list_all test xs) e))

pub all_pass : {X : Type 0} (test : X → Bool) → (xs : List X) → Each (λ x. test x ≡ true) xs → list_all test xs ≡ true
all_pass test [] each = refl
all_pass test (x ∷ xs) each = rw each.0 (all_pass test xs each.1)

-- tests that agree find alike
pub any_same : {X : Type 0} (one other : X → Bool) → ((x : X) → one x ≡ other x) → (xs : List X) → list_any one xs ≡ list_any other xs
any_same one other same [] = refl
any_same one other same (x ∷ xs) = rw (same x, any_same one other same xs) refl

-- a condition on all
pub any_and : {X : Type 0} (test : X → Bool) (b : Bool) → (xs : List X) → list_any (λ x. test x && b) xs ≡ (list_any test xs && b)
any_and test b [] = refl
any_and test b (x ∷ xs) = rw (any_and test b xs) (by (test x) (list_any test xs) b)
  where
    by : (a c d : Bool) → ((a && d) || (c && d)) ≡ ((a || c) && d)
    by true true true = refl
    by true true false = refl
    by true false true = refl
    by true false false = refl
    by false c d = refl
