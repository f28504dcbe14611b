-- The least refusal of tests: if it is none no test holds, that of two lists is the lesser of theirs, and of tests in the order of their numbers it is the first.
use Rattle.std.proofs.Common.{◌≡◌, ◌≤◌, ℕ, Bool, true, false, List, [], ◌∷◌, ◌++◌, Option, Some, None, refl, ap, sym, ◌∙◌, arith, inl, inr}
use Rattle.std.specs.Prelude.{nat_le, ◌&&◌}
use Rattle.std.proofs.lemmas.Bool.Decides.{nat_tests}
use Rattle.std.proofs.lemmas.Bool.{cases_Bool}
use Rattle.gomp_types.specs.declared.refusal.Refusal.{Refusal}
use Rattle.gomp_types.specs.RefusalTexts.{number_of}
use Rattle.gomp_types.specs.Tests.{Test, first_holding}
use Rattle.gomp_types.specs.Least.{lesser, least}
use Rattle.gomp_types.proofs.Booleans.{and_left, and_right}

-- none of the tests holds
abbrev pub AllFail : List Test → Type 0
AllFail [] = Unit {0}
AllFail (test ∷ tests) = (test.0 ≡ false) × AllFail tests

pub some_stays : (one : Refusal) (other : Option Refusal) → lesser (Some one) other ≡ None → ⊥
some_stays one None e = cc
some_stays one (Some other) e =
    elim (cases_Bool (nat_le (number_of one) (number_of other))) [
      | inl below ↦ let some : Some one ≡ None = rw below at e in cc
      | inr above ↦ let some : Some other ≡ None = rw above at e in cc
    ]

pub all_fail : (tests : List Test) → least tests ≡ None → AllFail tests
all_fail [] fine = tt
all_fail ((true, refusal) ∷ tests) fine = absurd (some_stays refusal (least tests) fine)
all_fail ((false, refusal) ∷ tests) fine = (refl, all_fail tests fine)

pub fail_first : (tests more : List Test) → AllFail (tests ++ more) → AllFail tests
fail_first [] more all = tt
fail_first (test ∷ tests) more all = (all.0, fail_first tests more all.1)

pub fail_later : (tests more : List Test) → AllFail (tests ++ more) → AllFail more
fail_later [] more all = all
fail_later (test ∷ tests) more all = fail_later tests more all.1

pub none_holds : (tests : List Test) → AllFail tests → least tests ≡ None
none_holds [] all = refl
none_holds (test ∷ tests) all = rw all.0 (none_holds tests all.1)

-- the least is no greater than a test that holds
pub lesser_low : (one found : Refusal) (other : Option Refusal) → lesser (Some one) other ≡ Some found → number_of found ≤ number_of one
lesser_low one found None e = let same : one ≡ found = cc in rw same (omega arith)
lesser_low one found (Some other) e =
    elim (cases_Bool (nat_le (number_of one) (number_of other))) [
      | inl below ↦ let some : Some one ≡ Some found = rw below at e in let same : one ≡ found = cc in rw same (omega arith)
      | inr above ↦ let some : Some other ≡ Some found = rw above at e in let same : other ≡ found = cc in let more = above in rw (← same) (grind (arith, nat_tests))
    ]

pub le_trans : (a b c : ℕ) → nat_le a b ≡ true → nat_le b c ≡ true → nat_le a c ≡ true
le_trans a b c one other = grind (arith, nat_tests)

gt_trans : (a b c : ℕ) → nat_le a b ≡ false → nat_le b c ≡ false → nat_le a c ≡ false
gt_trans a b c one other = grind (arith, nat_tests)

lesser_none : (one : Option Refusal) → lesser one None ≡ one
lesser_none None = refl
lesser_none (Some one) = refl

lesser_is_associative : (a b c : Refusal) → lesser (Some a) (lesser (Some b) (Some c)) ≡ lesser (lesser (Some a) (Some b)) (Some c)
lesser_is_associative a b c =
    elim (cases_Bool (nat_le (number_of a) (number_of b))) [
      | inl ab ↦ elim (cases_Bool (nat_le (number_of b) (number_of c))) [
        | inl bc ↦ simp (ab, bc, le_trans (number_of a) (number_of b) (number_of c) ab bc) refl
        | inr bc ↦ simp (ab, bc) refl
      ]
      | inr ab ↦ elim (cases_Bool (nat_le (number_of b) (number_of c))) [
        | inl bc ↦ simp (ab, bc) refl
        | inr bc ↦ simp (ab, bc, gt_trans (number_of a) (number_of b) (number_of c) ab bc) refl
      ]
    ]

pub lesser_assoc : (a b c : Option Refusal) → lesser a (lesser b c) ≡ lesser (lesser a b) c
lesser_assoc None b c = refl
lesser_assoc (Some a) None c = refl
lesser_assoc (Some a) (Some b) None = sym (lesser_none (lesser (Some a) (Some b)))
lesser_assoc (Some a) (Some b) (Some c) = lesser_is_associative a b c

pub least_append : (tests more : List Test) → least (tests ++ more) ≡ lesser (least tests) (least more)
least_append [] more = refl
least_append ((true, refusal) ∷ tests) more = ap (lesser (Some refusal)) (least_append tests more) ∙ lesser_assoc (Some refusal) (least tests) (least more)
least_append ((false, refusal) ∷ tests) more = least_append tests more

-- of tests in the order of their numbers the first that holds is the least
abbrev pub from : ℕ → List Test → Bool
from n [] = true
from n (test ∷ tests) = nat_le n (number_of test.1) && from (number_of test.1) tests

first_low : (n : ℕ) (tests : List Test) (one : Refusal) → nat_le (number_of one) n ≡ true → from n tests ≡ true → lesser (Some one) (least tests) ≡ Some one
first_low n [] one low rising = refl
first_low n ((true, refusal) ∷ tests) one low rising =
    let next = le_trans (number_of one) n (number_of refusal) low (and_left (nat_le n (number_of refusal)) (from (number_of refusal) tests) rising) in
    let rest = first_low (number_of refusal) tests refusal (same_le (number_of refusal)) (and_right (nat_le n (number_of refusal)) (from (number_of refusal) tests) rising) in
    rw (rest, next) refl
  where
    same_le : (k : ℕ) → nat_le k k ≡ true
    same_le k = grind (arith, nat_tests)
first_low n ((false, refusal) ∷ tests) one low rising =
    first_low (number_of refusal) tests one (le_trans (number_of one) n (number_of refusal) low (and_left (nat_le n (number_of refusal)) (from (number_of refusal) tests) rising)) (and_right (nat_le n (number_of refusal)) (from (number_of refusal) tests) rising)

pub first_is_least : (n : ℕ) (tests : List Test) → from n tests ≡ true → first_holding tests ≡ least tests
first_is_least n [] rising = refl
first_is_least n ((true, refusal) ∷ tests) rising =
    sym (first_low (number_of refusal) tests refusal (same_le (number_of refusal)) (and_right (nat_le n (number_of refusal)) (from (number_of refusal) tests) rising))
  where
    same_le : (k : ℕ) → nat_le k k ≡ true
    same_le k = grind (arith, nat_tests)
first_is_least n ((false, refusal) ∷ tests) rising = first_is_least (number_of refusal) tests (and_right (nat_le n (number_of refusal)) (from (number_of refusal) tests) rising)

-- no test holds of two lists if none does of each
pub both_lists_fail : (tests more : List Test) → AllFail tests → AllFail more → AllFail (tests ++ more)
both_lists_fail [] more none others = others
both_lists_fail (test ∷ tests) more none others = (none.0, both_lists_fail tests more none.1 others)

pub at_most : (a b : ℕ) → nat_le a b ≡ true → a ≤ b
at_most a b e = grind (arith, nat_tests)
