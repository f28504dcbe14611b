-- Tasks by their numbers, the lowest first, and those that pass a test.
use Rattle.std.proofs.Common.{◌≡◌, ℕ, ◌≤◌, Bool, true, false, cond, List, [], ◌∷◌, refl, ap, sym, ◌∙◌, arith, inl, inr}
use Rattle.std.specs.Prelude.{◌==◌, nat_le, filter, if◌then◌else◌}
use Rattle.std.proofs.lemmas.Bool.{cases_Bool}
use Rattle.std.proofs.lemmas.Bool.Decides.{nat_tests}
use Rattle.gomp_events.specs.Tasks.{contains}
use Rattle.gomp_types.proofs.Booleans.{or_tells, is_equal}
use Rattle.gomp_types.proofs.LeastTests.{at_most}
use Rattle.gomp_events.proofs.TestReadings.{up_to_is}
use Rattle.gomp_ready.specs.Ready.{with_task, in_order}

-- no task in a list is lower than this one
AllFrom : ℕ → List ℕ → Type 0
AllFrom t [] = Unit {0}
AllFrom t (x ∷ xs) = (t ≤ x) × AllFrom t xs

IsAscending : List ℕ → Type 0
IsAscending [] = Unit {0}
IsAscending (x ∷ xs) = AllFrom x xs × IsAscending xs

is_high : (t x : ℕ) → nat_le t x ≡ false → x ≤ t
is_high t x e = grind (arith, nat_tests, e)

from_lower : (s t : ℕ) (ids : List ℕ) → s ≤ t → AllFrom t ids → AllFrom s ids
unfolding AllFrom
from_lower s t [] le from = tt
from_lower s t (x ∷ ids) le from = let first = from.0 in (omega arith, from_lower s t ids le from.1)

from-with_task : (s t : ℕ) (ids : List ℕ) → s ≤ t → AllFrom s ids → AllFrom s (with_task t ids)
unfolding AllFrom
from-with_task s t [] le from = (le, tt)
from-with_task s t (x ∷ ids) le from = by (nat_le t x) (from-with_task s t ids le from.1)
  where
    by : (b : Bool) → AllFrom s (with_task t ids) → AllFrom s (if b then t ∷ x ∷ ids else x ∷ with_task t ids)
    by true rest = (le, from)
    by false rest = (from.0, rest)

ascending-with_task : (t : ℕ) (ids : List ℕ) → IsAscending ids → IsAscending (with_task t ids)
unfolding IsAscending AllFrom
ascending-with_task t [] up = (tt, tt)
ascending-with_task t (x ∷ ids) up = elim (cases_Bool (nat_le t x)) [
  | inl low ↦ rw low ((at_most t x low, from_lower t x ids (at_most t x low) up.0), up)
  | inr high ↦ rw high (from-with_task x t ids (is_high t x high) up.0, ascending-with_task t ids up.1)
]

ascending-in_order : (ids : List ℕ) → IsAscending (in_order ids)
unfolding IsAscending
ascending-in_order [] = tt
ascending-in_order (t ∷ ids) = ascending-with_task t (in_order ids) (ascending-in_order ids)

-- so no lower one stands behind
none_below_the_first : (t u : ℕ) (ids : List ℕ) → AllFrom t ids → contains u ids ≡ true → t ≤ u
unfolding AllFrom
none_below_the_first t u [] from there = absurd (let e : false ≡ true = there in cc)
none_below_the_first t u (x ∷ ids) from there = elim (or_tells (x == u) (contains u ids) there) [
  | inl here ↦ let same = is_equal x u here in let first = from.0 in omega (arith, same, first)
  | inr further ↦ none_below_the_first t u ids from.1 further
]

first_of_ascending : (t u : ℕ) (ids rest : List ℕ) → ids ≡ t ∷ rest → IsAscending ids → contains u rest ≡ true → t ≤ u
unfolding IsAscending
first_of_ascending t u [] rest is up there = absurd (let e : [] ≡ t ∷ rest = is in cc)
first_of_ascending t u (x ∷ ids) rest is up there = let first : x ≡ t = cc in let others : ids ≡ rest = cc in rw (← first) (none_below_the_first x u ids up.0 (rw others there))

pub first_is_lowest : (xs : List ℕ) (t : ℕ) (rest : List ℕ) (u : ℕ) → in_order xs ≡ t ∷ rest → contains u rest ≡ true → t ≤ u
first_is_lowest xs t rest u is there = first_of_ascending t u (in_order xs) rest is (ascending-in_order xs) there

from-filter : (t : ℕ) (test : ℕ → Bool) (ids : List ℕ) → AllFrom t ids → AllFrom t (filter test ids)
unfolding AllFrom
from-filter t test [] from = tt
from-filter t test (x ∷ ids) from = by (test x) (from-filter t test ids from.1)
  where
    by : (b : Bool) → AllFrom t (filter test ids) → AllFrom t (cond b (x ∷ filter test ids) (filter test ids))
    by true rest = (from.0, rest)
    by false rest = rest

lowest_goes_first : (t : ℕ) (ids : List ℕ) → AllFrom t ids → with_task t ids ≡ t ∷ ids
unfolding AllFrom
lowest_goes_first t [] from = refl
lowest_goes_first t (x ∷ ids) from = rw (up_to_is t x from.0) refl

filter-with_task : (test : ℕ → Bool) (t : ℕ) (ids : List ℕ) → IsAscending ids → filter test (with_task t ids) ≡ cond (test t) (with_task t (filter test ids)) (filter test ids)
unfolding IsAscending AllFrom
filter-with_task test t [] up = refl
filter-with_task test t (x ∷ ids) up = elim (cases_Bool (nat_le t x)) [
  | inl low ↦
      let kept = filter test (x ∷ ids) in
      let from : AllFrom t (x ∷ ids) = (at_most t x low, from_lower t x ids (at_most t x low) up.0) in
      rw low (ap (λ xs. cond (test t) xs kept) (sym (lowest_goes_first t kept (from-filter t test (x ∷ ids) from))))
  | inr high ↦ rw (high, filter-with_task test t ids up.1) (by high (test x) (test t))
]
  where
    by : nat_le t x ≡ false → (b c : Bool) →
        cond b (x ∷ cond c (with_task t (filter test ids)) (filter test ids)) (cond c (with_task t (filter test ids)) (filter test ids)) ≡
        cond c (with_task t (cond b (x ∷ filter test ids) (filter test ids))) (cond b (x ∷ filter test ids) (filter test ids))
    by high true true = rw high refl
    by high true false = refl
    by high false true = refl
    by high false false = refl

pub filter-in_order : (test : ℕ → Bool) (ids : List ℕ) → in_order (filter test ids) ≡ filter test (in_order ids)
filter-in_order test [] = refl
filter-in_order test (t ∷ ids) = by (test t) (filter-in_order test ids) ∙ sym (filter-with_task test t (in_order ids) (ascending-in_order ids))
  where
    by : (b : Bool) → in_order (filter test ids) ≡ filter test (in_order ids) →
        in_order (cond b (t ∷ filter test ids) (filter test ids)) ≡ cond b (with_task t (filter test (in_order ids))) (filter test (in_order ids))
    by true rest = ap (with_task t) rest
    by false rest = rest
