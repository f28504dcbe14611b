-- Tasks by their numbers, and one task more or some less: what is there, and whether any stands twice.
use Rattle.std.proofs.Common.{◌≡◌, ℕ, Bool, true, false, cond, List, [], ◌∷◌, refl, inl, inr}
use Rattle.std.specs.Prelude.{◌==◌, ◌||◌, ◌&&◌, nat_le, filter, if◌then◌else◌}
use Rattle.std.proofs.lemmas.Bool.{cases_Bool}
use Rattle.gomp_events.specs.Tasks.{contains}
use Rattle.gomp_types.proofs.Booleans.{same_number, other_number, is_equal, not_both, and_false, none_of_either}
use Rattle.gomp_ready.specs.Ready.{AreOnce, with_task}

-- Tests

-- neither holds if one does not, nor the other
pub false_of_both : (a b : Bool) → a ≡ false → b ≡ false → (a || b) ≡ false
false_of_both true b first second = absurd (cc)
false_of_both false b first second = second

first_of_three : (a b c : Bool) → (a || (b || c)) ≡ (b || (a || c))
first_of_three true true c = refl
first_of_three true false c = refl
first_of_three false b c = refl

-- a test of two numbers from the other side
apart_turned : (t x : ℕ) → (x == t) ≡ false → (t == x) ≡ false
apart_turned t x apart = other_number t x (λ same. not_both (x == t) (rw same (same_number x)) apart)

-- One task more

-- what is added is there, and nothing else is new
pub contains-with_task : (t u : ℕ) (ids : List ℕ) → contains u (with_task t ids) ≡ (t == u || contains u ids)
contains-with_task t u [] = refl
contains-with_task t u (x ∷ ids) = by (nat_le t x) (contains-with_task t u ids)
  where
    by : (b : Bool) → contains u (with_task t ids) ≡ (t == u || contains u ids) → contains u (if b then t ∷ x ∷ ids else x ∷ with_task t ids) ≡ (t == u || (x == u || contains u ids))
    by true rest = refl
    by false rest = rw rest (first_of_three (x == u) (t == u) (contains u ids))

pub once-with_task : (t : ℕ) (ids : List ℕ) → contains t ids ≡ false → AreOnce ids → AreOnce (with_task t ids)
once-with_task t [] absent once = (refl, tt)
once-with_task t (x ∷ ids) absent once = let apart = none_of_either (x == t) (contains t ids) absent in by (nat_le t x) apart.0 (once-with_task t ids apart.1 once.1)
  where
    by : (b : Bool) → (x == t) ≡ false → AreOnce (with_task t ids) → AreOnce (if b then t ∷ x ∷ ids else x ∷ with_task t ids)
    by true apart rest = (absent, once)
    by false apart rest = (rw (contains-with_task t x ids) (false_of_both (t == x) (contains x ids) (apart_turned t x apart) once.0), rest)

pub once-without_task : (t : ℕ) (ids : List ℕ) → AreOnce (with_task t ids) → (contains t ids ≡ false) × AreOnce ids
once-without_task t [] once = (refl, tt)
once-without_task t (x ∷ ids) once = by (nat_le t x) once (once-without_task t ids)
  where
    by : (b : Bool) → AreOnce (if b then t ∷ x ∷ ids else x ∷ with_task t ids) → (AreOnce (with_task t ids) → (contains t ids ≡ false) × AreOnce ids) → (contains t (x ∷ ids) ≡ false) × AreOnce (x ∷ ids)
    by true stand rest = stand
    by false stand rest =
        let (absent, once) = rest stand.1 in
        let apart = none_of_either (t == x) (contains x ids) (rw (contains-with_task t x ids) at stand.0) in
        (false_of_both (x == t) (contains t ids) (apart_turned x t apart.0) absent, (apart.1, once))

-- Some tasks less

-- what passes a test and was there is left
pub contains-filter : (test : ℕ → Bool) (u : ℕ) (ids : List ℕ) → contains u (filter test ids) ≡ (contains u ids && test u)
contains-filter test u [] = refl
contains-filter test u (x ∷ ids) = elim (cases_Bool (x == u)) [
  | inl here ↦ let same = is_equal x u here in rw (same, same_number u) (this (test u) refl (contains-filter test u ids))
  | inr away ↦ rw away (others away (test x) (contains-filter test u ids))
]
  where
    this : (b : Bool) → test u ≡ b → contains u (filter test ids) ≡ (contains u ids && test u) → contains u (cond b (u ∷ filter test ids) (filter test ids)) ≡ b
    this true is rest = rw (same_number u) refl
    this false is rest = rw (rest, and_false (contains u ids) (test u) is) refl

    others : (x == u) ≡ false → (b : Bool) → contains u (filter test ids) ≡ (contains u ids && test u) → contains u (cond b (x ∷ filter test ids) (filter test ids)) ≡ (contains u ids && test u)
    others away true rest = rw away rest
    others away false rest = rest

pub once-filter : (test : ℕ → Bool) (ids : List ℕ) → AreOnce ids → AreOnce (filter test ids)
once-filter test [] once = tt
once-filter test (x ∷ ids) once = by (test x) (once-filter test ids once.1)
  where
    by : (b : Bool) → AreOnce (filter test ids) → AreOnce (cond b (x ∷ filter test ids) (filter test ids))
    by true rest = (rw (contains-filter test x ids, once.0) refl, rest)
    by false rest = rest
