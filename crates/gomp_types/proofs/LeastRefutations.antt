-- What an answer by tests never is, for any tests, refusals and replies: a refusal that no test gives, one above another that holds, and anything else if one holds.
use Rattle.std.proofs.Common.{◌≡◌, ◌≢◌, ◌<◌, ◌≤◌, ℕ, true, false, List, [], ◌∷◌, ◌++◌, Option, Some, None, refl, ap, arith, inl, inr, ◌⊎◌}
use Rattle.std.specs.Prelude.{nat_le}
use Rattle.std.proofs.lemmas.Bool.Decides.{nat_tests}
use Rattle.std.proofs.lemmas.Bool.{cases_Bool}
use Rattle.gomp_types.specs.declared.refusal.Refusal.{Refusal}
use Rattle.gomp_types.specs.declared.reply.Reply.{Reply}
use Rattle.gomp_types.specs.declared.reply.Reply.TheVariants.{Refused}
use Rattle.gomp_types.specs.RefusalTexts.{number_of}
use Rattle.gomp_types.specs.Tests.{Test, first_holding}
use Rattle.gomp_types.specs.Least.{lesser, least, Answers}
use Rattle.gomp_types.proofs.LeastTests.{AllFail, all_fail, fail_later, lesser_low}

-- the least of two is one of them
pub lesser_is_either : (one found : Refusal) (other : Option Refusal) → lesser (Some one) other ≡ Some found → (one ≡ found) ⊎ (other ≡ Some found)
lesser_is_either one found None e = inl (cc)
lesser_is_either one found (Some other) e = elim (cases_Bool (nat_le (number_of one) (number_of other))) [
  | inl below ↦ let some : Some one ≡ Some found = rw below at e in inl (cc)
  | inr above ↦ let some : Some other ≡ Some found = rw above at e in inr some
]

-- the least refusal is that of a test that holds
pub least_of_a_test : (tests : List Test) (found : Refusal) → least tests ≡ Some found → (front : List Test) × (back : List Test) × (tests ≡ front ++ (true, found) ∷ back)
least_of_a_test [] found e = absurd (cc)
least_of_a_test ((true, refusal) ∷ tests) found e = elim (lesser_is_either refusal found (least tests) e) [
  | inl same ↦ ([], tests, ap (λ (one : Refusal). (true, one) ∷ tests) same)
  | inr rest ↦ let at = least_of_a_test tests found rest in ((true, refusal) ∷ at.0, at.1, ap (λ (row : List Test). (true, refusal) ∷ row) at.2)
]
least_of_a_test ((false, refusal) ∷ tests) found e =
    let at = least_of_a_test tests found e in ((false, refusal) ∷ at.0, at.1, ap (λ (row : List Test). (false, refusal) ∷ row) at.2)

-- there is one if a test holds
some_test_holds : (front back : List Test) (refusal : Refusal) → least (front ++ (true, refusal) ∷ back) ≡ None → ⊥
some_test_holds front back refusal e = let rest = fail_later front ((true, refusal) ∷ back) (all_fail (front ++ (true, refusal) ∷ back) e) in let holds : true ≡ false = rest.0 in cc

lesser_within : (one found : Refusal) (rest : Option Refusal) (bound : ℕ) → (rest ≡ None → ⊥) → ((other : Refusal) → rest ≡ Some other → number_of other ≤ bound) → lesser (Some one) rest ≡ Some found → number_of found ≤ bound
lesser_within one found None bound some within e = absurd (some refl)
lesser_within one found (Some other) bound some within e = elim (cases_Bool (nat_le (number_of one) (number_of other))) [
  | inl below ↦
      let first : Some one ≡ Some found = rw below at e in
      let same : one ≡ found = cc in
      let most = within other refl in
      let low : number_of one ≤ number_of other = grind (arith, nat_tests, below) in
      rw (← same) (omega (arith, most, low))
  | inr above ↦ within found (rw above at e)
]

-- and no test that holds has a lesser number
pub least_is_no_higher : (front back : List Test) (refusal found : Refusal) → least (front ++ (true, refusal) ∷ back) ≡ Some found → number_of found ≤ number_of refusal
least_is_no_higher [] back refusal found e = lesser_low refusal found (least back) e
least_is_no_higher ((true, other) ∷ front) back refusal found e =
    lesser_within other found (least (front ++ (true, refusal) ∷ back)) (number_of refusal) (some_test_holds front back refusal) (λ least_of_rest at. least_is_no_higher front back refusal least_of_rest at) e
least_is_no_higher ((false, other) ∷ front) back refusal found e = least_is_no_higher front back refusal found e

-- no call is refused by a test that does not hold
pub never_refused_without_test :
    (tests : List Test) (may : Reply → Type 0) (found : Refusal) → ((front back : List Test) → tests ≢ front ++ (true, found) ∷ back) → Answers tests may (Refused found) → ⊥
never_refused_without_test tests may found none answer = let at = least_of_a_test tests found answer in none at.0 at.1 at.2

-- nor by one, if another holds whose number is less
pub never_refused_higher :
    (front back : List Test) (may : Reply → Type 0) (refusal found : Refusal) → number_of refusal < number_of found → Answers (front ++ (true, refusal) ∷ back) may (Refused found) → ⊥
never_refused_higher front back may refusal found above answer = let low = least_is_no_higher front back refusal found answer in absurd (omega (arith, low, above))

-- and no call is answered otherwise if a test holds
pub never_answered_if_refused :
    (front back : List Test) (may : Reply → Type 0) (refusal : Refusal) (reply : Reply) → ((other : Refusal) → reply ≢ Refused other) → Answers (front ++ (true, refusal) ∷ back) may reply → ⊥
never_answered_if_refused front back may refusal (Refused other) differs answer = differs other refl
never_answered_if_refused front back may refusal _ differs answer = some_test_holds front back refusal answer.0

-- or by a reply that may not be given
pub never_answered_otherwise : (tests : List Test) (may : Reply → Type 0) (reply : Reply) → ((other : Refusal) → reply ≢ Refused other) → (may reply → ⊥) → Answers tests may reply → ⊥
never_answered_otherwise tests may (Refused other) differs never answer = differs other refl
never_answered_otherwise tests may _ differs never answer = never answer.1

-- of tests in a row the first that holds is the refusal
pub first_that_holds : (front back : List Test) (refusal : Refusal) → AllFail front → first_holding (front ++ (true, refusal) ∷ back) ≡ Some refusal
first_that_holds [] back refusal none = refl
first_that_holds ((test, other) ∷ front) back refusal none = rw none.0 (first_that_holds front back refusal none.1)
