-- What a size that is not refused is.
use Rattle.std.proofs.Common.{◌≡◌, ℕ, ◌≤◌, ◌<◌, true, refl, arith, inl, inr, min, Result, Ok, Err}
use Rattle.std.specs.Prelude.{nat_le, OkIff}
use Rattle.std.specs.Result.{result_unwrap_or}
use Rattle.std.proofs.lemmas.Bool.{cases_Bool}
use Rattle.std.proofs.lemmas.Bool.Decides.{nat_tests}
use Rattle.gomp_types.specs.declared.limits.TheConstants.{MAX_MEMBERS}
use Rattle.gomp_service.specs.Statuses.{is_size}

pub size_by : (n : ℕ) → (((1 ≤ n) × (n ≤ MAX_MEMBERS) → ⊥) → ⊥) → (1 ≤ n) × (n ≤ MAX_MEMBERS)
size_by n wrong = elim (cases_Bool (nat_le 1 n)) [
  | inl some ↦ elim (cases_Bool (nat_le n MAX_MEMBERS)) [
    | inl few ↦ (grind (arith, nat_tests, some), grind (arith, nat_tests, few))
    | inr many ↦ absurd (wrong (λ both. let le = both.1 in grind (arith, nat_tests, many, le)))
  ]
  | inr none ↦ absurd (wrong (λ both. let le = both.0 in grind (arith, nat_tests, none, le)))
]

pub is_size_of : (n : ℕ) → (1 ≤ n) × (n ≤ MAX_MEMBERS) → is_size n ≡ true
is_size_of n size =
    let some : nat_le 1 n ≡ true = let le = size.0 in grind (arith, nat_tests, le) in
    let few : nat_le n MAX_MEMBERS ≡ true = let le = size.1 in grind (arith, nat_tests, le) in
    rw (some, few) refl

pub same_count : (n count : ℕ) → n ≡ min count 65535 → n ≤ MAX_MEMBERS → count ≡ n
same_count n count is le = grind (arith, is, le)

-- what a conversion gives that fails above the largest number of its type, with that in the place of a failure
pub size_or_largest : {E : Type 0} (tried : Result ℕ E) (count : ℕ) → OkIff tried (count < 65536) count → result_unwrap_or tried 65535 ≡ min count 65535
size_or_largest (Ok size) count fits = let same = fits.0 in let less = fits.1 in grind (arith, same, less)
size_or_largest (Err error) count fits = grind (arith, fits)
