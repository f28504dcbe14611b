-- Whose a name is: after another name was written, and of all names one that an owner holds.
use Rattle.std.proofs.Common.{◌≡◌, ℕ, ◌+◌, ◌<◌, Bool, true, false, List, [], ◌∷◌, Option, None, refl, ap, sym, ◌∙◌, arith}
use Rattle.std.specs.Prelude.{bytes_eq}
use Rattle.std.specs.Option.{option_flatten}
use Rattle.std.specs.Ordering.{nat_cmp, is_eq}
use Rattle.std.specs.declared.cmp.Ordering.{Ordering}
use Rattle.std.specs.declared.cmp.Ordering.TheVariants.{Less, Equal, Greater}
use Rattle.std.specs.Cmp.{eq_by_cmp_equiv}
use Rattle.std.specs.Cmp.Lexicographic.{slice_cmp, nat_list_cmp_total}
use Rattle.std.specs.List.Sorted.{IsStrictlySortedBy}
use Rattle.std.specs.Map.{lookup, keys_of, values_of}
use Rattle.std.specs.BTreeMap.{is_at, insert_entry}
use Rattle.std.proofs.lemmas.Map.{lookup-none}
use Rattle.std.proofs.lemmas.Map.Keys.{sorted_tail, IsDistinct-from_sorted}
use Rattle.std.proofs.lemmas.Map.Entries.{none_past_head}
use Rattle.std.proofs.lemmas.Map.Text.{is_eq-slice_cmp}
use Rattle.std.proofs.lemmas.List.Sums.{sum_by-cons}
use Rattle.std.proofs.lemmas.Slice.Eq.{bytes_eq-Decides}
use Rattle.gomp_types.specs.declared.task.Owner.{Owner}
use Rattle.gomp_locks.specs.Book.{owned_by, names_held}
use Rattle.gomp_locks.proofs.NameLemmas.{found_whole, one_if}

-- names that are equal are one
pub one_name : (name other : List ℕ) → bytes_eq name other ≡ true → name ≡ other
one_name name other e = (bytes_eq-Decides name other).0 e

pub same_name : (name : List ℕ) → bytes_eq name name ≡ true
same_name name = (bytes_eq-Decides name name).1 refl

-- another name is found as before
pub another_name : {X : Type 0} (name other : List ℕ) (value : X) (names : List (List ℕ × X)) → bytes_eq other name ≡ false → lookup (bytes_eq other) (insert_entry (slice_cmp nat_cmp) names name value) ≡ lookup (bytes_eq other) names
another_name name other value [] differ = rw differ refl
another_name name other value (entry ∷ names) differ = by_order (slice_cmp nat_cmp name entry.0) refl (another_name name other value names differ)
  where
    by_order : (o : Ordering) → slice_cmp nat_cmp name entry.0 ≡ o → lookup (bytes_eq other) (insert_entry (slice_cmp nat_cmp) names name value) ≡ lookup (bytes_eq other) names →
        lookup (bytes_eq other) (insert_entry (slice_cmp nat_cmp) (entry ∷ names) name value) ≡ lookup (bytes_eq other) (entry ∷ names)
    by_order Less e later = rw (e, differ) refl
    by_order Equal e later =
        let same : name ≡ entry.0 = one_name name entry.0 (sym (is_eq-slice_cmp name entry.0) ∙ ap is_eq e) in
        let apart : bytes_eq other entry.0 ≡ false = ap (λ (n : List ℕ). bytes_eq other n) (sym same) ∙ differ in rw (e, apart) refl
    by_order Greater e later = rw (e, later) refl

-- a name of the later entries is not the first
later_name : (name : List ℕ) (entry : List ℕ × Option Owner) (names : List (List ℕ × Option Owner)) → IsStrictlySortedBy (slice_cmp nat_cmp) (keys_of (entry ∷ names)) → bytes_eq name entry.0 ≡ true → lookup (bytes_eq name) names ≡ None
later_name name entry names sorted same =
    sym (found_whole name names)
    ∙ lookup-none (is_at (slice_cmp nat_cmp name)) names (none_past_head (eq_by_cmp_equiv nat_list_cmp_total) name entry names (IsDistinct-from_sorted (slice_cmp nat_cmp) (keys_of (entry ∷ names)) sorted) (is_eq-slice_cmp name entry.0 ∙ same))

-- who holds some names holds one
pub one_that_is_held : (owner : Owner) (names : List (List ℕ × Option Owner)) → IsStrictlySortedBy (slice_cmp nat_cmp) (keys_of names) → 0 < names_held owner names → (name : List ℕ) × (owned_by owner (option_flatten (lookup (bytes_eq name) names)) ≡ true)
one_that_is_held owner [] sorted some = absurd (omega (arith, some))
one_that_is_held owner (entry ∷ names) sorted some = by_first (owned_by owner entry.1) refl (one_that_is_held owner names (sorted_tail (slice_cmp nat_cmp) entry.0 (keys_of names) sorted))
  where
    by_name : (name : List ℕ) (b : Bool) → bytes_eq name entry.0 ≡ b → owned_by owner (option_flatten (lookup (bytes_eq name) names)) ≡ true → owned_by owner (option_flatten (lookup (bytes_eq name) (entry ∷ names))) ≡ true
    by_name name true e owned = absurd (let never = rw (later_name name entry names sorted e) at owned in cc)
    by_name name false e owned = rw e owned

    by_first : (b : Bool) → owned_by owner entry.1 ≡ b → (0 < names_held owner names → (name : List ℕ) × (owned_by owner (option_flatten (lookup (bytes_eq name) names)) ≡ true)) →
        (name : List ℕ) × (owned_by owner (option_flatten (lookup (bytes_eq name) (entry ∷ names))) ≡ true)
    by_first true e later = (entry.0, rw (same_name entry.0) e)
    by_first false e later =
        let sums : names_held owner (entry ∷ names) ≡ one_if (owned_by owner entry.1) + names_held owner names = sum_by-cons (λ held. one_if (owned_by owner held)) entry.1 (values_of names) in
        let none : one_if (owned_by owner entry.1) ≡ 0 = ap one_if e in
        let found = later (omega (arith, some, sums, none)) in (found.0, by_name found.0 (bytes_eq found.0 entry.0) refl found.1)
