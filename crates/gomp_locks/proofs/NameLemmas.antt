-- The names of a book: one is looked up whole, and what a change of its owner leaves.
use Rattle.std.proofs.Common.{◌≡◌, ℕ, ◌+◌, Bool, true, false, List, [], ◌∷◌, Option, Some, None, refl, ap, sym, ◌∙◌, cond, arith}
use Rattle.std.specs.Prelude.{IsSome, bytes_eq, ◌==◌}
use Rattle.std.specs.Option.{option_flatten, option_map, unwrap_or}
use Rattle.std.specs.Ordering.{nat_cmp}
use Rattle.std.specs.declared.cmp.Ordering.{Ordering}
use Rattle.std.specs.declared.cmp.Ordering.TheVariants.{Less, Equal, Greater}
use Rattle.std.specs.Cmp.{IsTotalOrder}
use Rattle.std.specs.Cmp.Lexicographic.{slice_cmp, nat_list_cmp_total}
use Rattle.std.specs.List.Sorted.{IsStrictlySortedBy}
use Rattle.std.specs.Map.{lookup, keys_of, set_value}
use Rattle.std.specs.BTreeMap.{is_at, insert_entry}
use Rattle.std.proofs.lemmas.Map.{lookup-none}
use Rattle.std.proofs.lemmas.Map.Keys.{sorted_tail}
use Rattle.std.proofs.lemmas.Map.Entries.{none_below_head, sum_by-insert_entry}
use Rattle.std.proofs.lemmas.Map.Text.{is_eq-slice_cmp}
use Rattle.gomp_types.specs.declared.task.Owner.{Owner}
use Rattle.gomp_types.specs.Owners.{same_owner}
use Rattle.gomp_types.proofs.Booleans.{is_equal, and_left, and_right}
use Rattle.gomp_locks.specs.Book.{owned_by, names_held}

-- the map's look-up is by the whole name
pub found_whole : {X : Type 0} (name : List ℕ) (names : List (List ℕ × X)) → lookup (is_at (slice_cmp nat_cmp name)) names ≡ lookup (bytes_eq name) names
found_whole name [] = refl
found_whole name (entry ∷ names) = rw (is_eq-slice_cmp name entry.0, found_whole name names) refl

-- a value that is written over one that is there is one that is put
pub written_is_put : {K X : Type 0} (order : K → K → Ordering) → IsTotalOrder order → (k : K) (v : X) (entries : List (K × X)) → IsStrictlySortedBy order (keys_of entries) → IsSome (lookup (is_at (order k)) entries) →
    set_value (is_at (order k)) entries v ≡ insert_entry order entries k v
written_is_put order total k v [] sorted found = absurd (cc)
written_is_put order total k v (entry ∷ entries) sorted found = by_order (order k entry.0) refl (written_is_put order total k v entries (sorted_tail order entry.0 (keys_of entries) sorted))
  where
    by_order : (o : Ordering) → order k entry.0 ≡ o → (IsSome (lookup (is_at (order k)) entries) → set_value (is_at (order k)) entries v ≡ insert_entry order entries k v) → set_value (is_at (order k)) (entry ∷ entries) v ≡ insert_entry order (entry ∷ entries) k v
    by_order Less e later = absurd (let none = lookup-none (is_at (order k)) (entry ∷ entries) (none_below_head total k entry entries sorted e) in let never : false ≡ true = rw none at found in cc)
    by_order Equal e later = rw e refl
    by_order Greater e later = rw e (ap (λ rest. entry ∷ rest) (later (rw e at found)))

-- 1 if it is so
abbrev pub one_if : Bool → ℕ
one_if b = cond b 1 0

-- how many an owner holds after the owner of one name was changed
pub held_after : (owner : Owner) (name : List ℕ) (held : Option Owner) (names : List (List ℕ × Option Owner)) → IsStrictlySortedBy (slice_cmp nat_cmp) (keys_of names) →
    names_held owner (insert_entry (slice_cmp nat_cmp) names name held) + one_if (owned_by owner (option_flatten (lookup (bytes_eq name) names))) ≡ names_held owner names + one_if (owned_by owner held)
held_after owner name held names sorted =
    let sums = sum_by-insert_entry (λ other. cond (owned_by owner other) 1 0) nat_list_cmp_total names name held sorted in
    ap (λ (n : ℕ). names_held owner (insert_entry (slice_cmp nat_cmp) names name held) + n) (sym (before (lookup (is_at (slice_cmp nat_cmp name)) names) (lookup (bytes_eq name) names) (found_whole name names))) ∙ sums
  where
    before : (found whole : Option (Option Owner)) → found ≡ whole → unwrap_or (option_map (λ other. one_if (owned_by owner other)) found) 0 ≡ one_if (owned_by owner (option_flatten whole))
    before None whole e = rw (← e) refl
    before (Some other) whole e = rw (← e) refl

-- a name that nobody held counts for its new owner
pub held_more : (owner other : Owner) (name : List ℕ) (names : List (List ℕ × Option Owner)) → IsStrictlySortedBy (slice_cmp nat_cmp) (keys_of names) → option_flatten (lookup (bytes_eq name) names) ≡ None →
    names_held other (insert_entry (slice_cmp nat_cmp) names name (Some owner)) ≡ names_held other names + one_if (same_owner owner other)
held_more owner other name names sorted free = let sums = held_after other name (Some owner) names sorted in let sum = rw free at sums in omega (arith, sum)

-- owners that are the same are one
pub one_owner : (one other : Owner) → same_owner one other ≡ true → one ≡ other
one_owner one other e = λ i. record {
  team = is_equal one.team other.team (and_left (one.team == other.team) _ e) i;
  member = is_equal one.member other.member (and_left (one.member == other.member) _ (and_right (one.team == other.team) _ e)) i;
  task = is_equal one.task other.task (and_right (one.member == other.member) _ (and_right (one.team == other.team) _ e)) i;
}

-- the one that owns it
pub owned_by_one : (owner : Owner) (found : Option Owner) → owned_by owner found ≡ true → found ≡ Some owner
owned_by_one owner None owned = absurd (cc)
owned_by_one owner (Some other) owned = ap Some (one_owner other owner owned)

-- a name that is left counts no more for the owner that held it
pub held_less : (owner other : Owner) (name : List ℕ) (names : List (List ℕ × Option Owner)) → IsStrictlySortedBy (slice_cmp nat_cmp) (keys_of names) → owned_by owner (option_flatten (lookup (bytes_eq name) names)) ≡ true →
    names_held other (insert_entry (slice_cmp nat_cmp) names name None) + one_if (same_owner owner other) ≡ names_held other names
held_less owner other name names sorted owned =
    let sums = held_after other name None names sorted in
    let sum = rw (owned_by_one owner (option_flatten (lookup (bytes_eq name) names)) owned) at sums in omega (arith, sum)
