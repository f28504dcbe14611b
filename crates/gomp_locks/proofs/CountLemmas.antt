-- The list of those who hold a name: what putting an owner in and taking it out means for each owner.
use Rattle.std.proofs.Common.{◌≡◌, ℕ, ◌+◌, ◌<◌, ◌≤◌, true, false, List, [], ◌∷◌, ◌++◌, Option, Some, None, refl, ap, sym, ◌∙◌, arith, length, get_or}
use Rattle.std.specs.Prelude.{cond, if◌then◌else◌, bytes_eq, Result, Ok, Err, OnErr, IfSome, IfNone, IsTrue, is_some, ◌↔◌}
use Rattle.std.specs.Ordering.{nat_cmp}
use Rattle.std.specs.Cmp.Lexicographic.{slice_cmp, nat_list_cmp_total}
use Rattle.std.specs.Option.{option_flatten, option_map, unwrap_or}
use Rattle.std.specs.List.{All, sum_by, swap_remove}
use Rattle.std.specs.List.Sorted.{IsStrictlySortedBy}
use Rattle.std.specs.Map.{lookup, keys_of, values_of}
use Rattle.std.specs.BTreeMap.{is_at, insert_entry}
use Rattle.std.proofs.lemmas.List.{length_push}
use Rattle.std.proofs.lemmas.List.Elements.{All-head, All-tail}
use Rattle.std.proofs.lemmas.List.Sums.{sum_by_push, sum_by-swap_remove, sum_by-cons}
use Rattle.std.proofs.lemmas.Map.Entries.{sum_by-insert_entry}
use Rattle.gomp_types.specs.declared.task.Owner.{Owner}
use Rattle.gomp_types.specs.Owners.{same_owner}
use Rattle.gomp_locks.specs.Book.{owned_by, names_held, holds_of_name}
use Rattle.gomp_locks.specs.Counts.{times_in, AreHolders}
use Rattle.gomp_locks.proofs.NameLemmas.{one_owner, one_if, found_whole, owned_by_one, held_more, held_less}
use Rattle.gomp_locks.proofs.AnswerRefutations.{own_holder}

-- how many names are held after the owner of one name was changed
pub holds_after : (name : List ℕ) (held : Option Owner) (names : List (List ℕ × Option Owner)) → IsStrictlySortedBy (slice_cmp nat_cmp) (keys_of names) →
    sum_by holds_of_name (values_of (insert_entry (slice_cmp nat_cmp) names name held)) + holds_of_name (option_flatten (lookup (bytes_eq name) names)) ≡ sum_by holds_of_name (values_of names) + holds_of_name held
holds_after name held names sorted =
    let sums = sum_by-insert_entry holds_of_name nat_list_cmp_total names name held sorted in
    ap (λ (n : ℕ). sum_by holds_of_name (values_of (insert_entry (slice_cmp nat_cmp) names name held)) + n) (sym (before (lookup (is_at (slice_cmp nat_cmp name)) names) (lookup (bytes_eq name) names) (found_whole name names))) ∙ sums
  where
    before : (found whole : Option (Option Owner)) → found ≡ whole → unwrap_or (option_map holds_of_name found) 0 ≡ holds_of_name (option_flatten whole)
    before None whole e = rw (← e) refl
    before (Some other) whole e = rw (← e) refl

-- no more names are held than there are
pub holds_within : (names : List (List ℕ × Option Owner)) → sum_by holds_of_name (values_of names) ≤ length names
holds_within [] = omega arith
holds_within (entry ∷ names) = let first = at_most_one entry.1 in let rest = holds_within names in let sums = sum_by-cons holds_of_name entry.1 (values_of names) in omega (arith, first, rest, sums)
  where
    at_most_one : (held : Option Owner) → holds_of_name held ≤ 1
    at_most_one None = omega arith
    at_most_one (Some owner) = omega arith

-- a fact for an error, where it holds anyhow
pub on_error : {A E : Type 0} {P : Type 0} (result : Result A E) → P → OnErr result P
on_error (Ok value) p = tt
on_error (Err error) p = p

-- who is no one of a list is there no time
pub times_none : (owner : Owner) (holders : List Owner) → All (λ other. same_owner other owner ≡ false) holders → times_in owner holders ≡ 0
times_none owner [] none = refl
times_none owner (one ∷ holders) none =
    let rest = times_none owner holders (All-tail (λ other. same_owner other owner ≡ false) one holders none) in
    let first : same_owner one owner ≡ false = All-head (λ other. same_owner other owner ≡ false) one holders none in
    sum_by-cons (λ other. one_if (same_owner other owner)) one holders ∙ (λ i. cond (first i) 1 0 + rest i)

-- who is at a place of a list is there
pub times_some : (owner : Owner) (holders : List Owner) (place : ℕ) → place < length holders → ((d : Owner) → same_owner (get_or holders place d) owner ≡ true) → 0 < times_in owner holders
times_some owner holders place within here = let less = rw (here owner) at (sum_by-swap_remove (λ one. one_if (same_owner one owner)) holders place owner within) in omega (arith, less)

-- so an owner is found exactly if it is there
pub found_if_there : (owner : Owner) (holders : List Owner) (found : Option ℕ) → IfSome found (λ place. place < length holders) → IfSome found (λ place. (d : Owner) → same_owner (get_or holders place d) owner ≡ true) → IfNone found (times_in owner holders ≡ 0) →
    IsTrue (is_some found) ↔ (0 < times_in owner holders)
found_if_there owner holders None within here none = ((λ never. absurd (cc)), (λ some. absurd (omega (arith, some, none))))
found_if_there owner holders (Some place) within here none = ((λ found. times_some owner holders place within here), (λ some. refl))

-- a list without the one at this place
pub times_less : (owner other : Owner) (holders : List Owner) (place : ℕ) → place < length holders → ((d : Owner) → same_owner (get_or holders place d) owner ≡ true) →
    times_in other (swap_remove holders place owner) + (if same_owner owner other then 1 else 0) ≡ times_in other holders
times_less owner other holders place within here =
    let same : get_or holders place owner ≡ owner = one_owner (get_or holders place owner) owner (here owner) in
    let less = sum_by-swap_remove (λ one. one_if (same_owner one other)) holders place owner within in
    ap (λ (one : Owner). times_in other (swap_remove holders place owner) + one_if (same_owner one other)) (sym same) ∙ less

-- one more holder, with a name that nobody held
pub holders_more : (owner : Owner) (name : List ℕ) (holders : List Owner) (names : List (List ℕ × Option Owner)) (room more : ℕ) → AreHolders holders names room → IsStrictlySortedBy (slice_cmp nat_cmp) (keys_of names) → option_flatten (lookup (bytes_eq name) names) ≡ None →
    length (insert_entry (slice_cmp nat_cmp) names name (Some owner)) ≤ more → AreHolders (holders ++ owner ∷ []) (insert_entry (slice_cmp nat_cmp) names name (Some owner)) more
holders_more owner name holders names room more are sorted free fit = record {
  counted = λ other. let one = sum_by_push (λ one. one_if (same_owner one other)) holders owner in let held = held_more owner other name names sorted free in let before = are.counted other in omega (arith, one, held, before);
  all = let sums = rw free at (holds_after name (Some owner) names sorted) in let before = are.all in omega (arith, sums, before, length_push holders owner);
  fit = fit;
}

-- there is room for that holder, if there is room for as many as there are names then
pub holders_room : (owner : Owner) (name : List ℕ) (holders : List Owner) (names : List (List ℕ × Option Owner)) (room : ℕ) → AreHolders holders names room → IsStrictlySortedBy (slice_cmp nat_cmp) (keys_of names) → option_flatten (lookup (bytes_eq name) names) ≡ None →
    length holders < length (insert_entry (slice_cmp nat_cmp) names name (Some owner))
holders_room owner name holders names room are sorted free =
    let sums = rw free at (holds_after name (Some owner) names sorted) in let before = are.all in let within = holds_within (insert_entry (slice_cmp nat_cmp) names name (Some owner)) in omega (arith, sums, before, within)

-- one holder less, with a name that its owner leaves
pub holders_less : (owner : Owner) (name : List ℕ) (holders left : List Owner) (names : List (List ℕ × Option Owner)) (room : ℕ) → AreHolders holders names room → IsStrictlySortedBy (slice_cmp nat_cmp) (keys_of names) → owned_by owner (option_flatten (lookup (bytes_eq name) names)) ≡ true →
    ((other : Owner) → times_in other left + (if same_owner owner other then 1 else 0) ≡ times_in other holders) → length left + 1 ≡ length holders →
    length (insert_entry (slice_cmp nat_cmp) names name None) ≡ length names → AreHolders left (insert_entry (slice_cmp nat_cmp) names name None) room
holders_less owner name holders left names room are sorted owned times len as_many = record {
  counted = λ other. let one = times other in let held = held_less owner other name names sorted owned in let before = are.counted other in omega (arith, one, held, before);
  all = let sums = rw (owned_by_one owner (option_flatten (lookup (bytes_eq name) names)) owned) at (holds_after name None names sorted) in let before = are.all in omega (arith, sums, before, len);
  fit = let before = are.fit in omega (arith, before, as_many);
}

-- who holds a name is in the list
pub some_are_held : (owner : Owner) (name : List ℕ) (names : List (List ℕ × Option Owner)) → IsStrictlySortedBy (slice_cmp nat_cmp) (keys_of names) → owned_by owner (option_flatten (lookup (bytes_eq name) names)) ≡ true → 0 < names_held owner names
some_are_held owner name names sorted owned =
    let less : names_held owner (insert_entry (slice_cmp nat_cmp) names name None) + 1 ≡ names_held owner names = rw (own_holder owner) at (held_less owner owner name names sorted owned) in omega (arith, less)

pub holds_some : (owner : Owner) (name : List ℕ) (holders : List Owner) (names : List (List ℕ × Option Owner)) (room : ℕ) → AreHolders holders names room → IsStrictlySortedBy (slice_cmp nat_cmp) (keys_of names) → owned_by owner (option_flatten (lookup (bytes_eq name) names)) ≡ true →
    0 < times_in owner holders
holds_some owner name holders names room are sorted owned = let some = some_are_held owner name names sorted owned in let before = are.counted owner in omega (arith, some, before)
