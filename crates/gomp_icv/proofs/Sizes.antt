-- Lists of sizes, part by part.
use Rattle.std.proofs.Common.{◌≡◌, ℕ, ◌≤◌, suc, List, [], ◌∷◌, ◌++◌, Option, Some, None, length, take, refl, ap, ◌∙◌, sym, append_assoc}
use Rattle.std.specs.Option.{option_map}
use Rattle.std.proofs.lemmas.List.{take_at}
use Rattle.gomp_icv.specs.Variables.{AreSizes, max_number, most_sizes}
use Rattle.gomp_icv.specs.EnvValues.{with_size}

-- how much is left
abbrev pub left : Option (List ℕ) → ℕ
left None = 0
left (Some text) = suc (length text)

-- the first four of these sizes and those that are read later
abbrev pub kept_with : List ℕ → Option (List ℕ) → Option (List ℕ)
kept_with kept later = option_map (λ (sizes : List ℕ). take most_sizes (kept ++ sizes)) later

pub one_kept : (kept : List ℕ) (size : ℕ) (later : Option (List ℕ)) → kept_with kept (with_size (Some size) later) ≡ kept_with (kept ++ size ∷ []) later
one_kept kept size None = refl
one_kept kept size (Some sizes) = ap (λ (all : List ℕ). Some (take most_sizes all)) (sym (append_assoc kept (size ∷ []) sizes))

pub one_dropped : (kept : List ℕ) (size : ℕ) (later : Option (List ℕ)) → length kept ≡ most_sizes → kept_with kept (with_size (Some size) later) ≡ kept_with kept later
one_dropped kept size None full = refl
one_dropped kept size (Some sizes) full = ap (λ (all : List ℕ). Some all) (take_at kept (size ∷ sizes) most_sizes full ∙ sym (take_at kept sizes most_sizes full))

pub sizes_with_one_more : (kept : List ℕ) (size : ℕ) → AreSizes kept → 1 ≤ size → size ≤ max_number → AreSizes (kept ++ size ∷ [])
sizes_with_one_more [] size all some most = (some, most, tt)
sizes_with_one_more (s ∷ kept) size all some most = (all.0, all.1, sizes_with_one_more kept size all.2 some most)
