-- Where the innermost stands that an end ends, and what is written of an end.
use Rattle.std.proofs.Common.{◌≡◌, ℕ, zero, suc, ◌+◌, ◌<◌, List, [], ◌∷◌, ◌++◌, Some, None, length, drop, map, reverse, get_or, refl, ap, arith}
use Rattle.std.proofs.lemmas.List.{drop_more, map-append, reverse-append}
use Rattle.gomp_ompt.specs.declared.record.Record.{Record}
use Rattle.gomp_trace.specs.Lanes.{one_further, innermost, ends, ended, all_ended, at_time, all_at}

-- one more in front of those behind a place
pub innermost_from : (end : Record) (begun : List Record) (place : ℕ) (event : Record) → place < length begun → innermost end (drop (place + 1) begun) ≡ None →
    innermost end (drop place begun) ≡ one_further None (ends end (get_or begun place event))
innermost_from end begun place event below none = rw (drop_more begun place event below, none) refl

-- behind a place, and in the whole
pub innermost_whole : (end : Record) (begun : List Record) (place : ℕ) → innermost end (drop place begun) ≡ Some 0 → innermost end begun ≡ Some place
innermost_whole end begun place found = shifted place begun found
  where
    shifted : (place : ℕ) (begun : List Record) → innermost end (drop place begun) ≡ Some 0 → innermost end begun ≡ Some place
    shifted zero begun found = found
    shifted (suc place) [] found = absurd (cc)
    shifted (suc place) (event ∷ begun) found = rw (shifted place begun found) (ap Some (omega arith))

-- the ends of one more in front of those behind a place
pub all_ended_more : (time member : ℕ) (begun : List Record) (place : ℕ) (event : Record) → place < length begun →
    all_at time member (all_ended (drop place begun)) ≡ all_at time member (all_ended (drop (place + 1) begun)) ++ at_time time member (ended (get_or begun place event)) ∷ []
all_ended_more time member begun place event below =
    let inner = drop (place + 1) begun in
    let outer = get_or begun place event in
    rw (drop_more begun place event below, reverse-append (outer ∷ []) inner, map-append ended (reverse inner) (outer ∷ []), map-append (at_time time member) (map ended (reverse inner)) (ended outer ∷ [])) refl
