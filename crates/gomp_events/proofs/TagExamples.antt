-- When an arrival differs from those of the other members.
use Rattle.std.proofs.Common.{◌≡◌, true, false, [], ◌∷◌, Some, None, refl}
use Rattle.std.specs.Prelude.{map}
use Rattle.gomp_events.specs.declared.event.Arrival.TheVariants.{Barrier, ShareEnd, RegionEnd}
use Rattle.gomp_events.specs.Tags.{tag_with, tag_differs, same_arrival, same_tag}
use Rattle.gomp_events.specs.EventLists.{at}

-- the tag of an arrival has its kind and the number of shares
pub tag_of_arrival : tag_with ShareEnd 3 ≡ record { kind = ShareEnd; shares = 3 }
tag_of_arrival = refl

-- a barrier where nobody arrived differs from none; one where some did differs where its tag does
pub tags_that_differ :
    map (tag_differs (at Barrier 1)) (None ∷ Some (at Barrier 1) ∷ Some (at RegionEnd 1) ∷ Some (at ShareEnd 1) ∷ Some (at Barrier 0) ∷ Some (at Barrier 2) ∷ [])
    ≡ false ∷ false ∷ true ∷ true ∷ true ∷ true ∷ []
tags_that_differ = refl

-- two tags that differ in the kind, and in the number of shares
pub tags_differ : map (same_tag (at Barrier 1)) (at Barrier 1 ∷ at ShareEnd 1 ∷ at Barrier 2 ∷ []) ≡ true ∷ false ∷ false ∷ []
tags_differ = refl

-- each kind of arrival
pub arrivals_differ : map (λ one. map (same_arrival one) (Barrier ∷ ShareEnd ∷ RegionEnd ∷ [])) (Barrier ∷ ShareEnd ∷ RegionEnd ∷ [])
    ≡ (true ∷ false ∷ false ∷ []) ∷ (false ∷ true ∷ false ∷ []) ∷ (false ∷ false ∷ true ∷ []) ∷ []
arrivals_differ = refl
