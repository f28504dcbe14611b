-- Arrivals that compare as one are one.
use Rattle.std.proofs.Common.{◌≡◌, true, false, Option, Some, None, refl}
use Rattle.std.proofs.lemmas.Bool.Decides.{Decides-eqb}
use Rattle.gomp_events.specs.declared.event.Arrival.{Arrival}
use Rattle.gomp_events.specs.declared.event.Arrival.TheVariants.{Barrier, ShareEnd, RegionEnd}
use Rattle.gomp_events.specs.declared.event.Tag.{Tag}
use Rattle.gomp_events.specs.Tags.{same_arrival, same_tag, tag_differs}
use Rattle.gomp_types.proofs.Booleans.{and_left, and_right, not_false}

same_arrival_is : (a b : Arrival) → same_arrival a b ≡ true → a ≡ b
same_arrival_is Barrier Barrier e = refl
same_arrival_is ShareEnd ShareEnd e = refl
same_arrival_is RegionEnd RegionEnd e = refl
same_arrival_is _ _ e = absurd (cc)

pub same_tag_is : (a b : Tag) → same_tag a b ≡ true → a ≡ b
same_tag_is a b e =
    let kind : a.kind ≡ b.kind = same_arrival_is a.kind b.kind (and_left _ _ e) in
    let shares : a.shares ≡ b.shares = (Decides-eqb a.shares b.shares).0 (and_right _ _ e) in
    rw (kind, shares) refl

pub same_tags : (tag : Tag) (own : Option Tag) → tag_differs tag own ≡ false → (other : Tag) → own ≡ Some other → other ≡ tag
same_tags tag None fine other e = absurd (cc)
same_tags tag (Some found) fine other e =
    let one : found ≡ tag = same_tag_is found tag (not_false (same_tag found tag) fine) in cc
