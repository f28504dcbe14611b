-- An arrival is the same as itself, and no other, whatever its kind and its number of shares.
use Rattle.std.proofs.Common.{◌≡◌, ◌≢◌, ℕ, true, false, Some, None, refl, inl, inr}
use Rattle.std.proofs.lemmas.Bool.{cases_Bool}
use Rattle.gomp_events.specs.declared.event.Arrival.{Arrival}
use Rattle.gomp_events.specs.declared.event.Arrival.TheVariants.{Barrier, ShareEnd, RegionEnd}
use Rattle.gomp_events.specs.declared.event.Tag.{Tag}
use Rattle.gomp_events.specs.Tags.{same_arrival, same_tag, tag_with, tag_differs}
use Rattle.gomp_types.proofs.Booleans.{same_number}
use Rattle.gomp_events.proofs.TagsCompared.{same_tag_is}

arrival_same_as_itself : (one : Arrival) → same_arrival one one ≡ true
arrival_same_as_itself Barrier = refl
arrival_same_as_itself ShareEnd = refl
arrival_same_as_itself RegionEnd = refl

pub tag_same_as_itself : (tag : Tag) → same_tag tag tag ≡ true
tag_same_as_itself tag = rw (arrival_same_as_itself tag.kind, same_number tag.shares) refl

pub tag_differs_from_another : (tag other : Tag) → other ≢ tag → tag_differs tag (Some other) ≡ true
tag_differs_from_another tag other differ = elim (cases_Bool (same_tag other tag)) [ inl same ↦ absurd (differ (same_tag_is other tag same)) | inr apart ↦ rw apart refl ]

pub tag_never_differs_from_itself : (tag : Tag) → (tag_differs tag (Some tag) ≡ false) × (tag_differs tag None ≡ false)
tag_never_differs_from_itself tag = rw (tag_same_as_itself tag) (refl, refl)

pub tag_has_its_kind_and_shares : (kind : Arrival) (shares : ℕ) → tag_with kind shares ≡ record { kind = kind; shares = shares }
tag_has_its_kind_and_shares kind shares = refl
