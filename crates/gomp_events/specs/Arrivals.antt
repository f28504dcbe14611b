-- When a member may arrive at a barrier and pass it, and the laws of arrivals. OpenMP API 5.2, section 15.3.
use Rattle.std.specs.Prelude.{ℕ, ◌<◌, ◌≡◌, true, false, List, Some}
use Rattle.gomp_events.specs.declared.event.Tag.{Tag}
use Rattle.gomp_events.specs.declared.event.Event.{Event}
use Rattle.gomp_events.specs.declared.event.Event.TheVariants.{Arrive, Pass}
use Rattle.gomp_events.specs.declared.event.Arrival.TheVariants.{RegionEnd}
use Rattle.gomp_events.specs.Events.{barriers_passed, tag_at, at_region_end}
use Rattle.gomp_events.specs.Cancels.{is_cancelled}
use Rattle.gomp_events.specs.Goals.{may_pass}
use Rattle.gomp_events.specs.Laws.{Always, Happened}

-- a member arrives at its next barrier, with the tag of all that arrived there before; in a cancelled region only at the region's end, whatever others did
pub record MayArrive (barrier m : ℕ) (tag : Tag) (earlier : List Event) : Type 0 where
  pub number : barrier ≡ barriers_passed m earlier
  pub same : is_cancelled earlier ≡ false → (other : Tag) → tag_at barrier earlier ≡ Some other → other ≡ tag
  pub ends : is_cancelled earlier ≡ true → tag.kind ≡ RegionEnd

-- a member passes its next barrier if every member has arrived and the tasks bound to it are complete; at the region's end, if all tasks are; in a cancelled region only its end
pub record MayPass (members barrier m : ℕ) (earlier : List Event) : Type 0 where
  pub number : barrier ≡ barriers_passed m earlier
  pub met : may_pass members m earlier ≡ true

-- the rule of the arrivals alone
abbrev pub ArrivalRule : ℕ → Event → List Event → Type 0
ArrivalRule members (Arrive barrier m tag) earlier = MayArrive barrier m tag earlier
ArrivalRule members (Pass barrier m) earlier = MayPass members barrier m earlier
ArrivalRule members _ earlier = Unit {0}

-- a member arrives at and passes its barriers one by one, by their numbers
abbrev pub BarriersOneByOne : Event → List Event → Type 0
BarriersOneByOne (Arrive barrier m tag) earlier = barrier ≡ barriers_passed m earlier
BarriersOneByOne (Pass barrier m) earlier = barrier ≡ barriers_passed m earlier
BarriersOneByOne _ earlier = Unit {0}

-- in a region that is not cancelled a member arrives at a barrier with the tag of every other that has
abbrev pub SameTags : Event → List Event → Type 0
SameTags (Arrive barrier m tag) earlier = is_cancelled earlier ≡ false → (n : ℕ) (other : Tag) → Happened (Arrive barrier n other) earlier → other ≡ tag
SameTags _ earlier = Unit {0}

-- in a cancelled one it arrives at the region's end alone, and passes that alone
abbrev pub OnlyEnds : Event → List Event → Type 0
OnlyEnds (Arrive barrier m tag) earlier = is_cancelled earlier ≡ true → tag.kind ≡ RegionEnd
OnlyEnds (Pass barrier m) earlier = is_cancelled earlier ≡ true → at_region_end m earlier ≡ true
OnlyEnds _ earlier = Unit {0}

-- Same arrivals (OpenMP API 5.2, section 15.3: every member meets the same barriers in the same order).
pub record SameArrivals (h : List Event) : Type 0 where
  -- a member goes through them one by one
  pub one_by_one : Always BarriersOneByOne h
  -- and all members arrive at a barrier with one tag
  pub tags : Always SameTags h
  -- once the region is cancelled they go to its end
  pub ends : Always OnlyEnds h

-- Barrier law (OpenMP API 5.2, section 15.3.1): a member passes a barrier only if every member has arrived, unless the region is cancelled.
abbrev pub PassesAfterAll : ℕ → Event → List Event → Type 0
PassesAfterAll members (Pass barrier m) earlier = is_cancelled earlier ≡ false → (x : ℕ) → x < members → (tag : Tag) × Happened (Arrive barrier x tag) earlier
PassesAfterAll members _ earlier = Unit {0}

-- the region's end it passes only if every member has arrived there, cancelled or not
abbrev pub EndsAfterAll : ℕ → Event → List Event → Type 0
EndsAfterAll members (Pass barrier m) earlier = at_region_end m earlier ≡ true → (x : ℕ) → x < members → at_region_end x earlier ≡ true
EndsAfterAll members _ earlier = Unit {0}

-- what the arrivals alone keep, however they are kept
pub record ArrivalLaws (members : ℕ) (h : List Event) : Type 0 where
  pub same_arrivals : SameArrivals h
  pub passes : Always (PassesAfterAll members) h
  pub ends : Always (EndsAfterAll members) h
