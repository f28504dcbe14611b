-- Nothing happens in a team that is broken, nor does a member do anything once it has passed the region's end: what each event keeps.
use Rattle.std.proofs.Common.{◌≡◌, ℕ, false, List, [], ◌∷◌, None, inl, inr}
use Rattle.gomp_types.specs.declared.refusal.Place.{Place}
use Rattle.gomp_events.specs.declared.event.Event.{Event}
use Rattle.gomp_events.specs.declared.event.Event.TheVariants.{Break}
use Rattle.gomp_events.specs.Events.{member_of, has_left_region, clash_of}
use Rattle.gomp_events.specs.Laws.{Always, Happened}
use Rattle.gomp_laws.specs.Laws.{HappensUnbroken, HappensInside}

-- an event in a team that is not broken, of a member that is in the region
abbrev pub InTime : Event → List Event → Type 0
InTime event earlier = (clash_of earlier ≡ None) × (has_left_region (member_of event) earlier ≡ false)

-- So nothing happens after a break, nor does a member do anything after the region's end
never_broken : (m : ℕ) (place : Place) (h : List Event) → clash_of h ≡ None → Happened (Break m place) h → ⊥
never_broken m place [] none broke = broke
never_broken m place (Break n other ∷ earlier) none broke = absurd (cc)
never_broken m place (_ ∷ earlier) none (inl e) = absurd (cc)
never_broken m place (_ ∷ earlier) none (inr broke) = never_broken m place earlier none broke

pub unbroken_holds : (event : Event) (earlier : List Event) → InTime event earlier → Always InTime earlier → HappensUnbroken event earlier
unbroken_holds event earlier rule all = λ m place broke. never_broken m place earlier rule.0 broke

pub inside_holds : (event : Event) (earlier : List Event) → InTime event earlier → Always InTime earlier → HappensInside event earlier
inside_holds event earlier rule all = rule.1
