-- What a row of tests on what is seen tells of the events, and what a member sees that has just entered a share: for the crates of the calls above.
use Rattle.std.proofs.Common.{◌≡◌, ℕ, ◌<◌, false, List, ◌∷◌, Option, Some, refl, ap, ◌∙◌, sym}
use Rattle.gomp_types.specs.declared.refusal.Refusal.{Refusal}
use Rattle.gomp_types.specs.declared.shape.Shape.{Shape}
use Rattle.gomp_events.specs.declared.event.Event.{Event}
use Rattle.gomp_events.specs.declared.event.Event.TheVariants.{Enter}
use Rattle.gomp_types.specs.Tests.{Test, first_holding}
use Rattle.gomp_events.specs.Events.{open_share, has_drained, in_part}
use Rattle.gomp_types.proofs.Booleans.{same_number}
use Rattle.gomp_events.specs.declared.seen.Seen.{Seen}
use Rattle.gomp_shares.specs.Calls.{CanClaim}
use Rattle.gomp_events.specs.Seen.{seen_of}

-- a row of tests gives of the events what it gives of what is seen
pub row_is : (tests : Seen → List Test) (seen told : Seen) (found : Option Refusal) → seen ≡ told → found ≡ first_holding (tests seen) → first_holding (tests told) ≡ found
row_is tests seen told found e is = sym (is ∙ ap (λ (s : Seen). first_holding (tests s)) e)

-- a member that has just entered a share is in it, and in no part of it
pub open_entered : (m i : ℕ) (shape : Shape) (h : List Event) → open_share m (Enter i m shape ∷ h) ≡ Some (i, shape)
open_entered m i shape h = rw (same_number m) refl

pub part_entered : (m i : ℕ) (shape : Shape) (h : List Event) → in_part m (Enter i m shape ∷ h) ≡ false
part_entered m i shape h = rw (same_number m) refl

-- it was not told that nothing is left of it
drained_entered : (m i : ℕ) (shape : Shape) (h : List Event) → has_drained m (Enter i m shape ∷ h) ≡ false
drained_entered m i shape h = rw (same_number m) refl

-- so it may ask for a piece
pub may_claim : (members m i : ℕ) (shape : Shape) (seen : Seen) (h : List Event) → seen ≡ seen_of m (Enter i m shape ∷ h) → m < members → CanClaim members m seen
may_claim members m i shape seen h e lt = record {
  member = lt;
  inside = rw (e, open_entered m i shape h) refl;
  more = rw e (drained_entered m i shape h);
  apart = rw e (part_entered m i shape h);
}
