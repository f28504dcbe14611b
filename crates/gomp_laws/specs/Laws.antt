-- The laws of a team that its shares or its arrivals alone do not give, each clause in the words of the promise that it keeps.
use Rattle.std.specs.Prelude.{ℕ, ◌<◌, ◌≡◌, slice_get, length, List, Some, true, false, ◌⊎◌}
use Rattle.gomp_types.specs.declared.shape.Shape.{Shape}
use Rattle.gomp_types.specs.declared.refusal.Place.{Place}
use Rattle.gomp_events.specs.declared.event.Tag.{Tag}
use Rattle.gomp_events.specs.declared.event.Event.{Event}
use Rattle.gomp_events.specs.declared.event.Event.TheVariants.{Enter, Take, End, HandOn, Put, Got, Arrive, Pass, Break, Cancel, See}
use Rattle.gomp_types.specs.declared.cancel.CancelKind.{CancelKind}
use Rattle.gomp_events.specs.Cancels.{is_cancelled, scope_of, names_cancelled, leaves_region}
use Rattle.gomp_types.specs.Shapes.{is_copy}
use Rattle.gomp_types.specs.Pieces.{pieces_of}
use Rattle.gomp_events.specs.Events.{member_of, shares_entered, has_left_region}
use Rattle.gomp_events.specs.Laws.{Happened}
use Rattle.gomp_shares.specs.Laws.{IsOver}

-- a member of the team arrives at a barrier once, unless it leaves a cancelled region, and no one else arrives or passes
abbrev pub ArrivesOnce : ℕ → Event → List Event → Type 0
ArrivesOnce members (Arrive barrier m tag) earlier = (m < members) × (leaves_region m earlier ≡ false → (other : Tag) → Happened (Arrive barrier m other) earlier → ⊥)
ArrivesOnce members (Pass barrier m) earlier = m < members
ArrivesOnce members _ earlier = Unit {0}

-- a member arrives outside of every share: it has left each that it entered, unless it leaves a cancelled region
abbrev pub ArrivesOutside : Event → List Event → Type 0
ArrivesOutside (Arrive barrier m tag) earlier = leaves_region m earlier ≡ false → (share : ℕ) (shape : Shape) → Happened (Enter share m shape) earlier → Happened (End share m) earlier
ArrivesOutside _ earlier = Unit {0}

-- Closed: if a member passes a barrier, every share that it entered before it arrived there is over, unless the region is cancelled; so, since an over share is whole unless it was cancelled, all of it was taken.
abbrev pub ClosesShares : ℕ → Event → List Event → Type 0
ClosesShares members (Pass barrier m) earlier =
    is_cancelled earlier ≡ false → (tag : Tag) → Happened (Arrive barrier m tag) earlier → (share : ℕ) → share < tag.shares → IsOver members share earlier
ClosesShares members _ earlier = Unit {0}

-- nothing happens in a team that is broken
abbrev pub HappensUnbroken : Event → List Event → Type 0
HappensUnbroken event earlier = (m : ℕ) (place : Place) → Happened (Break m place) earlier → ⊥

-- nor does a member do anything once it has passed the region's end
abbrev pub HappensInside : Event → List Event → Type 0
HappensInside event earlier = has_left_region (member_of event) earlier ≡ false

-- an arrival tells how many shares its member has entered: so the members meet shares and barriers in one order
abbrev pub TellsShares : Event → List Event → Type 0
TellsShares (Arrive barrier m tag) earlier = tag.shares ≡ shares_entered m earlier
TellsShares _ earlier = Unit {0}

-- a member leaves an ordered loop only if each piece that it took was handed on
abbrev pub LeavesHandedOn : ℕ → Event → List Event → Type 0
LeavesHandedOn members (End share m) earlier =
    (shape : Shape) (low high : ℕ) → Happened (Enter share m shape) earlier → shape.ordered ≡ true → Happened (Take share m low high) earlier →
    (piece : ℕ) × Happened (HandOn share m piece) earlier × (slice_get (pieces_of members shape) piece ≡ Some (low, high))
LeavesHandedOn members _ earlier = Unit {0}

-- Handed on: an ordered loop that every member has left had each of its pieces handed on.
abbrev pub HandedOnWhereOver : ℕ → List Event → Type 0
HandedOnWhereOver members h =
    (share m piece : ℕ) (shape : Shape) → Happened (Enter share m shape) h → shape.ordered ≡ true → IsOver members share h → piece < length (pieces_of members shape) → (x : ℕ) × Happened (HandOn share x piece) h

-- Copied once (OpenMP API 5.2, section 5.7.2): the words of a single are put by the member that took its piece, and only once.
abbrev pub PutsOnce : Event → List Event → Type 0
PutsOnce (Put share m payload) earlier =
    (shape : Shape) × (low high : ℕ)
    × (is_copy shape.kind ≡ true)
    × Happened (Enter share m shape) earlier
    × (Happened (End share m) earlier → ⊥)
    × Happened (Take share m low high) earlier
    × ((n : ℕ) (other : List ℕ) → Happened (Put share n other) earlier → ⊥)
PutsOnce _ earlier = Unit {0}

-- the words that a member is given are those that were put before; it is in the single, and did not take its piece
abbrev pub GetsWhatWasPut : Event → List Event → Type 0
GetsWhatWasPut (Got share m payload) earlier =
    (shape : Shape) × (n : ℕ)
    × Happened (Enter share m shape) earlier
    × (Happened (End share m) earlier → ⊥)
    × ((low high : ℕ) → Happened (Take share m low high) earlier → ⊥)
    × Happened (Put share n payload) earlier
GetsWhatWasPut _ earlier = Unit {0}

-- and no member leaves such a single without: it has put its words there, or was given them
abbrev pub LeavesWithWords : Event → List Event → Type 0
LeavesWithWords (End share m) earlier =
    (shape : Shape) → Happened (Enter share m shape) earlier → is_copy shape.kind ≡ true → (payload : List ℕ) × (Happened (Put share m payload) earlier ⊎ Happened (Got share m payload) earlier)
LeavesWithWords _ earlier = Unit {0}

-- Cancellation (OpenMP API 5.2, chapter 16): a member of the team cancels what one of its constructs names there: the region, the share that it is in, or of the groups whose ends wait for its task the one that was opened last.
abbrev pub CancelsNamed : ℕ → Event → List Event → Type 0
CancelsNamed members (Cancel m scope) earlier = (m < members) × (kind : CancelKind) × (scope_of kind m earlier ≡ Some scope)
CancelsNamed members _ earlier = Unit {0}

-- and it sees that something is cancelled only if that was cancelled before
abbrev pub SeesCancelled : ℕ → Event → List Event → Type 0
SeesCancelled members (See m kind) earlier = (m < members) × (names_cancelled kind m earlier ≡ true)
SeesCancelled members _ earlier = Unit {0}
