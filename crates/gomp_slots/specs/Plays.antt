-- What each single step on a word tells: of the step, the seat before it, the number found and the seat after it. (own)
use Rattle.std.specs.Prelude.{◌≡◌, ℕ, ◌+◌, ◌<◌, ◌==◌, Some}
use mathlib.Core.Option.{some}
use Rattle.atomic_table.specs.Table.{Me, Step}
use Rattle.gomp_types.specs.declared.shape.Shape.{Shape}
use Rattle.gomp_events.specs.declared.event.Event.TheVariants.{Enter, End, HandOn, Part, PartEnd, Cancel}
use Rattle.gomp_types.specs.declared.cancel.Scope.TheVariants.{OneShare}
use Rattle.gomp_events.specs.Events.{open_share}
use Rattle.gomp_gate.specs.Gates.{ticket_of, cancelled_of}
use Rattle.gomp_gate.specs.Shapes.{shape_word}
use Rattle.gomp_slots.specs.declared.view.View.{View}
use Rattle.gomp_slots.specs.Words.{gate_at}
use Rattle.gomp_slots.specs.Calls.{Acts, claim_event, ClaimsTicket, own_next, SeesShareCancelled, AsksShareCancelled, TriesTurn, LooksAtSlot, TriesSlot, ComparesWord, Publishes, GoesThrough, TriesSingle, Settles}

-- Steps on a gate

-- the member m claims the piece of share i whose number is the ticket that it found: so many claims were made before
abbrev pub ClaimStep : ℕ → ℕ → ℕ → Step Shape → Me Shape View → ℕ → Me Shape View → Type 0
ClaimStep members m i st before found now =
    ClaimsTicket members m i (ticket_of found) before.0 now.0 × (now.1 ≡ before.1)

-- it takes its next piece of a static share
abbrev pub AssignStep : ℕ → ℕ → ℕ → Step Shape → Me Shape View → ℕ → Me Shape View → Type 0
AssignStep members m i st before found now =
    Acts members (claim_event i m (own_next members m before.0.did (open_share m before.0.did))) before.0 now.0 × (now.1 ≡ before.1)

-- it leaves the share
abbrev pub LeaveStep : ℕ → ℕ → ℕ → Step Shape → Me Shape View → ℕ → Me Shape View → Type 0
LeaveStep members m i st before found now = Acts members (End i m) before.0 now.0 × (now.1 ≡ before.1)

-- it cancels the share
abbrev pub CancelStep : ℕ → ℕ → ℕ → Step Shape → Me Shape View → ℕ → Me Shape View → Type 0
CancelStep members m i st before found now = Acts members (Cancel m (OneShare i)) before.0 now.0 × (now.1 ≡ before.1)

-- it sees whether the share is cancelled, or asks it
abbrev pub SeeStep : ℕ → ℕ → ℕ → Step Shape → Me Shape View → ℕ → Me Shape View → Type 0
SeeStep members m i st before found now = SeesShareCancelled members m i before.0 (cancelled_of found == 1) now.0 × (now.1 ≡ before.1)

abbrev pub AskStep : ℕ → ℕ → Step Shape → Me Shape View → ℕ → Me Shape View → Type 0
AskStep members i st before found now = AsksShareCancelled members i before.0 (cancelled_of found == 1) now.0 × (now.1 ≡ before.1)

-- Steps on a turn

-- it begins the part of an iteration of its piece, whose number is this
abbrev pub BeginStep : ℕ → ℕ → ℕ → ℕ → ℕ → Step Shape → Me Shape View → ℕ → Me Shape View → Type 0
BeginStep members m i number iteration st before found now =
    TriesTurn members m (Part i m iteration) before.0 (found == number) now.0 × (now.1 ≡ before.1)

-- it ends its part
abbrev pub EndPartStep : ℕ → ℕ → ℕ → Step Shape → Me Shape View → ℕ → Me Shape View → Type 0
EndPartStep members m i st before found now = Acts members (PartEnd i m) before.0 now.0 × (now.1 ≡ before.1)

-- it hands its piece on
abbrev pub HandOnStep : ℕ → ℕ → ℕ → ℕ → Step Shape → Me Shape View → ℕ → Me Shape View → Type 0
HandOnStep members m i number st before found now =
    TriesTurn members m (HandOn i m number) before.0 (found == number) now.0 × (now.1 ≡ before.1)

-- Steps by which a share is entered

-- the seat looks at the slot of share i
abbrev pub LookStep : ℕ → ℕ → Step Shape → Me Shape View → ℕ → Me Shape View → Type 0
LookStep members i st before found now = LooksAtSlot members i before.0 found now.0 × (now.1 ≡ before.1)

-- it reads a word of the share that it looks at
abbrev pub ReadStep : Step Shape → Me Shape View → ℕ → Me Shape View → Type 0
ReadStep st before found now =
    (now ≡ before) × ((shape : Shape) (place : ℕ) → before.0.found ≡ Some shape → st.word ≡ gate_at before.0.share + 1 + place → place < 4 → found ≡ shape_word place shape)

-- its member enters that share
abbrev pub EnterStep : ℕ → ℕ → ℕ → Step Shape → Me Shape View → ℕ → Me Shape View → Type 0
EnterStep members m i st before found now = ((shape : Shape) → before.0.found ≡ Some shape → Acts members (Enter i m shape) before.0 now.0) × (now.1 ≡ before.1)

-- Steps by which a share is opened

-- the seat takes the slot for a share of the shape that the step names
abbrev pub TakeSlotStep : ℕ → ℕ → Step Shape → Me Shape View → ℕ → Me Shape View → Type 0
TakeSlotStep members i st before found now = ((shape : Shape) → st.said ≡ some shape → TriesSlot (record { members = members; i = i }) st.first shape before.0 found now.0) × (now.1 ≡ before.1)

-- it stores the next word of the share, or finds that it stands already
abbrev pub StoreStep : Step Shape → Me Shape View → ℕ → Me Shape View → Type 0
StoreStep st before found now = (now.0 ≡ record before.0 { stored = before.0.stored + 1 }) × (now.1 ≡ before.1)

abbrev pub CompareStep : Step Shape → Me Shape View → ℕ → Me Shape View → Type 0
CompareStep st before found now = ((shape : Shape) → before.0.opening ≡ Some shape → ComparesWord shape before.0 found now.0) × (now.1 ≡ before.1)

-- its member enters the share, which is open then
abbrev pub PublishStep : ℕ → ℕ → ℕ → Step Shape → Me Shape View → ℕ → Me Shape View → Type 0
PublishStep members m i st before found now = ((shape : Shape) → before.0.opening ≡ Some shape → Publishes members m i shape before.0 now.0) × (now.1 ≡ before.1)

-- Steps through a bare single

-- the member goes through the single that the seat has found: it executes it if nobody claimed its piece before
abbrev pub PassStep : ℕ → ℕ → ℕ → Step Shape → Me Shape View → ℕ → Me Shape View → Type 0
PassStep members m i st before found now = GoesThrough members m i (ticket_of found == 0) before.0 now.0 × (now.1 ≡ before.1)

-- it takes the slot for the single, and goes through it
abbrev pub TakeSingleStep : ℕ → ℕ → ℕ → Step Shape → Me Shape View → ℕ → Me Shape View → Type 0
TakeSingleStep members m i st before found now = TriesSingle (record { members = members; m = m }) i st.first before.0 found now.0 × (now.1 ≡ before.1)

-- The end

-- the seat learns that there is a list of events of which it knows its part
abbrev pub SettleStep : ℕ → Step Shape → Me Shape View → ℕ → Me Shape View → Type 0
SettleStep members st before found now = Settles members before.0 × (now ≡ before)
