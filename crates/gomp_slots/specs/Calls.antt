-- What a call of a seat tells its caller: what its view is then, and that there is a list of the team's events, of which the seat knew its part, and which kept the rule of the work-shares. (own)
use Rattle.std.specs.Prelude.{◌≡◌, ℕ, ◌+◌, ◌-◌, ◌<◌, ◌≤◌, ◌⊎◌, ◌==◌, if◌then◌else◌, Bool, true, false, List, ◌∷◌, slice_get, Option, Some, None}
use Rattle.gomp_types.specs.declared.shape.Shape.{Shape}
use Rattle.gomp_events.specs.declared.event.Event.{Event}
use Rattle.gomp_events.specs.declared.event.Event.TheVariants.{Enter, Take, Drained, End, See}
use Rattle.gomp_types.specs.Pieces.{Piece, pieces_of}
use Rattle.gomp_types.specs.Singles.{single_shape}
use Rattle.gomp_events.specs.Events.{open_share, shape_at, has_room}
use Rattle.gomp_events.specs.Cancels.{share_cancelled}
use Rattle.gomp_types.specs.Deals.{schedule}
use Rattle.gomp_events.specs.Takes.{next_for}
use Rattle.gomp_events.specs.Laws.{Always}
use Rattle.gomp_shares.specs.Calls.{own_turn, kind_in}
use Rattle.gomp_shares.specs.Only.{shares_only}
use Rattle.gomp_shares.specs.Rules.{ShareRule}
use Rattle.gomp_gate.specs.Gates.{phase_of, holds_share, is_free_for, phase_for}
use Rattle.gomp_gate.specs.Shapes.{shape_word}
use Rattle.gomp_slots.specs.declared.opening.Delay.{Delay}
use Rattle.gomp_slots.specs.declared.opening.Delay.TheVariants.{NoRoom, BeingOpened}
use Rattle.gomp_slots.specs.declared.opening.Entry.{Entry}
use Rattle.gomp_slots.specs.declared.opening.Entry.TheVariants.{Entered, NotYet, Differs}
use Rattle.gomp_slots.specs.declared.singles.Passage.{Passage}
use Rattle.gomp_slots.specs.declared.singles.Passage.TheVariants as passage
use Rattle.gomp_slots.specs.declared.view.View.{View}
use Rattle.gomp_slots.specs.Words.{tickets, gate_of}
use Rattle.gomp_slots.specs.Rule.{Knows, FitsWords}

-- a member of the seat did this: the events kept the rule with it, and the seat looks at no share
pub record Acts (members : ℕ) (event : Event) (before now : View) : Type 0 where
  pub events : List Event
  pub knows : Knows before events
  pub rule : Always (ShareRule (schedule members) members) (event ∷ events)
  pub after : now ≡ record before { did = event ∷ before.did; found = None }

-- Claims (OpenMP API 5.2, section 11.5)

-- the piece with this number, of the share that a member is in
abbrev pub piece_of : ℕ → Option (ℕ × Shape) → ℕ → Option Piece
piece_of members None number = None
piece_of members (Some share) number = slice_get (pieces_of members share.1) number

-- the event of a claim: the member takes the piece, or learns that none is left
abbrev pub claim_event : ℕ → ℕ → Option Piece → Event
claim_event i m (Some piece) = Take i m piece.0 piece.1
claim_event i m None = Drained i m

-- the member claims a piece of its share i, and its ticket is this one: the number of the claims that were made before
pub record ClaimsTicket (members m i found : ℕ) (before now : View) : Type 0 where
  pub acts : Acts members (claim_event i m (piece_of members (open_share m before.did) found)) before now
  pub ticket : (shape : Shape) → open_share m before.did ≡ Some (i, shape) → found ≡ tickets members i shape.kind acts.events

-- the member's next piece of a static share, by its own events
abbrev pub own_next : ℕ → ℕ → List Event → Option (ℕ × Shape) → Option Piece
own_next members m did None = None
own_next members m did (Some share) = next_for (schedule members) share.1 share.0 m did

-- Cancellation (OpenMP API 5.2, section 16.1)

-- the member sees that its share i is cancelled, or nothing changes; the answer is whether it is
pub record SeesShareCancelled (members m i : ℕ) (before : View) (answer : Bool) (now : View) : Type 0 where
  pub seen : answer ≡ true → Acts members (See m (kind_in (open_share m before.did))) before now
  pub unseen : answer ≡ false → now ≡ before
  pub events : List Event
  pub knows : Knows before events
  pub rule : Always (ShareRule (schedule members) members) events
  pub answer_is : answer ≡ share_cancelled i events

-- the answer is whether the share i is cancelled; nothing changes
pub record AsksShareCancelled (members i : ℕ) (before : View) (answer : Bool) (now : View) : Type 0 where
  pub after : now ≡ before
  pub events : List Event
  pub knows : Knows before events
  pub rule : Always (ShareRule (schedule members) members) events
  pub answer_is : answer ≡ share_cancelled i events

-- Turns (OpenMP API 5.2, section 15.10.2)

-- the member does what is its turn's, or nothing changes; the answer is whether the turn is its
pub record TriesTurn (members m : ℕ) (event : Event) (before : View) (answer : Bool) (now : View) : Type 0 where
  pub acts : answer ≡ true → Acts members event before now
  pub waits : answer ≡ false → now ≡ before
  pub events : List Event
  pub knows : Knows before events
  pub rule : Always (ShareRule (schedule members) members) events
  pub answer_is : answer ≡ own_turn members m events

-- Opening

-- the gate of the slot of a share that nobody has entered or opens: 0, or that of the share eight before
pub record IsNextWord (members i : ℕ) (h : List Event) (word : ℕ) : Type 0 where
  pub low : i < 8 → word ≡ 0
  pub late : 8 ≤ i → (shape : Shape) × (shape_at (i - 8) h ≡ Some shape) × (word ≡ gate_of members (i - 8) shape h)

-- the seat looks at the gate of the slot of its member's next share i
pub record LooksAtSlot (members i : ℕ) (before : View) (found : ℕ) (now : View) : Type 0 where
  pub events : List Event
  pub knows : Knows before events
  pub rule : Always (ShareRule (schedule members) members) events
  -- the slot has the share: the seat found its shape, and the gate tells whether it is a bare single
  pub there : holds_share i found ≡ true → (shape : Shape) × (shape_at i events ≡ Some shape) × FitsWords shape × (phase_of found ≡ phase_for shape) × (now ≡ record before { share = i; found = Some shape })
  -- or nobody has entered it
  pub absent : holds_share i found ≡ false → (shape_at i events ≡ None) × (now ≡ before)
  -- then the slot may be taken, and there is room for the share
  pub free : holds_share i found ≡ false → is_free_for members i found ≡ true → has_room members i events ≡ true
  -- or there is none, or another seat opens the share
  pub full : holds_share i found ≡ false → is_free_for members i found ≡ false → (has_room members i events ≡ false) ⊎ (before.alone ≡ false)
  -- which the phase of the slot says: a seat opens the share only if there is room
  pub opening : holds_share i found ≡ false → phase_of found ≡ 1 → has_room members i events ≡ true
  pub busy : holds_share i found ≡ false → is_free_for members i found ≡ false → has_room members i events ≡ true → phase_of found ≡ 1
  pub alone : before.alone ≡ true → shape_at i before.did ≡ None → IsNextWord members i before.did found

-- why a share that is not open has to wait, by the gate of its slot: the slot is taken for it, or has one that is not over
abbrev pub delay_of : ℕ → Delay
delay_of word = if phase_of word == 1 then BeingOpened else NoRoom

-- a share of a team of this size
pub record TeamShare : Type 0 where
  pub members : ℕ
  pub i : ℕ

-- a member of a team of this size
pub record TeamMember : Type 0 where
  pub members : ℕ
  pub m : ℕ

-- the seat takes the slot for the share i if the gate is this word
pub record TriesSlot (at : TeamShare) (word : ℕ) (shape : Shape) (before : View) (found : ℕ) (now : View) : Type 0 where
  pub won : (found == word) ≡ true → now ≡ record before { share = at.i; opening = Some shape; stored = 0; found = None }
  pub lost : (found == word) ≡ false → now ≡ before
  pub alone : before.alone ≡ true → shape_at at.i before.did ≡ None → IsNextWord at.members at.i before.did found

-- the seat reads the next word of the share that it opens: it stands already, or not yet
pub record ComparesWord (shape : Shape) (before : View) (found : ℕ) (now : View) : Type 0 where
  pub equal : (found == shape_word before.stored shape) ≡ true → now ≡ record before { stored = before.stored + 1 }
  pub unequal : (found == shape_word before.stored shape) ≡ false → now ≡ before

-- the member enters the share that its seat has opened, in this shape
pub record Publishes (members m i : ℕ) (shape : Shape) (before now : View) : Type 0 where
  pub events : List Event
  pub knows : Knows before events
  pub rule : Always (ShareRule (schedule members) members) (Enter i m shape ∷ events)
  pub after : now ≡ record before { did = Enter i m shape ∷ before.did; opening = None; found = None }

-- the members of the seat have done this in all, and it opens no share
pub record HasDone (did : List Event) (before now : View) : Type 0 where
  pub did_is : now.did ≡ did
  pub mine : now.mine ≡ before.mine
  pub alone : now.alone ≡ before.alone
  pub idle : now.opening ≡ None

-- at this moment nobody has entered the share i, and there is room for it, or there is none
pub record IsNotEntered (members i : ℕ) (room : Bool) (before : View) : Type 0 where
  pub events : List Event
  pub knows : Knows before events
  pub rule : Always (ShareRule (schedule members) members) events
  pub none : shape_at i events ≡ None
  pub room_is : has_room members i events ≡ room

-- at this moment the share i is open, in a shape that is not this one
pub record IsInAnotherShape (members i : ℕ) (shape : Shape) (before : View) : Type 0 where
  pub events : List Event
  pub knows : Knows before events
  pub rule : Always (ShareRule (schedule members) members) events
  pub other : Shape
  pub other_is : shape_at i events ≡ Some other
  pub differs : other ≡ shape → ⊥

-- the answer to a member that opens its next share i: it entered the share; or nobody has, since some member has not left the share eight before, or although there is room: then another seat opens it; or others entered it in another shape
abbrev pub OpensNext : TeamMember → ℕ → Shape → Entry → View → View → Type 0
OpensNext by i shape Entered before now =
    (h : List Event) × Knows before h × Always (ShareRule (schedule by.members) by.members) (Enter i by.m shape ∷ h) × HasDone (Enter i by.m shape ∷ before.did) before now
OpensNext by i shape (NotYet NoRoom) before now = IsNotEntered by.members i false before × (now ≡ before)
OpensNext by i shape (NotYet BeingOpened) before now = IsNotEntered by.members i true before × (before.alone ≡ false) × (now ≡ before)
OpensNext by i shape Differs before now = IsInAnotherShape by.members i shape before × HasDone before.did before now

-- Bare singles (OpenMP API 5.2, section 11.1)

-- a single has one piece, for the member that executes it; for the others none is left
abbrev pub single_piece : Bool → Option Piece
single_piece true = Some (0, 1)
single_piece false = None

-- the events after the member has gone through the single i at once, and executes it or not: it entered the share, claimed its piece, and left it
abbrev pub events_through : Bool → ℕ → ℕ → List Event → List Event
events_through executes i m h = End i m ∷ claim_event i m (single_piece executes) ∷ Enter i m (single_shape false) ∷ h

-- the member goes through its next share i, a bare single, and executes it or not
pub record GoesThrough (members m i : ℕ) (executes : Bool) (before now : View) : Type 0 where
  pub events : List Event
  pub knows : Knows before events
  pub rule : Always (ShareRule (schedule members) members) (events_through executes i m events)
  pub after : HasDone (events_through executes i m before.did) before now

-- it takes the slot for that single, goes through it and executes it, all if the gate is this word
pub record TriesSingle (by : TeamMember) (i word : ℕ) (before : View) (found : ℕ) (now : View) : Type 0 where
  pub won : (found == word) ≡ true → GoesThrough by.members by.m i true before now
  pub lost : (found == word) ≡ false → now ≡ before
  pub alone : before.alone ≡ true → shape_at i before.did ≡ None → IsNextWord by.members i before.did found

-- the answer to a member whose next share i is a bare single: it went through it; or nobody has entered it, as when it opens a share; or others entered the share in another shape
abbrev pub PassesNext : ℕ → ℕ → ℕ → Passage → View → View → Type 0
PassesNext members m i (passage.Passed executes) before now = GoesThrough members m i executes before now
PassesNext members m i (passage.NotYet NoRoom) before now = IsNotEntered members i false before × (now ≡ before)
PassesNext members m i (passage.NotYet BeingOpened) before now = IsNotEntered members i true before × (before.alone ≡ false) × (now ≡ before)
PassesNext members m i passage.Differs before now = IsInAnotherShape members i (single_shape false) before × HasDone before.did before now

-- The end

-- the events of which a seat knows its part, at the moment of the call: of the work-shares alone, in shapes of constructs
pub record Settles (members : ℕ) (v : View) : Type 0 where
  pub events : List Event
  pub knows : Knows v events
  pub rule : Always (ShareRule (schedule members) members) events
  pub clean : shares_only events ≡ events
  pub shapes : (i : ℕ) (shape : Shape) → shape_at i events ≡ Some shape → FitsWords shape
