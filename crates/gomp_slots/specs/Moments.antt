-- What holds of the slots at every moment, between any two steps of their seats. (own)
use Rattle.std.specs.Prelude.{◌≡◌, ℕ, ◌+◌, ◌%◌, ◌<◌, ◌==◌, if◌then◌else◌, true, false, List, [], ◌∷◌, ◌++◌, length, slice_get, slice_index, Option, Some, None}
use mathlib.Core.Option.{some}
use lib.ListN.{get_elem?}
use Rattle.atomic_table.specs.Table.{State}
use Rattle.gomp_types.specs.declared.shape.Shape.{Shape}
use Rattle.gomp_events.specs.declared.event.Event.{Event}
use Rattle.gomp_events.specs.declared.event.Event.TheVariants.{Enter, Take, Drained}
use Rattle.gomp_types.specs.Shapes.{is_static}
use Rattle.gomp_types.specs.Pieces.{Piece, pieces_of}
use Rattle.gomp_events.specs.Events.{shape_at, is_over, turn}
use Rattle.gomp_types.specs.Deals.{schedule}
use Rattle.gomp_events.specs.Laws.{Always, Happened}
use Rattle.gomp_shares.specs.Laws.{ShareLaws, OrderedLaws, TakesItsOwn}
use Rattle.gomp_gate.specs.Gates.{ticket_of, left_of, phase_of, phase_for, is_bare_single}
use Rattle.gomp_gate.specs.Shapes.{shape_word}
use Rattle.gomp_slots.specs.declared.view.TeamSize.{TeamSize}
use Rattle.gomp_slots.specs.declared.view.View.{View}
use Rattle.gomp_slots.specs.Words.{gate_at, left_count, BusySlot, is_busy, IsCurrent}
use Rattle.gomp_slots.specs.Rule.{Knows}

-- the claims that were made of share i, the first one first: by which member, and which piece it took, or that none was left
abbrev pub claims_made : ℕ → List Event → List (ℕ × Option Piece)
claims_made i [] = []
claims_made i (Take share m low high ∷ earlier) = if share == i then claims_made i earlier ++ (m, Some (low, high)) ∷ [] else claims_made i earlier
claims_made i (Drained share m ∷ earlier) = if share == i then claims_made i earlier ++ (m, None) ∷ [] else claims_made i earlier
claims_made i (_ ∷ earlier) = claims_made i earlier

-- the claims of a share that is not static, whose slot has it: their tickets are the numbers below the gate's, each once, and a claim took the piece with the number of its ticket, or learned that there is none
pub record TicketLaws (members i : ℕ) (shape : Shape) (words : List ℕ) (h : List Event) : Type 0 where
  pub all : length (claims_made i h) ≡ ticket_of (slice_index words (gate_at i))
  pub each : (ticket : ℕ) (claim : ℕ × Option Piece) → slice_get (claims_made i h) ticket ≡ Some claim → claim.1 ≡ slice_get (pieces_of members shape) ticket

pub record MomentLaws (members : ℕ) (words : List ℕ) (h : List Event) (busy : Option BusySlot) : Type 0 where
  -- the laws of the work-shares: taken once, whole, one shape, cancelled only where that is allowed
  pub laws : ShareLaws (schedule members) members h
  -- those of ordered parts: one begins only where the turn is its piece's
  pub ordered : OrderedLaws members h
  -- a piece of a static share is its owner's alone
  pub own_pieces : Always (TakesItsOwn members) h
  -- claims
  pub tickets : (i : ℕ) (shape : Shape) → IsCurrent i shape h busy → is_static shape.kind ≡ false → TicketLaws members i shape words h
  -- the gate tells how many members have left the share
  pub left : (i : ℕ) (shape : Shape) → IsCurrent i shape h busy → left_of (slice_index words (gate_at i)) ≡ left_count members i h
  -- all that entered it have the shape of the slot: its phase tells a bare single, and its words any other shape
  pub phase : (i m : ℕ) (shape other : Shape) → IsCurrent i shape h busy → Happened (Enter i m other) h → phase_of (slice_index words (gate_at i)) ≡ phase_for other
  pub shape : (i m place : ℕ) (shape other : Shape) → IsCurrent i shape h busy → Happened (Enter i m other) h → is_bare_single other ≡ false → place < 4 → slice_index words (gate_at i + 1 + place) ≡ shape_word place other
  -- the turn is the number of pieces that were handed on
  pub turns : (i : ℕ) (shape : Shape) → IsCurrent i shape h busy → is_bare_single shape ≡ false → slice_index words (gate_at i + 5) ≡ turn i h
  -- a slot has one share
  pub one : (i j : ℕ) (shape other : Shape) → IsCurrent i shape h busy → IsCurrent j other h busy → i % 8 ≡ j % 8 → i ≡ j
  -- until all members have left it, and only then is it taken for another
  pub stays : (i : ℕ) (shape : Shape) → shape_at i h ≡ Some shape → is_over members i h ≡ false → IsCurrent i shape h busy
  pub anew : (i : ℕ) (shape : Shape) → shape_at (i + 8) h ≡ Some shape → is_over members i h ≡ true
  pub taken : (i : ℕ) → is_busy busy (i + 8) ≡ true → is_over members i h ≡ true
  -- the shares that are open, or that a seat opens, span less than one round, so no round of 2^14 is taken for another
  pub span : (i j : ℕ) (one other : Shape) → shape_at i h ≡ Some one → is_over members i h ≡ false → shape_at j h ≡ Some other → j < i + 8
  pub opening : (i j : ℕ) (one : Shape) → shape_at i h ≡ Some one → is_over members i h ≡ false → is_busy busy j ≡ true → j < i + 8

-- at a moment with these words and views there is a list of the team's events of which each seat knows its part, and for which all of this holds
pub record IsLawful (size : TeamSize) (state : State Shape View) : Type 0 where
  pub events : List Event
  pub busy : Option BusySlot
  pub knows : (id : ℕ) (v : View) → get_elem? state.views id ≡ some v → Knows v events
  pub laws : MomentLaws size.members state.words events busy
