-- The starts of loops, sections and singles. OpenMP API 5.2, sections 11.1, 11.3, 11.5 and 5.7.2.
use Rattle.std.specs.Prelude.{◌≡◌, ◌&&◌, Bool, true, not, Option, Some, None}
use Rattle.gomp_types.specs.declared.refusal.Refusal.TheVariants.{Mismatch}
use Rattle.gomp_types.specs.declared.reply.Reply.{Reply}
use Rattle.gomp_types.specs.declared.reply.Reply.TheVariants.{Chunk, Executor, NoChunk, Refused, Section, Wait}
use Rattle.gomp_types.specs.declared.shape.Shape.{Shape}
use Rattle.gomp_types.specs.Pieces.{Piece}
use Rattle.gomp_types.specs.Shapes.{is_copy}
use Rattle.gomp_types.specs.Singles.{single_shape}
use Rattle.gomp_events.specs.declared.seen.Seen.{Seen}
use Rattle.gomp_events.specs.Events.{in_kind}
use Rattle.gomp_shares.specs.declared.admission.Construct.TheVariants as construct
use Rattle.gomp_slots.specs.declared.opening.Entry.{Entry}
use Rattle.gomp_slots.specs.declared.opening.Entry.TheVariants.{Entered, NotYet, Differs}
use Rattle.gomp_slots.specs.declared.singles.Passage.{Passage}
use Rattle.gomp_slots.specs.declared.singles.Passage.TheVariants as passage
use Rattle.gomp_team_shares.specs.declared.start.ShareStart.{ShareStart}
use Rattle.gomp_team_shares.specs.declared.start.ShareStart.TheVariants.{Loop, Sections, Single, SingleCopy}
use Rattle.gomp_team_shares.specs.Constructs.{construct_shape}
use Rattle.gomp_ring.specs.RingSeats.{SeatView, SeatClaims, SeatOpens, SeatPasses}
use Rattle.gomp_seat_calls.specs.Next.{TakesPiece}

-- a member that tried to enter its next share does this once it is in it; or it waits, or its share is another one than the team's
abbrev pub EntersBy : Entry → (SeatView → Reply → SeatView → Type 0) → (before between : SeatView) → Reply → SeatView → Type 0
EntersBy Entered Then before between reply now = Then between reply now
EntersBy (NotYet delay) Then before between reply now = (reply ≡ Wait) × (now ≡ before)
EntersBy Differs Then before between reply now = (reply ≡ Refused Mismatch) × (now ≡ before)

-- a member enters its next share, of this shape, and then does this
pub record EntersAnd (Then : SeatView → Reply → SeatView → Type 0) (shape : Shape) (before : SeatView) (reply : Reply) (now : SeatView) : Type 0 where
  pub entry : Entry
  pub between : SeatView
  pub opens : SeatOpens before shape entry between
  pub enters : EntersBy entry Then before between reply now

-- Singles

-- the reply to a member that went through a single without words, or did not
abbrev pub reply_of_passage : Passage → Reply
reply_of_passage (passage.Passed executes) = Executor executes
reply_of_passage (passage.NotYet delay) = Wait
reply_of_passage passage.Differs = Refused Mismatch

-- a member goes through its next share, a single without words
pub record PassesOwnSingle (before : SeatView) (reply : Reply) (now : SeatView) : Type 0 where
  pub answer : Passage
  pub passes : SeatPasses before answer now
  pub reply_is : reply ≡ reply_of_passage answer

-- Singles with words

-- whether a member is in a single with words that another executes: it waits there for these (a single has no ordered parts)
abbrev pub awaits_payload : Seen → Bool
awaits_payload seen = in_kind is_copy seen.current && seen.drained && not seen.in_part

-- a member that took the one piece of a single with words executes it; another waits in the share for the words
abbrev pub executes_or_waits : Option Piece → Reply
executes_or_waits (Some piece) = Executor true
executes_or_waits None = Wait

-- a member that has entered a single with words asks for its one piece
pub record ExecutesOrWaits (before : SeatView) (reply : Reply) (now : SeatView) : Type 0 where
  pub piece : Option Piece
  pub claims : SeatClaims before piece now
  pub reply_is : reply ≡ executes_or_waits piece

-- The start of each construct, of a member that its own tests let start it
abbrev pub StartsBySeat : ShareStart → SeatView → Reply → SeatView → Type 0
StartsBySeat (Loop loop) before reply now = EntersAnd (TakesPiece construct.Loop) (construct_shape (Loop loop)) before reply now
StartsBySeat (Sections count end_kind) before reply now = EntersAnd (TakesPiece construct.Sections) (construct_shape (Sections count end_kind)) before reply now
StartsBySeat Single before reply now = PassesOwnSingle before reply now
StartsBySeat SingleCopy before reply now = EntersAnd ExecutesOrWaits (single_shape true) before reply now

-- a reply to a start: a piece, or none; whether the member executes a single; a wait; or a mismatch
abbrev pub IsStarted : Reply → Type 0
IsStarted (Chunk first count) = Unit {0}
IsStarted NoChunk = Unit {0}
IsStarted (Section number) = Unit {0}
IsStarted (Executor executes) = Unit {0}
IsStarted Wait = Unit {0}
IsStarted (Refused Mismatch) = Unit {0}
IsStarted reply = ⊥
