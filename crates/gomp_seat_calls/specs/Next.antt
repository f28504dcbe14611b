-- The next chunk of a loop, or the next section. OpenMP API 5.2, sections 11.3, 11.5 and 15.10.2.
use Rattle.std.specs.Prelude.{◌≡◌, Bool, true, false, Option}
use Rattle.gomp_types.specs.declared.reply.Reply.{Reply}
use Rattle.gomp_types.specs.declared.reply.Reply.TheVariants.{Section, Wait}
use Rattle.gomp_types.specs.declared.shape.Shape.{Shape}
use Rattle.gomp_types.specs.Pieces.{Piece}
use Rattle.gomp_events.specs.Ordered.{is_ordered}
use Rattle.gomp_shares.specs.declared.admission.Construct.{Construct}
use Rattle.gomp_shares.specs.declared.admission.Construct.TheVariants.{Loop, Sections}
use Rattle.gomp_shares.specs.Admission.{next_tests_of}
use Rattle.gomp_loops.specs.Answers.{reply_of_piece}
use Rattle.gomp_sections.specs.Answers.{section_of}
use Rattle.gomp_ring.specs.RingSeats.{SeatView, SeatClaims, SeatTriesTurn, piece_handed_on}
use Rattle.gomp_seat_calls.specs.Stays.{AnswersBySeat}

-- the reply that a piece of such a construct's share gives: a chunk, by its first value and its length, or a section, by its number; or that none is left
abbrev pub reply_in : Construct → Shape → Option Piece → Reply
reply_in Loop shape piece = reply_of_piece shape piece
reply_in Sections shape piece = Section (section_of piece)

-- the member takes the piece that is next for it, or learns that none is left: the reply tells which
pub record TakesPiece (construct : Construct) (before : SeatView) (reply : Reply) (now : SeatView) : Type 0 where
  pub piece : Option Piece
  pub claims : SeatClaims before piece now
  pub reply_is : reply ≡ reply_in construct claims.share.1 piece

-- it hands the piece that it has on, and then takes the next one; or it waits, since some piece before its own was not handed on
pub record HandsOnAndTakes (before : SeatView) (reply : Reply) (now : SeatView) : Type 0 where
  pub handed : Bool
  pub between : SeatView
  pub turn : SeatTriesTurn (piece_handed_on before) before handed between
  pub waits : handed ≡ false → (reply ≡ Wait) × (now ≡ before)
  pub takes : handed ≡ true → TakesPiece Loop between reply now

-- so of an ordered loop, and at once of another
abbrev pub TakesByTurn : Bool → SeatView → Reply → SeatView → Type 0
TakesByTurn true before reply now = HandsOnAndTakes before reply now
TakesByTurn false before reply now = TakesPiece Loop before reply now

abbrev pub TakesNext : Construct → SeatView → Reply → SeatView → Type 0
TakesNext Loop before reply now = TakesByTurn (is_ordered before.seen.current) before reply now
TakesNext Sections before reply now = TakesPiece Sections before reply now

-- the answer to the call
abbrev pub AnswersNext : Construct → SeatView → Reply → SeatView → Type 0
AnswersNext construct before reply now = AnswersBySeat (next_tests_of construct before.seen) (TakesNext construct before) before reply now
