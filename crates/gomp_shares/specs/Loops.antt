-- Loops: what a call on one is tested for, answered and gives. OpenMP API 5.2, section 11.5.
use Rattle.std.specs.Prelude.{ℕ, ℤ, ◌+◌, not, ◌≡◌, if◌then◌else◌, List, [], ◌∷◌, ◌++◌, Option, Some, None}
use Rattle.gomp_types.specs.declared.loop_desc.EndKind.{EndKind}
use Rattle.gomp_types.specs.declared.refusal.Refusal.TheVariants.{OutsideShare, InOrdered, EndDiffers, Drained as DrainedAlready}
use Rattle.gomp_types.specs.declared.reply.Reply.{Reply}
use Rattle.gomp_types.specs.declared.reply.Reply.TheVariants.{Chunk, NoChunk, Finished}
use Rattle.gomp_types.specs.declared.shape.Shape.{Shape}
use Rattle.gomp_events.specs.declared.seen.Seen.{Seen}
use Rattle.gomp_events.specs.declared.event.Event.{Event}
use Rattle.gomp_events.specs.declared.event.Event.TheVariants.{Take, Drained, HandOn}
use Rattle.gomp_types.specs.Tests.{Test}
use Rattle.gomp_types.specs.Values.{value_at, iteration_at}
use Rattle.gomp_types.specs.Pieces.{Piece, shape_of}
use Rattle.gomp_types.specs.Shapes.{is_loop}
use Rattle.gomp_types.specs.Compare.{end_differs}
use Rattle.gomp_types.specs.Deals.{schedule}
use Rattle.gomp_events.specs.Takes.{next_for}
use Rattle.gomp_events.specs.Events.{in_kind, open_share}
use Rattle.gomp_events.specs.Ordered.{last_number, must_wait}
use Rattle.gomp_types.specs.declared.limits.Limits.{Limits}
use Rattle.gomp_types.specs.declared.loop_desc.LoopDesc.{LoopDesc}
use Rattle.gomp_types.specs.Least.{Answers}
use Rattle.gomp_events.specs.Seen.{seen_of}
use Rattle.gomp_types.specs.Iterations.{loop_tests}
use Rattle.gomp_shares.specs.Starts.{AnswersStart, entry_and, drained_tests}
use Rattle.gomp_shares.specs.OrWaits.{AnsweredOrWaits}

-- a piece is answered by its first iteration's value and its length
abbrev pub IsChunk : Shape → Option Piece → ℤ → ℕ → Type 0
IsChunk shape None first count = ⊥
IsChunk shape (Some piece) first count = (first ≡ value_at shape piece.0) × (piece.0 + count ≡ piece.1)

-- the answer to a member that asks for iterations: the least piece that nobody took of those of its share that are its to take, none if there is none
abbrev pub DealsOut : ℕ → ℕ → Option (ℕ × Shape) → Reply → List Event → Type 0
DealsOut members m None reply h = ⊥
DealsOut members m (Some share) (Chunk first count) h = IsChunk share.1 (next_for (schedule members) share.1 share.0 m h) first count
DealsOut members m (Some share) NoChunk h = next_for (schedule members) share.1 share.0 m h ≡ None
DealsOut members m (Some share) _ h = ⊥

-- of an ordered loop it waits for the turn, to hand its piece on
abbrev pub DealsNext : ℕ → ℕ → Option (ℕ × Shape) → Reply → List Event → Type 0
DealsNext members m None reply h = ⊥
DealsNext members m (Some share) reply h =
    AnsweredOrWaits (not (must_wait members share m h)) (λ given. DealsOut members m (Some share) given h) reply

-- what a piece gives, or that there is none
abbrev pub piece_given : ℕ → Shape → ℕ → Reply → List Event
piece_given share shape m (Chunk first count) = Take share m (iteration_at shape first) (iteration_at shape first + count) ∷ []
piece_given share shape m NoChunk = Drained share m ∷ []
piece_given share shape m _ = []

-- a piece of an ordered loop is handed on: the member's last one, by its number
abbrev pub handed_on : ℕ → ℕ × Shape → ℕ → List Event → List Event
handed_on members share m h = if share.1.ordered then HandOn share.0 m (last_number members share m h) ∷ [] else []

-- the member's piece of an ordered loop is handed on before it asks for the next
abbrev pub next_given : ℕ → Option (ℕ × Shape) → ℕ → List Event → Reply → List Event
next_given members None m h reply = []
next_given members (Some share) m h (Chunk first count) = piece_given share.0 share.1 m (Chunk first count) ++ handed_on members share m h
next_given members (Some share) m h NoChunk = piece_given share.0 share.1 m NoChunk ++ handed_on members share m h
next_given members (Some share) m h _ = []

-- the next piece
abbrev pub next_tests : Seen → List Test
next_tests seen = (not (in_kind is_loop seen.current), OutsideShare) ∷ (seen.in_part, InOrdered) ∷ (seen.drained, DrainedAlready) ∷ []

-- the end, by the call for this end kind; whether anything is left is tested behind these
abbrev pub end_tests : EndKind → Seen → List Test
end_tests kind seen =
    (not (in_kind is_loop seen.current), OutsideShare)
    ∷ (seen.in_part, InOrdered)
    ∷ (end_differs kind seen.current, EndDiffers)
    ∷ []

-- The answers, and the events after them

-- the answer to the start of a loop
abbrev pub AnswersLoopStart : LoopDesc → Limits → ℕ → ℕ → Reply → List Event → Type 0
AnswersLoopStart loop limits members m reply h = AnswersStart (loop_tests loop) (shape_of loop) DealsOut limits members m reply h

-- the events after it
abbrev pub loop_started : LoopDesc → ℕ → Reply → List Event → List Event
loop_started loop m reply h = entry_and piece_given (shape_of loop) m h reply ++ h

-- after the start of a loop of this shape that its member's own tests let through
abbrev pub loop_begun : Shape → ℕ → Reply → List Event → List Event
loop_begun shape m reply h = entry_and piece_given shape m h reply ++ h

-- the answer to a call for the next piece
abbrev pub AnswersLoopNext : ℕ → ℕ → Reply → List Event → Type 0
AnswersLoopNext members m reply h =
    Answers (next_tests (seen_of m h)) (λ given. DealsNext members m (open_share m h) given h) reply

-- the answer to a member that its own tests let ask for the next piece: its share deals so
abbrev pub AnswersTake : ℕ → ℕ → Reply → List Event → Type 0
AnswersTake members m reply h = DealsNext members m (open_share m h) reply h

-- the events after it
abbrev pub loop_next_taken : ℕ → ℕ → Reply → List Event → List Event
loop_next_taken members m reply h = next_given members (open_share m h) m h reply ++ h

-- of the end by this call
abbrev pub AnswersLoopEnd : EndKind → ℕ → Reply → List Event → Type 0
AnswersLoopEnd kind m reply h = Answers (end_tests kind (seen_of m h) ++ drained_tests m h) (λ given. given ≡ Finished) reply
