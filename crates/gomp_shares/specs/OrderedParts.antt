-- Ordered parts: what a call on one is tested for, answered and gives. OpenMP API 5.2, section 15.10.2.
use Rattle.std.specs.Prelude.{ℕ, ℤ, not, ◌≡◌, List, [], ◌∷◌, ◌++◌, Option, Some, None}
use Rattle.gomp_types.specs.declared.refusal.Refusal.TheVariants.{OutsideShare, InOrdered, NotOrdered, OrderedBackwards, NotInside}
use Rattle.gomp_types.specs.declared.reply.Reply.{Reply}
use Rattle.gomp_types.specs.declared.reply.Reply.TheVariants.{Finished}
use Rattle.gomp_types.specs.declared.shape.Shape.{Shape}
use Rattle.gomp_events.specs.declared.seen.Seen.{Seen}
use Rattle.gomp_events.specs.declared.event.Event.{Event}
use Rattle.gomp_events.specs.declared.event.Event.TheVariants.{Part, PartEnd}
use Rattle.gomp_types.specs.Tests.{Test}
use Rattle.gomp_types.specs.Values.{iteration_at}
use Rattle.gomp_types.specs.Shapes.{is_loop}
use Rattle.gomp_events.specs.Events.{in_kind, open_number, open_share}
use Rattle.gomp_events.specs.Ordered.{is_ordered, comes_next, has_turn}
use Rattle.gomp_types.specs.Least.{Answers}
use Rattle.gomp_shares.specs.Starts.{done_given}
use Rattle.gomp_shares.specs.OrWaits.{AnsweredOrWaits}
use Rattle.gomp_events.specs.Seen.{seen_of}

-- a member that begins an ordered part waits for the turn
abbrev pub BeginsPart : ℕ → ℕ → Option (ℕ × Shape) → Reply → List Event → Type 0
BeginsPart members m None reply h = ⊥
BeginsPart members m (Some share) reply h = AnsweredOrWaits (has_turn members share m h) (λ given. given ≡ Finished) reply

-- the part of the iteration with this value is begun
abbrev pub part_given : Option (ℕ × Shape) → ℕ → ℤ → Reply → List Event
part_given (Some share) m value Finished = Part share.0 m (iteration_at share.1 value) ∷ []
part_given _ m value _ = []

-- the part of the iteration with this value
abbrev pub part_tests : ℤ → Seen → List Test
part_tests value seen =
    (not (in_kind is_loop seen.current), OutsideShare)
    ∷ (seen.in_part, InOrdered)
    ∷ (not (is_ordered seen.current), NotOrdered)
    ∷ (not (comes_next seen.current seen.piece seen.next_part value), OrderedBackwards)
    ∷ []

-- the end of a part
abbrev pub part_end_tests : Seen → List Test
part_end_tests seen = (not seen.in_part, NotInside) ∷ []

-- the event that the end of a part gives
abbrev pub part_end_events : ℕ → List Event → List Event
part_end_events m h = PartEnd (open_number m h) m ∷ []

-- The answers, and the events after them

-- the answer to the start of a part
abbrev pub AnswersPart : ℕ → ℤ → ℕ → Reply → List Event → Type 0
AnswersPart members value m reply h =
    Answers (part_tests value (seen_of m h)) (λ given. BeginsPart members m (open_share m h) given h) reply

-- the answer to a member that its own tests let begin a part: it waits for the turn in its share
abbrev pub BeginsOwnPart : ℕ → ℕ → Reply → List Event → Type 0
BeginsOwnPart members m reply h = BeginsPart members m (open_share m h) reply h

-- the events after it
abbrev pub part_started : ℤ → ℕ → Reply → List Event → List Event
part_started value m reply h = part_given (open_share m h) m value reply ++ h

-- the answer to the end of a part
abbrev pub AnswersPartEnd : ℕ → Reply → List Event → Type 0
AnswersPartEnd m reply h = Answers (part_end_tests (seen_of m h)) (λ given. given ≡ Finished) reply

-- the events after it
abbrev pub part_ended_at_once : ℕ → Reply → List Event → List Event
part_ended_at_once m reply h = done_given (part_end_events m h) reply ++ h
