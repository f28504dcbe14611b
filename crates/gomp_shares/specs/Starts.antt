-- What the constructs that are shares have in common: how one is started. OpenMP API 5.2, chapter 11.
use Rattle.std.specs.Prelude.{ℕ, nat_le, not, ◌&&◌, ◌||◌, if◌then◌else◌, is_some, Bool, List, [], ◌∷◌, ◌++◌, Option, Some}
use Rattle.gomp_types.specs.declared.limits.Limits.{Limits}
use Rattle.gomp_types.specs.declared.refusal.Refusal.TheVariants.{InsideShare, TooManyShares, NotDrained, Mismatch}
use Rattle.gomp_types.specs.declared.reply.Reply.{Reply}
use Rattle.gomp_types.specs.declared.reply.Reply.TheVariants.{Finished}
use Rattle.gomp_types.specs.declared.shape.Shape.{Shape}
use Rattle.gomp_events.specs.declared.seen.Seen.{Seen}
use Rattle.gomp_events.specs.declared.event.Event.{Event}
use Rattle.gomp_events.specs.declared.event.Event.TheVariants.{Enter, End, See}
use Rattle.gomp_types.specs.Tests.{Test}
use Rattle.gomp_types.specs.Compare.{shape_differs}
use Rattle.gomp_events.specs.Events.{shares_entered, open_share, open_number, has_drained, has_room, shape_at}
use Rattle.gomp_events.specs.Cancels.{own_cancelled, leaves_share}
use Rattle.gomp_events.specs.Seen.{seen_of}
use Rattle.gomp_types.specs.Least.{Answers}
use Rattle.gomp_shares.specs.Calls.{kind_in}
use Rattle.gomp_shares.specs.OrWaits.{AnsweredOrWaits}

-- how a member's share answers it: of how many members, which member, the share
abbrev pub Deals : Type 1
Deals = ℕ → ℕ → Option (ℕ × Shape) → Reply → List Event → Type 0

-- a start waits until there is room, and then asks for iterations or sections
abbrev pub Starts : Deals → ℕ → ℕ → Shape → Reply → List Event → Type 0
Starts deals members m shape reply h =
    AnsweredOrWaits (has_room members (shares_entered m h) h) (λ given. deals members m (Some (shares_entered m h, shape)) given h) reply

-- the construct is compared with the team's share of the same number
abbrev pub compared_share : Shape → ℕ → List Event → List Test
compared_share shape m h = (shape_differs shape (shape_at (shares_entered m h) h), Mismatch) ∷ []

-- the tests of a start whose construct has these of its own
abbrev pub start_tests : List Test → Limits → Seen → List Test
start_tests own limits seen = (is_some seen.current, InsideShare) ∷ own ++ (nat_le limits.shares seen.entered, TooManyShares) ∷ []

-- all that a start is tested for among the shares
abbrev pub share_tests : List Test → Shape → Limits → ℕ → List Event → List Test
share_tests own shape limits m h = start_tests own limits (seen_of m h) ++ compared_share shape m h

-- these events after a first one; none if there are none
abbrev pub behind : Event → List Event → List Event
behind first [] = []
behind first (event ∷ events) = (event ∷ events) ++ (first ∷ [])

-- a start gives its entry and then what the first piece gives
abbrev pub entry_and : (ℕ → Shape → ℕ → Reply → List Event) → Shape → ℕ → List Event → Reply → List Event
entry_and Given shape m h reply = behind (Enter (shares_entered m h) m shape) (Given (shares_entered m h) shape m reply)

-- the events of a call that is done at once; none if it is refused
abbrev pub done_given : List Event → Reply → List Event
done_given events Finished = events
done_given events _ = []

-- the answer to a call that starts a share, whose construct has these tests of its own, this shape, and is dealt out so
abbrev pub AnswersStart : List Test → Shape → Deals → Limits → ℕ → ℕ → Reply → List Event → Type 0
AnswersStart own shape deals limits members m reply h =
    Answers (share_tests own shape limits m h) (λ given. Starts deals members m shape given h) reply

-- the answer to a member that its own tests let start a construct of this shape: it differs from the team's, or its share deals so
abbrev pub AnswersBegin : Shape → Deals → ℕ → ℕ → Reply → List Event → Type 0
AnswersBegin shape deals members m reply h = Answers (compared_share shape m h) (λ given. Starts deals members m shape given h) reply

-- Ends

-- whether the member was told that nothing is left of its share, or the share is cancelled
abbrev pub is_drained : ℕ → List Event → Bool
is_drained m h = has_drained m h || own_cancelled m h

-- the test of an end that the share decides
abbrev pub drained_tests : ℕ → List Event → List Test
drained_tests m h = (not (is_drained m h), NotDrained) ∷ []

-- a member that ends a cancelled share, and was neither told that nothing is left nor has seen that it is cancelled, sees that now (own)
abbrev pub sees_at_end : ℕ → List Event → List Event
sees_at_end m h = if own_cancelled m h && not (has_drained m h || leaves_share m h) then See m (kind_in (open_share m h)) ∷ [] else []

-- the member's share is left
abbrev pub leaves : ℕ → List Event → List Event
leaves m h = End (open_number m h) m ∷ sees_at_end m h

-- the events after an end with no barrier
abbrev pub left_at_once : ℕ → Reply → List Event → List Event
left_at_once m reply h = done_given (leaves m h) reply ++ h
