-- The calls on a share that its member's seat answers in a word or two, with no other test, or not at all. (own; OpenMP API 5.2, sections 11.3, 11.5 and 15.10.2)
use Rattle.std.specs.Prelude.{ℤ, ◌≡◌, ◌&&◌, ◌⊎◌, is_none, not, Bool}
use Rattle.gomp_types.specs.declared.limits.Limits.{Limits}
use Rattle.gomp_types.specs.declared.loop_desc.EndKind.TheVariants.{Nowait}
use Rattle.gomp_types.specs.Compare.{end_differs}
use Rattle.gomp_types.specs.declared.refusal.Refusal.TheVariants.{Mismatch}
use Rattle.gomp_types.specs.declared.reply.Reply.TheVariants.{Refused, Wait}
use Rattle.gomp_types.specs.declared.shape.Shape.{Shape}
use Rattle.gomp_types.specs.Shapes.{is_loop, is_sections}
use Rattle.gomp_types.specs.Tests.{first_holding}
use Rattle.gomp_events.specs.Events.{in_kind}
use Rattle.gomp_events.specs.Ordered.{is_ordered}
use Rattle.gomp_events.specs.declared.seen.Seen.{Seen}
use Rattle.gomp_shares.specs.declared.admission.Construct.{Construct}
use Rattle.gomp_shares.specs.Admission.{kinds_of, seen_in}
use Rattle.gomp_shares.specs.OrderedParts.{part_tests}
use Rattle.gomp_shares.specs.Starts.{start_tests}
use Rattle.gomp_ring.specs.RingSeats.{SeatView, may_claim}
use Rattle.gomp_team_shares.specs.Constructs.{construct_tests}
use Rattle.gomp_team_shares.specs.declared.start.ShareStart.{ShareStart}
use Rattle.gomp_seat_calls.specs.Next.{TakesPiece}
use Rattle.gomp_seat_calls.specs.Starts.{EntersAnd, StartsBySeat}

-- whether a member that sees this may take its next section with no other test: it is in sections, and may claim
abbrev pub sections_alone : Seen → Bool
sections_alone seen = in_kind is_sections seen.current && may_claim seen

-- whether it may end its loop or sections by the call for an end without a barrier, with no other test: that is how it ends, nothing is left for the member, and it is in no ordered part
abbrev pub ends_alone : Construct → Seen → Bool
ends_alone construct seen = seen_in (kinds_of construct) seen && (not (end_differs Nowait seen.current) && (seen.drained && not seen.in_part))

-- whether none of its own tests refuses it this start
abbrev pub admits_start : ShareStart → Limits → Seen → Bool
admits_start start limits seen = is_none (first_holding (start_tests (construct_tests start) limits seen))

-- a member that tried to start this is where it was: it has to wait, or the team's share of this number is another construct
abbrev pub IsNotStarted : ShareStart → SeatView → SeatView → Type 0
IsNotStarted start before now =
    (StartsBySeat start before Wait now ⊎ StartsBySeat start before (Refused Mismatch) now) × (now ≡ before)

-- likewise a member that tried to enter its next share, of this shape, for a loop or for sections
abbrev pub StaysOutside : Construct → Shape → SeatView → SeatView → Type 0
StaysOutside construct shape before now =
    (EntersAnd (TakesPiece construct) shape before Wait now ⊎ EntersAnd (TakesPiece construct) shape before (Refused Mismatch) now) × (now ≡ before)

-- whether none of its own tests refuses it the ordered part of the iteration with this value
abbrev pub admits_part : ℤ → Seen → Bool
admits_part value seen = is_none (first_holding (part_tests value seen))

-- whether none of them refuses it the next chunk of an ordered loop, which it takes once the turn is its: it is in such a loop, and may claim
abbrev pub admits_by_turn : Seen → Bool
admits_by_turn seen = in_kind is_loop seen.current && (is_ordered seen.current && may_claim seen)
