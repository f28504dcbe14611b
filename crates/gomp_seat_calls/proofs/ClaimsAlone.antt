-- A member that may claim its next chunk with no other test.
use Rattle.std.proofs.Common.{◌≡◌, ◌∷◌, Bool, true, false, Option, Some, None, refl, ap, sym, subst, ◌∙◌}
use Rattle.std.specs.Prelude.{◌&&◌, is_some, not}
use Rattle.gomp_types.specs.declared.refusal.Refusal.{Refusal}
use Rattle.gomp_types.specs.declared.reply.Reply.{Reply}
use Rattle.gomp_types.specs.Least.{least}
use Rattle.gomp_types.specs.Pieces.{Piece}
use Rattle.gomp_types.specs.Shapes.{is_loop}
use Rattle.gomp_types.proofs.Booleans.{and_left, and_right, false_of_not}
use Rattle.gomp_events.specs.declared.event.Event.TheVariants.{Take}
use Rattle.gomp_events.specs.declared.seen.Seen.{Seen}
use Rattle.gomp_events.specs.Events.{in_kind}
use Rattle.gomp_events.specs.Ordered.{is_ordered}
use Rattle.gomp_events.specs.Seen.{seen_of}
use Rattle.gomp_shares.specs.declared.admission.Construct.TheVariants.{Loop}
use Rattle.gomp_shares.specs.Admission.{next_tests_of}
use Rattle.gomp_ring.specs.RingSeats.{SeatView, IsLawfulSeat, SeatClaims, may_claim}
use Rattle.gomp_seat_calls.specs.Chunks.{claims_alone}
use Rattle.gomp_seat_calls.specs.Next.{AnswersNext, TakesByTurn, TakesPiece}

-- it is in a loop that is not ordered, and may claim
in_plain_loop : (seen : Seen) → claims_alone seen ≡ true → (in_kind is_loop seen.current && not (is_ordered seen.current)) ≡ true
in_plain_loop seen alone = and_left (in_kind is_loop seen.current && not (is_ordered seen.current)) (may_claim seen) alone

in_some_loop : (seen : Seen) → claims_alone seen ≡ true → in_kind is_loop seen.current ≡ true
in_some_loop seen alone = and_left (in_kind is_loop seen.current) (not (is_ordered seen.current)) (in_plain_loop seen alone)

not_ordered : (seen : Seen) → claims_alone seen ≡ true → is_ordered seen.current ≡ false
not_ordered seen alone = false_of_not (is_ordered seen.current) (and_right (in_kind is_loop seen.current) (not (is_ordered seen.current)) (in_plain_loop seen alone))

pub alone_may_claim : (seen : Seen) → claims_alone seen ≡ true → may_claim seen ≡ true
alone_may_claim seen alone = and_right (in_kind is_loop seen.current && not (is_ordered seen.current)) (may_claim seen) alone

-- and none of its own tests refuses it the next chunk
no_next_test : (seen : Seen) → claims_alone seen ≡ true → least (next_tests_of Loop seen) ≡ None
no_next_test seen alone =
    let claims = alone_may_claim seen alone in
    let apart = false_of_not seen.in_part (and_right (is_some seen.current && not seen.drained) (not seen.in_part) claims) in
    let more = false_of_not seen.drained (and_right (is_some seen.current) (not seen.drained) (and_left (is_some seen.current && not seen.drained) (not seen.in_part) claims)) in
    rw (in_some_loop seen alone, apart, more) refl

-- a piece that it takes answers its call
pub alone_is_answered : (before : SeatView) (reply : Reply) (now : SeatView) → claims_alone before.seen ≡ true → TakesPiece Loop before reply now → AnswersNext Loop before reply now
alone_is_answered before reply now alone takes = record {
  refused = λ refusal is. absurd (let no : ◌≡◌ {A = Option Refusal} None (Some refusal) = sym (no_next_test before.seen alone) ∙ is in cc);
  admitted = λ none. subst (λ (ordered : Bool). TakesByTurn ordered before reply now) (sym (not_ordered before.seen alone)) takes;
}

-- and behind a piece it may claim again
pub alone_behind_a_piece : (before now : SeatView) (piece : Piece) → IsLawfulSeat before → SeatClaims before (Some piece) now → claims_alone before.seen ≡ true → claims_alone now.seen ≡ true
alone_behind_a_piece before now piece stands claims alone =
    let sees : now.seen ≡ seen_of before.member (Take claims.share.0 before.member piece.0 piece.1 ∷ before.did) = claims.acts.sees ∙ ap (seen_of before.member) claims.acts.did in
    let same : claims_alone (seen_of before.member (Take claims.share.0 before.member piece.0 piece.1 ∷ before.did)) ≡ claims_alone (seen_of before.member before.did) = refl in
    ap claims_alone sees ∙ (same ∙ (ap claims_alone (sym stands.sees) ∙ alone))
