-- Calls that a member's seat answers in a word or two: what its place tells of them, of any seats, constructs, shapes and pieces.
use Rattle.std.proofs.Common.{◌≡◌, ℕ, ◌<◌, inl, inr, Bool, true, false, List, ◌∷◌, Option, Some, None, refl, ap, sym, ◌∙◌, arith}
use Rattle.std.specs.Prelude.{◌&&◌, Ok, is_none, is_some, not}
use Rattle.gomp_types.specs.declared.loop_desc.EndKind.TheVariants.{Nowait}
use Rattle.gomp_types.specs.declared.refusal.Refusal.{Refusal}
use Rattle.gomp_types.specs.declared.reply.Reply.{Reply}
use Rattle.gomp_types.specs.declared.reply.Reply.TheVariants.{Finished, Section}
use Rattle.gomp_types.specs.declared.shape.Shape.{Shape}
use Rattle.gomp_types.specs.Compare.{end_differs}
use Rattle.gomp_types.specs.Least.{least}
use Rattle.gomp_types.specs.Pieces.{Piece}
use Rattle.gomp_types.specs.Shapes.{is_sections}
use Rattle.gomp_types.specs.Tests.{outcome}
use Rattle.gomp_types.proofs.Booleans.{and_left, and_right, false_of_not, same_number}
use Rattle.gomp_events.specs.declared.event.Event.{Event}
use Rattle.gomp_events.specs.declared.event.Event.TheVariants.{Take}
use Rattle.gomp_events.specs.declared.seen.Seen.{Seen}
use Rattle.gomp_events.specs.Events.{in_kind}
use Rattle.gomp_events.specs.Seen.{seen_of}
use Rattle.gomp_shares.specs.declared.admission.Construct.{Construct}
use Rattle.gomp_shares.specs.declared.admission.Construct.TheVariants.{Loop, Sections}
use Rattle.gomp_shares.specs.Admission.{end_tests_of, kinds_of, next_tests_of, seen_in}
use Rattle.gomp_shares.specs.Calls.{CanLeave, IsIn}
use Rattle.gomp_shares.proofs.Admitted.{in_some_share}
use Rattle.gomp_slots.specs.Calls.{claim_event}
use Rattle.gomp_slots.specs.declared.opening.Delay.{Delay}
use Rattle.gomp_slots.specs.declared.opening.Delay.TheVariants.{NoRoom, BeingOpened}
use Rattle.gomp_slots.specs.declared.opening.Entry.TheVariants.{NotYet, Differs}
use Rattle.gomp_slots.specs.declared.singles.Passage.TheVariants as passage
use Rattle.gomp_team_shares.specs.declared.start.ShareStart.TheVariants.{Single}
use Rattle.gomp_ring.specs.RingSeats.{SeatView, IsLawfulSeat, SeatClaims, SeatGoesThrough, SeatOpens, SeatPasses, may_claim}
use Rattle.gomp_seat_calls.specs.Alone.{StaysOutside, IsNotStarted, ends_alone, sections_alone}
use Rattle.gomp_seat_calls.specs.Ends.{EndsAtOnce}
use Rattle.gomp_seat_calls.specs.Next.{AnswersNext, TakesPiece, reply_in}
use Rattle.gomp_seat_calls.specs.Stays.{LeavesShare}

-- Claims

claim_stays : (share m : ℕ) (piece : Option Piece) (did : List Event) → (seen_of m (claim_event share m piece ∷ did)).current ≡ (seen_of m did).current
claim_stays share m None did = refl
claim_stays share m (Some piece) did = refl

-- a member that claims stays in its share
pub claimed_inside : (before now : SeatView) (piece : Option Piece) (shape : Shape) → IsLawfulSeat before → SeatClaims before piece now → IsIn shape before.seen → IsIn shape now.seen
claimed_inside before now piece shape stands claims inside =
    let sees : now.seen ≡ seen_of before.member (claim_event claims.share.0 before.member piece ∷ before.did) = claims.acts.sees ∙ ap (seen_of before.member) claims.acts.did in
    (inside.0, ap (λ (s : Seen). s.current) sees ∙ claim_stays claims.share.0 before.member piece before.did ∙ sym (ap (λ (s : Seen). s.current) stands.sees) ∙ inside.1)

pub taken_inside : (construct : Construct) (before now : SeatView) (reply : Reply) (shape : Shape) → IsLawfulSeat before → TakesPiece construct before reply now → IsIn shape before.seen → IsIn shape now.seen
taken_inside construct before now reply shape stands takes inside = claimed_inside before now takes.piece shape stands takes.claims inside

-- Sections

pub section_may_claim : (seen : Seen) → sections_alone seen ≡ true → may_claim seen ≡ true
section_may_claim seen alone = and_right (in_kind is_sections seen.current) (may_claim seen) alone

-- none of its own tests refuses a member the next section that may claim it with no other test
no_section_test : (seen : Seen) → sections_alone seen ≡ true → least (next_tests_of Sections seen) ≡ None
no_section_test seen alone =
    let claims = section_may_claim seen alone in
    let more = false_of_not seen.drained (and_right (is_some seen.current) (not seen.drained) (and_left (is_some seen.current && not seen.drained) (not seen.in_part) claims)) in
    rw (and_left (in_kind is_sections seen.current) (may_claim seen) alone, more) refl

pub section_is_answered : (before : SeatView) (reply : Reply) (now : SeatView) → sections_alone before.seen ≡ true → TakesPiece Sections before reply now → AnswersNext Sections before reply now
section_is_answered before reply now alone takes = record {
  refused = λ refusal is. absurd (let no : ◌≡◌ {A = Option Refusal} None (Some refusal) = sym (no_section_test before.seen alone) ∙ is in cc);
  admitted = λ none. takes;
}

section_behind_a_piece : (before now : SeatView) (piece : Piece) → IsLawfulSeat before → SeatClaims before (Some piece) now → sections_alone before.seen ≡ true → sections_alone now.seen ≡ true
section_behind_a_piece before now piece stands claims alone =
    let sees : now.seen ≡ seen_of before.member (Take claims.share.0 before.member piece.0 piece.1 ∷ before.did) = claims.acts.sees ∙ ap (seen_of before.member) claims.acts.did in
    let same : sections_alone (seen_of before.member (Take claims.share.0 before.member piece.0 piece.1 ∷ before.did)) ≡ sections_alone (seen_of before.member before.did) = refl in
    ap sections_alone sees ∙ (same ∙ (ap sections_alone (sym stands.sees) ∙ alone))

-- and behind a section it may claim again
pub section_again : (before now : SeatView) (number : ℕ) → IsLawfulSeat before → sections_alone before.seen ≡ true → TakesPiece Sections before (Section number) now → 0 < number → sections_alone now.seen ≡ true
section_again before now number stands alone takes some = by_piece takes.piece takes.claims takes.reply_is
  where
    by_piece : (piece : Option Piece) (claims : SeatClaims before piece now) → Section number ≡ reply_in Sections claims.share.1 piece → sections_alone now.seen ≡ true
    by_piece None claims is = let none : number ≡ 0 = cc in absurd (omega (arith, some, none))
    by_piece (Some piece) claims is = section_behind_a_piece before now piece stands claims alone

-- Ends

-- what a member sees that may end its construct with no other test
record Ends (construct : Construct) (seen : Seen) : Type 0 where
  inside : seen_in (kinds_of construct) seen ≡ true
  nowait : end_differs Nowait seen.current ≡ false
  drained : seen.drained ≡ true
  apart : seen.in_part ≡ false

seen_ends : (construct : Construct) (seen : Seen) → ends_alone construct seen ≡ true → Ends construct seen
seen_ends construct seen alone =
    let rest = and_right (seen_in (kinds_of construct) seen) (not (end_differs Nowait seen.current) && (seen.drained && not seen.in_part)) alone in
    let over = and_right (not (end_differs Nowait seen.current)) (seen.drained && not seen.in_part) rest in
    record {
      inside = and_left (seen_in (kinds_of construct) seen) (not (end_differs Nowait seen.current) && (seen.drained && not seen.in_part)) alone;
      nowait = false_of_not (end_differs Nowait seen.current) (and_left (not (end_differs Nowait seen.current)) (seen.drained && not seen.in_part) rest);
      drained = and_left seen.drained (not seen.in_part) over;
      apart = false_of_not seen.in_part (and_right seen.drained (not seen.in_part) over);
    }

pub drained_may_leave : (construct : Construct) (members m : ℕ) (seen : Seen) → m < members → ends_alone construct seen ≡ true → CanLeave members m seen
drained_may_leave construct members m seen lt alone =
    let ends = seen_ends construct seen alone in
    record {
      member = lt;
      inside = in_some_share (kinds_of construct) seen.current ends.inside;
      done = rw ends.drained refl;
      apart = ends.apart;
    }

no_end_test : (construct : Construct) (seen : Seen) → Ends construct seen → least (end_tests_of construct Nowait seen) ≡ None
no_end_test Loop seen ends = rw (ends.inside, ends.apart, ends.nowait) refl
no_end_test Sections seen ends = rw (ends.inside, ends.nowait) refl

-- once it has left its share its end is answered
pub end_is_answered : (construct : Construct) (before now : SeatView) → ends_alone construct before.seen ≡ true → LeavesShare before now → EndsAtOnce construct before Finished now
end_is_answered construct before now alone leaves =
    let ends = seen_ends construct before.seen alone in
    record {
      found = None;
      between = before;
      finds = record {
        refused = λ refusal is. absurd (let no : ◌≡◌ {A = Option Refusal} None (Some refusal) = sym (no_end_test construct before.seen ends) ∙ is in cc);
        admitted = λ none. rw ends.drained (refl, refl);
      };
      leaves = (refl, leaves);
    }

-- Singles

-- a member that went through a single is in no share
pub passed_outside : (executes : Bool) (before now : SeatView) → SeatGoesThrough executes before now → now.seen.current ≡ None
passed_outside executes before now passes =
    ap (λ (s : Seen). s.current) (passes.sees ∙ ap (seen_of before.member) passes.did) ∙ rw (same_number before.member) refl

-- Calls that are not made

-- a member that may not enter its next share yet, or whose share differs, has not entered it
pub not_entered_yet : (construct : Construct) (shape : Shape) (before now : SeatView) (delay : Delay) → SeatOpens before shape (NotYet delay) now → StaysOutside construct shape before now
not_entered_yet construct shape before now NoRoom opens = (inl (record { entry = NotYet NoRoom; between = now; opens = opens; enters = (refl, opens.same) }), opens.same)
not_entered_yet construct shape before now BeingOpened opens = (inl (record { entry = NotYet BeingOpened; between = now; opens = opens; enters = (refl, opens.0.same) }), opens.0.same)

pub not_entered_in_another_shape : (construct : Construct) (shape : Shape) (before now : SeatView) → SeatOpens before shape Differs now → StaysOutside construct shape before now
not_entered_in_another_shape construct shape before now opens = (inr (record { entry = Differs; between = now; opens = opens; enters = (refl, opens.same) }), opens.same)

-- nor gone through a single
pub not_passed_yet : (before now : SeatView) (delay : Delay) → SeatPasses before (passage.NotYet delay) now → IsNotStarted Single before now
not_passed_yet before now NoRoom passes = (inl (record { answer = passage.NotYet NoRoom; passes = passes; reply_is = refl }), passes.same)
not_passed_yet before now BeingOpened passes = (inl (record { answer = passage.NotYet BeingOpened; passes = passes; reply_is = refl }), passes.0.same)

pub not_passed_as_another_share : (before now : SeatView) → SeatPasses before passage.Differs now → IsNotStarted Single before now
not_passed_as_another_share before now passes = (inr (record { answer = passage.Differs; passes = passes; reply_is = refl }), passes.same)

-- a start that its tests admit has its construct's shape, and no other has a shape
pub admitted_has_its_shape : (found : Option Refusal) (shape : Shape) → is_none found ≡ true → outcome found shape ≡ Ok shape
admitted_has_its_shape None shape none = refl
admitted_has_its_shape (Some first) shape none = absurd (cc)

pub shaped_is_admitted : (found : Option Refusal) (shape given : Shape) → Ok given ≡ outcome found shape → is_none found ≡ true
shaped_is_admitted None shape given is = refl
shaped_is_admitted (Some first) shape given is = absurd (cc)
