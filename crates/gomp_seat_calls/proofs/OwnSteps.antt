-- What a step of a member's seat leaves of its place, of any seats, members, shares and events.
use Rattle.std.proofs.Common.{◌≡◌, ℕ, ◌<◌, ◌≤◌, Bool, true, List, [], ◌∷◌, Option, Some, None, refl, ap, sym, ◌∙◌, subst, inl, inr}
use Rattle.std.specs.Prelude.{◌==◌, is_some}
use Rattle.std.proofs.lemmas.Bool.{cases_Bool}
use Rattle.gomp_types.specs.declared.cancel.Scope.TheVariants.{OneShare}
use Rattle.gomp_types.specs.declared.loop_desc.EndKind.{EndKind}
use Rattle.gomp_types.specs.declared.refusal.Refusal.{Refusal}
use Rattle.gomp_types.specs.declared.reply.Reply.TheVariants.{Cancelling}
use Rattle.gomp_types.specs.Least.{least}
use Rattle.gomp_types.specs.Tests.{first_holding}
use Rattle.gomp_shares.specs.declared.admission.Construct.{Construct}
use Rattle.gomp_shares.specs.Admission.{end_tests_of}
use Rattle.gomp_shares.specs.Cancels.{cancel_place_tests}
use Rattle.gomp_shares.proofs.Admitted.{end_lets_leave, end_tests_rise, no_test_holds}
use Rattle.gomp_team_shares.specs.Inside.{construct_kind}
use Rattle.gomp_types.specs.declared.shape.Shape.{Shape}
use Rattle.gomp_types.specs.Pieces.{Piece}
use Rattle.gomp_types.proofs.Booleans.{same_number, some_of}
use Rattle.gomp_events.specs.declared.event.Event.{Event}
use Rattle.gomp_events.specs.declared.event.Event.TheVariants.{Cancel, Enter, See}
use Rattle.gomp_events.specs.declared.seen.Seen.{Seen}
use Rattle.gomp_events.specs.Cancels.{was_cancelled, inside_cancelled, own_cancelled}
use Rattle.gomp_events.specs.Events.{open_share, share_number, member_of}
use Rattle.gomp_events.specs.Seen.{seen_of}
use Rattle.gomp_shares.specs.Calls.{CanEnd, CanLeave, IsIn, in_construct, kind_in}
use Rattle.gomp_shares.specs.Only.{own_of}
use Rattle.gomp_shares.proofs.CancelledShares.{cancelled_stays}
use Rattle.gomp_shares.proofs.Ended.{free_after_seeing}
use Rattle.gomp_shares.proofs.OwnEvents.{seen_own}
use Rattle.gomp_ring.specs.RingSeats.{SeatView, IsLawfulSeat, SeatActs, SeatClaims, SeatSees}
use Rattle.gomp_seat_calls.specs.Cancels.{AnswersCancel}
use Rattle.gomp_seat_calls.proofs.OwnPlace.{seen_at, can_see}

-- An event that says nothing of a member's place leaves what it sees
pub sees_the_same : (event : Event) (before now : SeatView) → IsLawfulSeat before → SeatActs event before now → seen_of before.member (event ∷ before.did) ≡ seen_of before.member before.did → now.seen ≡ before.seen
sees_the_same event before now stands acts still = acts.sees ∙ ap (seen_of before.member) acts.did ∙ still ∙ sym stands.sees

-- Claims

-- the share of a claim is the one that the member is in
pub claimed_share : (before now : SeatView) (piece : Option Piece) (share : ℕ × Shape) → IsLawfulSeat before → (claims : SeatClaims before piece now) → before.seen.current ≡ Some share → claims.claims.share ≡ share
claimed_share before now piece share stands claims inside =
    let e : before.seen.current ≡ open_share before.member claims.acts.events = ap (λ (s : Seen). s.current) (seen_at before claims.acts.events stands claims.acts.knows) in
    let same : ◌≡◌ {A = Option (ℕ × Shape)} (Some claims.claims.share) (Some share) = sym claims.claims.there ∙ sym e ∙ inside in
    cc

pub claims_its_share : (before now : SeatView) (piece : Option Piece) (share : ℕ × Shape) → (claims : SeatClaims before piece now) → before.seen.current ≡ Some share → claims.share ≡ share
claims_its_share before now piece share claims inside =
    let same : ◌≡◌ {A = Option (ℕ × Shape)} (Some claims.share) (Some share) = sym claims.inside ∙ inside in
    cc

-- and a piece lies within it
pub claimed_within : (before now : SeatView) (piece : Option Piece) (number : ℕ) (shape : Shape) → IsLawfulSeat before → SeatClaims before piece now → before.seen.current ≡ Some (number, shape) → (p : Piece) → piece ≡ Some p → (p.0 < p.1) × (p.1 ≤ shape.trips)
claimed_within before now piece number shape stands claims inside p is =
    let same = claimed_share before now piece (number, shape) stands claims inside in
    rw (is, same) at claims.claims.within

-- Entries

-- a member that entered its next share is in it
pub entered_inside : (before now : SeatView) (share : ℕ) (shape : Shape) → SeatActs (Enter share before.member shape) before now → IsIn shape now.seen
entered_inside before now share shape acts = (share, ap (λ (s : Seen). s.current) (acts.sees ∙ ap (seen_of before.member) acts.did) ∙ rw (same_number before.member) refl)

-- Cancellation

same_share_cancelled : (m i : ℕ) (h : List Event) → was_cancelled (OneShare i) (Cancel m (OneShare i) ∷ h) ≡ true
same_share_cancelled m i h = rw (same_number i) refl

-- a member that has cancelled a share is one of those that cancelled it
pub own_cancel_tells : (m i : ℕ) (did h : List Event) → own_of m h ≡ Cancel m (OneShare i) ∷ did → was_cancelled (OneShare i) h ≡ true
own_cancel_tells m i did [] e = absurd (cc)
own_cancel_tells m i did (event ∷ h) e =
    elim (cases_Bool (member_of event == m)) [
      | inl is ↦ first_is_it event h (rw is at e)
      | inr other ↦ cancelled_stays (OneShare i) event h (own_cancel_tells m i did h (rw other at e))
    ]
  where
    first_is_it : (first : Event) (rest : List Event) → first ∷ own_of m rest ≡ Cancel m (OneShare i) ∷ did → was_cancelled (OneShare i) (first ∷ rest) ≡ true
    first_is_it first rest same = let it : first ≡ Cancel m (OneShare i) = cc in rw it (same_share_cancelled m i rest)

-- it sees its share cancelled
pub sees_own_cancel : (before between now : SeatView) (answer : Bool) (share : ℕ × Shape) → IsLawfulSeat before → before.seen.current ≡ Some share → SeatActs (Cancel before.member (OneShare (share_number before.seen.current))) before between → SeatSees between answer now →
    answer ≡ true
sees_own_cancel before between now answer share stands inside acts sees =
    let who : between.member ≡ before.member = acts.member in
    let number : share_number before.seen.current ≡ share.0 = ap share_number inside in
    let own : own_of before.member sees.events ≡ Cancel before.member (OneShare share.0) ∷ before.did = ap (λ (m : ℕ). own_of m sees.events) (sym who) ∙ sym sees.knows ∙ acts.did ∙ ap (λ (i : ℕ). Cancel before.member (OneShare i) ∷ before.did) number in
    let current : open_share before.member sees.events ≡ Some share =
    ap (λ (s : Seen). s.current) (sym (seen_own before.member sees.events) ∙ ap (seen_of before.member) own ∙ sym stands.sees) ∙ inside in
    sees.answer_is ∙ ap (λ (m : ℕ). own_cancelled m sees.events) who ∙ ap (λ (o : Option (ℕ × Shape)). inside_cancelled o sees.events) current ∙ own_cancel_tells before.member share.0 before.did sees.events own

-- so a cancel construct with a true clause answers yes
pub cancel_answered : (construct : Construct) (allowed answer : Bool) (before between now : SeatView) → IsLawfulSeat before → least (cancel_place_tests (construct_kind construct) before.seen) ≡ None → allowed ≡ true →
    SeatActs (Cancel before.member (OneShare (share_number before.seen.current))) before between → SeatSees between answer now → AnswersCancel construct allowed true before (Cancelling answer) now
cancel_answered construct allowed answer before between now stands none may acts sees =
    let inside = (can_see construct before stands none).inside in
    let share = some_of before.seen.current (in_construct_is_some before.seen.current inside) in
    let yes : answer ≡ true = sees_own_cancel before between now answer share.0 stands share.1 acts sees in
    let seen : SeatSees between true now = subst (λ (b : Bool). SeatSees between b now) yes sees in
    rw (may, yes) (record {
      refused = λ refusal is. absurd (let no : ◌≡◌ {A = Option Refusal} None (Some refusal) = sym none ∙ is in cc);
      admitted = λ let_through. record { between = between; cancels = acts; sees = seen; reply_is = refl };
    })
  where
    in_construct_is_some : (own : Option (ℕ × Shape)) → in_construct own ≡ true → is_some own ≡ true
    in_construct_is_some None e = absurd (cc)
    in_construct_is_some (Some in_it) e = refl

-- Ends

-- a member that its own tests let end its share can end it
pub can_end : (construct : Construct) (kind : EndKind) (seat : SeatView) → IsLawfulSeat seat → None ≡ first_holding (end_tests_of construct kind seat.seen) → CanEnd seat.members seat.member seat.seen
can_end construct kind seat stands first =
    let h = stands.lawful.events in
    end_lets_leave construct kind seat.members seat.member seat.seen h stands.lawful.rule (seen_at seat h stands stands.lawful.part) stands.member (no_test_holds (end_tests_of construct kind seat.seen) (end_tests_rise construct kind seat.seen) first)

-- a member that has seen its share cancelled may leave it
pub free_after_see : (before now : SeatView) → IsLawfulSeat before → CanEnd before.members before.member before.seen → SeatActs (See before.member (kind_in before.seen.current)) before now → CanLeave now.members now.member now.seen
free_after_see before now stands can acts =
    let current : open_share before.member before.did ≡ before.seen.current = ap (λ (s : Seen). s.current) (sym stands.sees) in
    let seen : now.seen ≡ seen_of before.member (See before.member (kind_in (open_share before.member before.did)) ∷ before.did) =
    acts.sees ∙ ap (seen_of before.member) (acts.did ∙ ap (λ (o : Option (ℕ × Shape)). See before.member (kind_in o) ∷ before.did) (sym current)) in
    rw (acts.members, acts.member, seen) (free_after_seeing before.members before.member before.did (rw stands.sees at can))
