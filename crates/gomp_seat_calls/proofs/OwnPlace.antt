-- A member's own tests, by what it sees of its place: what they tell of the team's events, and what they let the member do.
use Rattle.std.proofs.Common.{◌≡◌, ℕ, ◌<◌, Bool, true, false, List, Option, Some, None, Ok, Err, refl, ap, sym, ◌∙◌}
use Rattle.std.specs.Prelude.{◌&&◌, ◌||◌, if◌then◌else◌, is_some, not, IfOk, Result}
use Rattle.gomp_types.specs.declared.refusal.Refusal.{Refusal}
use Rattle.gomp_types.specs.declared.refusal.Refusal.TheVariants.{Mismatch, NotDrained}
use Rattle.gomp_types.specs.declared.loop_desc.EndKind.{EndKind}
use Rattle.gomp_types.specs.declared.reply.Reply.{Reply}
use Rattle.gomp_types.specs.declared.reply.Reply.TheVariants.{Refused}
use Rattle.gomp_types.specs.declared.shape.Shape.{Shape}
use Rattle.gomp_types.specs.declared.shape.ShareKind.{ShareKind}
use Rattle.gomp_types.specs.declared.shape.ShareKind.TheVariants.{SingleCopy, Sections as SectionsKind}
use Rattle.gomp_types.specs.Deals.{schedule}
use Rattle.gomp_types.specs.Least.{least}
use Rattle.gomp_types.specs.Shapes.{is_loop, is_sections, is_single, is_copy}
use Rattle.gomp_types.specs.Tests.{Test, first_holding, outcome}
use Rattle.gomp_types.proofs.Booleans.{and_left, and_right, or_left, or_right, not_false, false_of_not, copy_is_single}
use Rattle.gomp_types.proofs.LeastTests.{all_fail, first_is_least, from}
use Rattle.gomp_events.specs.declared.event.Event.{Event}
use Rattle.gomp_events.specs.declared.seen.Seen.{Seen}
use Rattle.gomp_events.specs.Cancels.{own_cancelled, may_be_cancelled}
use Rattle.gomp_events.specs.Events.{in_kind, has_drained, shape_at, shares_entered}
use Rattle.gomp_events.specs.Seen.{seen_of}
use Rattle.gomp_shares.specs.declared.admission.Construct.{Construct}
use Rattle.gomp_shares.specs.declared.admission.Construct.TheVariants.{Loop, Sections}
use Rattle.gomp_shares.specs.Admission.{end_tests_of, all_end_tests, next_tests_of}
use Rattle.gomp_shares.specs.Calls.{CanOpen, MayOpenAs, CanCancel, CanSee, CanLeave, is_done}
use Rattle.gomp_shares.specs.Cancels.{cancel_place_tests}
use Rattle.gomp_shares.specs.Only.{own_of}
use Rattle.gomp_shares.specs.Singles.{put_tests, is_executor}
use Rattle.gomp_shares.specs.Starts.{is_drained, drained_tests, start_tests, compared_share}
use Rattle.gomp_shares.proofs.Admitted.{begin_compared, behind_front, least_seen, outcome_none, refused_by_place, refused_by_share, test_of_drained, in_some_share, no_test_holds}
use Rattle.gomp_shares.proofs.Ended.{told_is_drained, untold_is_not_drained}
use Rattle.gomp_shares.proofs.OwnEvents.{seen_own}
use Rattle.gomp_shares.proofs.PartsKeep.{apart_by}
use Rattle.gomp_types.specs.declared.limits.Limits.{Limits}
use Rattle.gomp_types.specs.Compare.{shape_differs}
use Rattle.gomp_types.proofs.TestRows.{outcome_refused, outcome_value}
use Rattle.gomp_sections.proofs.Tests.{own_refuses}
use Rattle.gomp_team_shares.specs.declared.start.ShareStart.{ShareStart}
use Rattle.gomp_team_shares.specs.Constructs.{construct_shape, construct_tests, construct_start_tests}
use Rattle.gomp_team_shares.specs.Inside.{construct_kind}
use Rattle.gomp_team_shares.proofs.RefusedAs.{construct_start_tests_rise, construct_place_tests_rise}
use Rattle.gomp_ring.specs.RingSeats.{SeatView, IsLawfulSeat, SeatAsks, SeatCompares, may_claim}
use Rattle.gomp_seat_calls.specs.Stays.{AnswersBySeat, FindsRefusal}
use Rattle.gomp_seat_calls.specs.Ends.{FindsEnd}
use Rattle.gomp_seat_calls.specs.Starts.{awaits_payload}

-- what a member sees is what each list of the team's events says of which its seat knew its own part
pub seen_at : (seat : SeatView) (h : List Event) → IsLawfulSeat seat → seat.did ≡ own_of seat.member h → seat.seen ≡ seen_of seat.member h
seen_at seat h stands knows = stands.sees ∙ ap (seen_of seat.member) knows ∙ seen_own seat.member h

-- Refusals

-- a first refusal of tests that stand in the order of their numbers answers the call
pub refused_first : (tests : List Test) (Does : Reply → SeatView → Type 0) (seat : SeatView) (refusal : Refusal) → from 0 tests ≡ true → Some refusal ≡ first_holding tests → AnswersBySeat tests Does seat (Refused refusal) seat
refused_first tests Does seat refusal rise first =
    let is_least : least tests ≡ Some refusal = sym (first ∙ first_is_least 0 tests rise) in
    record {
      refused = λ other is. (let same : ◌≡◌ {A = Option Refusal} (Some refusal) (Some other) = sym is_least ∙ is in cc, refl);
      admitted = λ none. absurd (let no : ◌≡◌ {A = Option Refusal} (Some refusal) None = sym is_least ∙ none in cc);
    }

-- and so does a refusal that is the least
pub refused_least : (tests : List Test) (Does : Reply → SeatView → Type 0) (seat : SeatView) (reply : Reply) → (least tests ≡ None → ⊥) → ((refusal : Refusal) → least tests ≡ Some refusal → reply ≡ Refused refusal) → AnswersBySeat tests Does seat reply seat
refused_least tests Does seat reply some is = record { refused = λ refusal first. (is refusal first, refl); admitted = λ none. absurd (some none) }

-- what a member finds by its place it finds at some moment
pub finds_by_place : (seat : SeatView) (tests : Seen → List Test) (all : ℕ → List Event → List Test) (found : Option Refusal) → IsLawfulSeat seat → ((h : List Event) → least (all seat.member h) ≡ least (tests (seen_of seat.member h))) →
    found ≡ least (tests seat.seen) → FindsRefusal all seat found seat
finds_by_place seat tests all found stands place is =
    let h = stands.lawful.events in
    record {
      events = h;
      knows = stands.lawful.part;
      rule = stands.lawful.rule;
      least_is = is ∙ ap (λ (s : Seen). least (tests s)) (seen_at seat h stands stands.lawful.part) ∙ sym (place h);
      same = refl;
    }

-- Ends

-- the end of a construct is refused by its member's place
pub finds_end_by_place : (construct : Construct) (kind : EndKind) (seat : SeatView) (refusal : Refusal) → IsLawfulSeat seat → Some refusal ≡ first_holding (end_tests_of construct kind seat.seen) → FindsRefusal (all_end_tests construct kind) seat (Some refusal) seat
finds_end_by_place construct kind seat refusal stands first =
    let h = stands.lawful.events in
    record {
      events = h;
      knows = stands.lawful.part;
      rule = stands.lawful.rule;
      least_is = sym (refused_by_place construct kind seat.member seat.seen h refusal (seen_at seat h stands stands.lawful.part) (sym first));
      same = refl;
    }

-- or let through, since the member has seen an end of its share
pub finds_end_seen : (construct : Construct) (kind : EndKind) (seat : SeatView) → IsLawfulSeat seat → None ≡ first_holding (end_tests_of construct kind seat.seen) → (seat.seen.drained || seat.seen.leaving) ≡ true → FindsRefusal (all_end_tests construct kind) seat None seat
finds_end_seen construct kind seat stands first told =
    let h = stands.lawful.events in
    let e = seen_at seat h stands stands.lawful.part in
    record {
      events = h;
      knows = stands.lawful.part;
      rule = stands.lawful.rule;
      least_is =
          test_of_drained (is_drained seat.member h) (told_is_drained (schedule seat.members) seat.members seat.member h stands.lawful.rule (sym (ap (λ (s : Seen). s.drained || s.leaving) e) ∙ told))
          ∙ sym (refused_by_share construct kind seat.member seat.seen h e (sym first));
      same = refl;
    }

-- or by the share, of which it asks whether it is cancelled
pub finds_end_asked : (construct : Construct) (kind : EndKind) (seat now : SeatView) (answer : Bool) → IsLawfulSeat seat → None ≡ first_holding (end_tests_of construct kind seat.seen) → (seat.seen.drained || seat.seen.leaving) ≡ false → SeatAsks seat answer now →
    FindsRefusal (all_end_tests construct kind) seat (if answer then None else Some NotDrained) now
finds_end_asked construct kind seat now answer stands first untold asks =
    let h = asks.events in
    let e = seen_at seat h stands asks.knows in
    record {
      events = h;
      knows = asks.knows;
      rule = asks.rule;
      least_is = by_share answer e asks.answer_is ∙ sym (refused_by_share construct kind seat.member seat.seen h e (sym first));
      same = asks.same;
    }
  where
    by_share : (cancelled : Bool) → seat.seen ≡ seen_of seat.member asks.events → cancelled ≡ own_cancelled seat.member asks.events → (if cancelled then None else Some NotDrained) ≡ least (drained_tests seat.member asks.events)
    by_share true e is = test_of_drained (is_drained seat.member asks.events) (or_right (has_drained seat.member asks.events) (own_cancelled seat.member asks.events) (sym is))
    by_share false e is = untold_is_not_drained seat.member asks.events (sym (ap (λ (s : Seen). s.drained || s.leaving) e) ∙ untold) (sym is)

-- a refusal by its place is what a member finds that looks for an end
pub own_end_refused : (construct : Construct) (kind : EndKind) (seat : SeatView) (refusal : Refusal) → from 0 (end_tests_of construct kind seat.seen) ≡ true → Some refusal ≡ first_holding (end_tests_of construct kind seat.seen) → FindsEnd construct kind seat (Some refusal) seat
own_end_refused construct kind seat refusal rise first =
    let is_least : least (end_tests_of construct kind seat.seen) ≡ Some refusal = sym (first ∙ first_is_least 0 (end_tests_of construct kind seat.seen) rise) in
    record {
      refused = λ other is. (sym is_least ∙ is, refl);
      admitted = λ none. absurd (let no : ◌≡◌ {A = Option Refusal} (Some refusal) None = sym is_least ∙ none in cc);
    }

-- Starts

-- a shape that a member may open by its place it can open in its team
pub opens_by_place : (found : Result Shape Refusal) (seat : SeatView) (seen : Seen) → IsLawfulSeat seat → seen ≡ seat.seen → IfOk found (MayOpenAs seen) → IfOk found (λ shape. CanOpen seat.members seat.member shape seat.seen)
opens_by_place (Ok shape) seat seen stands same may = rw (← same) (may seat.members seat.member stands.member)
opens_by_place (Err refusal) seat seen stands same may = may

-- a start is refused by its member's place
pub finds_start_by_place : (start : ShareStart) (limits : Limits) (seat : SeatView) (refusal : Refusal) → IsLawfulSeat seat → outcome (first_holding (start_tests (construct_tests start) limits seat.seen)) (construct_shape start) ≡ Err refusal →
    FindsRefusal (construct_start_tests start limits) seat (Some refusal) seat
finds_start_by_place start limits seat refusal stands is =
    let h = stands.lawful.events in
    record {
      events = h;
      knows = stands.lawful.part;
      rule = stands.lawful.rule;
      least_is = sym (own_refuses (construct_tests start) (construct_shape start) limits seat.member seat.seen h refusal (construct_start_tests_rise start limits seat.member h) (seen_at seat h stands stands.lawful.part)
          (sym (outcome_refused (first_holding (start_tests (construct_tests start) limits seat.seen)) (construct_shape start) refusal is)));
      same = refl;
    }

-- or compared with the team's share of its number
pub finds_start_compared : (start : ShareStart) (limits : Limits) (seat now : SeatView) (shape : Shape) (differs : Bool) → IsLawfulSeat seat → outcome (first_holding (start_tests (construct_tests start) limits seat.seen)) (construct_shape start) ≡ Ok shape →
    SeatCompares seat shape differs now → FindsRefusal (construct_start_tests start limits) seat (if differs then Some Mismatch else None) now
finds_start_compared start limits seat now shape differs stands found compares =
    let h = compares.events in
    let e = seen_at seat h stands compares.knows in
    let tests = start_tests (construct_tests start) limits seat.seen in
    let is : shape ≡ construct_shape start = outcome_value (first_holding tests) (construct_shape start) shape found in
    let none = least_seen (start_tests (construct_tests start) limits) seat.member seat.seen h None (construct_place_tests_rise start limits (seen_of seat.member h)) e (outcome_none (first_holding tests) (construct_shape start) shape found) in
    let here : shape_differs (construct_shape start) (shape_at (shares_entered seat.member h) h) ≡ differs =
    sym (compares.answer_is ∙ ap (λ (s : Shape). shape_differs s (shape_at seat.seen.entered h)) is ∙ ap (λ (i : ℕ). shape_differs (construct_shape start) (shape_at i h)) (ap (λ (s : Seen). s.entered) e)) in
    record {
      events = h;
      knows = compares.knows;
      rule = compares.rule;
      least_is = sym (behind_front (start_tests (construct_tests start) limits (seen_of seat.member h)) (compared_share (construct_shape start) seat.member h) none ∙ begin_compared (construct_shape start) seat.member h differs here);
      same = compares.same;
    }

-- and its shape is the construct's
pub started_shape : (start : ShareStart) (limits : Limits) (seen : Seen) (shape : Shape) → outcome (first_holding (start_tests (construct_tests start) limits seen)) (construct_shape start) ≡ Ok shape → shape ≡ construct_shape start
started_shape start limits seen shape found = outcome_value (first_holding (start_tests (construct_tests start) limits seen)) (construct_shape start) shape found

-- Cancellation

-- a member that its own tests let name its share can cancel it
pub can_cancel : (construct : Construct) (seat : SeatView) → IsLawfulSeat seat → least (cancel_place_tests (construct_kind construct) seat.seen) ≡ None → CanCancel seat.members seat.member seat.seen
can_cancel Loop seat stands none = let tests = all_fail (cancel_place_tests (construct_kind Loop) seat.seen) none in record { member = stands.member; cancellable = not_false (may_be_cancelled seat.seen.current) tests.1.0 }
can_cancel Sections seat stands none = let tests = all_fail (cancel_place_tests (construct_kind Sections) seat.seen) none in record { member = stands.member; cancellable = not_false (may_be_cancelled seat.seen.current) tests.1.0 }

-- and see that it is cancelled
pub can_see : (construct : Construct) (seat : SeatView) → IsLawfulSeat seat → least (cancel_place_tests (construct_kind construct) seat.seen) ≡ None → CanSee seat.members seat.member seat.seen
can_see Loop seat stands none =
    let tests = all_fail (cancel_place_tests (construct_kind Loop) seat.seen) none in
    record { member = stands.member; inside = or_left (in_kind is_loop seat.seen.current) (in_kind is_sections seat.seen.current) (not_false (in_kind is_loop seat.seen.current) tests.0) }
can_see Sections seat stands none =
    let tests = all_fail (cancel_place_tests (construct_kind Sections) seat.seen) none in
    record { member = stands.member; inside = or_right (in_kind is_loop seat.seen.current) (in_kind is_sections seat.seen.current) (not_false (in_kind is_sections seat.seen.current) tests.0) }

-- Shares that are no loop have no ordered parts

no_loop : (is : ShareKind → Bool) → ((kind : ShareKind) → is kind ≡ true → is_loop kind ≡ false) → (own : Option (ℕ × Shape)) → in_kind is own ≡ true → in_kind is_loop own ≡ false
no_loop is apart None e = refl
no_loop is apart (Some share) e = apart share.1.kind e

copy_is_no_loop : (kind : ShareKind) → is_copy kind ≡ true → is_loop kind ≡ false
copy_is_no_loop SingleCopy e = refl
copy_is_no_loop _ e = absurd (cc)

sections_are_no_loop : (kind : ShareKind) → is_sections kind ≡ true → is_loop kind ≡ false
sections_are_no_loop SectionsKind e = refl
sections_are_no_loop _ e = absurd (cc)

-- so a member in one is in no part
pub apart_in : (seat : SeatView) → IsLawfulSeat seat → in_kind is_loop seat.seen.current ≡ false → seat.seen.in_part ≡ false
apart_in seat stands away =
    let h = stands.lawful.events in
    let e = seen_at seat h stands stands.lawful.part in
    ap (λ (s : Seen). s.in_part) e ∙ apart_by (schedule seat.members) seat.members seat.member h stands.lawful.rule (sym (ap (λ (s : Seen). in_kind is_loop s.current) e) ∙ away)

-- a member in sections that its own tests let ask for the next one may claim
pub may_claim_section : (seat : SeatView) → IsLawfulSeat seat → least (next_tests_of Sections seat.seen) ≡ None → may_claim seat.seen ≡ true
may_claim_section seat stands none =
    let tests = all_fail (next_tests_of Sections seat.seen) none in
    let inside = not_false (in_kind is_sections seat.seen.current) tests.0 in
    rw (in_some_share is_sections seat.seen.current inside, tests.1.0, apart_in seat stands (no_loop is_sections sections_are_no_loop seat.seen.current inside)) refl

-- the executor of a single with words may leave it once they are kept
pub executor_leaves : (seat : SeatView) → IsLawfulSeat seat → None ≡ first_holding (put_tests seat.seen) → CanLeave seat.members seat.member seat.seen
executor_leaves seat stands first =
    let tests = all_fail (put_tests seat.seen) (no_test_holds (put_tests seat.seen) refl first) in
    let executes = not_false (is_executor seat.seen) tests.0 in
    let inside = and_left (in_kind is_copy seat.seen.current) (is_some seat.seen.piece) executes in
    record {
      member = stands.member;
      inside = in_some_share is_copy seat.seen.current inside;
      done = or_left (is_done seat.seen) seat.seen.leaving (or_right seat.seen.drained (in_kind is_single seat.seen.current && is_some seat.seen.piece) (rw (as_single seat.seen.current inside, and_right (in_kind is_copy seat.seen.current) (is_some seat.seen.piece) executes) refl));
      apart = apart_in seat stands (no_loop is_copy copy_is_no_loop seat.seen.current inside);
    }
  where
    as_single : (own : Option (ℕ × Shape)) → in_kind is_copy own ≡ true → in_kind is_single own ≡ true
    as_single None e = absurd (cc)
    as_single (Some share) e = copy_is_single share.1.kind e

-- and so may a member that waits there for the words
pub waiter_leaves : (members m : ℕ) (seen : Seen) → m < members → awaits_payload seen ≡ true → CanLeave members m seen
waiter_leaves members m seen lt waits =
    let front = and_left (in_kind is_copy seen.current && seen.drained) (not seen.in_part) waits in
    record {
      member = lt;
      inside = in_some_share is_copy seen.current (and_left (in_kind is_copy seen.current) seen.drained front);
      done = or_left (is_done seen) seen.leaving (or_left seen.drained (in_kind is_single seen.current && is_some seen.piece) (and_right (in_kind is_copy seen.current) seen.drained front));
      apart = false_of_not seen.in_part (and_right (in_kind is_copy seen.current && seen.drained) (not seen.in_part) waits);
    }
