-- A member that enters a share, which it opens if nobody else has, keeps the plain shares in step with the events.
use Rattle.std.proofs.Common.{◌≡◌, ◌≢◌, ℕ, ◌+◌, ◌%◌, ◌<◌, ◌≤◌, nat_lt, false, List, ◌∷◌, length, slice_get, slice_set, Some, None, inl, inr, refl, ap, ◌∙◌, sym, subst, arith}
use Rattle.std.specs.Prelude.{Option}
use Rattle.std.proofs.lemmas.Bool.Decides.{nat_tests, eqb_tells}
use Rattle.std.proofs.lemmas.List.{length-set}
use Rattle.gomp_types.specs.declared.limits.TheConstants.{OPEN_SHARES}
use Rattle.gomp_types.specs.declared.shape.Shape.{Shape}
use Rattle.gomp_events.specs.declared.event.Event.{Event}
use Rattle.gomp_events.specs.declared.event.Event.TheVariants.{Enter}
use Rattle.gomp_events.specs.Events.{shares_entered, turn, shape_at}
use Rattle.gomp_types.specs.Limits.{shown_number}
use Rattle.gomp_chunks.specs.Spots.{CursorView}
use Rattle.gomp_types.proofs.Booleans.{same_number, share_is}
use Rattle.gomp_types.proofs.Lists.{slice_get-set, slice_get-set_same, slice_get-set_other}
use Rattle.gomp_events.specs.Cancels.{share_cancelled}
use Rattle.gomp_events.specs.Seen.{seen_of}
use Rattle.gomp_shares.specs.declared.Opening.TheVariants.{Entered}
use Rattle.gomp_shares.specs.Calls.{CanOpen, MayOpen, taken_of}
use Rattle.gomp_shares.proofs.AnswerRules.{enter_rule}
use Rattle.gomp_share_plain.specs.declared.seat.PlainSeat.{PlainSeat}
use Rattle.gomp_share_plain.specs.declared.open_share.OpenShare.{OpenShare}
use Rattle.gomp_share_plain.specs.Plain.{SeatStands, StandsFor, seat_in_share, ended_of}
use Rattle.gomp_share_plain.specs.Same.{seat_near, SamePlaces, place_same}
use Rattle.gomp_share_plain.proofs.Seats.{seat_outside, number_is_another, other_seat, seat_steps}
use Rattle.gomp_share_plain.proofs.Places.{places_differ, seat_entered}

-- the seat of the member that enters
own_enters : (members m : ℕ) (seat : PlainSeat) (opened more : ℕ) (shape : Shape) (h : List Event) → SeatStands members m seat opened h → ended_of seat ≡ seat.seen.entered → seat.seen.entered + 1 ≤ more → more ≤ seat.seen.entered + OPEN_SHARES →
    shape_at seat.seen.entered (Enter (shares_entered m h) m shape ∷ h) ≡ Some shape →
    SeatStands members m (seat_in_share seat.seen.entered shape) more (Enter (shares_entered m h) m shape ∷ h)
own_enters members m seat opened more shape h s even known near there = record {
  seen = rw (same_number m, seat_entered members m seat opened h s) refl;
  ended = λ i. s.ended i ∙ ap (nat_lt i) even;
  inside = λ share is. let one = share_is seat.seen.entered share.0 shape share.1 is in (ap (λ (n : ℕ). n + 1) one.0, subst (λ n. shape_at n (Enter (shares_entered m h) m shape ∷ h) ≡ Some shape) one.0 there ∙ ap Some one.1);
  apart = λ e. refl;
  number = λ share piece there e. absurd (cc);
  taken = λ share is. let one = (share_is seat.seen.entered share.0 shape share.1 is).0 in let none = s.fresh share.0 (omega arith) in omega arith;
  fresh = λ i le. s.fresh i (omega arith);
  known = known;
  near = near;
}

-- one more entry into a share, in its shape, changes no place
entered_again : (i m : ℕ) (shape : Shape) (h : List Event) → shape_at i h ≡ Some shape → SamePlaces (Enter i m shape ∷ h) h
entered_again i m shape h here = record {
  shape = λ j. elim (eqb_tells i j) [
    | inl e ↦ rw e.0 (sym (ap (λ n. shape_at n h) (sym e.1) ∙ here))
    | inr e ↦ rw e.0 refl
  ];
  taken = λ queue_of j q. refl;
  turn = λ j. refl;
  cancelled = λ j. refl;
}

-- a member enters a share that another opened
pub entering_stands : (members : ℕ) (seats : List PlainSeat) (opened : ℕ) (places : List (Option OpenShare)) (h : List Event) (m : ℕ) (seat : PlainSeat) (shape : Shape) →
    StandsFor members seats opened places h → slice_get seats m ≡ Some seat → CanOpen members m shape (seen_of m h) → MayOpen members m shape Entered h → seat.seen.entered < opened →
    shape_at seat.seen.entered h ≡ Some shape →
    StandsFor members (slice_set seats m (seat_in_share seat.seen.entered shape)) opened places (Enter (shares_entered m h) m shape ∷ h)
entering_stands members seats opened places h m seat shape st at can may before same =
    let s : SeatStands members m seat opened h = st.seat m seat at in
    let even : ended_of seat ≡ seat.seen.entered = (seat_outside members m seat opened h s can.outside).1 in
    let number : seat.seen.entered ≡ shares_entered m h = seat_entered members m seat opened h s in
    let here : shape_at (shares_entered m h) h ≡ Some shape = ap (λ n. shape_at n h) (sym number) ∙ same in
    let near = s.near in
    seat_steps members seats opened places h (Enter (shares_entered m h) m shape) (seat_in_share seat.seen.entered shape) st
    (entered_again (shares_entered m h) m shape h here)
    (own_enters members m seat opened opened shape h s even (omega arith) (omega arith) (grind (arith, nat_tests, number)))
    (enter_rule members m shape h can may)

-- a member opens the next share
pub opening_stands : (members : ℕ) (seats : List PlainSeat) (count : ℕ) (places : List (Option OpenShare)) (h : List Event) (m : ℕ) (seat : PlainSeat) (shape : Shape) (cursor : CursorView) → cursor.plan ≡ record { members = members; shape = shape } →
    StandsFor members seats count places h → slice_get seats m ≡ Some seat → CanOpen members m shape (seen_of m h) → MayOpen members m shape Entered h → seat.seen.entered ≡ count →
    ((k : ℕ) (other : PlainSeat) → slice_get seats k ≡ Some other → count < ended_of other + OPEN_SHARES) →
    StandsFor members (slice_set seats m (seat_in_share count shape)) (count + 1) (slice_set places (count % OPEN_SHARES) (Some (record { shape = shape; taken = 0; turn = 0; cancelled = false; cursor = cursor }))) (Enter (shares_entered m h) m shape ∷ h)
opening_stands members seats count places h m seat shape cursor plan st at can may now room =
    let s : SeatStands members m seat count h = st.seat m seat at in
    let number : seat.seen.entered ≡ shares_entered m h = seat_entered members m seat count h s in
    let here : shares_entered m h ≡ count = sym number ∙ now in
    let even : ended_of seat ≡ seat.seen.entered = (seat_outside members m seat count h s can.outside).1 in
    let none = st.beyond count (omega arith) in
    let within : (count % OPEN_SHARES) < length places = rw st.eight (omega arith) in
    let away : (i : ℕ) → i ≢ count → shape_at i (Enter (shares_entered m h) m shape ∷ h) ≡ shape_at i h = λ i differ. rw (here, number_is_another i count differ) refl in
    record {
      size = length-set seats m _ ∙ st.size;
      team = st.team;
      eight = length-set places (count % OPEN_SHARES) _ ∙ st.eight;
      seat = λ k other at_k. elim (slice_get-set seats m k _ other at_k) [
        | inl e ↦ let r = room m seat at in
            rw (e.0, e.1, ← now) (own_enters members m seat count (seat.seen.entered + 1) shape h s even (omega arith) (omega arith) (grind (arith, nat_tests, number)))
        | inr e ↦ let r = room k other e.1 in
            seat_near members k other count (count + 1) (Enter (shares_entered m h) m shape ∷ h) h (other_seat (Enter (shares_entered m h) m shape) k h e.0 (λ j old is.
            away j (λ same. absurd (let n : Some old ≡ None = sym is ∙ ap (λ n. shape_at n h) same ∙ none.0 in cc)) ∙ is))
            (st.seat k other e.1) (omega arith) (omega arith)
      ];
      place = λ i low high. elim (eqb_tells i count) [
        | inl e ↦ record {
          share = record { shape = shape; taken = 0; turn = 0; cancelled = false; cursor = cursor };
          there = rw e.1 (slice_get-set_same places (count % OPEN_SHARES) _ within);
          shape = grind (arith, nat_tests, here, e.1);
          taken_is = let zero_taken = none.1 (λ k. 0) 0 in ap (λ n. shown_number (taken_of n h)) e.1 ∙ ap shown_number zero_taken;
          turn_is = ap (λ n. turn n h) e.1 ∙ none.2;
          cancelled_is = ap (λ n. share_cancelled n h) e.1 ∙ none.3;
          cursor_is = plan;
          valid = can.valid;
        }
        | inr e ↦ place_same members i (slice_get places (i % OPEN_SHARES)) _ (Enter (shares_entered m h) m shape ∷ h) h (st.place i (omega (arith, e.1)) (omega arith))
            (slice_get-set_other places (count % OPEN_SHARES) (i % OPEN_SHARES) _ (places_differ i count (omega (arith, e.1)) (omega arith))) (away i e.1) refl refl refl
      ];
      beyond = λ i past. let b = st.beyond i (omega arith) in (away i (λ same. omega arith) ∙ b.0, b.1, b.2, b.3);
      rule = (enter_rule members m shape h can may, st.rule);
    }
