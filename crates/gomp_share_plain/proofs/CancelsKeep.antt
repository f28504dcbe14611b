-- A member that cancels its share, or sees that it is cancelled, keeps the plain shares in step with the events; and what a place tells of a cancellation.
use Rattle.std.proofs.Common.{◌≡◌, ◌≢◌, ℕ, ◌+◌, ◌%◌, ◌<◌, true, false, List, ◌∷◌, length, slice_get, slice_set, Option, Some, None, inl, inr, refl, ap, ◌∙◌, sym, subst, arith}
use Rattle.std.specs.Prelude.{is_some}
use Rattle.std.proofs.lemmas.Bool.Decides.{eqb_tells}
use Rattle.std.proofs.lemmas.List.{length-set}
use Rattle.gomp_types.specs.declared.cancel.Scope.TheVariants.{OneShare}
use Rattle.gomp_types.specs.declared.limits.TheConstants.{OPEN_SHARES}
use Rattle.gomp_types.specs.declared.shape.Shape.{Shape}
use Rattle.gomp_events.specs.declared.event.Event.{Event}
use Rattle.gomp_events.specs.declared.event.Event.TheVariants.{Cancel, See}
use Rattle.gomp_events.specs.Events.{open_share, open_number, turn, is_inside, shape_at}
use Rattle.gomp_events.specs.Cancels.{share_cancelled, inside_cancelled, own_cancelled, may_be_cancelled}
use Rattle.gomp_types.specs.Deals.{schedule}
use Rattle.gomp_types.specs.Limits.{shown_number}
use Rattle.gomp_types.proofs.Booleans.{same_number}
use Rattle.gomp_types.proofs.Lists.{slice_get-set_same, slice_get-set_other}
use Rattle.gomp_shares.specs.Calls.{CanCancel, CanSee, events_cancelled, events_seen, kind_in, taken_of}
use Rattle.gomp_shares.proofs.AnswerRules.{cancel_rule}
use Rattle.gomp_shares.proofs.CancelledShares.{see_rule}
use Rattle.gomp_shares.proofs.Ended.{leaves_after_seeing}
use Rattle.gomp_events.specs.Seen.{seen_of}
use Rattle.gomp_events.specs.declared.seen.Seen.{Seen}
use Rattle.gomp_share_plain.specs.declared.seat.PlainSeat.{PlainSeat}
use Rattle.gomp_share_plain.specs.declared.open_share.OpenShare.{OpenShare}
use Rattle.gomp_share_plain.specs.Plain.{SeatStands, StandsFor, ended_of}
use Rattle.gomp_share_plain.specs.Same.{seat_same, place_same}
use Rattle.gomp_share_plain.proofs.Seats.{seat_inside, inside_number, seat_steps}
use Rattle.gomp_share_plain.proofs.Places.{places_apart, here_is, shape_here, own_place, own_share}

-- Whether the share is cancelled that a member is in

-- a share that may be cancelled is one
pub cancels_inside : (own : Option (ℕ × Shape)) → may_be_cancelled own ≡ true → is_some own ≡ true
cancels_inside None e = absurd (cc)
cancels_inside (Some share) e = refl

-- its place tells it
pub own_place_tells : (members : ℕ) (seats : List PlainSeat) (count : ℕ) (places : List (Option OpenShare)) (h : List Event) (m : ℕ) (seat : PlainSeat) (share : OpenShare) →
    StandsFor members seats count places h → slice_get seats m ≡ Some seat → is_inside m h ≡ true → slice_get places (ended_of seat % OPEN_SHARES) ≡ Some (Some share) → share.cancelled ≡ own_cancelled m h
own_place_tells members seats count places h m seat share st at within found =
    let p = own_place members seats count places h m seat st at within in
    let same = here_is members (ended_of seat) (slice_get places (ended_of seat % OPEN_SHARES)) share h p found in
    let here : share_cancelled (ended_of seat) h ≡ share.cancelled = rw (← same) p.cancelled_is in
    sym (ap (λ (own : Option (ℕ × Shape)). inside_cancelled own h) (own_share members seats count places h m seat share st at within found) ∙ here)

-- a member is in a share if its seat shows one
pub inside_by_seat : (members : ℕ) (seats : List PlainSeat) (count : ℕ) (places : List (Option OpenShare)) (h : List Event) (m : ℕ) (seat : PlainSeat) →
    StandsFor members seats count places h → slice_get seats m ≡ Some seat → is_some seat.seen.current ≡ true → is_inside m h ≡ true
inside_by_seat members seats count places h m seat st at within =
    let s : SeatStands members m seat count h = st.seat m seat at in
    sym (ap (λ (seen : Seen). is_some seen.current) s.seen) ∙ within

-- and outside of every share none is
pub outside_none_cancelled : (members : ℕ) (seats : List PlainSeat) (count : ℕ) (places : List (Option OpenShare)) (h : List Event) (m : ℕ) (seat : PlainSeat) →
    StandsFor members seats count places h → slice_get seats m ≡ Some seat → seat.seen.current ≡ None → false ≡ own_cancelled m h
outside_none_cancelled members seats count places h m seat st at outside =
    let s : SeatStands members m seat count h = st.seat m seat at in
    let none : open_share m h ≡ None = sym (ap (λ (seen : Seen). seen.current) s.seen) ∙ outside in
    sym (ap (λ (own : Option (ℕ × Shape)). inside_cancelled own h) none)

-- Seeing it

-- a member sees that its share is cancelled
pub see_stands : (members : ℕ) (seats : List PlainSeat) (count : ℕ) (places : List (Option OpenShare)) (h : List Event) (m : ℕ) (seat : PlainSeat) →
    StandsFor members seats count places h → slice_get seats m ≡ Some seat → CanSee members m (seen_of m h) → own_cancelled m h ≡ true →
    StandsFor members (slice_set seats m (record seat { seen = record seat.seen { leaving = true } })) count places (events_seen m h)
see_stands members seats count places h m seat st at can cancelled =
    let s : SeatStands members m seat count h = st.seat m seat at in
    seat_steps members seats count places h (See m (kind_in (open_share m h))) _ st
    (record { shape = λ i. refl; taken = λ queue_of i q. refl; turn = λ i. refl; cancelled = λ i. refl })
    (record {
      seen = rw (leaves_after_seeing m h) (ap (λ (seen : Seen). record seen { leaving = true }) s.seen);
      ended = s.ended;
      inside = s.inside;
      apart = s.apart;
      number = s.number;
      taken = s.taken;
      fresh = s.fresh;
      known = s.known;
      near = s.near;
    })
    (see_rule (schedule members) members m h can.inside cancelled)

-- Cancelling it

-- it counts for its share alone
cancelled_here : (i m : ℕ) (h : List Event) → share_cancelled i (Cancel m (OneShare i) ∷ h) ≡ true
cancelled_here i m h = rw (same_number i) refl

cancelled_else : (i j m : ℕ) (h : List Event) → i ≢ j → share_cancelled i (Cancel m (OneShare j) ∷ h) ≡ share_cancelled i h
cancelled_else i j m h other = elim (eqb_tells j i) [ inl e ↦ absurd (other (sym e.1)) | inr e ↦ rw e.0 refl ]

-- a member cancels its share
pub cancelling_stands : (members : ℕ) (seats : List PlainSeat) (count : ℕ) (places : List (Option OpenShare)) (h : List Event) (m : ℕ) (seat : PlainSeat) (share : OpenShare) →
    StandsFor members seats count places h → slice_get seats m ≡ Some seat → slice_get places (ended_of seat % OPEN_SHARES) ≡ Some (Some share) → CanCancel members m (seen_of m h) →
    StandsFor members seats count (slice_set places (ended_of seat % OPEN_SHARES) (Some (record share { cancelled = true }))) (events_cancelled m h)
cancelling_stands members seats count places h m seat share st at found can =
    let within = cancels_inside (open_share m h) can.cancellable in
    let s : SeatStands members m seat count h = st.seat m seat at in
    let here : open_number m h ≡ ended_of seat = inside_number members m seat count h s within in
    let one : seat.seen.entered ≡ ended_of seat + 1 = (seat_inside members m seat count h s within).full in
    let room : (ended_of seat % OPEN_SHARES) < length places = rw st.eight (omega arith) in
    let now = own_place members seats count places h m seat st at within in
    let same = here_is members (ended_of seat) (slice_get places (ended_of seat % OPEN_SHARES)) share h now found in
    let taken : shown_number (taken_of (ended_of seat) h) ≡ share.taken = rw (← same) now.taken_is in
    record {
      size = st.size;
      team = st.team;
      eight = length-set places (ended_of seat % OPEN_SHARES) _ ∙ st.eight;
      seat = λ k other at_k. seat_same members k other count (events_cancelled m h) h (record { seen = refl; left = λ i. refl; taken = λ i. refl; shape = λ i shape is. is }) (st.seat k other at_k);
      place = λ i low high. elim (eqb_tells i (ended_of seat)) [
        | inl e ↦ record {
          share = record share { cancelled = true };
          there = rw e.1 (slice_get-set_same places (ended_of seat % OPEN_SHARES) _ room);
          shape = ap (λ n. shape_at n h) e.1 ∙ shape_here members (ended_of seat) (slice_get places (ended_of seat % OPEN_SHARES)) share h now found;
          taken_is = ap (λ n. shown_number (taken_of n h)) e.1 ∙ taken;
          turn_is = ap (λ n. turn n h) e.1 ∙ (rw (← same) now.turn_is);
          cancelled_is = subst (λ (n : ℕ). share_cancelled n (events_cancelled m h) ≡ true) (sym e.1) (rw here (cancelled_here (ended_of seat) m h));
          cursor_is = rw (← same) now.cursor_is;
          valid = rw (← same) now.valid;
        }
        | inr e ↦
            let apart : (i % OPEN_SHARES) ≢ (ended_of seat % OPEN_SHARES) = places_apart i (ended_of seat) count e.1 (omega arith) (let k = s.known in omega arith) (omega arith) (let k = s.near in omega arith) in
            place_same members i (slice_get places (i % OPEN_SHARES)) _ (events_cancelled m h) h (st.place i low high)
            (slice_get-set_other places (ended_of seat % OPEN_SHARES) (i % OPEN_SHARES) _ apart) refl refl refl (rw here (cancelled_else i (ended_of seat) m h e.1))
      ];
      beyond = λ i past. let b = st.beyond i past in
          (b.0, b.1, b.2, rw here (cancelled_else i (ended_of seat) m h (λ same. let k = s.known in omega arith)) ∙ b.3);
      rule = (cancel_rule m h can.cancellable, st.rule);
    }
