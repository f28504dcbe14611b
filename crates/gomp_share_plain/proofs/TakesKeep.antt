-- A member that takes a piece, or is told that nothing is left, keeps the plain shares in step with the events.
use Rattle.std.proofs.Common.{◌≡◌, ◌≢◌, ℕ, ◌+◌, ◌%◌, ◌<◌, ◌≤◌, true, false, List, ◌∷◌, length, slice_get, slice_set, Some, None, inl, inr, refl, ap, ◌∙◌, sym, subst, arith}
use Rattle.std.specs.Prelude.{Option, ◌==◌, IfSome}
use Rattle.std.proofs.lemmas.Bool.Decides.{eqb_tells}
use Rattle.std.proofs.lemmas.List.{length-set}
use Rattle.gomp_types.specs.declared.limits.TheConstants.{OPEN_SHARES}
use Rattle.gomp_types.specs.declared.shape.Shape.{Shape}
use Rattle.gomp_events.specs.declared.event.Event.{Event}
use Rattle.gomp_events.specs.declared.event.Event.TheVariants.{Take, Drained}
use Rattle.gomp_types.specs.Pieces.{Piece, Tiles, pieces_of}
use Rattle.gomp_events.specs.Events.{open_share, open_number, turn, shape_at, is_inside}
use Rattle.gomp_types.specs.Values.{IsShape}
use Rattle.gomp_types.specs.Limits.{shown_number}
use Rattle.gomp_chunks.specs.Plans.{PlanView, next_piece, pieces}
use Rattle.gomp_chunks.specs.Spots.{CursorView}
use Rattle.gomp_types.proofs.Lists.{slice_get-set, slice_get-set_same, slice_get-set_other}
use Rattle.gomp_events.specs.Cancels.{share_cancelled}
use Rattle.gomp_events.specs.Seen.{seen_of}
use Rattle.gomp_events.specs.declared.seen.Seen.{Seen}
use Rattle.gomp_types.proofs.Booleans.{same_number}
use Rattle.gomp_shares.specs.Calls.{CanClaim, Claims, taken_of}
use Rattle.gomp_shares.proofs.AnswerRules.{take_rule, none_rule}
use Rattle.gomp_share_plain.specs.declared.seat.PlainSeat.{PlainSeat}
use Rattle.gomp_share_plain.specs.declared.open_share.OpenShare.{OpenShare}
use Rattle.gomp_share_plain.specs.Plain.{SeatStands, StandsFor, ended_of, taken_by}
use Rattle.gomp_chunks.proofs.NextPieces.{next_is_for, next_shown}
use Rattle.gomp_share_plain.proofs.Takes.{shown_more, taken_here, taken_mine, taken_else}
use Rattle.gomp_share_plain.specs.Same.{ended_is, seat_same, place_same}
use Rattle.gomp_share_plain.proofs.Seats.{seat_inside, inside_number, number_is_another, other_seat, seat_steps}
use Rattle.gomp_share_plain.proofs.Places.{places_apart, here_is, here_valid, shape_here, own_place, own_share}

-- the number of a piece that the plan of a member's share has is that among the pieces of its share
taken_has_its_number : (members i m : ℕ) (share : OpenShare) (number : ℕ) (piece : Piece) (h : List Event) (other : ℕ × Shape) (taken : Piece) → open_share m h ≡ Some (i, share.shape) →
    share.cursor.plan ≡ record { members = members; shape = share.shape } → slice_get (pieces share.cursor.plan) number ≡ Some piece → open_share m h ≡ Some other → Some piece ≡ Some taken →
    slice_get (pieces_of members other.1) number ≡ Some taken
taken_has_its_number members i m share number piece h other taken there plan is other_there same =
    let shape : share.shape ≡ other.1 = let both : Some (i, share.shape) ≡ Some other = sym there ∙ other_there in let e : (i, share.shape) ≡ other = cc in ap (λ (o : ℕ × Shape). o.1) e in
    let view : PlanView = record { members = members; shape = share.shape } in
    let here : slice_get (pieces view) number ≡ Some piece = rw plan at is in
    rw (← shape) (here ∙ same)

-- what the member may take
pub claim_answers : (members : ℕ) (seats : List PlainSeat) (count : ℕ) (places : List (Option OpenShare)) (h : List Event) (m : ℕ) (seat : PlainSeat) (share : OpenShare) (answer : Option Piece) →
    StandsFor members seats count places h → slice_get seats m ≡ Some seat → is_inside m h ≡ true → slice_get places (ended_of seat % OPEN_SHARES) ≡ Some (Some share) →
    answer ≡ next_piece share.cursor.plan m seat.taken share.taken → IfSome answer (λ piece. (piece.0 < piece.1) × (piece.1 ≤ share.cursor.plan.shape.trips)) →
    (IsShape share.shape → Tiles 0 (pieces_of members share.shape) share.shape.trips) → Claims members m answer h
claim_answers members seats count places h m seat share answer st at within found is size tiles =
    let s : SeatStands members m seat count h = st.seat m seat at in
    let p = own_place members seats count places h m seat st at within in
    let same = here_is members (ended_of seat) (slice_get places (ended_of seat % OPEN_SHARES)) share h p found in
    let own = seat_inside members m seat count h s within in
    let valid = here_valid members (ended_of seat) (slice_get places (ended_of seat % OPEN_SHARES)) share h p found in
    let plan : share.cursor.plan ≡ record { members = members; shape = share.shape } = rw (← same) p.cursor_is in
    let all : shown_number (taken_of (ended_of seat) h) ≡ share.taken = rw (← same) p.taken_is in
    let view : PlanView = record { members = members; shape = share.shape } in
    let next : answer ≡ next_piece view m seat.taken share.taken = is ∙ ap (λ (p : PlanView). next_piece p m seat.taken share.taken) plan in
    let least : answer ≡ next_piece view m (shown_number (taken_by (ended_of seat) m h)) (shown_number (taken_of (ended_of seat) h)) =
    next ∙ sym (ap (λ n. next_piece view m n share.taken) (s.taken (ended_of seat, own.shape) own.current)) ∙ sym (ap (λ n. next_piece view m (shown_number (taken_by (ended_of seat) m h)) n) all) in
    record {
      share = (ended_of seat, share.shape);
      there = own_share members seats count places h m seat share st at within found;
      valid = valid;
      least = least ∙ next_shown members share.shape m (taken_by (ended_of seat) m h) (taken_of (ended_of seat) h) valid (tiles valid) ∙ sym (next_is_for members share.shape (ended_of seat) m h);
      within = subst (λ (plan : PlanView). IfSome answer (λ piece. (piece.0 < piece.1) × (piece.1 ≤ plan.shape.trips))) plan size;
    }

-- a member takes a piece
pub claim_stands : (members : ℕ) (seats : List PlainSeat) (count : ℕ) (places : List (Option OpenShare)) (h : List Event) (m : ℕ) (seat : PlainSeat) (share : OpenShare) (number : ℕ) (piece : Piece) (cursor : CursorView) → cursor.plan ≡ share.cursor.plan → slice_get (pieces share.cursor.plan) number ≡ Some piece →
    StandsFor members seats count places h → slice_get seats m ≡ Some seat → is_inside m h ≡ true → slice_get places (ended_of seat % OPEN_SHARES) ≡ Some (Some share) → CanClaim members m (seen_of m h) → Claims members m (Some piece) h →
    StandsFor members (slice_set seats m (record seat { seen = record seat.seen { piece = Some piece }; taken = shown_number (seat.taken + 1); number = number })) count (slice_set places (ended_of seat % OPEN_SHARES) (Some (record share { taken = shown_number (share.taken + 1); cursor = cursor }))) (Take (open_number m h) m piece.0 piece.1 ∷ h)
claim_stands members seats count places h m seat share number piece cursor plan is st at within found can may =
    let s : SeatStands members m seat count h = st.seat m seat at in
    let here : open_number m h ≡ ended_of seat = inside_number members m seat count h s within in
    let one : seat.seen.entered ≡ ended_of seat + 1 = (seat_inside members m seat count h s within).full in
    let room : (ended_of seat % OPEN_SHARES) < length places = rw st.eight (omega arith) in
    let now = own_place members seats count places h m seat st at within in
    let same = here_is members (ended_of seat) (slice_get places (ended_of seat % OPEN_SHARES)) share h now found in
    let own_number : (other : ℕ × Shape) (taken : Piece) → open_share m h ≡ Some other → Some piece ≡ Some taken → slice_get (pieces_of members other.1) number ≡ Some taken =
    λ other taken there e. taken_has_its_number members (ended_of seat) m share number piece h other taken (own_share members seats count places h m seat share st at within found) (rw (← same) now.cursor_is) is there e in
    let away : (i : ℕ) → i ≢ ended_of seat → (open_number m h == i) ≡ false = λ i differ. rw here (number_is_another i (ended_of seat) differ) in
    record {
      size = length-set seats m _ ∙ st.size;
      team = st.team;
      eight = length-set places (ended_of seat % OPEN_SHARES) _ ∙ st.eight;
      seat = λ k other at_k. elim (slice_get-set seats m k _ other at_k) [
        | inl e ↦ rw (e.0, e.1) (record {
          seen = rw (same_number m) (ap (λ (seen : Seen). record seen { piece = Some piece }) s.seen);
          ended = s.ended;
          inside = s.inside;
          apart = s.apart;
          number = λ other taken there e. own_number other taken (sym (ap (λ (seen : Seen). seen.current) s.seen) ∙ there) e;
          taken = λ other is. rw (here ∙ ended_is seat other is) (ap shown_number (taken_mine other.0 m piece.0 piece.1 h) ∙ shown_more (taken_by other.0 m h) ∙ ap (λ n. shown_number (n + 1)) (s.taken other is));
          fresh = λ i le. taken_else (λ k. k) m i (open_number m h) m piece.0 piece.1 h (away i (λ equal. omega arith)) ∙ s.fresh i le;
          known = s.known;
          near = s.near;
        })
        | inr e ↦ seat_same members k other count (Take (open_number m h) m piece.0 piece.1 ∷ h) h (other_seat (Take (open_number m h) m piece.0 piece.1) k h e.0 (λ i shape is. is)) (st.seat k other e.1)
      ];
      place = λ i low high. elim (eqb_tells i (ended_of seat)) [
        | inl e ↦ record {
          share = record share { taken = shown_number (share.taken + 1); cursor = cursor };
          there = rw e.1 (slice_get-set_same places (ended_of seat % OPEN_SHARES) _ room);
          shape = ap (λ n. shape_at n h) e.1 ∙ shape_here members (ended_of seat) (slice_get places (ended_of seat % OPEN_SHARES)) share h now found;
          taken_is =
              let before : shown_number (taken_of (ended_of seat) h) ≡ share.taken = rw (← same) now.taken_is in
              subst (λ (n : ℕ). shown_number (taken_of n (Take (open_number m h) m piece.0 piece.1 ∷ h)) ≡ shown_number (share.taken + 1)) (sym e.1)
              (rw here (ap shown_number (taken_here (ended_of seat) m piece.0 piece.1 h) ∙ shown_more (taken_of (ended_of seat) h) ∙ ap (λ (n : ℕ). shown_number (n + 1)) before));
          turn_is = ap (λ n. turn n h) e.1 ∙ (rw (← same) now.turn_is);
          cancelled_is = ap (λ n. share_cancelled n h) e.1 ∙ (rw (← same) now.cancelled_is);
          cursor_is = plan ∙ (rw (← same) now.cursor_is);
          valid = rw (← same) now.valid;
        }
        | inr e ↦
            let apart : (i % OPEN_SHARES) ≢ (ended_of seat % OPEN_SHARES) = places_apart i (ended_of seat) count e.1 (omega arith) (let k = s.known in omega arith) (omega arith) (let k = s.near in omega arith) in
            place_same members i (slice_get places (i % OPEN_SHARES)) _ (Take (open_number m h) m piece.0 piece.1 ∷ h) h (st.place i low high)
            (slice_get-set_other places (ended_of seat % OPEN_SHARES) (i % OPEN_SHARES) _ apart) refl (taken_else (λ k. 0) 0 i (open_number m h) m piece.0 piece.1 h (away i e.1)) refl refl
      ];
      beyond = λ i past. let b = st.beyond i past in (
        b.0,
        λ queue_of q. taken_else queue_of q i (open_number m h) m piece.0 piece.1 h (away i (λ same. let k = s.known in omega arith)) ∙ b.1 queue_of q,
        b.2,
        b.3,
      );
      rule = (take_rule members m piece h can may, st.rule);
    }

-- a member is told that nothing is left
pub drained_stands : (members : ℕ) (seats : List PlainSeat) (count : ℕ) (places : List (Option OpenShare)) (h : List Event) (m : ℕ) (seat : PlainSeat) →
    StandsFor members seats count places h → slice_get seats m ≡ Some seat → CanClaim members m (seen_of m h) → Claims members m None h →
    StandsFor members (slice_set seats m (record seat { seen = record seat.seen { drained = true; piece = None } })) count places (Drained (open_number m h) m ∷ h)
drained_stands members seats count places h m seat st at can may =
    let s : SeatStands members m seat count h = st.seat m seat at in
    seat_steps members seats count places h (Drained (open_number m h) m) _ st
    (record { shape = λ i. refl; taken = λ queue_of i q. refl; turn = λ i. refl; cancelled = λ i. refl })
    (record {
      seen = rw (same_number m) (ap (λ (seen : Seen). record seen { drained = true; piece = None }) s.seen);
      ended = s.ended;
      inside = s.inside;
      apart = s.apart;
      number = λ share piece there e. absurd (cc);
      taken = s.taken;
      fresh = s.fresh;
      known = s.known;
      near = s.near;
    })
    (none_rule members m h can may)
