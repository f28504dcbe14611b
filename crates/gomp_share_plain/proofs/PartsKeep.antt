-- The calls of ordered parts keep the plain shares in step with the events.
use Rattle.std.proofs.Common.{◌≡◌, ◌≢◌, ℕ, ◌+◌, ◌%◌, ◌^◌, ◌<◌, ◌≤◌, true, false, List, ◌∷◌, length, slice_get, slice_set, Option, Some, inl, inr, refl, ap, ◌∙◌, sym, subst, arith}
use Rattle.std.specs.Prelude.{◌==◌, ◌&&◌, is_some}
use Rattle.std.proofs.lemmas.Bool.Decides.{nat_tests, eqb_tells}
use Rattle.std.proofs.lemmas.List.{length-set}
use Rattle.gomp_types.specs.declared.limits.TheConstants.{OPEN_SHARES}
use Rattle.gomp_types.specs.declared.shape.Shape.{Shape}
use Rattle.gomp_events.specs.declared.event.Event.{Event}
use Rattle.gomp_events.specs.declared.event.Event.TheVariants.{HandOn, Part, PartEnd}
use Rattle.gomp_types.specs.Pieces.{Piece, Tiles, pieces_of}
use Rattle.gomp_events.specs.Events.{open_share, open_number, last_piece, turn, is_inside, shape_at}
use Rattle.gomp_types.specs.Values.{IsShape}
use Rattle.gomp_types.specs.Limits.{shown_number}
use Rattle.gomp_types.proofs.Booleans.{same_number}
use Rattle.gomp_types.proofs.Lists.{slice_get-set_same, slice_get-set_other}
use Rattle.gomp_shares.specs.Calls.{CanBeginPart, CanEndPart, CanHandOn, own_turn, number_in, taken_of}
use Rattle.gomp_shares.proofs.AnswerRules.{part_rule, part_end_follows_the_rule, hand_on_rule, begins_inside, hands_inside}
use Rattle.gomp_events.specs.Cancels.{share_cancelled}
use Rattle.gomp_events.specs.Seen.{seen_of}
use Rattle.gomp_events.specs.declared.seen.Seen.{Seen}
use Rattle.gomp_share_plain.specs.declared.seat.PlainSeat.{PlainSeat}
use Rattle.gomp_share_plain.specs.declared.open_share.OpenShare.{OpenShare}
use Rattle.gomp_share_plain.specs.Plain.{SeatStands, StandsFor, ended_of}
use Rattle.gomp_events.proofs.Numbering.{piece_lies_within}
use Rattle.gomp_events.proofs.ShareReadings.{hand_on_brings_the_turn}
use Rattle.gomp_share_plain.proofs.Turns.{turn_of}
use Rattle.gomp_share_plain.specs.Same.{seat_same, place_same}
use Rattle.gomp_share_plain.proofs.Seats.{seat_inside, inside_number, seat_steps}
use Rattle.gomp_share_plain.proofs.Places.{places_apart, here_is, here_valid, shape_here, own_place, own_share}

-- The turn

-- the law of the pieces
abbrev PiecesTile : Type 0
PiecesTile = (members : ℕ) (shape : Shape) → 0 < members → IsShape shape → Tiles 0 (pieces_of members shape) shape.trips

-- the pieces of the share that a member is in
place_is_tiled : (members : ℕ) (seats : List PlainSeat) (count : ℕ) (places : List (Option OpenShare)) (h : List Event) (m : ℕ) (seat : PlainSeat) (share : OpenShare) →
    StandsFor members seats count places h → slice_get seats m ≡ Some seat → is_inside m h ≡ true → slice_get places (ended_of seat % OPEN_SHARES) ≡ Some (Some share) → m < members → PiecesTile →
    Tiles 0 (pieces_of members share.shape) share.shape.trips
place_is_tiled members seats count places h m seat share st at within found lt tile =
    let valid = here_valid members (ended_of seat) (slice_get places (ended_of seat % OPEN_SHARES)) share h (own_place members seats count places h m seat st at within) found in
    tile members share.shape (omega arith) valid

-- a member has the turn if its piece has its number
pub next_tells : (members : ℕ) (seats : List PlainSeat) (count : ℕ) (places : List (Option OpenShare)) (h : List Event) (m : ℕ) (seat : PlainSeat) (share : OpenShare) →
    StandsFor members seats count places h → slice_get seats m ≡ Some seat → is_inside m h ≡ true → slice_get places (ended_of seat % OPEN_SHARES) ≡ Some (Some share) → m < members → PiecesTile →
    own_turn members m h ≡ (is_some seat.seen.piece && seat.number == share.turn)
next_tells members seats count places h m seat share st at within found lt tile =
    let s : SeatStands members m seat count h = st.seat m seat at in
    let there = own_share members seats count places h m seat share st at within found in
    let own : seat.seen.current ≡ Some (ended_of seat, share.shape) = ap (λ (seen : Seen). seen.current) s.seen ∙ there in
    let p = own_place members seats count places h m seat st at within in
    let same = here_is members (ended_of seat) (slice_get places (ended_of seat % OPEN_SHARES)) share h p found in
    let now : turn (ended_of seat) h ≡ share.turn = rw (← same) p.turn_is in
    let piece : seat.seen.piece ≡ last_piece m h = ap (λ (seen : Seen). seen.piece) s.seen in
    rw (there, ← piece, now) (turn_of share.shape.trips (pieces_of members share.shape) seat.number share.turn seat.seen.piece
    (place_is_tiled members seats count places h m seat share st at within found lt tile)
    (λ piece is. s.number (ended_of seat, share.shape) piece own is))

-- the number of its piece is below that of its iterations
pub number_below : (members : ℕ) (seats : List PlainSeat) (count : ℕ) (places : List (Option OpenShare)) (h : List Event) (m : ℕ) (seat : PlainSeat) (share : OpenShare) (piece : Piece) →
    StandsFor members seats count places h → slice_get seats m ≡ Some seat → is_inside m h ≡ true → slice_get places (ended_of seat % OPEN_SHARES) ≡ Some (Some share) → m < members → PiecesTile →
    seat.seen.piece ≡ Some piece → (seat.number < 2 ^ 39) × (piece.1 ≤ 2 ^ 39)
number_below members seats count places h m seat share piece st at within found lt tile is =
    let s : SeatStands members m seat count h = st.seat m seat at in
    let there = own_share members seats count places h m seat share st at within found in
    let own : seat.seen.current ≡ Some (ended_of seat, share.shape) = ap (λ (seen : Seen). seen.current) s.seen ∙ there in
    let valid = here_valid members (ended_of seat) (slice_get places (ended_of seat % OPEN_SHARES)) share h (own_place members seats count places h m seat st at within) found in
    let tiles = place_is_tiled members seats count places h m seat share st at within found lt tile in
    let lie = piece_lies_within 0 share.shape.trips (pieces_of members share.shape) seat.number piece tiles (s.number (ended_of seat, share.shape) piece own is) in
    let from = lie.from in let some = lie.some in let most = lie.within in let few = valid.trips in
    (omega arith, omega arith)

-- Beginning and ending a part

-- a member begins a part
pub part_start_stands : (members : ℕ) (seats : List PlainSeat) (count : ℕ) (places : List (Option OpenShare)) (h : List Event) (m : ℕ) (seat : PlainSeat) (iteration : ℕ) →
    StandsFor members seats count places h → slice_get seats m ≡ Some seat → CanBeginPart members m iteration (seen_of m h) → own_turn members m h ≡ true →
    StandsFor members (slice_set seats m (record seat { seen = record seat.seen { next_part = iteration + 1; in_part = true } })) count places (Part (open_number m h) m iteration ∷ h)
part_start_stands members seats count places h m seat iteration st at can next =
    let s : SeatStands members m seat count h = st.seat m seat at in
    let own = seat_inside members m seat count h s (begins_inside members m iteration h can) in
    seat_steps members seats count places h (Part (open_number m h) m iteration) _ st
    (record { shape = λ i. refl; taken = λ queue_of i q. refl; turn = λ i. refl; cancelled = λ i. refl })
    (record {
      seen = rw (same_number m) (ap (λ (seen : Seen). record seen { next_part = iteration + 1; in_part = true }) s.seen);
      ended = s.ended;
      inside = s.inside;
      apart = λ none. absurd (let there = own.current in cc);
      number = s.number;
      taken = s.taken;
      fresh = s.fresh;
      known = s.known;
      near = s.near;
    })
    (part_rule members m iteration h can next)

-- and ends it
pub part_end_stands : (members : ℕ) (seats : List PlainSeat) (count : ℕ) (places : List (Option OpenShare)) (h : List Event) (m : ℕ) (seat : PlainSeat) →
    StandsFor members seats count places h → slice_get seats m ≡ Some seat → CanEndPart members m (seen_of m h) →
    StandsFor members (slice_set seats m (record seat { seen = record seat.seen { in_part = false } })) count places (PartEnd (open_number m h) m ∷ h)
part_end_stands members seats count places h m seat st at can =
    let s : SeatStands members m seat count h = st.seat m seat at in
    seat_steps members seats count places h (PartEnd (open_number m h) m) _ st
    (record { shape = λ i. refl; taken = λ queue_of i q. refl; turn = λ i. refl; cancelled = λ i. refl })
    (record {
      seen = rw (same_number m) (ap (λ (seen : Seen). record seen { in_part = false }) s.seen);
      ended = s.ended;
      inside = s.inside;
      apart = λ none. refl;
      number = s.number;
      taken = s.taken;
      fresh = s.fresh;
      known = s.known;
      near = s.near;
    })
    (part_end_follows_the_rule members m h st.rule can)

-- Handing on

-- it counts for its share alone
turn_else : (i j m piece : ℕ) (h : List Event) → i ≢ j → turn i (HandOn j m piece ∷ h) ≡ turn i h
turn_else i j m piece h other = grind (arith, nat_tests)

-- a member hands its piece on
pub hand_on_stands : (members : ℕ) (seats : List PlainSeat) (count : ℕ) (places : List (Option OpenShare)) (h : List Event) (m : ℕ) (seat : PlainSeat) (share : OpenShare) →
    StandsFor members seats count places h → slice_get seats m ≡ Some seat → slice_get places (ended_of seat % OPEN_SHARES) ≡ Some (Some share) → CanHandOn members m (seen_of m h) → own_turn members m h ≡ true → seat.number ≡ share.turn →
    StandsFor members seats count (slice_set places (ended_of seat % OPEN_SHARES) (Some (record share { turn = seat.number + 1 }))) (HandOn (open_number m h) m (number_in members (open_share m h) m h) ∷ h)
hand_on_stands members seats count places h m seat share st at found can next is =
    let within = hands_inside members m h can in
    let s : SeatStands members m seat count h = st.seat m seat at in
    let here : open_number m h ≡ ended_of seat = inside_number members m seat count h s within in
    let one : seat.seen.entered ≡ ended_of seat + 1 = (seat_inside members m seat count h s within).full in
    let room : (ended_of seat % OPEN_SHARES) < length places = rw st.eight (omega arith) in
    let now = own_place members seats count places h m seat st at within in
    let same = here_is members (ended_of seat) (slice_get places (ended_of seat % OPEN_SHARES)) share h now found in
    let before : turn (ended_of seat) h ≡ share.turn = rw (← same) now.turn_is in
    let taken : shown_number (taken_of (ended_of seat) h) ≡ share.taken = rw (← same) now.taken_is in
    record {
      size = st.size;
      team = st.team;
      eight = length-set places (ended_of seat % OPEN_SHARES) _ ∙ st.eight;
      seat = λ k other at_k. seat_same members k other count (HandOn (open_number m h) m (number_in members (open_share m h) m h) ∷ h) h (record { seen = refl; left = λ i. refl; taken = λ i. refl; shape = λ i shape is. is }) (st.seat k other at_k);
      place = λ i low high. elim (eqb_tells i (ended_of seat)) [
        | inl e ↦ record {
          share = record share { turn = seat.number + 1 };
          there = rw e.1 (slice_get-set_same places (ended_of seat % OPEN_SHARES) _ room);
          shape = ap (λ n. shape_at n h) e.1 ∙ shape_here members (ended_of seat) (slice_get places (ended_of seat % OPEN_SHARES)) share h now found;
          taken_is = ap (λ n. shown_number (taken_of n h)) e.1 ∙ taken;
          turn_is = subst (λ (n : ℕ). turn n (HandOn (open_number m h) m (number_in members (open_share m h) m h) ∷ h) ≡ seat.number + 1) (sym e.1)
              (rw here (hand_on_brings_the_turn (ended_of seat) m (number_in members (open_share m h) m h) h ∙ ap (λ (n : ℕ). n + 1) (before ∙ sym is)));
          cancelled_is = ap (λ n. share_cancelled n h) e.1 ∙ (rw (← same) now.cancelled_is);
          cursor_is = rw (← same) now.cursor_is;
          valid = rw (← same) now.valid;
        }
        | inr e ↦
            let apart : (i % OPEN_SHARES) ≢ (ended_of seat % OPEN_SHARES) = places_apart i (ended_of seat) count e.1 (omega arith) (let k = s.known in omega arith) (omega arith) (let k = s.near in omega arith) in
            place_same members i (slice_get places (i % OPEN_SHARES)) _ (HandOn (open_number m h) m (number_in members (open_share m h) m h) ∷ h) h (st.place i low high)
            (slice_get-set_other places (ended_of seat % OPEN_SHARES) (i % OPEN_SHARES) _ apart) refl refl (rw here (turn_else i (ended_of seat) m (number_in members (open_share m h) m h) h e.1)) refl
      ];
      beyond = λ i past. let b = st.beyond i past in
          (b.0, b.1, rw here (turn_else i (ended_of seat) m (number_in members (open_share m h) m h) h (λ same. let k = s.known in omega arith) ∙ b.2), b.3);
      rule = (hand_on_rule members m h can next, st.rule);
    }
