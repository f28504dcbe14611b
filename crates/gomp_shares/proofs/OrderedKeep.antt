-- Events that keep the rule of the work-shares keep the order of ordered parts.
use Rattle.std.proofs.Common.{◌≡◌, ℕ, ◌+◌, ◌<◌, ◌≤◌, Bool, true, false, List, [], ◌∷◌, Option, Some, None, slice_get, refl, ap, ◌∙◌, sym, subst, arith, suc, zero, ◌⊎◌, inl, inr}
use Rattle.std.specs.Prelude.{if◌then◌else◌, ◌==◌, ◌&&◌, is_some}
use Rattle.std.proofs.lemmas.Bool.{cases_Bool, cases_lt}
use Rattle.gomp_types.specs.declared.shape.Shape.{Shape}
use Rattle.gomp_events.specs.declared.event.Event.{Event}
use Rattle.gomp_events.specs.declared.event.Event.TheVariants.{Enter, Take, Drained, End, HandOn, Part, PartEnd}
use Rattle.gomp_types.specs.Pieces.{Piece, Tiles, pieces_of}
use Rattle.gomp_events.specs.Events.{open_share, last_piece, shape_at, has_ended, times_taken, turn, next_part, in_part, open_part}
use Rattle.gomp_types.specs.Pieces.{has_iteration}
use Rattle.gomp_events.specs.Ordered.{has_turn}
use Rattle.gomp_types.specs.Deals.{Queues, schedule}
use Rattle.gomp_events.specs.Laws.{Always, Happened}
use Rattle.gomp_shares.specs.Rules.{MayPart, MayHandOn, ShareRule}
use Rattle.gomp_shares.specs.Laws.{PartsRise, PartsInTurn, HandsOnInTurn, PartsApart, OrderedLaws}
use Rattle.gomp_types.proofs.Booleans.{which_branch, is_equal, unequal_numbers, same_number, share_is, not_both, none_of}
use Rattle.gomp_types.proofs.Tiling.{has_it, piece_some}
use Rattle.gomp_events.proofs.Always.{always_so}
use Rattle.gomp_events.proofs.Numbering.{same_is, last_is_turn}
use Rattle.gomp_events.proofs.ShareReadings.{ended_once_left}
use Rattle.gomp_shares.proofs.SharesKeep.{shape_stays, member_is_inside, inside_stands, not_ended, taken_once}

-- The pieces of a share

pub pair_is : (a b c d : ℕ) → ◌≡◌ {A = Option Piece} (Some (a, b)) (Some (c, d)) → (a ≡ c) × (b ≡ d)
pair_is a b c d e = let p : ◌≡◌ {A = Piece} (a, b) (c, d) = cc in (ap (λ (q : Piece). q.0) p, ap (λ (q : Piece). q.1) p)

-- no piece begins below the first
piece_from : (low high : ℕ) (pieces : List Piece) (n : ℕ) (piece : Piece) → Tiles low pieces high → slice_get pieces n ≡ Some piece → low ≤ piece.0
piece_from low high [] n piece tiles at = absurd (cc)
piece_from low high (first ∷ pieces) zero piece tiles at =
    let same : first ≡ piece = let t = at in cc in
    let begin = tiles.0 in rw (← same) (omega arith)
piece_from low high (first ∷ pieces) (suc n) piece tiles at =
    let some = tiles.1 in
    let rest = piece_from first.1 high pieces n piece tiles.2 at in omega arith

-- a piece ends before each later one begins
pub piece_before : (low high : ℕ) (pieces : List Piece) (q n : ℕ) (one other : Piece) → Tiles low pieces high → slice_get pieces q ≡ Some one → slice_get pieces n ≡ Some other → q < n → one.1 ≤ other.0
piece_before low high [] q n one other tiles at later lt = absurd (cc)
piece_before low high (first ∷ pieces) q zero one other tiles at later lt = absurd (omega arith)
piece_before low high (first ∷ pieces) zero (suc n) one other tiles at later lt =
    let same : first ≡ one = let t = at in cc in
    rw (← same) (piece_from first.1 high pieces n other tiles.2 later)
piece_before low high (first ∷ pieces) (suc q) (suc n) one other tiles at later lt = piece_before first.1 high pieces q n one other tiles.2 at later (omega arith)

-- the pieces of each share that was entered tile its iterations
pub share_is_tiled : (queues : Queues) (members i : ℕ) (shape : Shape) (h : List Event) → Always (ShareRule queues members) h → shape_at i h ≡ Some shape → Tiles 0 (pieces_of members shape) shape.trips
share_is_tiled queues members i shape [] all at = absurd (cc)
share_is_tiled queues members i shape (Enter share member other ∷ earlier) all at =
    elim (which_branch (share == i) (Some other) (shape_at i earlier) (Some shape) at) [
      | inl e ↦ let same : other ≡ shape = let t = e.1 in cc in rw same at all.0.tiles
      | inr e ↦ share_is_tiled queues members i shape earlier all.1 e.1
    ]
share_is_tiled queues members i shape (_ ∷ earlier) all at = share_is_tiled queues members i shape earlier all.1 at

-- The turn

-- the member's last piece is that of the turn
abbrev Turned : ℕ → ℕ → Shape → ℕ → List Event → Type 0
Turned members i shape m h = (low high : ℕ) × (slice_get (pieces_of members shape) (turn i h) ≡ Some (low, high)) × (last_piece m h ≡ Some (low, high))

turn_has_its_piece : (members m i : ℕ) (shape : Shape) (h : List Event) → has_turn members (i, shape) m h ≡ true → Turned members i shape m h
turn_has_its_piece members m i shape h e = same_is (slice_get (pieces_of members shape) (turn i h)) (last_piece m h) e

pub piece_of_turn : (members m i low high : ℕ) (shape : Shape) (h : List Event) → has_turn members (i, shape) m h ≡ true → last_piece m h ≡ Some (low, high) → slice_get (pieces_of members shape) (turn i h) ≡ Some (low, high)
piece_of_turn members m i low high shape h e piece = let own = turn_has_its_piece members m i shape h e in own.2 ∙ sym own.3 ∙ piece

-- Takes

-- takes stay
pub taken_grows : (i k : ℕ) (event : Event) (earlier : List Event) → times_taken i k earlier ≤ times_taken i k (event ∷ earlier)
taken_grows i k (Take share member low high) earlier = elim (cases_Bool (share == i && has_iteration k low high)) [
  | inl e ↦ rw e (omega arith)
  | inr e ↦ rw e (omega arith)
]
taken_grows i k _ earlier = omega arith

-- an iteration of a take is taken
pub taken_is_counted : (i m k low high : ℕ) (h : List Event) → Happened (Take i m low high) h → low ≤ k → k < high → 0 < times_taken i k h
taken_is_counted i m k low high [] stands le lt = absurd stands
taken_is_counted i m k low high (event ∷ earlier) (inl e) le lt =
    subst (λ (x : Event). 0 < times_taken i k (x ∷ earlier)) (sym e) (rw (same_number i, has_it k low high le lt) (omega arith))
taken_is_counted i m k low high (event ∷ earlier) (inr stands) le lt =
    let more = taken_grows i k event earlier in
    let before = taken_is_counted i m k low high earlier stands le lt in omega arith

-- it is taken once more by a take
pub counted_again : (i m k low high : ℕ) (earlier : List Event) → low ≤ k → k < high → times_taken i k (Take i m low high ∷ earlier) ≡ times_taken i k earlier + 1
counted_again i m k low high earlier le lt = rw (same_number i, has_it k low high le lt) refl

-- if an iteration was taken at most once, one member took it
one_taker : (i m n k low high : ℕ) (h : List Event) → Happened (Take i m low high) h → Happened (Take i n low high) h → low ≤ k → k < high → times_taken i k h ≤ 1 → m ≡ n
one_taker i m n k low high [] one other le lt most = absurd one
one_taker i m n k low high (event ∷ earlier) (inl e) (inl f) le lt most =
    let same : Take i m low high ≡ Take i n low high = sym e ∙ f in cc
one_taker i m n k low high (event ∷ earlier) (inl e) (inr other) le lt most =
    let below : times_taken i k (Take i m low high ∷ earlier) ≤ 1 = subst (λ (x : Event). times_taken i k (x ∷ earlier) ≤ 1) e most in
    let more = counted_again i m k low high earlier le lt in
    let before = taken_is_counted i n k low high earlier other le lt in absurd (omega arith)
one_taker i m n k low high (event ∷ earlier) (inr one) (inl f) le lt most =
    let below : times_taken i k (Take i n low high ∷ earlier) ≤ 1 = subst (λ (x : Event). times_taken i k (x ∷ earlier) ≤ 1) f most in
    let more = counted_again i n k low high earlier le lt in
    let before = taken_is_counted i m k low high earlier one le lt in absurd (omega arith)
one_taker i m n k low high (event ∷ earlier) (inr one) (inr other) le lt most =
    let more = taken_grows i k event earlier in
    one_taker i m n k low high earlier one other le lt (omega arith)

-- a member took its last piece from the share that it is in
last_piece_was_taken : (queues : Queues) (members m i low high : ℕ) (shape : Shape) (h : List Event) → Always (ShareRule queues members) h → open_share m h ≡ Some (i, shape) → last_piece m h ≡ Some (low, high) → Happened (Take i m low high) h
last_piece_was_taken queues members m i low high shape [] all at piece = absurd (cc)
last_piece_was_taken queues members m i low high shape (Enter share member other ∷ earlier) all at piece =
    elim (cases_Bool (member == m)) [
      | inl e ↦ absurd (let none = rw e at piece in cc)
      | inr e ↦ inr (last_piece_was_taken queues members m i low high shape earlier all.1 (rw e at at) (rw e at piece))
    ]
last_piece_was_taken queues members m i low high shape (Take share member from to ∷ earlier) all at piece =
    elim (cases_Bool (member == m)) [
      | inl e ↦
          let who = is_equal member m e in
          let there : open_share m earlier ≡ Some (share, all.0.shape) = rw (← who) all.0.inside in
          let number : share ≡ i = (share_is share i all.0.shape shape (sym there ∙ at)).0 in
          let own = pair_is from to low high (rw e at piece) in
          let first = own.0 in
          let last = own.1 in
          inl (rw (who, number, first, last) refl)
      | inr e ↦ inr (last_piece_was_taken queues members m i low high shape earlier all.1 at (rw e at piece))
    ]
last_piece_was_taken queues members m i low high shape (Drained share member ∷ earlier) all at piece =
    elim (cases_Bool (member == m)) [
      | inl e ↦ absurd (let none = rw e at piece in cc)
      | inr e ↦ inr (last_piece_was_taken queues members m i low high shape earlier all.1 at (rw e at piece))
    ]
last_piece_was_taken queues members m i low high shape (End share member ∷ earlier) all at piece =
    elim (cases_Bool (member == m)) [
      | inl e ↦ absurd (let none = rw e at at in cc)
      | inr e ↦ inr (last_piece_was_taken queues members m i low high shape earlier all.1 (rw e at at) piece)
    ]
last_piece_was_taken queues members m i low high shape (_ ∷ earlier) all at piece = inr (last_piece_was_taken queues members m i low high shape earlier all.1 at piece)

-- two members of one share with its turn are one
one_turn : (queues : Queues) (members m n i : ℕ) (one other : Shape) (h : List Event) → Always (ShareRule queues members) h → open_share m h ≡ Some (i, one) → open_share n h ≡ Some (i, other) →
    Turned members i one m h → Turned members i other n h → m ≡ n
one_turn queues members m n i one other h all at there mine its =
    let found = (member_is_inside queues members m i one h all at).0 in
    let repeated = (member_is_inside queues members n i other h all there).0 in
    let same : other ≡ one = let t = sym repeated ∙ found in cc in
    let piece : slice_get (pieces_of members one) (turn i h) ≡ Some (its.0, its.1) = subst (λ (s : Shape). slice_get (pieces_of members s) (turn i h) ≡ Some (its.0, its.1)) same its.2 in
    let pieces : ◌≡◌ {A = Option Piece} (Some (its.0, its.1)) (Some (mine.0, mine.1)) = sym piece ∙ mine.2 in
    let own = last_piece_was_taken queues members m i mine.0 mine.1 one h all at mine.3 in
    let also = last_piece_was_taken queues members n i mine.0 mine.1 other h all there (its.3 ∙ pieces) in
    let some = piece_some 0 one.trips (pieces_of members one) (turn i h) (mine.0, mine.1) (share_is_tiled queues members i one h all found) mine.2 in
    one_taker i m n mine.0 mine.0 mine.1 h own also (omega arith) some (taken_once queues members i mine.0 h all)

-- Parts rise

-- a turn never goes back
pub turn_grows : (i : ℕ) (event : Event) (earlier : List Event) → turn i earlier ≤ turn i (event ∷ earlier)
turn_grows i (HandOn share member piece) earlier = elim (cases_Bool (share == i)) [
  | inl e ↦ rw e (omega arith)
  | inr e ↦ rw e (omega arith)
]
turn_grows i _ earlier = omega arith

-- the iteration lies in a taken piece, that of the turn or an earlier one
record Behind (members i j : ℕ) (h : List Event) : Type 0 where
  shape : Shape
  number : ℕ
  low : ℕ
  high : ℕ
  known : shape_at i h ≡ Some shape
  reached : number ≤ turn i h
  piece : slice_get (pieces_of members shape) number ≡ Some (low, high)
  from : low ≤ j
  before : j < high
  was_taken : 0 < times_taken i j h

-- each part does
part_behind : (queues : Queues) (members i n j : ℕ) (h : List Event) → Always (ShareRule queues members) h → Happened (Part i n j) h → Behind members i j h
part_behind queues members i n j [] all stands = absurd stands
part_behind queues members i n j (Part share member iteration ∷ earlier) all (inl e) =
    let is : share ≡ i = cc in
    let part : iteration ≡ j = cc in
    let may : MayPart members i member j earlier = rw (is, part) at all.0 in
    record {
      shape = may.shape;
      number = turn i earlier;
      low = may.low;
      high = may.high;
      known = (member_is_inside queues members member i may.shape earlier all.1 may.inside).0;
      reached = omega arith;
      piece = piece_of_turn members member i may.low may.high may.shape earlier may.next may.piece;
      from = may.from;
      before = may.before;
      was_taken = taken_is_counted i member j may.low may.high earlier (last_piece_was_taken queues members member i may.low may.high may.shape earlier all.1 may.inside may.piece) may.from may.before;
    }
part_behind queues members i n j (_ ∷ earlier) all (inl e) = absurd (cc)
part_behind queues members i n j (event ∷ earlier) all (inr stands) =
    let b = part_behind queues members i n j earlier all.1 stands in
    let later = turn_grows i event earlier in
    let more = taken_grows i j event earlier in
    record {
      shape = b.shape;
      number = b.number;
      low = b.low;
      high = b.high;
      known = shape_stays queues members i b.shape event earlier all.0 b.known;
      reached = omega arith;
      piece = b.piece;
      from = b.from;
      before = b.before;
      was_taken = omega arith;
    }

-- so it lies before every later piece, or in that of the turn
part_before : (queues : Queues) (members i n j q low high : ℕ) (shape : Shape) (h : List Event) → Always (ShareRule queues members) h → shape_at i h ≡ Some shape → slice_get (pieces_of members shape) q ≡ Some (low, high) →
    turn i h ≤ q → Happened (Part i n j) h → (j < low) ⊎ ((q ≡ turn i h) × (low ≤ j) × (j < high) × (0 < times_taken i j h))
part_before queues members i n j q low high shape h all at piece le stands =
    let b = part_behind queues members i n j h all stands in
    let same : b.shape ≡ shape = let one = b.known in cc in
    let lies : slice_get (pieces_of members shape) b.number ≡ Some (b.low, b.high) = subst (λ (s : Shape). slice_get (pieces_of members s) b.number ≡ Some (b.low, b.high)) same b.piece in
    elim (cases_lt b.number q) [
      | inl lt ↦
          let past = piece_before 0 shape.trips (pieces_of members shape) b.number q (b.low, b.high) (low, high) (share_is_tiled queues members i shape h all at) lies piece lt in
          inl (omega arith)
      | inr past ↦
          let one : b.number ≡ q = omega arith in
          let ends = pair_is b.low b.high low high (sym lies ∙ rw one piece) in
          let first = ends.0 in
          let last = ends.1 in
          inr (omega arith, omega arith, omega arith, b.was_taken)
    ]

-- if a member's last piece is that of the turn, the parts that have begun lie before the piece, or are its own
parts_before : (queues : Queues) (members m i n j low high : ℕ) (shape : Shape) (h : List Event) → Always (ShareRule queues members) h → open_share m h ≡ Some (i, shape) → last_piece m h ≡ Some (low, high) →
    slice_get (pieces_of members shape) (turn i h) ≡ Some (low, high) → Happened (Part i n j) h → (j < low) ⊎ (j < next_part m h)
parts_before queues members m i n j low high shape [] all at piece next stands = absurd stands
parts_before queues members m i n j low high shape (Enter share member other ∷ earlier) all at piece next (inl e) = absurd (cc)
parts_before queues members m i n j low high shape (Enter share member other ∷ earlier) all at piece next (inr stands) =
    elim (cases_Bool (member == m)) [
      | inl e ↦ absurd (let none = rw e at piece in cc)
      | inr e ↦ rw e (parts_before queues members m i n j low high shape earlier all.1 (rw e at at) (rw e at piece) next stands)
    ]
parts_before queues members m i n j low high shape (Take share member from to ∷ earlier) all at piece next (inl e) = absurd (cc)
parts_before queues members m i n j low high shape (Take share member from to ∷ earlier) all at piece next (inr stands) =
    elim (cases_Bool (member == m)) [
      | inl e ↦
          let who = is_equal member m e in
          let there : open_share m earlier ≡ Some (share, all.0.shape) = rw (← who) all.0.inside in
          let number : share ≡ i = (share_is share i all.0.shape shape (sym there ∙ at)).0 in
          let own = pair_is from to low high (rw e at piece) in
          let first = own.0 in
          let last = own.1 in
          let found = (member_is_inside queues members m i shape earlier all.1 at).0 in
          elim (part_before queues members i n j (turn i earlier) low high shape earlier all.1 found next (omega arith) stands) [
            | inl lt ↦ inl lt
            | inr b ↦
                let some = b.3 in
                let below : times_taken i j (Take i member low high ∷ earlier) ≤ 1 = rw (number, first, last) at (taken_once queues members i j (Take share member from to ∷ earlier) all) in
                let more = counted_again i member j low high earlier b.1 b.2 in
                absurd (omega arith)
          ]
      | inr e ↦ parts_before queues members m i n j low high shape earlier all.1 at (rw e at piece) next stands
    ]
parts_before queues members m i n j low high shape (Drained share member ∷ earlier) all at piece next (inl e) = absurd (cc)
parts_before queues members m i n j low high shape (Drained share member ∷ earlier) all at piece next (inr stands) =
    elim (cases_Bool (member == m)) [
      | inl e ↦ absurd (let none = rw e at piece in cc)
      | inr e ↦ parts_before queues members m i n j low high shape earlier all.1 at (rw e at piece) next stands
    ]
parts_before queues members m i n j low high shape (End share member ∷ earlier) all at piece next (inl e) = absurd (cc)
parts_before queues members m i n j low high shape (End share member ∷ earlier) all at piece next (inr stands) =
    elim (cases_Bool (member == m)) [
      | inl e ↦ absurd (let none = rw e at at in cc)
      | inr e ↦ parts_before queues members m i n j low high shape earlier all.1 (rw e at at) piece next stands
    ]
parts_before queues members m i n j low high shape (HandOn share member number ∷ earlier) all at piece next (inl e) = absurd (cc)
parts_before queues members m i n j low high shape (HandOn share member number ∷ earlier) all at piece next (inr stands) =
    elim (cases_Bool (share == i)) [
      | inl e ↦ elim (part_before queues members i n j (turn i earlier + 1) low high shape earlier all.1 (member_is_inside queues members m i shape earlier all.1 at).0 (rw e at next) (omega arith) stands) [
        | inl lt ↦ inl lt
        | inr b ↦ absurd (let no = b.0 in omega arith)
      ]
      | inr e ↦ parts_before queues members m i n j low high shape earlier all.1 at piece (rw e at next) stands
    ]
parts_before queues members m i n j low high shape (Part share member iteration ∷ earlier) all at piece next (inl e) =
    let is : share ≡ i = cc in
    let part : iteration ≡ j = cc in
    let may : MayPart members i member j earlier = rw (is, part) at all.0 in
    let same = one_turn queues members member m i may.shape shape earlier all.1 may.inside at (turn_has_its_piece members member i may.shape earlier may.next) (low, high, next, piece) in
    inr (rw (same, part, same_number m) (omega arith))
parts_before queues members m i n j low high shape (Part share member iteration ∷ earlier) all at piece next (inr stands) =
    elim (parts_before queues members m i n j low high shape earlier all.1 at piece next stands) [
      | inl lt ↦ inl lt
      | inr lt ↦ elim (cases_Bool (member == m)) [
        | inl e ↦
            let after : next_part m earlier ≤ iteration = rw (← is_equal member m e) all.0.after in
            inr (rw e (omega arith))
        | inr e ↦ inr (rw e lt)
      ]
    ]
parts_before queues members m i n j low high shape (_ ∷ earlier) all at piece next (inl e) = absurd (cc)
parts_before queues members m i n j low high shape (_ ∷ earlier) all at piece next (inr stands) = parts_before queues members m i n j low high shape earlier all.1 at piece next stands

-- Parts are apart

-- the member that is in a part of the share, and whose turn it is
record Within (members i : ℕ) (h : List Event) : Type 0 where
  who : ℕ
  shape : Shape
  there : open_share who h ≡ Some (i, shape)
  part : in_part who h ≡ true
  next : has_turn members (i, shape) who h ≡ true

either_true : (test b : Bool) → b ≡ true → (if test then true else b) ≡ true
either_true true b e = refl
either_true false b e = e

-- whose part is open
open_within : (queues : Queues) (members i : ℕ) (h : List Event) → Always (ShareRule queues members) h → is_some (open_part i h) ≡ true → Within members i h
open_within queues members i [] all is_open = absurd (cc)
open_within queues members i (Enter share member other ∷ earlier) all is_open =
    let w = open_within queues members i earlier all.1 is_open in
    elim (cases_Bool (member == w.who)) [
      | inl e ↦ absurd (let none : open_share w.who earlier ≡ None = rw (← is_equal member w.who e) all.0.outside in let some = w.there in cc)
      | inr e ↦ record { who = w.who; shape = w.shape; there = rw e w.there; part = rw e w.part; next = rw e w.next }
    ]
open_within queues members i (Take share member low high ∷ earlier) all is_open =
    let w = open_within queues members i earlier all.1 is_open in
    elim (cases_Bool (member == w.who)) [
      | inl e ↦ absurd (not_both (in_part w.who earlier) w.part (rw (← is_equal member w.who e) all.0.apart))
      | inr e ↦ record { who = w.who; shape = w.shape; there = w.there; part = w.part; next = rw e w.next }
    ]
open_within queues members i (Drained share member ∷ earlier) all is_open =
    let w = open_within queues members i earlier all.1 is_open in
    elim (cases_Bool (member == w.who)) [
      | inl e ↦ absurd (not_both (in_part w.who earlier) w.part (rw (← is_equal member w.who e) all.0.apart))
      | inr e ↦ record { who = w.who; shape = w.shape; there = w.there; part = w.part; next = rw e w.next }
    ]
open_within queues members i (End share member ∷ earlier) all is_open =
    let w = open_within queues members i earlier all.1 is_open in
    elim (cases_Bool (member == w.who)) [
      | inl e ↦ absurd (not_both (in_part w.who earlier) w.part (rw (← is_equal member w.who e) all.0.apart))
      | inr e ↦ record { who = w.who; shape = w.shape; there = rw e w.there; part = w.part; next = w.next }
    ]
open_within queues members i (HandOn share member piece ∷ earlier) all is_open =
    let w = open_within queues members i earlier all.1 is_open in
    elim (cases_Bool (share == i)) [
      | inl e ↦
          let may : MayHandOn members i member piece earlier = rw (is_equal share i e) at all.0 in
          let same = one_turn queues members member w.who i may.shape w.shape earlier all.1 may.inside w.there (turn_has_its_piece members member i may.shape earlier may.next) (turn_has_its_piece members w.who i w.shape earlier w.next) in
          absurd (not_both (in_part w.who earlier) w.part (rw (← same) may.apart))
      | inr e ↦ record { who = w.who; shape = w.shape; there = w.there; part = w.part; next = rw e w.next }
    ]
open_within queues members i (Part share member iteration ∷ earlier) all is_open =
    elim (cases_Bool (share == i)) [
      | inl e ↦
          let may : MayPart members i member iteration earlier = rw (is_equal share i e) at all.0 in
          record { who = member; shape = may.shape; there = may.inside; part = rw (same_number member) refl; next = may.next }
      | inr e ↦
          let w = open_within queues members i earlier all.1 (rw e at is_open) in
          record { who = w.who; shape = w.shape; there = w.there; part = either_true (member == w.who) _ w.part; next = w.next }
    ]
open_within queues members i (PartEnd share member ∷ earlier) all is_open =
    elim (cases_Bool (share == i)) [
      | inl e ↦ absurd (let no = rw e at is_open in cc)
      | inr e ↦
          let w = open_within queues members i earlier all.1 (rw e at is_open) in
          elim (cases_Bool (member == w.who)) [
            | inl f ↦
                let its : open_share w.who earlier ≡ Some (share, all.0.shape) = rw (← is_equal member w.who f) all.0.inside in
                absurd (unequal_numbers share i e (share_is share i all.0.shape w.shape (sym its ∙ w.there)).0)
            | inr f ↦ record { who = w.who; shape = w.shape; there = w.there; part = rw f w.part; next = w.next }
          ]
    ]
open_within queues members i (_ ∷ earlier) all is_open =
    let w = open_within queues members i earlier all.1 is_open in
    record { who = w.who; shape = w.shape; there = w.there; part = w.part; next = w.next }

-- a member in a part of its share has the turn, and the part that is open there is its own
part_has_its_turn : (queues : Queues) (members m i : ℕ) (shape : Shape) (h : List Event) → Always (ShareRule queues members) h → open_share m h ≡ Some (i, shape) → in_part m h ≡ true →
    (has_turn members (i, shape) m h ≡ true) × (open_part i h ≡ Some m)
part_has_its_turn queues members m i shape [] all at within = absurd (cc)
part_has_its_turn queues members m i shape (Enter share member other ∷ earlier) all at within =
    elim (cases_Bool (member == m)) [
      | inl e ↦ absurd (let no = rw e at within in cc)
      | inr e ↦ let p = part_has_its_turn queues members m i shape earlier all.1 (rw e at at) (rw e at within) in (rw e p.0, p.1)
    ]
part_has_its_turn queues members m i shape (Take share member low high ∷ earlier) all at within =
    let p = part_has_its_turn queues members m i shape earlier all.1 at within in
    elim (cases_Bool (member == m)) [
      | inl e ↦ absurd (not_both (in_part m earlier) within (rw (← is_equal member m e) all.0.apart))
      | inr e ↦ (rw e p.0, p.1)
    ]
part_has_its_turn queues members m i shape (Drained share member ∷ earlier) all at within =
    let p = part_has_its_turn queues members m i shape earlier all.1 at within in
    elim (cases_Bool (member == m)) [
      | inl e ↦ absurd (not_both (in_part m earlier) within (rw (← is_equal member m e) all.0.apart))
      | inr e ↦ (rw e p.0, p.1)
    ]
part_has_its_turn queues members m i shape (End share member ∷ earlier) all at within =
    elim (cases_Bool (member == m)) [
      | inl e ↦ absurd (let none = rw e at at in cc)
      | inr e ↦ part_has_its_turn queues members m i shape earlier all.1 (rw e at at) within
    ]
part_has_its_turn queues members m i shape (HandOn share member piece ∷ earlier) all at within =
    let p = part_has_its_turn queues members m i shape earlier all.1 at within in
    elim (cases_Bool (share == i)) [
      | inl e ↦
          let may : MayHandOn members i member piece earlier = rw (is_equal share i e) at all.0 in
          let same = one_turn queues members member m i may.shape shape earlier all.1 may.inside at (turn_has_its_piece members member i may.shape earlier may.next) (turn_has_its_piece members m i shape earlier p.0) in
          absurd (not_both (in_part m earlier) within (rw (← same) may.apart))
      | inr e ↦ (rw e p.0, p.1)
    ]
part_has_its_turn queues members m i shape (Part share member iteration ∷ earlier) all at within =
    elim (cases_Bool (member == m)) [
      | inl e ↦
          let who = is_equal member m e in
          let there : open_share m earlier ≡ Some (share, all.0.shape) = rw (← who) all.0.inside in
          let p = share_is share i all.0.shape shape (sym there ∙ at) in
          ((rw (p.0, p.1, who) at all.0.next), rw (p.0, same_number i, who) refl)
      | inr e ↦
          let p = part_has_its_turn queues members m i shape earlier all.1 at (rw e at within) in
          elim (cases_Bool (share == i)) [
            | inl f ↦
                let may : MayPart members i member iteration earlier = rw (is_equal share i f) at all.0 in
                absurd (unequal_numbers member m e (one_turn queues members member m i may.shape shape earlier all.1 may.inside at (turn_has_its_piece members member i may.shape earlier may.next) (turn_has_its_piece members m i shape earlier p.0)))
            | inr f ↦ (p.0, rw f p.1)
          ]
    ]
part_has_its_turn queues members m i shape (PartEnd share member ∷ earlier) all at within =
    elim (cases_Bool (member == m)) [
      | inl e ↦ absurd (let no = rw e at within in cc)
      | inr e ↦
          let p = part_has_its_turn queues members m i shape earlier all.1 at (rw e at within) in
          elim (cases_Bool (share == i)) [
            | inl f ↦
                let q = part_has_its_turn queues members member i all.0.shape earlier all.1 (rw (is_equal share i f) at all.0.inside) all.0.within in
                let both : Some member ≡ Some m = sym q.1 ∙ p.1 in
                absurd (unequal_numbers member m e (let same : member ≡ m = cc in same))
            | inr f ↦ (p.0, rw f p.1)
          ]
    ]
part_has_its_turn queues members m i shape (_ ∷ earlier) all at within = part_has_its_turn queues members m i shape earlier all.1 at within

-- The laws

parts_rise : (queues : Queues) (members : ℕ) (event : Event) (earlier : List Event) → ShareRule queues members event earlier → Always (ShareRule queues members) earlier → PartsRise event earlier
parts_rise queues members (Part share m iteration) earlier rule all = λ n other stands.
    elim (parts_before queues members m share n other rule.low rule.high rule.shape earlier all rule.inside rule.piece (piece_of_turn members m share rule.low rule.high rule.shape earlier rule.next rule.piece) stands) [
      | inl lt ↦ let from = rule.from in omega arith
      | inr lt ↦ let after = rule.after in omega arith
    ]
parts_rise queues members _ earlier rule all = tt

parts_in_turn : (queues : Queues) (members : ℕ) (event : Event) (earlier : List Event) → ShareRule queues members event earlier → Always (ShareRule queues members) earlier → PartsInTurn members event earlier
parts_in_turn queues members (Part share m iteration) earlier rule all = (
  rule.shape,
  rule.low,
  rule.high,
  rule.ordered,
  inside_stands m share rule.shape earlier rule.inside,
  last_piece_was_taken queues members m share rule.low rule.high rule.shape earlier all rule.inside rule.piece,
  (λ stands. not_both (has_ended share m earlier) (ended_once_left share m earlier stands) (not_ended queues members m share rule.shape earlier all rule.inside)),
  rule.piece,
  rule.from,
  rule.before,
  piece_of_turn members m share rule.low rule.high rule.shape earlier rule.next rule.piece,
)
parts_in_turn queues members _ earlier rule all = tt

-- the piece that is handed on has the number of the turn
pub hands_the_turn : (queues : Queues) (members m share piece : ℕ) (earlier : List Event) → Always (ShareRule queues members) earlier → MayHandOn members share m piece earlier → piece ≡ turn share earlier
hands_the_turn queues members m share piece earlier all may =
    let found = (member_is_inside queues members m share may.shape earlier all may.inside).0 in
    may.number ∙ last_is_turn members m share may.shape.trips may.shape earlier (share_is_tiled queues members share may.shape earlier all found) may.next

handed_on : (queues : Queues) (members : ℕ) (event : Event) (earlier : List Event) → ShareRule queues members event earlier → Always (ShareRule queues members) earlier → HandsOnInTurn members event earlier
handed_on queues members (HandOn share m piece) earlier rule all =
    let own = turn_has_its_piece members m share rule.shape earlier rule.next in
    let number = hands_the_turn queues members m share piece earlier all rule in
    (rule.shape, own.0, own.1, rule.ordered, inside_stands m share rule.shape earlier rule.inside, (λ stands. not_both (has_ended share m earlier) (ended_once_left share m earlier stands) (not_ended queues members m share rule.shape earlier all rule.inside)), own.3, number, rw number own.2)
handed_on queues members _ earlier rule all = tt

-- who may hand a piece on, or begin a part, finds no part open
none_open : (queues : Queues) (members m share : ℕ) (shape : Shape) (earlier : List Event) → Always (ShareRule queues members) earlier → open_share m earlier ≡ Some (share, shape) → has_turn members (share, shape) m earlier ≡ true → in_part m earlier ≡ false →
    open_part share earlier ≡ None
none_open queues members m share shape earlier all at next away =
    elim (cases_Bool (is_some (open_part share earlier))) [
      | inl e ↦
          let w = open_within queues members share earlier all e in
          let same = one_turn queues members m w.who share shape w.shape earlier all at w.there (turn_has_its_piece members m share shape earlier next) (turn_has_its_piece members w.who share w.shape earlier w.next) in
          absurd (not_both (in_part w.who earlier) w.part (rw (← same) away))
      | inr e ↦ none_of (open_part share earlier) e
    ]

-- nor is the part of a member open that is in none
not_its : (queues : Queues) (members m share : ℕ) (earlier : List Event) → Always (ShareRule queues members) earlier → in_part m earlier ≡ false → open_part share earlier ≡ Some m → ⊥
not_its queues members m share earlier all away its =
    let w = open_within queues members share earlier all (rw its refl) in
    let own = (part_has_its_turn queues members w.who share w.shape earlier all w.there w.part).1 in
    let same : w.who ≡ m = let both = sym own ∙ its in cc in
    not_both (in_part w.who earlier) w.part (rw same away)

parts_stay_apart : (queues : Queues) (members : ℕ) (event : Event) (earlier : List Event) → ShareRule queues members event earlier → Always (ShareRule queues members) earlier → PartsApart event earlier
parts_stay_apart queues members (Part share m iteration) earlier rule all = none_open queues members m share rule.shape earlier all rule.inside rule.next rule.apart
parts_stay_apart queues members (HandOn share m piece) earlier rule all = none_open queues members m share rule.shape earlier all rule.inside rule.next rule.apart
parts_stay_apart queues members (End share m) earlier rule all = not_its queues members m share earlier all rule.apart
parts_stay_apart queues members (PartEnd share m) earlier rule all = (part_has_its_turn queues members m share rule.shape earlier all rule.inside rule.within).1
parts_stay_apart queues members _ earlier rule all = tt

pub ordered_keep : (members : ℕ) (h : List Event) → Always (ShareRule (schedule members) members) h → OrderedLaws members h
ordered_keep members h all =
    let queues = schedule members in
    record {
      rise = always_so (ShareRule queues members) PartsRise (parts_rise queues members) h all;
      in_turn = always_so (ShareRule queues members) (PartsInTurn members) (parts_in_turn queues members) h all;
      handed_on = always_so (ShareRule queues members) (HandsOnInTurn members) (handed_on queues members) h all;
      apart = always_so (ShareRule queues members) PartsApart (parts_stay_apart queues members) h all;
    }
