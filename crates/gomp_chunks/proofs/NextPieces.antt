-- Which takes count for a member, and how many pieces there are for it.
use Rattle.std.proofs.Common.{◌≡◌, ℕ, ◌+◌, ◌%◌, ◌≤◌, ◌∙◌, List, [], ◌∷◌, Option, Some, None, refl, ap, arith, length, slice_get, inl, inr, sym}
use Rattle.std.specs.Prelude.{◌==◌, ◌^◌}
use Rattle.std.proofs.lemmas.Bool.{cases_Bool, cases_lt}
use Rattle.std.proofs.lemmas.Option.{slice_get_past}
use Rattle.gomp_types.specs.declared.shape.Shape.{Shape}
use Rattle.gomp_types.specs.declared.shape.ShareKind.{ShareKind}
use Rattle.gomp_types.specs.declared.shape.ShareKind.TheVariants.{StaticChunked, StaticEven, Dynamic, Guided, Sections, Single, SingleCopy}
use Rattle.gomp_events.specs.declared.event.Event.{Event}
use Rattle.gomp_types.specs.Limits.{shown_number}
use Rattle.gomp_types.specs.Values.{IsShape}
use Rattle.gomp_types.specs.Pieces.{Piece, Tiles, pieces_of, kind_pieces, owner_by}
use Rattle.gomp_types.specs.Deals.{queues_of, schedule, owned_from}
use Rattle.gomp_events.specs.Takes.{taken_in, next_for}
use Rattle.gomp_chunks.specs.Plans.{count_for, next_piece, own_queue}

-- the takes that count for a member are its own of a static share, and else all
pub counts_by : (members : ℕ) (kind : ShareKind) (shape : Shape) (i m : ℕ) (h : List Event) →
    taken_in ((queues_of members kind).queue_of shape) i ((queues_of members kind).queue_of shape m) h ≡ count_for (owner_by members kind) (taken_in (λ k. k) i m h) (taken_in (λ k. 0) i 0 h)
counts_by members StaticChunked shape i m h = refl
counts_by members StaticEven shape i m h = refl
counts_by members Dynamic shape i m h = refl
counts_by members Guided shape i m h = refl
counts_by members Sections shape i m h = refl
counts_by members Single shape i m h = refl
counts_by members SingleCopy shape i m h = refl

-- so the next piece for it is the one after those
pub next_is_for : (members : ℕ) (shape : Shape) (i m : ℕ) (h : List Event) → next_for (schedule members) shape i m h ≡ next_piece (record { members = members; shape = shape }) m (taken_in (λ k. k) i m h) (taken_in (λ k. 0) i 0 h)
next_is_for members shape i m h = ap (slice_get (own_queue (record { members = members; shape = shape }) m)) (counts_by members shape.kind shape i m h)

-- A count that stays at the largest number tells the piece all the same

owned_few : (owner : ℕ → ℕ) (m j : ℕ) (pieces : List Piece) → length (owned_from owner m j pieces) ≤ length pieces
owned_few owner m j [] = omega arith
owned_few owner m j (piece ∷ pieces) =
    let rest = owned_few owner m (j + 1) pieces in
    elim (cases_Bool (owner j == m)) [
      | inl own ↦ rw own (omega arith)
      | inr other ↦ rw other (omega arith)
    ]

pub tiles_few : (low high : ℕ) (pieces : List Piece) → Tiles low pieces high → low + length pieces ≤ high
tiles_few low high [] tiles = omega arith
tiles_few low high (piece ∷ pieces) tiles = let rest = tiles_few piece.1 high pieces tiles.2 in let some = tiles.1 in omega arith

pub queue_few : (members : ℕ) (kind : ShareKind) (shape : Shape) (m : ℕ) → Tiles 0 (kind_pieces members kind shape) shape.trips → length ((queues_of members kind).queue shape ((queues_of members kind).queue_of shape m)) ≤ shape.trips
queue_few members StaticChunked shape m tiles = let few = tiles_few 0 shape.trips _ tiles in let own = owned_few (λ j. j % members) m 0 (kind_pieces members StaticChunked shape) in omega arith
queue_few members StaticEven shape m tiles = let few = tiles_few 0 shape.trips _ tiles in let own = owned_few (λ j. j) m 0 (kind_pieces members StaticEven shape) in omega arith
queue_few members Dynamic shape m tiles = let few = tiles_few 0 shape.trips _ tiles in omega arith
queue_few members Guided shape m tiles = let few = tiles_few 0 shape.trips _ tiles in omega arith
queue_few members Sections shape m tiles = let few = tiles_few 0 shape.trips _ tiles in omega arith
queue_few members Single shape m tiles = let few = tiles_few 0 shape.trips _ tiles in omega arith
queue_few members SingleCopy shape m tiles = let few = tiles_few 0 shape.trips _ tiles in omega arith

slice_get-shown : (xs : List Piece) (n : ℕ) → length xs ≤ 2 ^ 39 → slice_get xs (shown_number n) ≡ slice_get xs n
slice_get-shown xs n few = elim (cases_lt n 18446744073709551615) [
  | inl below ↦ let same : shown_number n ≡ n = omega arith in rw same refl
  | inr past ↦
      let most : shown_number n ≡ 18446744073709551615 = omega arith in
      rw most (slice_get_past xs 18446744073709551615 (omega arith) ∙ sym (slice_get_past xs n (omega arith)))
]

shown_for : (owner : Option (ℕ → ℕ)) (own all : ℕ) → count_for owner (shown_number own) (shown_number all) ≡ shown_number (count_for owner own all)
shown_for None own all = refl
shown_for (Some owner) own all = refl

pub next_shown : (members : ℕ) (shape : Shape) (m own all : ℕ) → IsShape shape → Tiles 0 (pieces_of members shape) shape.trips →
    next_piece (record { members = members; shape = shape }) m (shown_number own) (shown_number all) ≡ next_piece (record { members = members; shape = shape }) m own all
next_shown members shape m own all is tiles =
    let few = queue_few members shape.kind shape m tiles in
    let most = is.trips in
    ap (slice_get (own_queue (record { members = members; shape = shape }) m)) (shown_for (owner_by members shape.kind) own all)
    ∙ slice_get-shown (own_queue (record { members = members; shape = shape }) m) (count_for (owner_by members shape.kind) own all) (omega arith)
