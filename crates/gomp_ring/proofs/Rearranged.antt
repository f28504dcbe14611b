-- What the members of a team took together of a share that all have left is what the share had to hand out.
use Rattle.std.proofs.Common.{◌≡◌, ℕ, ◌+◌, ◌<◌, ◌≤◌, zero, suc, true, false, List, [], ◌∷◌, ◌++◌, Option, Some, None, refl, ap, ◌∙◌, arith, length, take, inl, inr}
use Rattle.std.specs.Prelude.{◌==◌, min}
use Rattle.std.proofs.Math.Nat.{mod-lt}
use Rattle.std.proofs.lemmas.Bool.{cases_Bool}
use Rattle.std.proofs.lemmas.List.FromFn.{length-map-range_with_len}
use Rattle.gomp_types.specs.declared.shape.Shape.{Shape}
use Rattle.gomp_types.specs.declared.shape.ShareKind.{ShareKind}
use Rattle.gomp_types.specs.declared.shape.ShareKind.TheVariants.{StaticChunked, StaticEven}
use Rattle.gomp_events.specs.declared.event.Event.{Event}
use Rattle.gomp_events.specs.declared.event.Event.TheVariants.{Take}
use Rattle.gomp_types.specs.Pieces.{Piece, Tiles, pieces_of, kind_pieces, even_piece, owner_by}
use Rattle.gomp_events.specs.Events.{shape_at, has_ended, is_over}
use Rattle.gomp_events.specs.Cancels.{share_cancelled}
use Rattle.gomp_types.specs.Deals.{Queues, queues_by, owned_from, schedule}
use Rattle.gomp_events.specs.Takes.{taken_in, takes_in, next_for}
use Rattle.gomp_events.specs.Laws.{Always}
use Rattle.gomp_types.specs.Values.{IsShape}
use Rattle.gomp_types.proofs.Booleans.{is_equal, same_number, unequal_numbers, other_number, every_tells}
use Rattle.gomp_types.proofs.Tiling.{still_past, take_past}
use Rattle.gomp_types.proofs.Dealing.{pieces_tile_all}
use Rattle.gomp_shares.specs.Rules.{ShareRule}
use Rattle.gomp_shares.proofs.SharesKeep.{member_is_inside, taken_front_of_queue, ended_none}
use Rattle.gomp_ring.specs.Gathers.{pieces_taken, pieces_of_all, iterations_of, same_piece, times_in, IsRearrangement}

-- How often a piece stands in lists that were put together

-- the first piece of a list counts for itself
times_first : (piece first : Piece) (rest : List Piece) → times_in piece (first ∷ rest) ≡ times_in piece (first ∷ []) + times_in piece rest
times_first piece first rest = elim (cases_Bool (same_piece first piece)) [ inl e ↦ rw e (omega arith) | inr e ↦ rw e (omega arith) ]

-- one list after another
pub times_in-append : (piece : Piece) (xs ys : List Piece) → times_in piece (xs ++ ys) ≡ times_in piece xs + times_in piece ys
times_in-append piece [] ys = omega arith
times_in-append piece (x ∷ xs) ys = omega (arith, times_first piece x (xs ++ ys), times_first piece x xs, times_in-append piece xs ys)

-- what the first so many members have together
abbrev total : ℕ → (ℕ → ℕ) → ℕ
total zero each = 0
total (suc m) each = total m each + each m

-- the members' pieces together hold a piece as often as they do one by one
times_in_all : (members i : ℕ) (piece : Piece) (h : List Event) → times_in piece (pieces_of_all members i h) ≡ total members (λ m. times_in piece (pieces_taken i m h))
times_in_all zero i piece h = refl
times_in_all (suc m) i piece h = omega (arith, times_in-append piece (pieces_of_all m i h) (pieces_taken i m h), times_in_all m i piece h)

-- members that have nothing have nothing together
total_none : (members : ℕ) → total members (λ m. 0) ≡ 0
total_none zero = refl
total_none (suc m) = omega (arith, total_none m)

-- members that have as much each have as much together
total_same : (members : ℕ) (one other : ℕ → ℕ) → ((m : ℕ) → m < members → one m ≡ other m) → total members one ≡ total members other
total_same zero one other same = refl
total_same (suc n) one other same = omega (arith, total_same n one other (λ m lt. same m (omega arith)), same n (omega arith))

-- what one member has more all have more
total_more : (members who more : ℕ) (one other : ℕ → ℕ) → who < members → one who ≡ more + other who → ((m : ℕ) → (who == m) ≡ false → one m ≡ other m) → total members one ≡ more + total members other
total_more zero who more one other lt own same = absurd (omega arith)
total_more (suc n) who more one other lt own same =
    elim (cases_Bool (who == n)) [
      | inl e ↦
          let last : who ≡ n = is_equal who n e in
          let more_here : one n ≡ more + other n = rw last at own in
          omega (arith, more_here, total_same n one other (λ m below. same m (other_number who m (omega arith))))
      | inr e ↦
          let apart = unequal_numbers who n e in
          omega (arith, same n e, total_more n who more one other (omega arith) own same)
    ]

-- Where all members take from one queue

-- a take from a queue adds its piece
take_counts : (queue_of : ℕ → ℕ) (i q share member low high : ℕ) (piece : Piece) (earlier : List Event) → (share == i) ≡ true → (queue_of member == q) ≡ true →
    times_in piece (takes_in queue_of i q (Take share member low high ∷ earlier)) ≡ times_in piece ((low, high) ∷ []) + times_in piece (takes_in queue_of i q earlier)
take_counts queue_of i q share member low high piece earlier here own = rw (here, own) (omega (arith, times_in-append piece (takes_in queue_of i q earlier) ((low, high) ∷ [])))

-- what all members took one by one is what was taken from the queue
one_queue_all : (queues : Queues) (members i : ℕ) (piece : Piece) (h : List Event) → Always (ShareRule queues members) h → total members (λ m. times_in piece (pieces_taken i m h)) ≡ times_in piece (takes_in (λ k. 0) i 0 h)
one_queue_all queues members i piece [] all = total_none members
one_queue_all queues members i piece (Take share member low high ∷ earlier) all =
    elim (cases_Bool (share == i)) [
      | inl e ↦
          let below = (member_is_inside queues members member share all.0.shape earlier all.1 all.0.inside).1 in
          let more = total_more members member (times_in piece ((low, high) ∷ [])) (λ m. times_in piece (pieces_taken i m (Take share member low high ∷ earlier))) (λ m. times_in piece (pieces_taken i m earlier)) below
          (take_counts (λ k. k) i member share member low high piece earlier e (same_number member)) (λ m other. rw (e, other) (omega arith)) in
          omega (arith, more, one_queue_all queues members i piece earlier all.1, take_counts (λ k. 0) i 0 share member low high piece earlier e refl)
      | inr e ↦ rw e (one_queue_all queues members i piece earlier all.1)
    ]
one_queue_all queues members i piece (_ ∷ earlier) all = one_queue_all queues members i piece earlier all.1

-- Where each member has a queue of its own

-- the queues of all members have the pieces, if each piece's owner is a member
owned_all : (owner : ℕ → ℕ) (members j : ℕ) (piece : Piece) (pieces : List Piece) → ((n : ℕ) → n < j + length pieces → owner n < members) → total members (λ m. times_in piece (owned_from owner m j pieces)) ≡ times_in piece pieces
owned_all owner members j piece [] owned = total_none members
owned_all owner members j piece (first ∷ pieces) owned =
    let more = total_more members (owner j) (times_in piece (first ∷ [])) (λ m. times_in piece (owned_from owner m j (first ∷ pieces))) (λ m. times_in piece (owned_from owner m (j + 1) pieces)) (owned j (omega arith))
    (rw (same_number (owner j)) (times_first piece first (owned_from owner (owner j) (j + 1) pieces))) (λ m other. rw other refl) in
    omega (arith, more, owned_all owner members (j + 1) piece pieces (λ n lt. owned n (omega arith)), times_first piece first pieces)

-- each of so many pieces has its owner in the team, if it has one
abbrev OwnersIn : ℕ → ℕ → Option (ℕ → ℕ) → Type 0
OwnersIn members count None = Unit {0}
OwnersIn members count (Some owner) = (j : ℕ) → j < count → owner j < members

-- so it is in a share of each kind
owners_in : (members : ℕ) (kind : ShareKind) (shape : Shape) → 0 < members → OwnersIn members (length (kind_pieces members kind shape)) (owner_by members kind)
owners_in members StaticChunked shape some = λ j lt. mod-lt j some
owners_in members StaticEven shape some = λ j lt. let count = length-map-range_with_len (even_piece shape.trips members) 0 (min shape.trips members) in omega arith
owners_in members _ shape some = tt

-- A share that all have left

-- a member that left a share that was not cancelled left nothing in its queue: the takes from it are the whole queue
whole_queue : (queues : Queues) (members m i : ℕ) (shape : Shape) (h : List Event) → Always (ShareRule queues members) h → shape_at i h ≡ Some shape → has_ended i m h ≡ true → share_cancelled i h ≡ false →
    takes_in (queues.queue_of shape) i (queues.queue_of shape m) h ≡ queues.queue shape (queues.queue_of shape m)
whole_queue queues members m i shape h all at ended whole =
    let left = ended_none queues members m i h all ended whole in
    let same : left.0 ≡ shape = let one = left.1 in cc in
    let none : next_for queues shape i m h ≡ None = rw same at left.2 in
    let q = queues.queue_of shape m in
    taken_front_of_queue queues members i q shape h all at
    ∙ take_past (queues.queue shape q) (taken_in (queues.queue_of shape) i q h) (still_past (queues.queue shape q) (taken_in (queues.queue_of shape) i q h) none)

-- what all members took are the pieces, if the takes from each queue are the whole queue
all_queues : (queues : Queues) (members i : ℕ) (owner : Option (ℕ → ℕ)) (pieces : Shape → List Piece) (shape : Shape) (piece : Piece) (h : List Event) → 0 < members → Always (ShareRule queues members) h →
    OwnersIn members (length (pieces shape)) owner →
    ((m : ℕ) → m < members → takes_in ((queues_by owner pieces).queue_of shape) i ((queues_by owner pieces).queue_of shape m) h ≡ (queues_by owner pieces).queue shape ((queues_by owner pieces).queue_of shape m)) →
    total members (λ m. times_in piece (pieces_taken i m h)) ≡ times_in piece (pieces shape)
all_queues queues members i None pieces shape piece h some all owned whole = one_queue_all queues members i piece h all ∙ ap (times_in piece) (whole 0 some)
all_queues queues members i (Some owner) pieces shape piece h some all owned whole =
    total_same members (λ m. times_in piece (pieces_taken i m h)) (λ m. times_in piece (owned_from owner m 0 (pieces shape))) (λ m lt. ap (times_in piece) (whole m lt))
    ∙ owned_all owner members 0 piece (pieces shape) (λ n lt. owned n (omega arith))

-- the pieces of all members are a rearrangement of the share's list, if all have left it and none cancelled it
pub pieces_are_rearranged : (members i : ℕ) (shape : Shape) (h : List Event) → 0 < members → Always (ShareRule (schedule members) members) h → shape_at i h ≡ Some shape → IsShape shape →
    is_over members i h ≡ true → share_cancelled i h ≡ false → IsRearrangement (pieces_of_all members i h) (pieces_of members shape)
pieces_are_rearranged members i shape h some all at is over whole = λ piece.
    times_in_all members i piece h
    ∙ all_queues (schedule members) members i (owner_by members shape.kind) (kind_pieces members shape.kind) shape piece h some all (owners_in members shape.kind shape some)
    (λ m lt. whole_queue (schedule members) members m i shape h all at (every_tells members (λ x. has_ended i x h) m over lt) whole)

-- How many iterations a member took

-- one list after another has the iterations of both
pub iterations_of-append : (xs ys : List Piece) → iterations_of (xs ++ ys) ≡ iterations_of xs + iterations_of ys
iterations_of-append [] ys = omega arith
iterations_of-append (x ∷ xs) ys = omega (arith, iterations_of-append xs ys)

-- the front of a list has no more than the list
iterations_of-take : (n : ℕ) (xs : List Piece) → iterations_of (take n xs) ≤ iterations_of xs
iterations_of-take zero xs = omega arith
iterations_of-take (suc n) [] = omega arith
iterations_of-take (suc n) (x ∷ xs) = omega (arith, iterations_of-take n xs)

-- pieces that lead from one end to the other have the iterations between
tiled_iterations : (low high : ℕ) (pieces : List Piece) → Tiles low pieces high → low + iterations_of pieces ≡ high
tiled_iterations low high [] tiles = let end = tiles in omega arith
tiled_iterations low high (piece ∷ pieces) tiles = let first = tiles.0 in let some = tiles.1 in omega (arith, tiled_iterations piece.1 high pieces tiles.2)

-- an owner's pieces have no more iterations than all pieces
owned_iterations : (owner : ℕ → ℕ) (m j : ℕ) (pieces : List Piece) → iterations_of (owned_from owner m j pieces) ≤ iterations_of pieces
owned_iterations owner m j [] = omega arith
owned_iterations owner m j (piece ∷ pieces) =
    let rest = owned_iterations owner m (j + 1) pieces in
    elim (cases_Bool (owner j == m)) [ inl own ↦ rw own (omega arith) | inr other ↦ rw other (omega arith) ]

-- a member took no more iterations than all members together
one_queue_iterations : (i m : ℕ) (h : List Event) → iterations_of (pieces_taken i m h) ≤ iterations_of (takes_in (λ k. 0) i 0 h)
one_queue_iterations i m [] = omega arith
one_queue_iterations i m (Take share member low high ∷ earlier) =
    let before = one_queue_iterations i m earlier in
    let all_more = iterations_of-append (takes_in (λ k. 0) i 0 earlier) ((low, high) ∷ []) in
    elim (cases_Bool (share == i)) [
      | inl e ↦ elim (cases_Bool (member == m)) [
        | inl own ↦ let own_more = iterations_of-append (pieces_taken i m earlier) ((low, high) ∷ []) in rw (e, own) (omega arith)
        | inr other ↦ rw (e, other) (omega arith)
      ]
      | inr e ↦ rw e before
    ]
one_queue_iterations i m (_ ∷ earlier) = one_queue_iterations i m earlier

-- what a member took from its queue has no more iterations than the share's pieces
queue_iterations : (owner : Option (ℕ → ℕ)) (pieces : Shape → List Piece) (i m n : ℕ) (shape : Shape) (h : List Event) →
    takes_in ((queues_by owner pieces).queue_of shape) i ((queues_by owner pieces).queue_of shape m) h ≡ take n ((queues_by owner pieces).queue shape ((queues_by owner pieces).queue_of shape m)) →
    iterations_of (pieces_taken i m h) ≤ iterations_of (pieces shape)
queue_iterations None pieces i m n shape h front = let some = iterations_of-take n (pieces shape) in let few = one_queue_iterations i m h in omega (arith, ap iterations_of front)
queue_iterations (Some owner) pieces i m n shape h front =
    let some = iterations_of-take n (owned_from owner m 0 (pieces shape)) in let few = owned_iterations owner m 0 (pieces shape) in omega (arith, ap iterations_of front)

-- a member takes no more iterations of a share than it has
pub own_iterations_few : (members i m : ℕ) (shape : Shape) (h : List Event) → m < members → Always (ShareRule (schedule members) members) h → shape_at i h ≡ Some shape → IsShape shape →
    iterations_of (pieces_taken i m h) ≤ shape.trips
own_iterations_few members i m shape h lt all at is =
    let q = (schedule members).queue_of shape m in
    let few = queue_iterations (owner_by members shape.kind) (kind_pieces members shape.kind) i m (taken_in ((schedule members).queue_of shape) i q h) shape h (taken_front_of_queue (schedule members) members i q shape h all at) in
    let tiled = tiled_iterations 0 shape.trips (pieces_of members shape) (pieces_tile_all members shape (omega arith) is) in
    omega arith
