-- Which piece comes next, of any queues, share, member and list: each piece of a queue once, in order, and none once all are taken.
use Rattle.std.proofs.Common.{◌≡◌, ◌≢◌, ◌≤◌, ℕ, ◌+◌, List, ◌∷◌, Option, Some, None, refl, length, inl, inr, slice_get}
use Rattle.std.proofs.lemmas.Option.{slice_get_cases, slice_get_past}
use Rattle.gomp_types.specs.declared.shape.Shape.{Shape}
use Rattle.gomp_events.specs.declared.event.Event.{Event}
use Rattle.gomp_events.specs.declared.event.Event.TheVariants.{Take}
use Rattle.gomp_types.specs.Pieces.{Piece}
use Rattle.gomp_types.specs.Deals.{Queues, owned_from}
use Rattle.gomp_events.specs.Takes.{taken_in, next_for}
use Rattle.gomp_types.proofs.Booleans.{same_number, other_number}

-- nothing is left for a member only once as many pieces were taken as its queue has
pub nothing_left_while_some_is_untaken : (queues : Queues) (shape : Shape) (share m : ℕ) (h : List Event) → next_for queues shape share m h ≡ None →
    length (queues.queue shape (queues.queue_of shape m)) ≤ taken_in (queues.queue_of shape) share (queues.queue_of shape m) h
nothing_left_while_some_is_untaken queues shape share m h none =
    elim (slice_get_cases (queues.queue shape (queues.queue_of shape m)) (taken_in (queues.queue_of shape) share (queues.queue_of shape m) h)).1
    [ inl found ↦ absurd (some_is_left found.2 none) | inr past ↦ past.0 ]
  where
    some_is_left : {left : Option Piece} {piece : Piece} → left ≡ Some piece → left ≡ None → ⊥
    some_is_left is isnt = cc

-- and then nothing is
pub nothing_left_of_a_used_up_queue : (queues : Queues) (shape : Shape) (share m : ℕ) (h : List Event) →
    length (queues.queue shape (queues.queue_of shape m)) ≤ taken_in (queues.queue_of shape) share (queues.queue_of shape m) h → next_for queues shape share m h ≡ None
nothing_left_of_a_used_up_queue queues shape share m h used = slice_get_past (queues.queue shape (queues.queue_of shape m)) (taken_in (queues.queue_of shape) share (queues.queue_of shape m) h) used

-- the piece that comes next is the one behind those that were taken
pub next_piece_is_behind_the_taken : (queues : Queues) (shape : Shape) (share m : ℕ) (h : List Event) →
    next_for queues shape share m h ≡ slice_get (queues.queue shape (queues.queue_of shape m)) (taken_in (queues.queue_of shape) share (queues.queue_of shape m) h)
next_piece_is_behind_the_taken queues shape share m h = refl

-- each take of the queue's share counts, by whichever member of the queue and of whatever iterations
pub take_of_the_queue_counts : (queue_of : ℕ → ℕ) (share m low high : ℕ) (h : List Event) → taken_in queue_of share (queue_of m) (Take share m low high ∷ h) ≡ taken_in queue_of share (queue_of m) h + 1
take_of_the_queue_counts queue_of share m low high h = rw (same_number share, same_number (queue_of m)) refl

-- and no take of another share
pub take_of_another_share_counts_not : (queue_of : ℕ → ℕ) (i share q m low high : ℕ) (h : List Event) → i ≢ share → taken_in queue_of share q (Take i m low high ∷ h) ≡ taken_in queue_of share q h
take_of_another_share_counts_not queue_of i share q m low high h differ = rw (other_number i share differ) refl

-- nor of another queue
pub take_of_another_queue_counts_not : (queue_of : ℕ → ℕ) (share q m low high : ℕ) (h : List Event) → queue_of m ≢ q → taken_in queue_of share q (Take share m low high ∷ h) ≡ taken_in queue_of share q h
take_of_another_queue_counts_not queue_of share q m low high h differ = rw (same_number share, other_number (queue_of m) q differ) refl

-- a member's queue has each piece that it owns
pub owned_piece_is_in_the_queue : (owner : ℕ → ℕ) (m j : ℕ) (piece : Piece) (pieces : List Piece) → owner j ≡ m → owned_from owner m j (piece ∷ pieces) ≡ piece ∷ owned_from owner m (j + 1) pieces
owned_piece_is_in_the_queue owner m j piece pieces owns = rw (owns, same_number m) refl

-- and none of another's
pub piece_of_another_is_in_no_queue : (owner : ℕ → ℕ) (m j : ℕ) (piece : Piece) (pieces : List Piece) → owner j ≢ m → owned_from owner m j (piece ∷ pieces) ≡ owned_from owner m (j + 1) pieces
piece_of_another_is_in_no_queue owner m j piece pieces differ = rw (other_number (owner j) m differ) refl
