-- The next piece of a member is the first of its queue that nobody took.
use Rattle.std.proofs.Common.{◌≡◌, ℕ, List, [], ◌∷◌, ◌++◌, Some, refl, ap, ◌∙◌, sym, take}
use Rattle.std.specs.Prelude.{zero, suc, slice_get}
use Rattle.gomp_types.specs.declared.shape.Shape.{Shape}
use Rattle.gomp_events.specs.declared.event.Event.{Event}
use Rattle.gomp_types.specs.Pieces.{Piece}
use Rattle.gomp_events.specs.Events.{open_share}
use Rattle.gomp_types.specs.Deals.{Queues, FirstOfQueue}
use Rattle.gomp_events.specs.Takes.{taken_in, takes_in, next_for}
use Rattle.gomp_events.specs.Laws.{Always}
use Rattle.gomp_shares.specs.Rules.{ShareRule}
use Rattle.gomp_shares.proofs.SharesKeep.{taken_front_of_queue, member_is_inside}

-- a list is its front, the piece behind that, and what is left
parted_at : (pieces : List Piece) (n : ℕ) (piece : Piece) → slice_get pieces n ≡ Some piece → (rest : List Piece) × (pieces ≡ take n pieces ++ piece ∷ rest)
parted_at [] n piece there = absurd (cc)
parted_at (first ∷ pieces) zero piece there = (pieces, let same : first ≡ piece = cc in rw same refl)
parted_at (first ∷ pieces) (suc n) piece there = let later = parted_at pieces n piece there in (later.0, ap (λ (l : List Piece). first ∷ l) later.1)

pub first_of_queue : (queues : Queues) (members m i : ℕ) (shape : Shape) (piece : Piece) (h : List Event) → Always (ShareRule queues members) h → open_share m h ≡ Some (i, shape) → next_for queues shape i m h ≡ Some piece →
    FirstOfQueue (queues.queue shape (queues.queue_of shape m)) (takes_in (queues.queue_of shape) i (queues.queue_of shape m) h) piece
first_of_queue queues members m i shape piece h all at next =
    let own = member_is_inside queues members m i shape h all at in
    let q = queues.queue_of shape m in
    let parted = parted_at (queues.queue shape q) (taken_in (queues.queue_of shape) i q h) piece next in
    (parted.0, parted.1 ∙ ap (λ (l : List Piece). l ++ piece ∷ parted.0) (sym (taken_front_of_queue queues members i q shape h all own.0)))
