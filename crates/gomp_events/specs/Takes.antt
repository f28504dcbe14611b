-- Which pieces of a share were taken, and which one a member takes next. OpenMP API 5.2, section 11.5.3.
use Rattle.std.specs.Prelude.{ℕ, ◌+◌, ◌==◌, ◌&&◌, if◌then◌else◌, List, [], ◌∷◌, ◌++◌, Option, slice_get}
use Rattle.gomp_types.specs.declared.shape.Shape.{Shape}
use Rattle.gomp_events.specs.declared.event.Event.{Event}
use Rattle.gomp_events.specs.declared.event.Event.TheVariants.{Take}
use Rattle.gomp_types.specs.Pieces.{Piece}
use Rattle.gomp_types.specs.Deals.{Queues}

-- how many pieces of the queue were taken
abbrev pub taken_in : (ℕ → ℕ) → ℕ → ℕ → List Event → ℕ
taken_in queue_of share q [] = 0
taken_in queue_of share q (Take i member low high ∷ earlier) =
    if i == share && queue_of member == q then taken_in queue_of share q earlier + 1 else taken_in queue_of share q earlier
taken_in queue_of share q (_ ∷ earlier) = taken_in queue_of share q earlier

-- which of them, in the order in which they were taken
abbrev pub takes_in : (ℕ → ℕ) → ℕ → ℕ → List Event → List Piece
takes_in queue_of share q [] = []
takes_in queue_of share q (Take i member low high ∷ earlier) =
    if i == share && queue_of member == q then takes_in queue_of share q earlier ++ (low, high) ∷ [] else takes_in queue_of share q earlier
takes_in queue_of share q (_ ∷ earlier) = takes_in queue_of share q earlier

-- the least piece of the queue that nobody took
abbrev pub next_in : Queues → Shape → ℕ → ℕ → List Event → Option Piece
next_in queues shape share q h = slice_get (queues.queue shape q) (taken_in (queues.queue_of shape) share q h)

-- the least piece that nobody took of those that are the member's to take
abbrev pub next_for : Queues → Shape → ℕ → ℕ → List Event → Option Piece
next_for queues shape share m h = next_in queues shape share (queues.queue_of shape m) h
