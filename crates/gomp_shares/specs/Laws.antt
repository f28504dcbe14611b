-- The laws of the work-shares, each clause in the words of the promise that it keeps.
use Rattle.std.specs.Prelude.{ℕ, ◌+◌, ◌%◌, ◌<◌, ◌≤◌, ◌≡◌, slice_get, List, Some, None, true, false, take}
use Rattle.gomp_types.specs.declared.shape.Shape.{Shape}
use Rattle.gomp_types.specs.declared.limits.TheConstants.{OPEN_SHARES}
use Rattle.gomp_events.specs.declared.event.Event.{Event}
use Rattle.gomp_events.specs.declared.event.Event.TheVariants.{Enter, Take, End, HandOn, Part, PartEnd, Cancel}
use Rattle.gomp_types.specs.declared.cancel.Scope.TheVariants.{OneShare}
use Rattle.gomp_types.specs.declared.loop_desc.EndKind.TheVariants.{Cancellable}
use Rattle.gomp_events.specs.Cancels.{share_cancelled}
use Rattle.gomp_types.specs.Shapes.{is_static}
use Rattle.gomp_types.specs.Pieces.{pieces_of}
use Rattle.gomp_events.specs.Events.{shares_entered, last_piece, turn, open_part, times_taken}
use Rattle.gomp_types.specs.Deals.{Queues}
use Rattle.gomp_events.specs.Takes.{taken_in, takes_in, next_for}
use Rattle.gomp_events.specs.Laws.{Always, Happened}

-- every member has left the share
abbrev pub IsOver : ℕ → ℕ → List Event → Type 0
IsOver members share h = (m : ℕ) → m < members → Happened (End share m) h

-- a take is the least piece that nobody took of those that are its member's to take; its member has entered the share, and not left it
abbrev pub TakesNext : Queues → Event → List Event → Type 0
TakesNext queues (Take share m low high) earlier =
    (shape : Shape)
    × Happened (Enter share m shape) earlier
    × (Happened (End share m) earlier → ⊥)
    × (next_for queues shape share m earlier ≡ Some (low, high))
TakesNext queues _ earlier = Unit {0}

-- it has iterations of its share, at least one
abbrev pub TakesWithin : Event → List Event → Type 0
TakesWithin (Take share m low high) earlier = (shape : Shape) × Happened (Enter share m shape) earlier × (low < high) × (high ≤ shape.trips)
TakesWithin _ earlier = Unit {0}

-- a member leaves a share only if nothing is left there for it, unless the share was cancelled before
abbrev pub LeavesNothing : Queues → Event → List Event → Type 0
LeavesNothing queues (End share m) earlier =
    (shape : Shape) → Happened (Enter share m shape) earlier → share_cancelled share earlier ≡ false → next_for queues shape share m earlier ≡ None
LeavesNothing queues _ earlier = Unit {0}

-- Taken once (OpenMP API 5.2, section 11.5: each iteration is executed once).
pub record TakenOnce (queues : Queues) (h : List Event) : Type 0 where
  -- of the takes of a share at most one has the iteration k
  pub once : (share k : ℕ) → times_taken share k h ≤ 1
  -- each take is a piece of its share, between its member's entry and end
  pub pieces : Always (TakesNext queues) h
  -- of iterations that the share has
  pub within : Always TakesWithin h
  -- its member leaves the share when nothing is left for it, and not before, unless the share was cancelled
  pub left : Always (LeavesNothing queues) h
  -- the takes from a queue are its pieces 0, 1, 2 and on
  pub order : (share m q : ℕ) (shape : Shape) → Happened (Enter share m shape) h → takes_in (queues.queue_of shape) share q h ≡ take (taken_in (queues.queue_of shape) share q h) (queues.queue shape q)

-- Own pieces (OpenMP API 5.2, section 11.5.3): the pieces of a static loop are assigned to the members in turn, and a member takes only those whose numbers count round to it.
abbrev pub TakesItsOwn : ℕ → Event → List Event → Type 0
TakesItsOwn members (Take share m low high) earlier =
    (shape : Shape) → Happened (Enter share m shape) earlier → is_static shape.kind ≡ true → (number : ℕ) × (slice_get (pieces_of members shape) number ≡ Some (low, high)) × (number % members ≡ m)
TakesItsOwn members _ earlier = Unit {0}

-- Whole: a share that every member has left, and that nobody cancelled, had each of its iterations taken, once.
abbrev pub WholeWhereOver : ℕ → List Event → Type 0
WholeWhereOver members h =
    (share m : ℕ) (shape : Shape) → Happened (Enter share m shape) h → IsOver members share h → share_cancelled share h ≡ false → (k : ℕ) → k < shape.trips → times_taken share k h ≡ 1

-- Cancelled shares (OpenMP API 5.2, section 16.1): a share is cancelled by a member that has entered it and not left it, and only if its end kind allows that
abbrev pub CancelsCancellable : Event → List Event → Type 0
CancelsCancellable (Cancel m (OneShare share)) earlier =
    (shape : Shape) × Happened (Enter share m shape) earlier × (Happened (End share m) earlier → ⊥) × (shape.end_kind ≡ Cancellable)
CancelsCancellable _ earlier = Unit {0}

-- a member leaves a share with a piece left for it only after some member cancelled that share
abbrev pub LeavesCancelled : Queues → Event → List Event → Type 0
LeavesCancelled queues (End share m) earlier =
    (shape : Shape) → Happened (Enter share m shape) earlier → (next_for queues shape share m earlier ≡ None → ⊥) → (n : ℕ) × Happened (Cancel n (OneShare share)) earlier
LeavesCancelled queues _ earlier = Unit {0}

-- a member of the team enters its shares one by one, by their numbers, each after it has left those before
abbrev pub EntersOneByOne : ℕ → Event → List Event → Type 0
EntersOneByOne members (Enter share m shape) earlier =
    (m < members)
    × (share ≡ shares_entered m earlier)
    × ((before : ℕ) (other : Shape) → Happened (Enter before m other) earlier → Happened (End before m) earlier)
EntersOneByOne members _ earlier = Unit {0}

-- it leaves a share that it has entered, and not left before
abbrev pub EndsInside : Event → List Event → Type 0
EndsInside (End share m) earlier = (shape : Shape) × Happened (Enter share m shape) earlier × (Happened (End share m) earlier → ⊥)
EndsInside _ earlier = Unit {0}

-- a share is entered only if the one `OPEN_SHARES` before it is over (own)
abbrev pub EntersWithRoom : ℕ → Event → List Event → Type 0
EntersWithRoom members (Enter share m shape) earlier = (old : ℕ) → share ≡ old + OPEN_SHARES → IsOver members old earlier
EntersWithRoom members _ earlier = Unit {0}

-- Same shares (OpenMP API 5.2, chapter 11: every member meets the same work-shares in the same order).
pub record SameShares (members : ℕ) (h : List Event) : Type 0 where
  -- a member goes through them one by one
  pub one_by_one : Always (EntersOneByOne members) h
  pub ends : Always EndsInside h
  -- the members' i-th shares are of one shape
  pub shapes : (share m n : ℕ) (one other : Shape) → Happened (Enter share m one) h → Happened (Enter share n other) h → one ≡ other
  -- and no more than eight are open
  pub room : Always (EntersWithRoom members) h

-- Ordered (OpenMP API 5.2, section 15.10.2): ordered parts of a loop begin in the order of their iterations.
abbrev pub PartsRise : Event → List Event → Type 0
PartsRise (Part share m iteration) earlier = (n other : ℕ) → Happened (Part share n other) earlier → other < iteration
PartsRise _ earlier = Unit {0}

-- a part lies in the piece of an ordered loop that its member took last, and every piece before that one was handed on: its number is that of the turn
abbrev pub PartsInTurn : ℕ → Event → List Event → Type 0
PartsInTurn members (Part share m iteration) earlier =
    (shape : Shape) × (low high : ℕ)
    × (shape.ordered ≡ true)
    × Happened (Enter share m shape) earlier
    × Happened (Take share m low high) earlier
    × (Happened (End share m) earlier → ⊥)
    × (last_piece m earlier ≡ Some (low, high))
    × (low ≤ iteration)
    × (iteration < high)
    × (slice_get (pieces_of members shape) (turn share earlier) ≡ Some (low, high))
PartsInTurn members _ earlier = Unit {0}

-- the pieces of an ordered loop are handed on in order, each by the member whose last piece it is: its number is how many were handed on before
abbrev pub HandsOnInTurn : ℕ → Event → List Event → Type 0
HandsOnInTurn members (HandOn share m piece) earlier =
    (shape : Shape) × (low high : ℕ)
    × (shape.ordered ≡ true)
    × Happened (Enter share m shape) earlier
    × (Happened (End share m) earlier → ⊥)
    × (last_piece m earlier ≡ Some (low, high))
    × (piece ≡ turn share earlier)
    × (slice_get (pieces_of members shape) piece ≡ Some (low, high))
HandsOnInTurn members _ earlier = Unit {0}

-- no part of a loop begins and no piece is handed on while a part is open; the open one is ended by its member, which does not leave the loop before
abbrev pub PartsApart : Event → List Event → Type 0
PartsApart (Part share m iteration) earlier = open_part share earlier ≡ None
PartsApart (PartEnd share m) earlier = open_part share earlier ≡ Some m
PartsApart (HandOn share m piece) earlier = open_part share earlier ≡ None
PartsApart (End share m) earlier = open_part share earlier ≡ Some m → ⊥
PartsApart _ earlier = Unit {0}

-- what the ordered parts keep
pub record OrderedLaws (members : ℕ) (h : List Event) : Type 0 where
  pub rise : Always PartsRise h
  pub in_turn : Always (PartsInTurn members) h
  pub handed_on : Always (HandsOnInTurn members) h
  pub apart : Always PartsApart h

-- what the work-shares alone keep, however they are kept
pub record ShareLaws (queues : Queues) (members : ℕ) (h : List Event) : Type 0 where
  pub taken_once : TakenOnce queues h
  pub whole : WholeWhereOver members h
  pub cancelled : Always CancelsCancellable h
  pub left_early : Always (LeavesCancelled queues) h
  pub same_shares : SameShares members h
