-- When an event of the work-shares may happen, given the events before it: a rule for each kind of event. (own)
use Rattle.std.specs.Prelude.{ℕ, pos, ◌<◌, ◌≤◌, ◌≡◌, ◌≢◌, ◌⊎◌, true, false, List, Some, None}
use Rattle.gomp_types.specs.declared.shape.Shape.{Shape}
use Rattle.gomp_events.specs.declared.event.Event.{Event}
use Rattle.gomp_events.specs.declared.event.Event.TheVariants.{Enter, Take, Drained, End, HandOn, Part, PartEnd, Cancel, See}
use Rattle.gomp_types.specs.declared.cancel.CancelKind.TheVariants.{Loop, Sections}
use Rattle.gomp_types.specs.declared.cancel.Scope.TheVariants.{OneShare}
use Rattle.gomp_types.specs.declared.loop_desc.EndKind.TheVariants.{Cancellable}
use Rattle.gomp_events.specs.Cancels.{names_cancelled, leaves_share}
use Rattle.gomp_types.specs.Shapes.{is_loop, same_end}
use Rattle.gomp_events.specs.Events.{shares_entered, open_share, last_piece, next_part, in_part, shape_at, has_room}
use Rattle.gomp_types.specs.Pieces.{Tiles, pieces_of}
use Rattle.gomp_events.specs.Ordered.{has_turn, last_number}
use Rattle.gomp_types.specs.Deals.{Queues, IsDealt}
use Rattle.gomp_events.specs.Takes.{next_for}

-- A member of the team that is in no share enters its next one. All that entered it before did so in this shape, and the share
-- eight before is over. The shape is that of a construct: fairly dealt out, in pieces that lead from its first iteration to its
-- last, with a step that leads on.
pub record MayEnter (queues : Queues) (members share m : ℕ) (shape : Shape) (earlier : List Event) : Type 0 where
  pub member : m < members
  pub number : share ≡ shares_entered m earlier
  pub outside : open_share m earlier ≡ None
  pub dealt : IsDealt queues members shape
  pub tiles : Tiles 0 (pieces_of members shape) shape.trips
  pub moves : shape.incr ≢ pos 0
  -- only a loop is ordered
  pub ordered : shape.ordered ≡ true → is_loop shape.kind ≡ true
  -- and none that may be cancelled
  pub unordered : same_end shape.end_kind Cancellable ≡ true → shape.ordered ≡ false
  pub same : (other : Shape) → shape_at share earlier ≡ Some other → other ≡ shape
  pub room : has_room members share earlier ≡ true

-- a member takes the next piece of the share that it is in
pub record MayTake (queues : Queues) (share m low high : ℕ) (earlier : List Event) : Type 0 where
  pub shape : Shape
  pub inside : open_share m earlier ≡ Some (share, shape)
  pub next : next_for queues shape share m earlier ≡ Some (low, high)
  pub apart : in_part m earlier ≡ false

-- nothing is left for a member of the share that it is in: it may be told so
pub record HasNone (queues : Queues) (share m : ℕ) (earlier : List Event) : Type 0 where
  pub shape : Shape
  pub inside : open_share m earlier ≡ Some (share, shape)
  pub none : next_for queues shape share m earlier ≡ None
  pub apart : in_part m earlier ≡ false

-- a member leaves the share that it is in, out of an ordered part: nothing is left there for it, whether it was told so or not, or it has seen that the share is cancelled
pub record MayLeaveShare (queues : Queues) (share m : ℕ) (earlier : List Event) : Type 0 where
  pub shape : Shape
  pub inside : open_share m earlier ≡ Some (share, shape)
  pub done : (next_for queues shape share m earlier ≡ None) ⊎ (leaves_share m earlier ≡ true)
  pub apart : in_part m earlier ≡ false

-- a member cancels the share that it is in, whose end kind allows that
pub record MayCancelShare (share m : ℕ) (earlier : List Event) : Type 0 where
  pub shape : Shape
  pub inside : open_share m earlier ≡ Some (share, shape)
  pub cancellable : shape.end_kind ≡ Cancellable

-- a member hands its last piece of an ordered loop on, by the number of that piece: it is the next one that is handed on, and no part of it is open
pub record MayHandOn (members share m piece : ℕ) (earlier : List Event) : Type 0 where
  pub shape : Shape
  pub inside : open_share m earlier ≡ Some (share, shape)
  pub ordered : shape.ordered ≡ true
  pub apart : in_part m earlier ≡ false
  pub number : piece ≡ last_number members (share, shape) m earlier
  pub next : has_turn members (share, shape) m earlier ≡ true

-- a member begins the ordered part of an iteration of its piece, after those whose parts it has begun, if every piece before its own was handed on
pub record MayPart (members share m iteration : ℕ) (earlier : List Event) : Type 0 where
  pub shape : Shape
  pub inside : open_share m earlier ≡ Some (share, shape)
  pub ordered : shape.ordered ≡ true
  pub apart : in_part m earlier ≡ false
  pub next : has_turn members (share, shape) m earlier ≡ true
  pub low : ℕ
  pub high : ℕ
  pub piece : last_piece m earlier ≡ Some (low, high)
  pub from : low ≤ iteration
  pub before : iteration < high
  pub after : next_part m earlier ≤ iteration

-- and it ends the part that it is in
pub record MayEndPart (share m : ℕ) (earlier : List Event) : Type 0 where
  pub shape : Shape
  pub inside : open_share m earlier ≡ Some (share, shape)
  pub within : in_part m earlier ≡ true

-- the rule of the work-shares alone
abbrev pub ShareRule : Queues → ℕ → Event → List Event → Type 0
ShareRule queues members (Enter share m shape) earlier = MayEnter queues members share m shape earlier
ShareRule queues members (Take share m low high) earlier = MayTake queues share m low high earlier
ShareRule queues members (Drained share m) earlier = HasNone queues share m earlier
ShareRule queues members (End share m) earlier = MayLeaveShare queues share m earlier
ShareRule queues members (HandOn share m piece) earlier = MayHandOn members share m piece earlier
ShareRule queues members (Part share m iteration) earlier = MayPart members share m iteration earlier
ShareRule queues members (PartEnd share m) earlier = MayEndPart share m earlier
ShareRule queues members (Cancel m (OneShare share)) earlier = MayCancelShare share m earlier
ShareRule queues members (See m Loop) earlier = names_cancelled Loop m earlier ≡ true
ShareRule queues members (See m Sections) earlier = names_cancelled Sections m earlier ≡ true
ShareRule queues members _ earlier = Unit {0}
