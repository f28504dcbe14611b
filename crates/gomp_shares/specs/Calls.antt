-- What the calls on a team's work-shares ask, answer and add to the events. The newest event stands first. OpenMP API 5.2, chapter 11.
use Rattle.std.specs.Prelude.{ℕ, ◌<◌, ◌≤◌, ◌≡◌, ◌^◌, ◌&&◌, ◌||◌, nat_lt, if◌then◌else◌, Bool, true, false, List, ◌∷◌, Option, Some, None, Result, Ok, Err, is_some, IfSome}
use Rattle.std.specs.Bool.{OnTrue}
use Rattle.gomp_types.specs.declared.shape.Shape.{Shape}
use Rattle.gomp_types.specs.declared.refusal.Refusal.{Refusal}
use Rattle.gomp_events.specs.declared.event.Event.{Event}
use Rattle.gomp_events.specs.declared.event.Event.TheVariants.{Enter, Take, Drained, End, HandOn, Part, PartEnd, Cancel, See}
use Rattle.gomp_types.specs.declared.cancel.CancelKind.{CancelKind}
use Rattle.gomp_types.specs.declared.cancel.CancelKind.TheVariants.{Loop, Sections}
use Rattle.gomp_types.specs.declared.cancel.Scope.TheVariants.{OneShare}
use Rattle.gomp_events.specs.Cancels.{may_be_cancelled}
use Rattle.gomp_types.specs.Pieces.{Piece}
use Rattle.gomp_types.specs.Values.{IsShape}
use Rattle.gomp_events.specs.Events.{shares_entered, open_share, open_number, in_kind, shape_at, has_room}
use Rattle.gomp_events.specs.Ordered.{has_turn, last_number, is_ordered, is_in_rest}
use Rattle.gomp_types.specs.Shapes.{is_loop, is_sections, is_single}
use Rattle.gomp_types.specs.Deals.{schedule}
use Rattle.gomp_events.specs.Takes.{next_for, taken_in}
use Rattle.gomp_types.specs.Compare.{shape_differs}
use Rattle.gomp_events.specs.declared.seen.Seen.{Seen}
use Rattle.gomp_shares.specs.declared.Opening.{Opening}
use Rattle.gomp_shares.specs.declared.Opening.TheVariants.{Entered, NotYet, Differs}

-- how many shares a member can enter (own)
abbrev pub most_shares : ℕ
most_shares = 2 ^ 48

-- how many pieces of a share were taken, by whomever
abbrev pub taken_of : ℕ → List Event → ℕ
taken_of share h = taken_in (λ m. 0) share 0 h

-- whether some piece of it was taken
abbrev pub was_taken : ℕ → List Event → Bool
was_taken share h = nat_lt 0 (taken_of share h)

-- if some member entered this share, it is a single
abbrev pub IsSingleAt : ℕ → List Event → Type 0
IsSingleAt share h = (shape : Shape) → shape_at share h ≡ Some shape → is_single shape.kind ≡ true

-- a member of the team that is in no share may open its next one
pub record CanOpen (members m : ℕ) (shape : Shape) (seen : Seen) : Type 0 where
  pub member : m < members
  pub valid : IsShape shape
  -- only a loop is ordered
  pub ordered : shape.ordered ≡ true → is_loop shape.kind ≡ true
  pub outside : is_some seen.current ≡ false
  pub few : seen.entered < most_shares

-- a member that sees this is in a share of this shape
abbrev pub IsIn : Shape → Seen → Type 0
IsIn shape seen = (number : ℕ) × (seen.current ≡ Some (number, shape))

-- a member that sees this may open a share of this shape, in whatever team it is
abbrev pub MayOpenAs : Seen → Shape → Type 0
MayOpenAs seen shape = (members m : ℕ) → m < members → CanOpen members m shape seen

-- when a member that opens its next share gets this answer
abbrev pub MayOpen : ℕ → ℕ → Shape → Opening → List Event → Type 0
MayOpen members m shape Entered h = (shape_differs shape (shape_at (shares_entered m h) h) ≡ false) × (has_room members (shares_entered m h) h ≡ true)
MayOpen members m shape NotYet h = (shape_differs shape (shape_at (shares_entered m h) h) ≡ false) × (has_room members (shares_entered m h) h ≡ false)
MayOpen members m shape Differs h = shape_differs shape (shape_at (shares_entered m h) h) ≡ true

-- the events after this answer
abbrev pub events_opened : ℕ → Shape → Opening → List Event → List Event
events_opened m shape Entered h = Enter (shares_entered m h) m shape ∷ h
events_opened m shape NotYet h = h
events_opened m shape Differs h = h

-- a member that is in a share, and in no ordered part of it, and was not told that nothing is left, may ask for a piece
pub record CanClaim (members m : ℕ) (seen : Seen) : Type 0 where
  pub member : m < members
  pub inside : is_some seen.current ≡ true
  pub more : seen.drained ≡ false
  pub apart : seen.in_part ≡ false

-- it gets the least piece that nobody took of those that are its own to take, none if there is none
pub record Claims (members m : ℕ) (answer : Option Piece) (h : List Event) : Type 0 where
  pub share : ℕ × Shape
  pub there : open_share m h ≡ Some share
  pub valid : IsShape share.1
  pub least : answer ≡ next_for (schedule members) share.1 share.0 m h
  pub within : IfSome answer (λ piece. (piece.0 < piece.1) × (piece.1 ≤ share.1.trips))

-- the events after a claim: the piece was taken, or the member was told that nothing is left
abbrev pub events_claimed : ℕ → Option Piece → List Event → List Event
events_claimed m (Some piece) h = Take (open_number m h) m piece.0 piece.1 ∷ h
events_claimed m None h = Drained (open_number m h) m ∷ h

-- whether nothing is left for a member that sees this of its place: it was told so, or it took the one piece of a single
abbrev pub is_done : Seen → Bool
is_done seen = seen.drained || in_kind is_single seen.current && is_some seen.piece

-- whether it may leave its share: nothing is left there for it, or it has seen that the share is cancelled
abbrev pub is_free_construct : Seen → Bool
is_free_construct seen = is_done seen || seen.leaving

-- a member may leave such a share, out of an ordered part
pub record CanLeave (members m : ℕ) (seen : Seen) : Type 0 where
  pub member : m < members
  pub inside : is_some seen.current ≡ true
  pub done : is_free_construct seen ≡ true
  pub apart : seen.in_part ≡ false

-- the events after the member has left its share
abbrev pub events_left : ℕ → List Event → List Event
events_left m h = End (open_number m h) m ∷ h

-- Cancellation (OpenMP API 5.2, section 16.1)

-- whether a member is in a loop or a sections construct
abbrev pub in_construct : Option (ℕ × Shape) → Bool
in_construct own = in_kind is_loop own || in_kind is_sections own

-- which of the two a cancellation of the member's share names
abbrev pub kind_in : Option (ℕ × Shape) → CancelKind
kind_in own = if in_kind is_sections own then Sections else Loop

-- a member that is in a share whose end kind lets it be cancelled may cancel it
pub record CanCancel (members m : ℕ) (seen : Seen) : Type 0 where
  pub member : m < members
  pub cancellable : may_be_cancelled seen.current ≡ true

-- the events after the member has cancelled its share
abbrev pub events_cancelled : ℕ → List Event → List Event
events_cancelled m h = Cancel m (OneShare (open_number m h)) ∷ h

-- a member in a loop or in sections may see that it is cancelled
pub record CanSee (members m : ℕ) (seen : Seen) : Type 0 where
  pub member : m < members
  pub inside : in_construct seen.current ≡ true

-- the events after the member has seen that its share is cancelled
abbrev pub events_seen : ℕ → List Event → List Event
events_seen m h = See m (kind_in (open_share m h)) ∷ h

-- and after it has seen that, or has not
abbrev pub seen_if : Bool → ℕ → List Event → List Event
seen_if true m h = events_seen m h
seen_if false m h = h

-- a member in a loop or in sections, out of an ordered part, may end it
pub record CanEnd (members m : ℕ) (seen : Seen) : Type 0 where
  pub member : m < members
  pub inside : in_construct seen.current ≡ true
  pub apart : seen.in_part ≡ false

-- a member in an ordered loop may begin the part of an iteration of its piece, after those whose parts it has begun
pub record CanBeginPart (members m iteration : ℕ) (seen : Seen) : Type 0 where
  pub member : m < members
  pub ordered : is_ordered seen.current ≡ true
  pub apart : seen.in_part ≡ false
  pub rest : is_in_rest seen.piece seen.next_part (Some iteration) ≡ true

-- a member that sees this may begin the part of this iteration, in whatever team it is
abbrev pub MayBeginAs : Seen → ℕ → Type 0
MayBeginAs seen iteration = (members m : ℕ) → m < members → CanBeginPart members m iteration seen

-- a member may end the part that it is in
pub record CanEndPart (members m : ℕ) (seen : Seen) : Type 0 where
  pub member : m < members
  pub within : seen.in_part ≡ true

-- a member in an ordered loop, and in no part of it, may ask whether its piece can be handed on
pub record CanHandOn (members m : ℕ) (seen : Seen) : Type 0 where
  pub member : m < members
  pub ordered : is_ordered seen.current ≡ true
  pub apart : seen.in_part ≡ false

-- whether the turn is the member's: every piece of its share before its own was handed on, and its own was not
abbrev pub turn_in : ℕ → Option (ℕ × Shape) → ℕ → List Event → Bool
turn_in members None m h = false
turn_in members (Some share) m h = has_turn members share m h

-- whether the turn of the share that the member is in is the member's
abbrev pub own_turn : ℕ → ℕ → List Event → Bool
own_turn members m h = turn_in members (open_share m h) m h

-- the number of the member's last piece, in the share that it is in
abbrev pub number_in : ℕ → Option (ℕ × Shape) → ℕ → List Event → ℕ
number_in members None m h = 0
number_in members (Some share) m h = last_number members share m h

-- the events after these calls
abbrev pub part_begun : ℕ → ℕ → Bool → List Event → List Event
part_begun m iteration true h = Part (open_number m h) m iteration ∷ h
part_begun m iteration false h = h

-- the events after the member has ended its part
abbrev pub part_ended : ℕ → List Event → List Event
part_ended m h = PartEnd (open_number m h) m ∷ h

-- a piece that is handed on has the number of the member's last piece
abbrev pub piece_handed : ℕ → ℕ → Bool → List Event → List Event
piece_handed members m true h = HandOn (open_number m h) m (number_in members (open_share m h) m h) ∷ h
piece_handed members m false h = h

-- the events after a member has left its share, or was refused
abbrev pub left_unless_refused : {A : Type 0} → Result A Refusal → ℕ → List Event → List Event
left_unless_refused (Ok done) m h = events_left m h
left_unless_refused (Err refusal) m h = h

-- of each list of events that is stood for, this holds
abbrev pub EachStands : (List Event → Type 0) → (List Event → Type 0) → Type 0
EachStands stands P = (h : List Event) → stands h → P h

-- whether the shares see an event: it is one of theirs
abbrev pub is_of_shares : Event → Bool
is_of_shares (Enter share m shape) = true
is_of_shares (Take share m low high) = true
is_of_shares (Drained share m) = true
is_of_shares (End share m) = true
is_of_shares (HandOn share m piece) = true
is_of_shares (Part share m iteration) = true
is_of_shares (PartEnd share m) = true
is_of_shares (Cancel m (OneShare share)) = true
is_of_shares (See m Loop) = true
is_of_shares (See m Sections) = true
is_of_shares _ = false

-- an event that the shares do not see
abbrev pub IsNoShareEvent : Event → Type 0
IsNoShareEvent event = OnTrue (is_of_shares event) ⊥
