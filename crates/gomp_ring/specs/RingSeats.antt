-- The seat of one member: what it keeps, what it is told, and what its calls tell. (own)
use Rattle.std.specs.Prelude.{◌≡◌, ◌≢◌, ℕ, zero, suc, ◌+◌, ◌-◌, ◌*◌, ◌^◌, ◌<◌, ◌≤◌, ◌⊎◌, nat_lt, ◌&&◌, if◌then◌else◌, Bool, true, false, List, [], ◌∷◌, ◌++◌, length, map, slice_get, Option, Some, None, is_some, not}
use Rattle.atomic_table.specs.declared.shared.Seat.{Seat}
use Rattle.atomic_table.specs.Seated.{TableId}
use Rattle.gomp_types.specs.declared.shape.Shape.{Shape}
use Rattle.gomp_events.specs.declared.event.Event.{Event}
use Rattle.gomp_events.specs.declared.event.Event.TheVariants.{Enter, HandOn, See}
use Rattle.gomp_events.specs.declared.seen.Seen.{Seen}
use Rattle.gomp_types.specs.Values.{IsShape}
use Rattle.gomp_types.specs.Shapes.{is_static, is_loop}
use Rattle.gomp_types.specs.Pieces.{Piece, pieces_of}
use Rattle.gomp_types.specs.Singles.{single_shape}
use Rattle.gomp_events.specs.Events.{share_number, shape_at, has_room, is_over, in_kind}
use Rattle.gomp_events.specs.Cancels.{share_cancelled, own_cancelled}
use Rattle.gomp_types.specs.Compare.{shape_differs}
use Rattle.gomp_types.specs.Deals.{schedule}
use Rattle.gomp_events.specs.Takes.{taken_in}
use Rattle.gomp_types.specs.Limits.{shown_number}
use Rattle.gomp_events.specs.Laws.{Always}
use Rattle.gomp_events.specs.Seen.{seen_of}
use Rattle.gomp_chunks.specs.Plans.{PlanView, pieces}
use Rattle.gomp_shares.specs.Calls.{Claims, most_shares, kind_in, own_turn, number_in}
use Rattle.gomp_shares.specs.Only.{shares_only, own_of}
use Rattle.gomp_shares.specs.Rules.{ShareRule}
use Rattle.gomp_slots.specs.declared.opening.Delay.TheVariants.{NoRoom, BeingOpened}
use Rattle.gomp_slots.specs.declared.opening.Entry.{Entry}
use Rattle.gomp_slots.specs.declared.opening.Entry.TheVariants.{Entered, NotYet, Differs}
use Rattle.gomp_slots.specs.declared.singles.Passage.{Passage}
use Rattle.gomp_slots.specs.declared.singles.Passage.TheVariants as passage
use Rattle.gomp_ring.specs.declared.ring.Ring.{Ring}
use Rattle.gomp_slots.specs.declared.view.View.{View}
use Rattle.gomp_slots.specs.Words.{gate_at}
use Rattle.gomp_slots.specs.Rule.{numbers_from}
use Rattle.gomp_slots.specs.Calls.{claim_event, single_piece, events_through}
use Rattle.gomp_slots.specs.Seats.{unseen}
use Rattle.gomp_ring.specs.Rings.{ring_table, ring_members}
use Rattle.gomp_ring.specs.Gathers.{pieces_taken, iterations_of, loop_iterations, IsRearrangement}

-- a member's seat: of which ring, of a team of how many, whose it is, which members have a seat (those below this number), what the member sees of its place, and what it did, the newest event first
pub record SeatView : Type 0 where
  pub table : TableId
  pub members : ℕ
  pub member : ℕ
  pub seated : ℕ
  pub seen : Seen
  pub did : List Event

-- the seat is one of this ring
pub record IsOnRing (ring : Ring) (seat : SeatView) : Type 0 where
  pub table : seat.table ≡ ring_table ring
  pub members : ring_members ring ≡ seat.members

-- What a seat keeps

-- the piece that was asked for last, if this is its number and one; before one was asked for there is none
abbrev pub asked_piece : PlanView → ℕ → Option Piece
asked_piece plan zero = None
asked_piece plan (suc number) = slice_get (pieces plan) number

-- what a member sees that has entered so many shares, is in this one, was answered that nothing is left or was not, asked for this piece last, began the part before this iteration last, and is in a part or leaves the share or does not
abbrev pub seen_by : ℕ → Option (ℕ × Shape) → Bool → PlanView → ℕ → ℕ → Bool → Bool → Seen
seen_by entered current drained plan asked next_part in_part leaving = record {
  entered = entered;
  current = current;
  drained = drained;
  piece = asked_piece plan asked;
  next_part = next_part;
  in_part = in_part;
  leaving = leaving;
}

-- what a member did is its part of a list of the team's events, which kept the rule of the work-shares
pub record IsPartOfTeam (members m : ℕ) (did : List Event) : Type 0 where
  pub events : List Event
  pub part : did ≡ own_of m events
  pub rule : Always (ShareRule (schedule members) members) events

-- the view of a member's seat: what the seat is told is the member's own, and all of it is there
pub record IsSeat (members m : ℕ) (seen : Seen) (plan : PlanView) (v : View) : Type 0 where
  pub member : m < members
  pub few_members : members ≤ 64
  pub idle : v.opening ≡ None
  pub sees : seen ≡ seen_of m v.did
  pub own : own_of m v.did ≡ v.did
  pub lawful : IsPartOfTeam members m v.did
  pub few : seen.entered ≤ 2 ^ 48
  -- one that has entered no share has done nothing
  pub fresh : seen.entered ≡ 0 → v.did ≡ []
  -- the share that the member is in is the one that it entered last, and its pieces are those of the plan
  pub last : (share : ℕ × Shape) → seen.current ≡ Some share → share.0 + 1 ≡ seen.entered
  pub valid : (share : ℕ × Shape) → seen.current ≡ Some share → IsShape share.1
  pub plan_is : (share : ℕ × Shape) → seen.current ≡ Some share → plan ≡ record { members = members; shape = share.1 }

-- the seat acts for its member, and for those from this number on, which have no seat
pub record ActsFor (members m seated : ℕ) (v : View) : Type 0 where
  pub above : m < seated
  pub within : seated ≤ members
  pub mine : v.mine ≡ m ∷ numbers_from seated (members - seated)
  -- until the first one is split from it, it is the only seat
  pub only : seated ≡ 1 → v.alone ≡ true

-- a member that has done nothing, and its seat opens no share
pub record IsFresh (members m seated : ℕ) (v : View) : Type 0 where
  pub few_members : members ≤ 64
  pub idle : v.opening ≡ None
  pub none : v.did ≡ []
  pub acts : ActsFor members m seated v

-- how many shares the member has left
abbrev pub shares_left : Seen → ℕ
shares_left seen = if is_some seen.current then seen.entered - 1 else seen.entered

-- how many pieces of a static share it took, how many iterations of the share that it is in, and how many of the loops that it has left
pub record Counts (m own here taken : ℕ) (seen : Seen) (v : View) : Type 0 where
  pub own_is : (share : ℕ × Shape) → seen.current ≡ Some share → is_static share.1.kind ≡ true → own ≡ shown_number (taken_in (λ k. k) share.0 m v.did)
  pub here_is : (share : ℕ × Shape) → seen.current ≡ Some share → here ≡ iterations_of (pieces_taken share.0 m v.did)
  pub here_few : (share : ℕ × Shape) → seen.current ≡ Some share → here ≤ share.1.trips
  pub taken_few : taken ≤ shares_left seen * 2 ^ 39
  pub taken_is : loop_iterations m v.did ≡ taken + (if in_kind is_loop seen.current then here else 0)

-- so many of the first pieces have a whole chunk each
abbrev pub AreWhole : PlanView → ℕ → Type 0
AreWhole plan whole = (number : ℕ) → number < whole →
    (slice_get (pieces plan) number ≡ Some (number * plan.shape.chunk, number * plan.shape.chunk + plan.shape.chunk)) × (number * plan.shape.chunk + plan.shape.chunk ≤ plan.shape.trips)

-- from this number on there is no piece
abbrev pub AreNoneFrom : PlanView → ℕ → Type 0
AreNoneFrom plan none_from = (number : ℕ) → none_from ≤ number → slice_get (pieces plan) number ≡ None

-- if the member asked for a piece it has one, unless it was answered that nothing is left
abbrev pub AskedIsThere : PlanView → ℕ → Bool → Type 0
AskedIsThere plan asked drained = 0 < asked → is_some (asked_piece plan asked) ≡ not drained

-- whether the member may claim by ticket: it is in a share that is not static, was not answered that nothing is left, and is in no part
abbrev pub asks_by_ticket : Option (ℕ × Shape) → Bool → Bool → Bool
asks_by_ticket None drained in_part = false
asks_by_ticket (Some share) drained in_part = not drained && not in_part && not (is_static share.1.kind)

-- what a member sees that has gone through share i, a bare single, and executes it or does not
abbrev pub passed_seen : Bool → ℕ → Seen
passed_seen executes i = record { entered = i + 1; current = None; drained = not executes; piece = single_piece executes; next_part = 0; in_part = false; leaving = false }

-- the member executed its last share, a bare single, if the seat says so, and has entered eight or more
abbrev pub HasExecuted : Bool → Seen → Type 0
HasExecuted executed seen = executed ≡ true → (8 ≤ seen.entered) × (seen ≡ passed_seen true (seen.entered - 1))

-- the chunk of the member's share
abbrev pub IsChunkOf : Option (ℕ × Shape) → ℕ → Type 0
IsChunkOf current chunk = (share : ℕ × Shape) → current ≡ Some share → chunk ≡ share.1.chunk

-- the plan is that of a bare single, if the seat says so
abbrev pub IsOfSingle : Bool → ℕ → PlanView → Type 0
IsOfSingle bare members plan = bare ≡ true → plan ≡ record { members = members; shape = single_shape false }

-- where the gate of the member's share lies
abbrev pub IsGateOf : Option (ℕ × Shape) → ℕ → Type 0
IsGateOf current gate = (share : ℕ × Shape) → current ≡ Some share → gate ≡ gate_at share.0

-- What a call of a seat tells its caller

-- what stands of a member's seat, whatever the other members did: the member is one of its team, what it sees is what its own events say, these are its part of a list of the team's events, and it is in a share of a construct's shape
pub record IsLawfulSeat (seat : SeatView) : Type 0 where
  pub member : seat.member < seat.members
  pub few_members : seat.members ≤ 64
  pub sees : seat.seen ≡ seen_of seat.member seat.did
  pub own : own_of seat.member seat.did ≡ seat.did
  pub lawful : IsPartOfTeam seat.members seat.member seat.did
  pub few : seat.seen.entered ≤ 2 ^ 48
  pub valid : (share : ℕ × Shape) → seat.seen.current ≡ Some share → IsShape share.1

-- the member did this: there is a list of the team's events, of which it knew its own part, and which kept the rule of the work-shares with it
pub record SeatActs (event : Event) (before now : SeatView) : Type 0 where
  pub events : List Event
  pub knows : before.did ≡ own_of before.member events
  pub rule : Always (ShareRule (schedule before.members) before.members) (event ∷ events)
  pub did : now.did ≡ event ∷ before.did
  pub sees : now.seen ≡ seen_of before.member now.did
  pub table : now.table ≡ before.table
  pub members : now.members ≡ before.members
  pub member : now.member ≡ before.member
  pub seated : now.seated ≡ before.seated

-- it claimed a piece of the share that it is in, and this is the answer: the event says it, and it is what the rule gives
pub record SeatClaims (before : SeatView) (answer : Option Piece) (now : SeatView) : Type 0 where
  pub share : ℕ × Shape
  pub inside : before.seen.current ≡ Some share
  pub acts : SeatActs (claim_event share.0 before.member answer) before now
  pub claims : Claims before.members before.member answer acts.events

-- whether a member that sees this may claim
abbrev pub may_claim : Seen → Bool
may_claim seen = is_some seen.current && not seen.drained && not seen.in_part

-- whether it may enter a share
abbrev pub may_enter : Seen → Bool
may_enter seen = not (is_some seen.current) && nat_lt seen.entered most_shares

-- it claims a piece if it may; else there is none, and nothing changes
abbrev pub SeatClaimsNext : Bool → SeatView → Option Piece → SeatView → Type 0
SeatClaimsNext true before answer now = SeatClaims before answer now
SeatClaimsNext false before answer now = (answer ≡ None) × (now ≡ before)

-- Cancellation (OpenMP API 5.2, section 16.1)

-- the answer is whether the share that the member is in is cancelled, and outside of a share it is false; nothing changes
pub record SeatAsks (before : SeatView) (answer : Bool) (now : SeatView) : Type 0 where
  pub events : List Event
  pub knows : before.did ≡ own_of before.member events
  pub rule : Always (ShareRule (schedule before.members) before.members) events
  pub answer_is : answer ≡ own_cancelled before.member events
  pub same : now ≡ before

-- the member sees that the share that it is in is cancelled, and from then on it leaves that, or nothing changes; the answer is whether it is
pub record SeatSees (before : SeatView) (answer : Bool) (now : SeatView) : Type 0 where
  pub events : List Event
  pub knows : before.did ≡ own_of before.member events
  pub rule : Always (ShareRule (schedule before.members) before.members) events
  pub answer_is : answer ≡ own_cancelled before.member events
  pub acts : answer ≡ true → SeatActs (See before.member (kind_in before.seen.current)) before now
  pub leaves : answer ≡ true → now.seen.leaving ≡ true
  pub same : answer ≡ false → now ≡ before

-- Turns (OpenMP API 5.2, section 15.10.2)

-- the member does what is its turn's, or nothing changes; the answer is whether the turn is its
pub record SeatTriesTurn (event : Event) (before : SeatView) (answer : Bool) (now : SeatView) : Type 0 where
  pub events : List Event
  pub knows : before.did ≡ own_of before.member events
  pub rule : Always (ShareRule (schedule before.members) before.members) events
  pub answer_is : answer ≡ own_turn before.members before.member events
  pub acts : answer ≡ true → SeatActs event before now
  pub same : answer ≡ false → now ≡ before

-- the member hands its last piece on, by the number of that
abbrev pub piece_handed_on : SeatView → Event
piece_handed_on before = HandOn (share_number before.seen.current) before.member (number_in before.members before.seen.current before.member before.did)

-- Opening

-- at this moment the member's next share is such a one, and nothing changes
pub record SeatWaits (before : SeatView) (room : Bool) (now : SeatView) : Type 0 where
  pub events : List Event
  pub knows : before.did ≡ own_of before.member events
  pub rule : Always (ShareRule (schedule before.members) before.members) events
  pub none : shape_at before.seen.entered events ≡ None
  pub room_is : has_room before.members before.seen.entered events ≡ room
  pub same : now ≡ before

pub record SeatDiffers (before : SeatView) (shape : Shape) (now : SeatView) : Type 0 where
  pub events : List Event
  pub knows : before.did ≡ own_of before.member events
  pub rule : Always (ShareRule (schedule before.members) before.members) events
  pub differs : shape_differs shape (shape_at before.seen.entered events) ≡ true
  pub same : now ≡ before

-- whether the member's next share is of another shape than this, at this moment; nothing changes
pub record SeatCompares (before : SeatView) (shape : Shape) (answer : Bool) (now : SeatView) : Type 0 where
  pub events : List Event
  pub knows : before.did ≡ own_of before.member events
  pub rule : Always (ShareRule (schedule before.members) before.members) events
  pub answer_is : answer ≡ shape_differs shape (shape_at before.seen.entered events)
  pub same : now ≡ before

-- it opens its next share: it entered it; or it may not yet, since nobody has entered it, and some member has not left the one eight before, or although there is room: then another seat opens it; or others entered it in another shape
abbrev pub SeatOpens : SeatView → Shape → Entry → SeatView → Type 0
SeatOpens before shape Entered now = SeatActs (Enter before.seen.entered before.member shape) before now
SeatOpens before shape (NotYet NoRoom) now = SeatWaits before false now
SeatOpens before shape (NotYet BeingOpened) now = SeatWaits before true now × (before.seated ≢ 1)
SeatOpens before shape Differs now = SeatDiffers before shape now

-- Bare singles (OpenMP API 5.2, section 11.1)

-- the member went through its next share, a bare single, and executes it or not: there is a list of the team's events, of which it knew its own part, and which kept the rule of the work-shares with its entry, its claim and its end
pub record SeatGoesThrough (executes : Bool) (before now : SeatView) : Type 0 where
  pub events : List Event
  pub knows : before.did ≡ own_of before.member events
  pub rule : Always (ShareRule (schedule before.members) before.members) (events_through executes before.seen.entered before.member events)
  pub did : now.did ≡ events_through executes before.seen.entered before.member before.did
  pub sees : now.seen ≡ seen_of before.member now.did
  pub table : now.table ≡ before.table
  pub members : now.members ≡ before.members
  pub member : now.member ≡ before.member
  pub seated : now.seated ≡ before.seated

-- its next share is a bare single: it went through it; or, as when it opens a share, nobody has entered it, or others entered it in another shape
abbrev pub SeatPasses : SeatView → Passage → SeatView → Type 0
SeatPasses before (passage.Passed executes) now = SeatGoesThrough executes before now
SeatPasses before (passage.NotYet NoRoom) now = SeatWaits before false now
SeatPasses before (passage.NotYet BeingOpened) now = SeatWaits before true now × (before.seated ≢ 1)
SeatPasses before passage.Differs now = SeatDiffers before (single_shape false) now

-- it goes through its next share, or is told why it does not, if it may enter one; else there is no answer, and nothing changes
abbrev pub SeatPassesNext : Bool → SeatView → Option Passage → SeatView → Type 0
SeatPassesNext true before (Some answer) now = SeatPasses before answer now
SeatPassesNext true before None now = ⊥
SeatPassesNext false before answer now = (answer ≡ None) × (now ≡ before)

-- New seats

-- the seat of a member that has done nothing
abbrev pub fresh_view : TableId → ℕ → ℕ → ℕ → SeatView
fresh_view table members m seated = record { table = table; members = members; member = m; seated = seated; seen = unseen; did = [] }

-- a seat from which others are still to be split gives the next member its seat, and has entered no share; else nothing changes
abbrev pub SeatSplits : SeatView → Option SeatView → SeatView → Type 0
SeatSplits before None now = (now ≡ before) × ((before.seated ≡ before.members) ⊎ (before.seen.entered ≢ 0))
SeatSplits before (Some other) now =
    (before.seated < before.members)
    × (before.seen.entered ≡ 0)
    × (now ≡ record before { seated = before.seated + 1 })
    × (other ≡ fresh_view before.table before.members before.seated before.members)

-- the piece that an answer of two numbers is: from the first on, and before the second; none if they are equal
abbrev pub piece_in : ℕ → ℕ → Option Piece
piece_in first end = if nat_lt first end then Some (first, end) else None

-- whether the share that the member is in is static
abbrev pub static_in : Seen → Bool
static_in seen = in_kind is_static seen.current

-- a new ring of a team of this size, and the seat of member 0
pub record IsNewRing (members : ℕ) (ring : Ring) (seat : SeatView) : Type 0 where
  pub size : ring_members ring ≡ members
  pub seat_is : seat ≡ fresh_view (ring_table ring) members 0 1

-- a seat that is given up: its member did this, left so many shares, and took so many iterations of loops
pub record IsGivenUp (before : SeatView) (seat : Seat Shape View) (left taken : ℕ) : Type 0 where
  pub table : seat.table_id ≡ before.table
  pub holds : seat.me.1 ≡ []
  pub idle : seat.me.0.opening ≡ None
  pub mine : seat.me.0.mine ≡ before.member ∷ []
  pub did : seat.me.0.did ≡ before.did
  pub own : own_of before.member before.did ≡ before.did
  pub sees : before.seen ≡ seen_of before.member before.did
  pub left_is : left ≡ shares_left before.seen
  pub taken_is : taken ≡ loop_iterations before.member before.did

-- these are the seats of all members of the ring's team, each at its number, and none is still to be split
pub record AreAllSeats (ring : Ring) (seats : List SeatView) : Type 0 where
  pub count : length seats ≡ ring_members ring
  pub on : (m : ℕ) (seat : SeatView) → slice_get seats m ≡ Some seat → IsOnRing ring seat
  pub place : (m : ℕ) (seat : SeatView) → slice_get seats m ≡ Some seat → seat.member ≡ m
  pub seated : (m : ℕ) (seat : SeatView) → slice_get seats m ≡ Some seat → seat.seated ≡ seat.members

-- the pieces of share i that these members took, one member after another
abbrev pub pieces_of_seats : ℕ → List SeatView → List Piece
pieces_of_seats i [] = []
pieces_of_seats i (seat ∷ seats) = pieces_taken i seat.member seat.did ++ pieces_of_seats i seats

-- what these members did is what the team did, of so many members, which kept the rule of the work-shares; so many shares all have left, and each took so many iterations of loops
pub record Gathers (members : ℕ) (seats : List SeatView) (shares : ℕ) (taken : List ℕ) : Type 0 where
  pub events : List Event
  pub rule : Always (ShareRule (schedule members) members) events
  pub clean : shares_only events ≡ events
  pub own : (m : ℕ) (seat : SeatView) → slice_get seats m ≡ Some seat → seat.did ≡ own_of m events
  pub shares_is : (i : ℕ) → is_over members i events ≡ nat_lt i shares
  pub taken_is : taken ≡ map (λ seat. loop_iterations seat.member seat.did) seats
  -- of a share that all have left, and that nobody cancelled, the pieces that the members took are a rearrangement of its list
  pub pieces : (i : ℕ) (shape : Shape) → shape_at i events ≡ Some shape → i < shares → share_cancelled i events ≡ false → IsRearrangement (pieces_of_seats i seats) (pieces_of members shape)
