-- The barrier of a team, by each member's seat at it, and when that stands for a list of events. OpenMP API 5.2, section 15.3.
use Rattle.std.specs.Prelude.{ℕ, ◌+◌, ◌<◌, ◌≤◌, ◌≡◌, Bool, true, false, not, ◌&&◌, ◌||◌, if◌then◌else◌, List, Option, Some, None, is_some, All, slice_get}
use Rattle.gomp_events.specs.declared.event.Tag.{Tag}
use Rattle.gomp_events.specs.declared.event.Event.{Event}
use Rattle.gomp_events.specs.Events.{barriers_passed, arrival, tag_at, has_left_region, is_region_end, was_region_end}
use Rattle.gomp_events.specs.Tasks.{is_odd}
use Rattle.gomp_types.specs.Limits.{shown_number}
use Rattle.gomp_events.specs.Tags.{tag_differs}
use Rattle.gomp_events.specs.Cancels.{is_cancelled}
use Rattle.gomp_barrier.specs.declared.front.BarrierSeat.{BarrierSeat}
use Rattle.gomp_barrier.specs.declared.front.Front.{Front}

-- exactly one of the two holds
abbrev pub differ : Bool → Bool → Bool
differ true true = false
differ false false = false
differ _ _ = true

-- whether the member has passed the front; a pass of a cancelled region's end does not count here
abbrev pub is_ahead : Front → BarrierSeat → Bool
is_ahead front member = differ member.odd front.odd

-- whether the member has passed an odd number of barriers
abbrev pub has_odd_number : BarrierSeat → Bool
has_odd_number member = differ member.odd member.gone

-- with which tag any member has arrived at the member's next barrier: nobody has at the second one after the front
abbrev pub tag_for : Front → BarrierSeat → Option Tag
tag_for front member =
    if member.gone then (if is_ahead front member then None else front.next)
    else if is_ahead front member then front.next else front.tag

-- the number of the member's next barrier, as it is shown
abbrev pub number_for : Front → BarrierSeat → ℕ
number_for front member =
    if member.gone then (if is_ahead front member then shown_number (front.number + 2) else shown_number (front.number + 1))
    else if is_ahead front member then shown_number (front.number + 1) else front.number

-- the member has arrived at the front, or has passed it
abbrev pub IsThere : Front → BarrierSeat → Type 0
IsThere front member = (is_ahead front member || is_some member.arrived) ≡ true

-- the member has arrived at the region's end, or has passed it
abbrev pub has_come_to_end : BarrierSeat → Bool
has_come_to_end member = member.left || was_region_end member.arrived

-- every member has
abbrev pub AllCome : List BarrierSeat → Type 0
AllCome members = All (λ member. has_come_to_end member ≡ true) members

-- whether an arrival of the member with this tag is accepted: with that of the others; once the region is cancelled at its end alone, from a member that has not left it
abbrev pub seat_accepts : Bool → Front → BarrierSeat → Tag → Bool
seat_accepts true front member tag = is_region_end tag.kind && not member.left
seat_accepts false front member tag = not (tag_differs tag (tag_for front member))

-- the front after an arrival
abbrev pub arrived_at : Front → BarrierSeat → Tag → Front
arrived_at front member tag =
    if is_ahead front member
    then record { odd = front.odd; number = front.number; tag = front.tag; next = Some tag }
    else record { odd = front.odd; number = front.number; tag = Some tag; next = front.next }

-- a member after it has passed
abbrev pub passed_by : BarrierSeat → Bool → BarrierSeat
passed_by member at_region_end = record { odd = not member.odd; arrived = None; left = member.left || at_region_end; gone = member.gone }

-- a member after it has passed the end of a cancelled region
abbrev pub gone_from : BarrierSeat → BarrierSeat
gone_from member = record { odd = member.odd; arrived = None; left = true; gone = true }

-- the front after all have passed
abbrev pub next_front : Front → Front
next_front front = record { odd = not front.odd; number = shown_number (front.number + 1); tag = front.next; next = None }

-- the number of the member's next barrier, if the front's exact number is `least` (`front.number` is that number as it is shown)
abbrev pub barrier_of : Front → ℕ → BarrierSeat → ℕ
barrier_of front least member =
    if member.gone then (if is_ahead front member then least + 2 else least + 1)
    else if is_ahead front member then least + 1 else least

-- a member's seat at the barriers
pub record SeatStands (front : Front) (least m : ℕ) (member : BarrierSeat) (h : List Event) : Type 0 where
  -- so many barriers it has passed
  pub passed_is : barriers_passed m h ≡ barrier_of front least member
  -- at the next it has arrived so
  pub here : arrival (barrier_of front least member) m h ≡ member.arrived
  -- it has arrived at every one before
  pub behind : (g : ℕ) → g < barrier_of front least member → is_some (arrival g m h) ≡ true
  -- and at none after
  pub beyond : (g : ℕ) → barrier_of front least member < g → arrival g m h ≡ None
  pub left_is : has_left_region m h ≡ member.left
  -- it passed the region's end once this was cancelled
  pub gone_is : member.gone ≡ true → (is_cancelled h ≡ true) × (member.left ≡ true)

-- the front, and each member's seat
pub record FrontStands (members : List BarrierSeat) (front : Front) (least : ℕ) (h : List Event) : Type 0 where
  pub parity : front.odd ≡ is_odd least
  pub number : front.number ≡ shown_number least
  pub tag : tag_at least h ≡ front.tag
  pub next : tag_at (least + 1) h ≡ front.next
  -- nobody has arrived at a later one
  pub beyond : (g : ℕ) → least + 2 ≤ g → tag_at g h ≡ None
  pub seat : (m : ℕ) (member : BarrierSeat) → slice_get members m ≡ Some member → SeatStands front least m member h

-- every member has passed the front
abbrev pub AllAhead : Front → List BarrierSeat → Type 0
AllAhead front members = All (λ member. is_ahead front member ≡ true) members

-- some member has not
abbrev pub SomeBehind : Front → List BarrierSeat → Type 0
SomeBehind front members = AllAhead front members → ⊥
