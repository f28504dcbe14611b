-- The rule of the ring of slots: its words are those that a list of the team's events leaves, which kept the rule of the work-shares, and each seat knows its part of that list. (own)
use Rattle.std.specs.Prelude.{◌≡◌, ℕ, zero, suc, ◌<◌, ◌≤◌, FitsSigned, Bool, true, false, List, [], ◌∷◌, Option, Some, None}
use Rattle.std.specs.Int.{w64}
use mathlib.Core.Option.{some}
use lib.ListN.{get_elem?}
use Rattle.atomic_table.specs.Table.{State}
use Rattle.gomp_types.specs.declared.shape.Shape.{Shape}
use Rattle.gomp_events.specs.declared.event.Event.{Event}
use Rattle.gomp_events.specs.declared.event.Event.TheVariants.{Drained}
use Rattle.gomp_types.specs.Shapes.{is_static}
use Rattle.gomp_types.specs.Values.{IsShape}
use Rattle.gomp_events.specs.Events.{shape_at, has_room}
use Rattle.gomp_types.specs.Deals.{schedule}
use Rattle.gomp_events.specs.Tasks.{contains}
use Rattle.gomp_events.specs.Laws.{Always}
use Rattle.gomp_shares.specs.Only.{shares_only, own_of}
use Rattle.gomp_shares.specs.Rules.{ShareRule}
use Rattle.gomp_slots.specs.declared.view.TeamSize.{TeamSize}
use Rattle.gomp_slots.specs.declared.view.View.{View}
use Rattle.gomp_slots.specs.Words.{was_drained, BusySlot, IsTable}

-- Events

-- a shape of a construct, whose words tell it: its start and its step are numbers of 64 bits
pub record FitsWords (shape : Shape) : Type 0 where
  pub valid : IsShape shape
  pub start : FitsSigned w64 shape.start
  pub incr : FitsSigned w64 shape.incr

-- a member learns once of a share that is not static that nothing is left of it
abbrev pub LearnsOnce : ℕ → Event → List Event → Type 0
LearnsOnce members (Drained i m) earlier = (shape : Shape) → shape_at i earlier ≡ Some shape → is_static shape.kind ≡ false → was_drained i m earlier ≡ false
LearnsOnce members _ earlier = Unit {0}

-- the events are those of a team of 1 to 64 members, of the work-shares alone, and kept their rule
pub record IsTeam (members : ℕ) (h : List Event) : Type 0 where
  pub some_member : 0 < members
  pub few_members : members ≤ 64
  pub rule : Always (ShareRule (schedule members) members) h
  pub once : Always (LearnsOnce members) h
  pub clean : shares_only h ≡ h
  pub shapes : (i : ℕ) (shape : Shape) → shape_at i h ≡ Some shape → FitsWords shape

-- nobody has entered the share that a seat opens, every member has left the one eight before it, and those before it were all entered
pub record IsOpening (members : ℕ) (h : List Event) (busy : Option BusySlot) : Type 0 where
  pub fresh : (b : BusySlot) → busy ≡ Some b → shape_at b.share h ≡ None
  pub room : (b : BusySlot) → busy ≡ Some b → has_room members b.share h ≡ true
  pub few : (b : BusySlot) → busy ≡ Some b → b.stored ≤ 5
  pub reached : (b : BusySlot) → busy ≡ Some b → (j : ℕ) → j < b.share → (shape : Shape) × (shape_at j h ≡ Some shape)

-- Seats

-- whether the seat acts for the member
abbrev pub stands_for : View → ℕ → Bool
stands_for v m = contains m v.mine

-- a seat knows the events of its members, and one that was never split knows all
pub record Knows (v : View) (h : List Event) : Type 0 where
  pub own : (m : ℕ) → stands_for v m ≡ true → own_of m v.did ≡ own_of m h
  pub all : v.alone ≡ true → v.did ≡ h

-- what all seats are, each by its number
pub record AreSeats (views : List View) (h : List Event) (busy : Option BusySlot) : Type 0 where
  pub knows : (id : ℕ) (v : View) → get_elem? views id ≡ some v → Knows v h
  -- no two act for one member
  pub apart : (a b m : ℕ) (v w : View) → get_elem? views a ≡ some v → get_elem? views b ≡ some w → stands_for v m ≡ true → stands_for w m ≡ true → a ≡ b
  -- beside one that was never split there is none
  pub lonely : (a b : ℕ) (v w : View) → get_elem? views a ≡ some v → get_elem? views b ≡ some w → v.alone ≡ true → a ≡ b
  -- a seat that opens a share is the one of the slot that is being opened, and no other opens one
  pub opener : (id : ℕ) (v : View) (shape : Shape) → get_elem? views id ≡ some v → v.opening ≡ Some shape → busy ≡ Some (record { id = id; share = v.share; shape = shape; stored = v.stored })
  pub opens : (b : BusySlot) → busy ≡ Some b → (v : View) × (get_elem? views b.id ≡ some v) × (v.opening ≡ Some b.shape)
  -- the share that a seat looks at has the shape that it found
  pub found : (id : ℕ) (v : View) (shape : Shape) → get_elem? views id ≡ some v → v.found ≡ Some shape → shape_at v.share h ≡ Some shape

-- The rule

pub record IsRing (members : ℕ) (words : List ℕ) (views : List View) (h : List Event) (busy : Option BusySlot) : Type 0 where
  pub team : IsTeam members h
  pub table : IsTable members words h busy
  pub opening : IsOpening members h busy
  pub seats : AreSeats views h busy

-- the words and the views are those that some events leave
pub record IsKept (size : TeamSize) (s : State Shape View) : Type 0 where
  pub events : List Event
  pub busy : Option BusySlot
  pub ring : IsRing size.members s.words s.views events busy

-- so many numbers, from this one on
abbrev pub numbers_from : ℕ → ℕ → List ℕ
numbers_from first zero = []
numbers_from first (suc count) = first ∷ numbers_from (suc first) count

-- the view of the first seat: it acts for all members, and nothing has happened
abbrev pub first_view : TeamSize → View
first_view size = record { alone = true; mine = numbers_from 0 size.members; did = []; share = 0; opening = None; stored = 0; found = None }
