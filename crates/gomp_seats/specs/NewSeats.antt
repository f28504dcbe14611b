-- The seats of all members of a new ring. (own)
use Rattle.std.specs.Prelude.{◌≡◌, ℕ, suc, ◌≤◌, List, length, slice_get, Some}
use Rattle.gomp_ring.specs.declared.ring.Ring.{Ring}
use Rattle.gomp_ring.specs.Rings.{ring_table, ring_members}
use Rattle.gomp_ring.specs.RingSeats.{SeatView, fresh_view}

-- the seats of all members of a ring of so many, each at its number: none has done anything, and none is still to be split
pub record AreNewSeats (members : ℕ) (ring : Ring) (seats : List SeatView) : Type 0 where
  pub size : ring_members ring ≡ members
  pub count : length seats ≡ members
  pub fresh : (m : ℕ) (seat : SeatView) → slice_get seats m ≡ Some seat → seat ≡ fresh_view (ring_table ring) members m members

-- the seat of member 0 of a ring of so many, from which those of the members 1 to count - 1 were split
pub record IsSplit (ring : Ring) (members count : ℕ) (first : SeatView) (others : List SeatView) : Type 0 where
  pub size : ring_members ring ≡ members
  pub first_is : first ≡ fresh_view (ring_table ring) members 0 count
  pub within : count ≤ members
  pub others_are : suc (length others) ≡ count
  pub each : (k : ℕ) (seat : SeatView) → slice_get others k ≡ Some seat → seat ≡ fresh_view (ring_table ring) members (suc k) members

-- the seat is that of the same member
pub record IsSameMember (before now : SeatView) : Type 0 where
  pub table : now.table ≡ before.table
  pub members : now.members ≡ before.members
  pub member : now.member ≡ before.member
  pub seated : now.seated ≡ before.seated
