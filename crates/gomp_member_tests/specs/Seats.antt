-- The seats of the members of a test. (own)
use Rattle.std.specs.Prelude.{ℕ, ◌≡◌, ◌+◌, List, [], ◌∷◌}
use Rattle.atomic_table.specs.Seated.{TableId}
use Rattle.gomp_ring.specs.RingSeats.{SeatView}

-- the seat is the member's of this number, on the ring of this table and so many members, from which no other is to be split
pub record HasOwnSeat (table : TableId) (members number : ℕ) (seat : SeatView) : Type 0 where
  pub table_is : seat.table ≡ table
  pub members_are : seat.members ≡ members
  pub number_is : seat.member ≡ number
  pub seated : seat.seated ≡ members

-- so are these, from this number on
abbrev pub HaveSeatsFrom : TableId → ℕ → ℕ → List SeatView → Type 0
HaveSeatsFrom table members number [] = Unit {0}
HaveSeatsFrom table members number (seat ∷ seats) = HasOwnSeat table members number seat × HaveSeatsFrom table members (number + 1) seats

-- whose table the first of these has, and of how many members
abbrev pub first_table : List SeatView → TableId
first_table [] = record { words = 0; slots = 0; views_name = 0; atom = 0; block = 0; offset = 0; slot_names = [] }
first_table (seat ∷ seats) = seat.table

abbrev pub first_size : List SeatView → ℕ
first_size [] = 0
first_size (seat ∷ seats) = seat.members
