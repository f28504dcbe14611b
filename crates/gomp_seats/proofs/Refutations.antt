-- What no ring of a new team is: what each clause of its seats forbids, of any ring, team and seats.
use Rattle.std.proofs.Common.{◌≡◌, ◌≢◌, ℕ, ◌<◌, List, length, slice_get, Some, ap, arith}
use Rattle.gomp_ring.specs.declared.ring.Ring.{Ring}
use Rattle.gomp_ring.specs.Rings.{ring_table, ring_members}
use Rattle.gomp_ring.specs.RingSeats.{SeatView}
use Rattle.gomp_seats.specs.NewSeats.{AreNewSeats}

-- no new team has another size than was asked for, a member without a seat, or a seat too many
pub no_seated_ring_of_another_size : (members : ℕ) (ring : Ring) (seats : List SeatView) → AreNewSeats members ring seats → ring_members ring ≢ members → ⊥
no_seated_ring_of_another_size members ring seats new other = other new.size

pub no_new_team_with_another_number_of_seats : (members : ℕ) (ring : Ring) (seats : List SeatView) → AreNewSeats members ring seats → length seats ≢ members → ⊥
no_new_team_with_another_number_of_seats members ring seats new other = other new.count

-- no new seat is that of another member, another team or another ring, or has one still to be split from it,
pub no_new_seat_of_another_member : (members : ℕ) (ring : Ring) (seats : List SeatView) (m : ℕ) (seat : SeatView) → AreNewSeats members ring seats → slice_get seats m ≡ Some seat → seat.member ≢ m → ⊥
no_new_seat_of_another_member members ring seats m seat new at other = other (ap (λ (s : SeatView). s.member) (new.fresh m seat at))

pub no_new_seat_of_another_team : (members : ℕ) (ring : Ring) (seats : List SeatView) (m : ℕ) (seat : SeatView) → AreNewSeats members ring seats → slice_get seats m ≡ Some seat → seat.members ≢ members → ⊥
no_new_seat_of_another_team members ring seats m seat new at other = other (ap (λ (s : SeatView). s.members) (new.fresh m seat at))

pub no_new_seat_of_another_ring : (members : ℕ) (ring : Ring) (seats : List SeatView) (m : ℕ) (seat : SeatView) → AreNewSeats members ring seats → slice_get seats m ≡ Some seat → seat.table ≢ ring_table ring → ⊥
no_new_seat_of_another_ring members ring seats m seat new at other = other (ap (λ (s : SeatView). s.table) (new.fresh m seat at))

pub no_new_seat_still_to_be_split : (members : ℕ) (ring : Ring) (seats : List SeatView) (m : ℕ) (seat : SeatView) → AreNewSeats members ring seats → slice_get seats m ≡ Some seat → seat.seated < members → ⊥
no_new_seat_still_to_be_split members ring seats m seat new at below = (let all = ap (λ (s : SeatView). s.seated) (new.fresh m seat at) in omega arith)

-- and none has entered a share, or done anything
pub no_new_seat_has_entered_a_share : (members : ℕ) (ring : Ring) (seats : List SeatView) (m : ℕ) (seat : SeatView) → AreNewSeats members ring seats → slice_get seats m ≡ Some seat → 0 < seat.seen.entered → ⊥
no_new_seat_has_entered_a_share members ring seats m seat new at entered = (let none = ap (λ (s : SeatView). s.seen.entered) (new.fresh m seat at) in omega arith)

pub no_new_seat_has_done_anything : (members : ℕ) (ring : Ring) (seats : List SeatView) (m : ℕ) (seat : SeatView) → AreNewSeats members ring seats → slice_get seats m ≡ Some seat → 0 < length seat.did → ⊥
no_new_seat_has_done_anything members ring seats m seat new at did = (let none = ap (λ (s : SeatView). length s.did) (new.fresh m seat at) in omega arith)
