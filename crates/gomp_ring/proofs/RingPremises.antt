-- What a call of a member's seat asks of its ring is met by its parts, of any ring and seats, and stays met.
use Rattle.std.proofs.Common.{◌≡◌, ℕ, List, length, slice_get, Some, ap, sym, ◌∙◌}
use Rattle.gomp_events.specs.declared.event.Event.{Event}
use Rattle.gomp_ring.specs.declared.ring.Ring.{Ring}
use Rattle.gomp_ring.specs.Rings.{ring_table, ring_members}
use Rattle.gomp_ring.specs.RingSeats.{SeatView, IsOnRing, SeatActs, SeatSplits, IsNewRing, AreAllSeats}

-- a seat of the ring's table and team is one of the ring
pub seat_is_on_ring : (ring : Ring) (seat : SeatView) → seat.table ≡ ring_table ring → ring_members ring ≡ seat.members → IsOnRing ring seat
seat_is_on_ring ring seat table members = record { table = table; members = members }

-- that with which it was made is one
pub new_seat_is_on_ring : (members : ℕ) (ring : Ring) (seat : SeatView) → IsNewRing members ring seat → IsOnRing ring seat
new_seat_is_on_ring members ring seat made = record { table = ap (λ (s : SeatView). s.table) made.seat_is; members = made.size ∙ sym (ap (λ (s : SeatView). s.members) made.seat_is) }

-- it stays one whatever its member does, and so do both when another is split from it
pub seat_stays_on_ring : (event : Event) (ring : Ring) (before now : SeatView) → SeatActs event before now → IsOnRing ring before → IsOnRing ring now
seat_stays_on_ring event ring before now acts on = record { table = acts.table ∙ on.table; members = on.members ∙ sym acts.members }

pub split_seats_are_on_ring : (ring : Ring) (before now other : SeatView) → SeatSplits before (Some other) now → IsOnRing ring before → IsOnRing ring now × IsOnRing ring other
split_seats_are_on_ring ring before now other splits on = (first, second)
  where
    first : IsOnRing ring now
    first = record { table = ap (λ (s : SeatView). s.table) splits.2 ∙ on.table; members = on.members ∙ sym (ap (λ (s : SeatView). s.members) splits.2) }

    second : IsOnRing ring other
    second = record { table = ap (λ (s : SeatView). s.table) splits.3 ∙ on.table; members = on.members ∙ sym (ap (λ (s : SeatView). s.members) splits.3) }

-- all seats of the ring, each at its number, are those of its team
pub seats_are_all : (ring : Ring) (seats : List SeatView) → length seats ≡ ring_members ring → ((m : ℕ) (seat : SeatView) → slice_get seats m ≡ Some seat → IsOnRing ring seat × (seat.member ≡ m) × (seat.seated ≡ seat.members)) → AreAllSeats ring seats
seats_are_all ring seats count each = record { count = count; on = λ m seat at. (each m seat at).0; place = λ m seat at. (each m seat at).1; seated = λ m seat at. (each m seat at).2 }
