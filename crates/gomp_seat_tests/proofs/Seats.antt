-- A call of a seat leaves it the seat of the same member.
use Rattle.gomp_ring.specs.RingSeats.{SeatView}
use Rattle.gomp_seats.specs.NewSeats.{IsSameMember}
use Rattle.gomp_seat_calls.specs.Stays.{StaysSeat}

pub same_member : (before now : SeatView) → StaysSeat before now → IsSameMember before now
same_member before now stays = record { table = stays.table; members = stays.members; member = stays.member; seated = stays.seated }
