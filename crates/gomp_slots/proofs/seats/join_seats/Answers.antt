use Rattle.std.proofs.Common.{rules}
use Rattle.gomp_slots.proofs.SeatSteps.{join_allowed}
use Rattle.gomp_slots.proofs.seats.join_seats.Goals as goal

pub join_seat-requires : goal.join_seat-requires
join_seat-requires c = (c.requires.seats.0, c.requires.seats.1, c.requires.seats.2, search rules, join_allowed _ _ _ _ _ c.requires.idle.0 c.requires.idle.1 c.requires.apart)
