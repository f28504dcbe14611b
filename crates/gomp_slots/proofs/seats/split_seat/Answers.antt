use Rattle.std.proofs.Common.{rules}
use Rattle.gomp_slots.proofs.SeatSteps.{split_allowed}
use Rattle.gomp_slots.proofs.seats.split_seat.Goals as goal

pub split_seat-requires : goal.split_seat-requires
split_seat-requires c = (c.requires.seat, search rules, split_allowed _ _ _ c.requires.idle c.requires.distinct)
