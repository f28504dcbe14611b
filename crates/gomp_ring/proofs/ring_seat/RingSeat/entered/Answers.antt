use Rattle.std.proofs.Common.{subst}
use Rattle.gomp_ring.specs.RingSeats.{IsLawfulSeat}
use Rattle.gomp_ring.proofs.SeatCalls.{lawful_seat}
use Rattle.gomp_ring.proofs.ring_seat.RingSeat.entered.Goals as goal

pub returns-clause-stands : goal.returns-clause-stands
returns-clause-stands c = subst IsLawfulSeat c.self.view_is (lawful_seat _ _ _ _ _ _ _ c.self.invariant.1)
