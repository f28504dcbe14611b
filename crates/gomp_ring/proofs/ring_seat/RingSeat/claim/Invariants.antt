use Rattle.gomp_slots.specs.Premises.{slots_members}
use Rattle.gomp_ring.proofs.ring_seat.RingSeat.claim.Given as goal

abbrev pub ghosts-take_ticket_at : goal.ghosts-take_ticket_at
ghosts-take_ticket_at a = record { members = slots_members a.slots.now; member = a.member; share = a.share; piece = 0; iteration = 0 }
