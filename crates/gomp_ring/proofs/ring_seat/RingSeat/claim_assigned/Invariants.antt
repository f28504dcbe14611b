use Rattle.gomp_slots.specs.Premises.{slots_members}
use Rattle.gomp_ring.proofs.ring_seat.RingSeat.claim_assigned.Given as goal

abbrev pub ghosts-take_assigned : goal.ghosts-take_assigned
ghosts-take_assigned a = record { members = slots_members a.slots.now; member = a.member; share = a.share; piece = 0; iteration = 0 }
