use Rattle.gomp_slots.specs.Premises.{slots_members}
use Rattle.gomp_ring.proofs.ring_seat.RingSeat.single_again.Given as goal

abbrev pub ghosts-pass_again : goal.ghosts-pass_again
ghosts-pass_again a = record { members = slots_members a.slots.now; member = a.member; share = a.share; piece = 0; iteration = 0 }
