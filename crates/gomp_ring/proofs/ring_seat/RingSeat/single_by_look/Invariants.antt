use Rattle.gomp_slots.specs.Premises.{slots_members}
use Rattle.gomp_ring.proofs.ring_seat.RingSeat.single_by_look.Given as goal

abbrev pub ghosts-pass_single : goal.ghosts-pass_single
ghosts-pass_single a = record { members = slots_members a.slots.now; member = a.member; share = a.share; piece = 0; iteration = 0 }
