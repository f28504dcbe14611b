use Rattle.gomp_slots.specs.Premises.{slots_members}
use Rattle.gomp_share_ring.proofs.ring_all.RingAllShares.end_part.Given as goal

abbrev pub ghosts-end_part : goal.ghosts-end_part
ghosts-end_part a = record { members = slots_members a.slots.now; member = a.member; share = a.share; piece = 0; iteration = 0 }
