use Rattle.gomp_slots.specs.Premises.{slots_members}
use Rattle.gomp_share_ring.proofs.ring_all.RingAllShares.try_open.Given as goal

abbrev pub ghosts-open_next : goal.ghosts-open_next
ghosts-open_next a = record { members = slots_members a.slots.now; member = a.member; share = a.share; piece = 0; iteration = 0 }
