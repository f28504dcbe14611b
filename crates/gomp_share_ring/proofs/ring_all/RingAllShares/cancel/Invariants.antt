use Rattle.gomp_slots.specs.Premises.{slots_members}
use Rattle.gomp_share_ring.proofs.ring_all.RingAllShares.cancel.Given as goal

abbrev pub ghosts-cancel_share : goal.ghosts-cancel_share
ghosts-cancel_share a = record { members = slots_members a.slots.now; member = a.member; share = a.share; piece = 0; iteration = 0 }
