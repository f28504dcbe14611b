use Rattle.gomp_slots.specs.Premises.{slots_members}
use Rattle.gomp_share_ring.proofs.ring_all.RingAllShares.leave.Given as goal

abbrev pub ghosts-leave_share : goal.ghosts-leave_share
ghosts-leave_share a = record { members = slots_members a.slots.now; member = a.member; share = a.share; piece = 0; iteration = 0 }
