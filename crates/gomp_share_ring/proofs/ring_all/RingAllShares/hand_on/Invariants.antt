use Rattle.gomp_slots.specs.Premises.{slots_members}
use Rattle.gomp_share_ring.proofs.ring_all.RingAllShares.hand_on.Given as goal

abbrev pub ghosts-hand_on : goal.ghosts-hand_on
ghosts-hand_on a = record { members = slots_members a.slots.now; member = a.member; share = a.share; piece = a.piece; iteration = 0 }
