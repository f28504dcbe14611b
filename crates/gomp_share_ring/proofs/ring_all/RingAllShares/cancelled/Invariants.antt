use Rattle.gomp_slots.specs.Premises.{slots_members}
use Rattle.gomp_share_ring.proofs.ring_all.RingAllShares.cancelled.Given as goal

abbrev pub ghosts-ask_cancelled : goal.ghosts-ask_cancelled
ghosts-ask_cancelled a = record { members = slots_members a.slots.now; member = a.member; share = a.share; piece = 0; iteration = 0 }
