use Rattle.gomp_slots.specs.Premises.{slots_members}
use Rattle.gomp_share_ring.proofs.ring_all.RingAllShares.try_turn.Given as goal

abbrev pub ghosts-begin_part : goal.ghosts-begin_part
ghosts-begin_part a = record { members = slots_members a.slots.now; member = a.member; share = a.share; piece = a.piece; iteration = a.iteration }
