use Rattle.gomp_slots.specs.Premises.{slots_members}
use Rattle.gomp_share_ring.proofs.ring_all.RingAllShares.claim.Given as goal

abbrev pub ghosts-take_assigned : goal.ghosts-take_assigned
ghosts-take_assigned a = record { members = slots_members a.slots.now; member = a.member; share = a.share; piece = 0; iteration = 0 }

abbrev pub ghosts-take_ticket : goal.ghosts-take_ticket
ghosts-take_ticket a = record { members = slots_members a.slots.now; member = a.member; share = a.share; piece = 0; iteration = 0 }
