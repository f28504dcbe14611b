use Rattle.std.proofs.Common.{length}
use Rattle.gomp_slots.specs.Premises.{slots_members}
use Rattle.gomp_ring.proofs.Joined.{Joined}
use Rattle.gomp_ring.proofs.gathering.gather_in.Given as goal

-- the seat's load is about the ring's team
abbrev pub ghosts-settle : goal.ghosts-settle
ghosts-settle a = record { members = slots_members a.slots.now; member = 0; share = 0; piece = 0; iteration = 0 }

-- the seats of the numbers below this are joined
abbrev pub invariant-loop-rest : goal.invariant-loop-rest
invariant-loop-rest l = Joined l.ring l.fn.seats.items l.rest.items l.joined l.whole l.shares l.taken.items

abbrev pub decreases-loop-rest : goal.decreases-loop-rest
decreases-loop-rest l = length l.rest.items
