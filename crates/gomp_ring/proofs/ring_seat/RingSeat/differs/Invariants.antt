use Rattle.gomp_slots.specs.Premises.{slots_members}
use Rattle.gomp_ring.proofs.ring_seat.RingSeat.differs.Given as goal

abbrev pub ghosts-look_at_next : goal.ghosts-look_at_next
ghosts-look_at_next a = record { members = slots_members a.slots.now; member = a.member; share = a.share; piece = 0; iteration = 0 }

abbrev pub ghosts-has_same_words : goal.ghosts-has_same_words
ghosts-has_same_words a = record { members = slots_members a.slots.now; member = a.member; share = a.share; piece = 0; iteration = 0 }
