use Rattle.gomp_seats.specs.NewSeats.{IsSameMember}
use Rattle.gomp_ring_tests.proofs.threads.walk_singles.Given as goal

abbrev pub invariant-loop-share : goal.invariant-loop-share
invariant-loop-share l = IsSameMember l.fn.seat l.seat
