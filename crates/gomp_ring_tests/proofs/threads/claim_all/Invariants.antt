use Rattle.gomp_seats.specs.NewSeats.{IsSameMember}
use Rattle.gomp_ring_tests.proofs.threads.claim_all.Given as goal

abbrev pub invariant-loop : goal.invariant-loop
invariant-loop l = IsSameMember l.fn.seat l.seat
