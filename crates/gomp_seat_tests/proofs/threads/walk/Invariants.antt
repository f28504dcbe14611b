use Rattle.gomp_seat_calls.specs.Stays.{StaysSeat}
use Rattle.gomp_seat_tests.proofs.threads.walk.Given as goal

abbrev pub invariant-loop-round : goal.invariant-loop-round
invariant-loop-round l = StaysSeat l.fn.seat l.seat
