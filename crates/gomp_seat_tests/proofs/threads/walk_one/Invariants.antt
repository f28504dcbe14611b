use Rattle.gomp_seat_calls.specs.Stays.{StaysSeat}
use Rattle.gomp_seat_tests.proofs.threads.walk_one.Given as goal

abbrev pub invariant-loop : goal.invariant-loop
invariant-loop l = StaysSeat l.fn.seat l.seat
