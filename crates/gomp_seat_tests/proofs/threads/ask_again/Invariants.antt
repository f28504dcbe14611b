use Rattle.gomp_seat_calls.specs.Stays.{StaysSeat}
use Rattle.gomp_seat_tests.proofs.threads.ask_again.Given as goal

abbrev pub invariant-loop-tries : goal.invariant-loop-tries
invariant-loop-tries l = StaysSeat l.fn.seat l.seat
