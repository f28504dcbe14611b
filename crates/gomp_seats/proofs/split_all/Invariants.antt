use Rattle.gomp_seats.specs.NewSeats.{IsSplit}
use Rattle.gomp_seats.proofs.split_all.Given as goal

abbrev pub invariant-loop : goal.invariant-loop
invariant-loop l = IsSplit l.ring l.members l.counter l.first l.others.items
