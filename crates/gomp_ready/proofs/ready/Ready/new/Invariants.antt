use Rattle.std.proofs.Common.{◌≡◌, ◌≤◌, [], length}
use Rattle.std.specs.List.{concat}
use Rattle.std.specs.Vec.{vec_capacity}
use Rattle.gomp_ready.proofs.ready.Ready.new.Given as goal

abbrev pub invariant-loop : goal.invariant-loop
invariant-loop l = record {
  none : concat l.deques.items ≡ [];
  members : length l.deques.items ≡ l.counter;
  capacity : l.count ≤ vec_capacity l.deques;
}
