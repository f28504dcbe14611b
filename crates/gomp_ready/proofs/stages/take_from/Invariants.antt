use Rattle.std.proofs.Common.{◌≡◌, ◌≤◌, ◌+◌, ℕ, true, false, ◌++◌, length, take, ◌⊎◌}
use Rattle.std.specs.VecDeque.{deque_capacity}
use Rattle.gomp_events.specs.Tasks.{contains}
use Rattle.gomp_ready.specs.Ready.{in_order}
use Rattle.gomp_ready.proofs.stages.take_from.Given as goal

abbrev pub invariant-loop-first : goal.invariant-loop-first
invariant-loop-first g l = record {
  tasks : in_order (l.initial.list.items ++ l.initial.deque) ≡ in_order (l.list.items ++ l.deque);
  passed : (t : ℕ) → contains t l.initial.deque ≡ true → (contains t l.deque ≡ true) ⊎ goal.F-post g l.may t false;
  looked : (t : ℕ) → contains t l.list.items ≡ true → (contains t l.initial.list.items ≡ true) ⊎ goal.F-post g l.may t false;
  behind : take (length l.initial.list.items) l.list.items ≡ l.initial.list.items;
  longer : length l.initial.list.items ≤ length l.list.items;
  room : length l.list.items + length l.deque ≤ deque_capacity l.list;
  capacity : deque_capacity l.list ≡ deque_capacity l.initial.list;
}

abbrev pub decreases-loop-first : goal.decreases-loop-first
decreases-loop-first g l = length l.deque
