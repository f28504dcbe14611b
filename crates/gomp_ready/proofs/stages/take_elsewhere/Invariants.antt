use Rattle.std.proofs.Common.{◌≡◌, ◌≤◌, ◌⊎◌, ℕ, true, false, [], ◌++◌, length, take, drop}
use Rattle.std.specs.List.{concat}
use Rattle.std.specs.VecDeque.{deque_capacity}
use Rattle.gomp_events.specs.Tasks.{contains}
use Rattle.gomp_ready.specs.Ready.{in_order}
use Rattle.gomp_ready.proofs.stages.take_elsewhere.Given as goal

abbrev pub invariant-loop-member : goal.invariant-loop-member
invariant-loop-member g l = record {
  tasks : in_order (l.initial.list.items ++ concat l.initial.deques.items) ≡ in_order (l.list.items ++ concat l.deques.items);
  passed : (t : ℕ) → contains t (concat (take l.member l.initial.deques.items)) ≡ true → goal.F-post g l.may t false;
  looked : (t : ℕ) → contains t l.list.items ≡ true → (contains t l.initial.list.items ≡ true) ⊎ goal.F-post g l.may t false;
  behind : take (length l.initial.list.items) l.list.items ≡ l.initial.list.items;
  longer : length l.initial.list.items ≤ length l.list.items;
  empty : concat (take l.member l.deques.items) ≡ [];
  further : drop l.member l.deques.items ≡ drop l.member l.initial.deques.items;
  members : length l.deques.items ≡ length l.initial.deques.items;
  capacity : deque_capacity l.list ≡ deque_capacity l.initial.list;
}
