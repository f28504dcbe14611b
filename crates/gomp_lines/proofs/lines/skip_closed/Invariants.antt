use Rattle.std.proofs.Common.{◌≡◌, ◌≤◌}
use Rattle.std.specs.VecDeque.{deque_len, deque_capacity}
use Rattle.gomp_lines.specs.Queues.{from_first_open}
use Rattle.gomp_lines.proofs.lines.skip_closed.Given as goal

-- what is left of the tasks begins with the same open one
abbrev pub invariant-loop-waiting : goal.invariant-loop-waiting
invariant-loop-waiting l = (from_first_open l.waiting.items ≡ from_first_open l.initial.waiting.items) × (deque_capacity l.waiting ≡ deque_capacity l.initial.waiting) × (deque_len l.waiting ≤ deque_len l.initial.waiting)

abbrev pub decreases-loop-waiting : goal.decreases-loop-waiting
decreases-loop-waiting l = deque_len l.waiting
