use Rattle.std.specs.Prelude.{◌≡◌}
use Rattle.gomp_team_board.proofs.shared.SharedBoard.await_op.Given as goal

abbrev pub invariant-loop : goal.invariant-loop
invariant-loop g l =
    (goal.iterator-loop g).can_next l.iterator' × (goal.iterator-loop g).is_finite l.iterator'
    × (l.part ≡ l.initial.part)
