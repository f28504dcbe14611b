use Rattle.std.specs.Prelude.{◌≡◌}
use Rattle.gomp_seat_calls.specs.Stays.{StaysSeat}
use Rattle.gomp_team.specs.Seats.{Tries, seat_ask}
use Rattle.gomp_team.proofs.team.SharedTeam.look_again.Given as goal

abbrev pub invariant-loop : goal.invariant-loop
invariant-loop g l =
    (goal.iterator-loop g).can_next l.iterator' × (goal.iterator-loop g).is_finite l.iterator'
    × (l.parts.board ≡ l.initial.parts.board) × (l.parts.held ≡ l.initial.parts.held) × (l.parts.freed ≡ l.initial.parts.freed)
    × Tries (seat_ask l.self.team.icv.cancellation l.repeated l.call) l.initial.parts.seat l.parts.seat
    × StaysSeat l.initial.parts.seat l.parts.seat
