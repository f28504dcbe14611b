use Rattle.std.proofs.Common.{true}
use Rattle.gomp_team.proofs.SeatMoves.{seat_asked_nothing}
use Rattle.gomp_team.proofs.team.SharedTeam.await_children.Goals as goal

pub returns-clause-asks : goal.returns-clause-asks
returns-clause-asks g c = let (items, is) = c.requires.waits in rw is (seat_asked_nothing true c.args.parts.now.seat c.ask-reply.result c.ask-reply.new.parts.seat c.ask-reply.ensures.seat)
