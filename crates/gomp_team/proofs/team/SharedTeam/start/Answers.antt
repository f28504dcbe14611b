use Rattle.std.proofs.Common.{sym, subst}
use Rattle.gomp_types.specs.declared.reply.Reply.{Reply}
use Rattle.gomp_team.specs.Seats.{MovesBy}
use Rattle.gomp_team.specs.Seats.SeatAsk.{Starts}
use Rattle.gomp_team.proofs.team.SharedTeam.start.Goals as goal

pub returns-clause-seat : goal.returns-clause-seat
returns-clause-seat g c =
    subst (λ (reply : Reply). MovesBy (Starts c.args.repeated c.args.start.now) c.args.parts.now.seat reply c.start_or_go_on-asked.new.parts.seat) (sym c.tell.ensures) c.start_or_go_on-asked.ensures.seat
