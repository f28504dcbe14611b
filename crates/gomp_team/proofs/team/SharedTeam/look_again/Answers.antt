use Rattle.std.proofs.Common.{refl, ap, ◌∙◌}
use Rattle.gomp_types.specs.declared.reply.Reply.TheVariants.{Wait}
use Rattle.gomp_team_board.specs.Parts.{PartView}
use Rattle.gomp_team_book.specs.Parts.{BookPartView}
use Rattle.gomp_team.specs.Moves.{events_part, holds_part, releases_part}
use Rattle.gomp_team.specs.Seats.{seat_ask}
use Rattle.gomp_team.specs.Seats.Tries.{Untried}
use Rattle.gomp_team.proofs.Again.{waits_move_no_events, waits_move_no_holds, waits_move_no_releases}
use Rattle.gomp_team.proofs.AnswerLaws.{answered_at_last}
use Rattle.gomp_team.proofs.SeatMoves.{answered_then, asks_again, stays_longer, stays_on_ring, waited_again}
use Rattle.gomp_team.proofs.team.SharedTeam.look_again.Goals as goal

pub answer-requires-clause-ring : goal.answer-requires-clause-ring
answer-requires-clause-ring g c = stays_on_ring c.args.self.now.ring c.args.parts.now.seat c.loop.parts.seat c.requires.ring c.loop.invariant.6

pub returns-in_default : goal.returns-in_default
returns-in_default g c =
    let repeated = c.args.repeated in
    let call = c.args.call.now in
    let reply = c.answer.result in
    let inv = c.loop.invariant in
    let ask = seat_ask c.args.self.now.team.icv.cancellation repeated call in
    record {
      over = c.in_default.not-Wait;
      board = c.answer.ensures.board ∙ ap (λ (part : PartView). events_part repeated call reply part) inv.2;
      held = c.answer.ensures.held ∙ ap (λ (part : BookPartView). holds_part repeated call reply part) inv.3;
      freed = c.answer.ensures.freed ∙ ap (λ (part : BookPartView). releases_part repeated call reply part) inv.4;
      seat = answered_then ask c.args.parts.now.seat c.loop.parts.seat reply c.answer.new.parts.seat inv.5
          (asks_again c.args.self.now.team.icv.cancellation repeated call c.loop.parts.seat reply c.answer.new.parts.seat c.requires.again c.answer.ensures.seat);
      stays = stays_longer c.args.parts.now.seat c.loop.parts.seat c.answer.new.parts.seat inv.6 c.answer.ensures.stays;
      answers = answered_at_last c.args.self.now.team.icv.cancellation repeated c.args.state.now.own call c.args.parts.now.seat c.loop.parts.seat reply c.requires.again inv.5 inv.6 c.answer.ensures.answers;
    }

pub loop-preserved : goal.loop-preserved
loop-preserved g c =
    let repeated = c.args.repeated in
    let call = c.args.call.now in
    let inv = c.loop.invariant in
    let waits = c.in-Wait.ensures in
    let ask = seat_ask c.args.self.now.team.icv.cancellation repeated call in (
      tt,
      tt,
      waits.board ∙ (waits_move_no_events repeated call c.loop.parts.board c.requires.again ∙ inv.2),
      waits.held ∙ (waits_move_no_holds repeated call c.loop.parts.held ∙ inv.3),
      waits.freed ∙ (waits_move_no_releases repeated call c.loop.parts.freed ∙ inv.4),
      waited_again ask c.args.parts.now.seat c.loop.parts.seat c.answer.new.parts.seat inv.5
          (asks_again c.args.self.now.team.icv.cancellation repeated call c.loop.parts.seat Wait c.answer.new.parts.seat c.requires.again waits.seat),
      stays_longer c.args.parts.now.seat c.loop.parts.seat c.answer.new.parts.seat inv.6 waits.stays,
    )

pub loop-init : goal.loop-init
loop-init g c = (tt, tt, refl, refl, refl, Untried, record { table = refl; members = refl; member = refl; seated = refl })
