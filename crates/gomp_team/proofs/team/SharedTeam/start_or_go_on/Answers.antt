use Rattle.std.proofs.Common.{Bool, sym, subst, ◌∙◌}
use Rattle.gomp_seat_team.specs.Moved.{moved}
use Rattle.gomp_seat_team.specs.Starts.{seat_start}
use Rattle.gomp_team.specs.Answers.{StartsAt}
use Rattle.gomp_team.proofs.SeatMoves.{starts_unless_it_waits, goes_on_if_it_waits}
use Rattle.gomp_team.proofs.team.SharedTeam.start_or_go_on.Goals as goal

pub returns-then-waits_for_words-clause-seat : goal.returns-then-waits_for_words-clause-seat
returns-then-waits_for_words-clause-seat g c =
    goes_on_if_it_waits _ c.args.start.now c.args.found (moved c.args.parts.now.seat c.go_on_waiting.new.seat c.args.board.now c.go_on_waiting.new.board) c.go_on_waiting.result.reply
    (sym c.waits_for_words.ensures.value ∙ c.if-waits_for_words.true) c.go_on_waiting.ensures.goes_on

pub returns-clause-seat : goal.returns-clause-seat
returns-clause-seat g c =
    starts_unless_it_waits _ (seat_start c.args.start.now c.args.repeated c.self.inside.limits c.args.found) (moved c.args.parts.now.seat c.start_share.new.seat c.args.board.now c.start_share.new.board) c.start_share.result.reply
    (sym c.waits_for_words.ensures.value ∙ c.if-waits_for_words.false) c.start_share.ensures.starts

pub returns-then-waits_for_words-clause-starts : goal.returns-then-waits_for_words-clause-starts
returns-then-waits_for_words-clause-starts g c =
    record {
      limits = c.self.inside.limits;
      now = c.go_on_waiting.new.seat;
      board = c.args.board.now;
      left = c.go_on_waiting.new.board;
      known = rw c.history.ensures.value at c.history.ensures.known;
      starts = subst (λ (waits : Bool). StartsAt waits (seat_start c.args.start.now c.args.repeated c.self.inside.limits c.args.found) (moved c.args.parts.now.seat c.go_on_waiting.new.seat c.args.board.now c.go_on_waiting.new.board) c.go_on_waiting.result.reply)
          (sym (sym c.waits_for_words.ensures.value ∙ c.if-waits_for_words.true)) c.go_on_waiting.ensures.goes_on;
    }

pub returns-clause-starts : goal.returns-clause-starts
returns-clause-starts g c =
    record {
      limits = c.self.inside.limits;
      now = c.start_share.new.seat;
      board = c.args.board.now;
      left = c.start_share.new.board;
      known = rw c.history.ensures.value at c.history.ensures.known;
      starts = subst (λ (waits : Bool). StartsAt waits (seat_start c.args.start.now c.args.repeated c.self.inside.limits c.args.found) (moved c.args.parts.now.seat c.start_share.new.seat c.args.board.now c.start_share.new.board) c.start_share.result.reply)
          (sym (sym c.waits_for_words.ensures.value ∙ c.if-waits_for_words.false)) c.start_share.ensures.starts;
    }
