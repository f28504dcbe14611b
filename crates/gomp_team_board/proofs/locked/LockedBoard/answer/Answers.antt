use Rattle.std.proofs.Common.{List, reverse, subst, arith}
use Rattle.gomp_events.specs.declared.event.Event.{Event}
use Rattle.gomp_events.specs.Laws.{Always}
use Rattle.gomp_events.specs.TaskRules.{TaskRule}
use Rattle.gomp_board.specs.Boards.{Stands, members_of}
use Rattle.gomp_waits.specs.Waits.{WaitBoardView}
use Rattle.gomp_team_board.specs.Locked.{MovesCounts}
use Rattle.gomp_team_board.proofs.Laws.{words_stay}
use Rattle.gomp_team_board.proofs.Moved.{ledger_moves, counts_move}
use Rattle.gomp_team_board.proofs.locked.LockedBoard.answer.Goals as goal

pub invariant_of-self : goal.invariant_of-self
invariant_of-self g c =
    let view = c.self.inside.board in
    let same = c.history.ensures.value in
    let known = subst (λ (es : List Event). Stands view.board (reverse es)) same c.history.ensures.known in
    let tasks = subst (λ (es : List Event). Always (TaskRule (members_of view.board)) (reverse es)) same c.history.ensures.tasks in
    let grown = ledger_moves c.args.op.now c.args.member view c.step-reply.new.self c.step-reply.result known tasks c.step-reply.ensures.performs in
    let moved = c.add.ensures.total in
    let before = c.self.invariant.counted in
    let many = c.events_given.ensures in
    let fine = c.requires.words (reverse view.board.history) (subst (λ (v : WaitBoardView). Stands v.board (reverse view.board.history)) c.self.view_is known) in
    record {
      counted = omega (arith, grown, moved, before, many);
      words = words_stay c.args.op.now c.args.member view c.step-reply.new.self c.step-reply.result known fine c.step-reply.ensures.performs c.self.invariant.words;
    }

pub returns-clause-counts : goal.returns-clause-counts
returns-clause-counts g c =
    let view = c.self.inside.board in
    let same = c.history.ensures.value in
    let known = subst (λ (es : List Event). Stands view.board (reverse es)) same c.history.ensures.known in
    let tasks = subst (λ (es : List Event). Always (TaskRule (members_of view.board)) (reverse es)) same c.history.ensures.tasks in
    subst (λ (v : WaitBoardView). MovesCounts c.args.op.now c.args.member v c.step-reply.new.self c.step-reply.result) c.self.view_is
    (counts_move c.args.op.now c.args.member view c.step-reply.new.self c.step-reply.result known tasks c.step-reply.ensures.performs)
