use Rattle.std.proofs.Common.{List, reverse, subst, sym, ◌∙◌}
use Rattle.gomp_events.specs.declared.event.Event.{Event}
use Rattle.gomp_board.specs.Boards.{Stands}
use Rattle.gomp_waits.specs.Waits.{WaitBoardView}
use Rattle.gomp_team_board.proofs.FoundRefusals.{refused_words_move_no_counts}
use Rattle.gomp_team_board.proofs.Laws.{refused_words_move_nothing}
use Rattle.gomp_team_board.proofs.locked.LockedBoard.step_member.Goals as goal

pub returns-in-Some-clause-part : goal.returns-in-Some-clause-part
returns-in-Some-clause-part g c =
    let view = c.args.self.now in
    let h = reverse view.board.history in
    let known = subst (λ (es : List Event). Stands view.board (reverse es)) c.history.ensures.value c.history.ensures.known in
    let inside = subst (λ (v : WaitBoardView). Stands v.board h) (sym c.self.view_is) known in
    let is = sym (c.payload_refusal.ensures.value h inside) ∙ c.in-Some.is in
    sym (refused_words_move_nothing c.args.op.now c.args.member view view h c.refuse_words.result c.in-Some.refusal c.args.part.now is (c.refuse_words.ensures.refuses h known))

pub returns-in-Some-clause-counts : goal.returns-in-Some-clause-counts
returns-in-Some-clause-counts g c =
    let view = c.args.self.now in
    let h = reverse view.board.history in
    let known = subst (λ (es : List Event). Stands view.board (reverse es)) c.history.ensures.value c.history.ensures.known in
    refused_words_move_no_counts c.args.op.now c.args.member view h c.refuse_words.result (c.refuse_words.ensures.refuses h known)
