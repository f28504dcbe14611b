use Rattle.std.proofs.Common.{List, reverse, subst, sym}
use Rattle.gomp_events.specs.declared.event.Event.{Event}
use Rattle.gomp_events.specs.Laws.{Always}
use Rattle.gomp_waits.specs.Waits.{WaitBoardView}
use Rattle.gomp_waits.specs.Words.{WordsRule}
use Rattle.gomp_team_board.specs.Locked.{team_size, KeptLaws}
use Rattle.gomp_team_board.proofs.Laws.{rules_keep_laws}
use Rattle.gomp_team_board.proofs.locked.LockedBoard.history.Goals as goal

pub returns-clause-laws : goal.returns-clause-laws
returns-clause-laws g c =
    let h = reverse c.history.result.now in
    let words = subst (λ (es : List Event). Always WordsRule (reverse es)) (sym c.history.ensures.value) c.self.invariant.words in
    subst (λ (v : WaitBoardView). KeptLaws (team_size v) h) c.self.view_is (rules_keep_laws (team_size c.self.inside.board) h c.history.ensures.laws words)
