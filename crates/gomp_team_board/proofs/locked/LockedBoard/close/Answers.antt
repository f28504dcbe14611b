use Rattle.std.proofs.Common.{List, reverse, subst}
use Rattle.gomp_events.specs.declared.event.Event.{Event}
use Rattle.gomp_board.specs.KeptLaws.{KeepsLaws}
use Rattle.gomp_team_board.specs.Locked.{team_size}
use Rattle.gomp_team_board.proofs.Laws.{rules_keep_laws}
use Rattle.gomp_team_board.proofs.locked.LockedBoard.close.Goals as goal

pub returns-clause-laws : goal.returns-clause-laws
returns-clause-laws g c =
    let members = team_size c.self.inside.board in
    let laws = subst (λ (es : List Event). KeepsLaws members (reverse es)) c.history.ensures.value c.history.ensures.laws in
    rules_keep_laws members (reverse c.self.inside.board.board.history) laws c.self.invariant.words
