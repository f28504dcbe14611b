use Rattle.std.proofs.Common.{List, reverse, sym, subst}
use Rattle.gomp_events.specs.declared.event.Event.{Event}
use Rattle.gomp_board.specs.Boards.{BoardView, members_of}
use Rattle.gomp_board.specs.KeptLaws.{KeepsLaws}
use Rattle.gomp_board.specs.contracts.board.Board.{the_view}
use Rattle.gomp_board.proofs.KeptLaws.{laws_of}
use Rattle.gomp_board.proofs.board.Board.into_history.Goals as goal

pub returns-clause-laws : goal.returns-clause-laws
returns-clause-laws c =
    let b = the_view c.self.inside in
    let own = laws_of b (reverse b.history) c.self.invariant.members c.self.invariant.stands in
    let here = subst (λ (v : BoardView). KeepsLaws (members_of v) (reverse b.history)) c.self.view_is own in
    subst (λ (es : List Event). KeepsLaws (members_of c.args.self) (reverse es)) (sym c.into_events.ensures) here
