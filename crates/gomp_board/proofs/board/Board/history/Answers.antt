use Rattle.std.proofs.Common.{ℕ, List, reverse, sym, subst}
use Rattle.gomp_events.specs.declared.event.Event.{Event}
use Rattle.gomp_events.specs.Laws.{Always}
use Rattle.gomp_events.specs.Arrivals.{ArrivalRule}
use Rattle.gomp_events.specs.TaskRules.{TaskRule}
use Rattle.gomp_board.specs.Boards.{BoardView, members_of}
use Rattle.gomp_board.specs.contracts.board.Board.{the_view}
use Rattle.gomp_board.specs.KeptLaws.{KeepsLaws}
use Rattle.gomp_board.proofs.BoardEvents.{rule_of}
use Rattle.gomp_board.proofs.KeptLaws.{laws_of}
use Rattle.gomp_board.proofs.board.Board.history.Goals as goal

pub returns-clause-tasks : goal.returns-clause-tasks
returns-clause-tasks c =
    let b = the_view c.self.inside in
    let own = rule_of b (reverse b.history) c.self.invariant.members c.self.invariant.stands in
    let here = subst (λ (v : BoardView). Always (TaskRule (members_of v)) (reverse b.history)) c.self.view_is own in
    subst (λ (es : List Event). Always (TaskRule (members_of c.args.self.now)) (reverse es)) (sym c.events.ensures.value) here

pub returns-clause-arrivals : goal.returns-clause-arrivals
returns-clause-arrivals c =
    let b = the_view c.self.inside in
    let own = subst (λ (n : ℕ). Always (ArrivalRule n) (reverse b.history)) c.self.invariant.members.barriers c.self.invariant.stands.scheduler.barriers.rule in
    let here = subst (λ (v : BoardView). Always (ArrivalRule (members_of v)) (reverse b.history)) c.self.view_is own in
    subst (λ (es : List Event). Always (ArrivalRule (members_of c.args.self.now)) (reverse es)) (sym c.events.ensures.value) here

pub returns-clause-laws : goal.returns-clause-laws
returns-clause-laws c =
    let b = the_view c.self.inside in
    let own = laws_of b (reverse b.history) c.self.invariant.members c.self.invariant.stands in
    let here = subst (λ (v : BoardView). KeepsLaws (members_of v) (reverse b.history)) c.self.view_is own in
    subst (λ (es : List Event). KeepsLaws (members_of c.args.self.now) (reverse es)) (sym c.events.ensures.value) here
