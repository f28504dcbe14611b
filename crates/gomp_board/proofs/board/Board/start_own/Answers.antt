use Rattle.std.proofs.Common.{reverse, ◌++◌, List, sym, subst}
use Rattle.gomp_events.specs.declared.event.Event.{Event}
use Rattle.gomp_events.proofs.Suspended.{startable_is_fresh}
use Rattle.gomp_board.specs.Boards.{Stands}
use Rattle.gomp_board.specs.contracts.board.Board.{the_view}
use Rattle.gomp_board.proofs.BoardEvents.{memory_to_start, own_too, stands_now, stands_too, started_board, started_stands}
use Rattle.gomp_board.proofs.Waiting.{runs_no_wait}
use Rattle.gomp_board.proofs.board.Board.start_own.Goals as goal

pub start_own-requires : goal.start_own-requires
start_own-requires c =
    let own = reverse (the_view c.self.inside).history in let st = c.self.invariant.stands in
    record { may = (own, st.scheduler, own_too _ _ c.args.member c.args.task own c.self.view_is (c.requires.may own (stands_now _ _ own c.self.view_is st))) }

pub note_start-requires-clause-space : goal.note_start-requires-clause-space
note_start-requires-clause-space c =
    let b = the_view c.self.inside in let own = reverse b.history in
    memory_to_start _ b c.args.task c.args.member c.self.invariant (c.requires.may own (stands_now _ _ own c.self.view_is c.self.invariant.stands)).rule.may

pub note_start-requires-clause-created : goal.note_start-requires-clause-created
note_start-requires-clause-created c =
    let own = reverse (the_view c.self.inside).history in
    (startable_is_fresh c.args.member c.args.task own (c.requires.may own (stands_now _ _ own c.self.view_is c.self.invariant.stands)).rule.may).0

pub invariant_of-self : goal.invariant_of-self
invariant_of-self c =
    let b = the_view c.self.inside in let m = c.args.member in let t = c.args.task in let own = reverse b.history in let st = c.self.invariant.stands in
    let may = own_too _ _ m t own c.self.view_is (c.requires.may own (stands_now _ _ own c.self.view_is st)) in
    started_board _ b t m c.self.invariant may.rule.may _ _ _ c.note_start.ensures.history (c.start_own.ensures.stands own st.scheduler may) c.start_own.ensures.members c.note_start.ensures.memory

pub returns-clause-answer : goal.returns-clause-answer
returns-clause-answer c = λ h now_st. c.note_start.ensures.answer h (stands_too _ _ h c.self.view_is now_st).history

pub returns-clause-stands : goal.returns-clause-stands
returns-clause-stands c = λ h now_st.
    let b = the_view c.self.inside in let m = c.args.member in let t = c.args.task in let st = stands_too _ _ h c.self.view_is now_st in
    subst (λ (es : List Event). Stands (the_view (record c.self.inside { history = c.note_start.new.history; scheduler = c.start_own.new.self })) (es ++ h)) (sym c.note_start.ensures.starts)
    (started_stands b c.note_start.new.history.events c.start_own.new.self t m h c.note_start.ensures.history (c.start_own.ensures.stands h st.scheduler (own_too _ _ m t h c.self.view_is (c.requires.may h now_st))) st)

pub returns-clause-runs : goal.returns-clause-runs
returns-clause-runs c =
    let own = reverse (the_view c.self.inside).history in
    runs_no_wait c.args.task _ own c.note_start.result (c.note_start.ensures.answer own c.self.invariant.stands.history)
