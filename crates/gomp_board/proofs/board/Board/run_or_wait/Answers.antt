use Rattle.std.proofs.Common.{reverse, ◌++◌, List, sym, subst}
use Rattle.gomp_events.specs.declared.event.Event.{Event}
use Rattle.gomp_events.proofs.Suspended.{startable_is_fresh}
use Rattle.gomp_events.proofs.GoalReadings.{startable_may_start}
use Rattle.gomp_board.specs.Boards.{Stands}
use Rattle.gomp_board.specs.contracts.board.Board.{the_view}
use Rattle.gomp_board.proofs.BoardEvents.{memory_to_start, stands_too, started_board, started_stands}
use Rattle.gomp_board.proofs.Waiting.{starts_startable}
use Rattle.gomp_board.proofs.board.Board.run_or_wait.Goals as goal

pub start_next-requires-clause-sealed : goal.start_next-requires-clause-sealed
start_next-requires-clause-sealed c = let st = c.self.invariant.stands in (reverse (the_view c.self.inside).history, st.scheduler, st.sealed)

pub note_start-requires-clause-space : goal.note_start-requires-clause-space
note_start-requires-clause-space c =
    let b = the_view c.self.inside in let m = c.args.member in let t = c.in-Some.task in let own = reverse b.history in let st = c.self.invariant.stands in
    memory_to_start _ b t m c.self.invariant (startable_may_start m t own (c.in-Some.ensures.found own st.scheduler st.sealed))

pub note_start-requires-clause-created : goal.note_start-requires-clause-created
note_start-requires-clause-created c =
    let m = c.args.member in let t = c.in-Some.task in let own = reverse (the_view c.self.inside).history in let st = c.self.invariant.stands in
    (startable_is_fresh m t own (startable_may_start m t own (c.in-Some.ensures.found own st.scheduler st.sealed))).0

pub invariant_of-self : goal.invariant_of-self
invariant_of-self c =
    let b = the_view c.self.inside in let m = c.args.member in let t = c.in-Some.task in let own = reverse b.history in let st = c.self.invariant.stands in
    started_board _ b t m c.self.invariant (startable_may_start m t own (c.in-Some.ensures.found own st.scheduler st.sealed)) _ _ _ c.note_start.ensures.history
    (c.in-Some.ensures.stands own st.scheduler st.sealed) c.start_next.ensures.members c.note_start.ensures.memory

pub returns-in-Some-clause-answer : goal.returns-in-Some-clause-answer
returns-in-Some-clause-answer c = λ h now_st.
    let m = c.args.member in let t = c.in-Some.task in let st = stands_too _ _ h c.self.view_is now_st in
    starts_startable m t h c.note_start.result (c.note_start.ensures.answer h st.history)
    (c.in-Some.ensures.found h st.scheduler st.sealed)

pub returns-in-Some-clause-stands : goal.returns-in-Some-clause-stands
returns-in-Some-clause-stands c = λ h now_st.
    let b = the_view c.self.inside in let m = c.args.member in let t = c.in-Some.task in let st = stands_too _ _ h c.self.view_is now_st in
    subst (λ (es : List Event). Stands (the_view (record c.self.inside { history = c.note_start.new.history; scheduler = c.start_next.new.self })) (es ++ h)) (sym c.note_start.ensures.starts)
    (started_stands b c.note_start.new.history.events c.start_next.new.self t m h c.note_start.ensures.history (c.in-Some.ensures.stands h st.scheduler st.sealed) st)
