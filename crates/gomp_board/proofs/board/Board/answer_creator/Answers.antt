use Rattle.std.proofs.Common.{sym, ◌∙◌}
use Rattle.gomp_board.proofs.BoardEvents.{own_now, stands_too}
use Rattle.gomp_board.proofs.Creators.{creator_starts, creator_has_to_wait}
use Rattle.gomp_board.proofs.board.Board.answer_creator.Goals as goal

pub start_own-requires-clause-may : goal.start_own-requires-clause-may
start_own-requires-clause-may c = λ h now_st.
    let st = stands_too _ _ h c.self.view_is now_st in
    own_now _ _ c.args.member _ h c.self.view_is (c.may_start_own.ensures.may h st.scheduler st.sealed c.if-may_start_own.true)

pub returns-then-may_start_own-clause-answer : goal.returns-then-may_start_own-clause-answer
returns-then-may_start_own-clause-answer c = λ h now_st.
    let st = stands_too _ _ h c.self.view_is now_st in
    creator_starts c.args.member c.newest-task.result.task h c.start_own.result (c.newest-task.ensures.task h st.scheduler) (sym (c.newest-task.ensures.undeferred h st.scheduler) ∙ c.if-not-undeferred.false)
    (sym (c.may_start_own.ensures.value h st.scheduler st.sealed) ∙ c.if-may_start_own.true) (c.start_own.ensures.answer h now_st)

pub returns-else-may_start_own-clause-answer : goal.returns-else-may_start_own-clause-answer
returns-else-may_start_own-clause-answer c = λ h now_st.
    let st = stands_too _ _ h c.self.view_is now_st in
    creator_has_to_wait c.args.member c.newest-task.result.task h c.run_or_wait.result (c.newest-task.ensures.task h st.scheduler) (sym (c.newest-task.ensures.undeferred h st.scheduler) ∙ c.if-not-undeferred.false)
    (sym (c.may_start_own.ensures.value h st.scheduler st.sealed) ∙ c.if-may_start_own.false) (c.run_or_wait.ensures.answer h now_st)
