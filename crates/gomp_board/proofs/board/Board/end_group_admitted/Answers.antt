use Rattle.std.proofs.Common.{sym, subst, ◌∙◌, ◌++◌, List}
use Rattle.gomp_events.specs.declared.event.Event.{Event}
use Rattle.gomp_events.specs.Tasks.{executed_task}
use Rattle.gomp_events.specs.Groups.{open_groups}
use Rattle.gomp_events.specs.TaskCalls.{last_complete}
use Rattle.gomp_board.specs.Boards.{Stands}
use Rattle.gomp_board.proofs.BoardEvents.{scheduler_too}
use Rattle.gomp_board.proofs.Waiting.{runs_unmet, ended_runs}
use Rattle.gomp_board.proofs.board.Board.end_group_admitted.Goals as goal

pub close_group-requires-clause-done : goal.close_group-requires-clause-done
close_group-requires-clause-done c = λ h st. sym (c.last_group_is_done.ensures.value h (scheduler_too _ _ h c.self.view_is st)) ∙ c.if-last_group_is_done.true

pub returns-then-last_group_is_done-clause-answer : goal.returns-then-last_group_is_done-clause-answer
returns-then-last_group_is_done-clause-answer c = λ h st. sym (c.last_group_is_done.ensures.value h (scheduler_too _ _ h c.self.view_is st)) ∙ c.if-last_group_is_done.true

pub returns-else-last_group_is_done-clause-answer : goal.returns-else-last_group_is_done-clause-answer
returns-else-last_group_is_done-clause-answer c = λ h st.
    let m = c.args.member in
    runs_unmet m (last_complete (open_groups (executed_task m h) h) h) h c.run_or_wait.result (sym (c.last_group_is_done.ensures.value h (scheduler_too _ _ h c.self.view_is st)) ∙ c.if-last_group_is_done.false) (c.run_or_wait.ensures.answer h st)

pub returns-else-last_group_is_done-clause-stands : goal.returns-else-last_group_is_done-clause-stands
returns-else-last_group_is_done-clause-stands c = λ h st.
    subst (λ (events : List Event). Stands c.run_or_wait.new.self (events ++ h)) (sym (ended_runs c.args.member h c.run_or_wait.result (c.run_or_wait.ensures.answer h st))) (c.run_or_wait.ensures.stands h st)
