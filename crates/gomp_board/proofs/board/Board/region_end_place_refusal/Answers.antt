use Rattle.gomp_events.specs.TaskCalls.{group_is_open}
use Rattle.gomp_board.proofs.RefusalOrder.{given_up_is, region_end_is_least}
use Rattle.gomp_board.proofs.BoardEvents.{scheduler_too}
use Rattle.gomp_board.proofs.board.Board.region_end_place_refusal.Goals as goal

pub returns : goal.returns
returns c = record { value = λ h st. rw (c.first.ensures, c.first-open.ensures, c.keeps_group_open.ensures.value h (scheduler_too _ _ h c.self.view_is st), c.in_task.ensures.value h (scheduler_too _ _ h c.self.view_is st), given_up_is c.args.leaving (group_is_open c.args.member h)) (region_end_is_least c.args.leaving c.args.member h) }
