use Rattle.std.proofs.Common.{◌∙◌}
use Rattle.gomp_events.specs.TaskCalls.{group_is_open}
use Rattle.gomp_board.proofs.RefusalOrder.{given_up_then}
use Rattle.gomp_board.proofs.BoardEvents.{scheduler_too}
use Rattle.gomp_board.proofs.board.Board.region_end_or.Goals as goal

pub returns-in-RegionEnd : goal.returns-in-RegionEnd
returns-in-RegionEnd c = record { value = λ h tests st other. rw c.in-RegionEnd.is (c.first.ensures ∙ rw (c.keeps_group_open.ensures.value h (scheduler_too _ _ h c.self.view_is st)) (given_up_then c.args.leaving (group_is_open c.args.member h) c.args.other tests other)) }
