use Rattle.std.proofs.Common.{refl}
use Rattle.gomp_board.proofs.BoardEvents.{scheduler_too}
use Rattle.gomp_board.proofs.board.Board.end_group_refusal.Goals as goal

pub returns : goal.returns
returns c = record { value = λ h st. rw (c.first.ensures, c.first-closed.ensures, c.is_busy.ensures.value h (scheduler_too _ _ h c.self.view_is st), c.has_group_open.ensures.value h (scheduler_too _ _ h c.self.view_is st)) refl }
