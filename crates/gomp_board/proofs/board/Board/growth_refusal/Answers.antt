use Rattle.std.proofs.Common.{refl}
use Rattle.gomp_board.proofs.BoardEvents.{scheduler_too}
use Rattle.gomp_board.proofs.board.Board.growth_refusal.Goals as goal

pub returns : goal.returns
returns c = record { value = λ h st. rw (c.first.ensures, c.first-full.ensures, c.is_busy.ensures.value h (scheduler_too _ _ h c.self.view_is st), c.lacks_room.ensures) refl }
