use Rattle.std.proofs.Common.{[], refl}
use Rattle.std.proofs.lemmas.List.{append-nil}
use Rattle.gomp_board.proofs.BoardEvents.{scheduler_too}
use Rattle.gomp_board.proofs.board.Board.point_refusal.Goals as goal

pub returns : goal.returns
returns c = record { value = λ h st. rw (c.first.ensures, c.is_busy.ensures.value h (scheduler_too _ _ h c.self.view_is st), c.cancel_place_or-placed.ensures.value h [] st refl, append-nil) refl }
