use Rattle.std.proofs.Common.{ap, sym, ◌∙◌}
use Rattle.std.specs.Prelude.{not}
use Rattle.gomp_board.proofs.board.Board.lacks_task_room.Goals as goal

pub returns-then-lacks_room : goal.returns-then-lacks_room
returns-then-lacks_room c = record { value = λ h st. rw (sym c.lacks_room.ensures ∙ c.if-lacks_room.true) (ap not (c.drops_creation.ensures.value h st)) }

pub returns-else-lacks_room : goal.returns-else-lacks_room
returns-else-lacks_room c = record { value = λ h st. rw (sym c.lacks_room.ensures ∙ c.if-lacks_room.false) c.if-lacks_room.false }
