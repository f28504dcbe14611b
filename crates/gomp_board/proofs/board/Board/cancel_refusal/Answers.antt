use Rattle.std.proofs.Common.{refl}
use Rattle.gomp_events.specs.TaskCalls.{room_tests}
use Rattle.gomp_events.specs.CancelCalls.{cancel_room}
use Rattle.gomp_board.specs.Ops.{named_kind}
use Rattle.gomp_board.proofs.RefusalOrder.{cancel_room_is}
use Rattle.gomp_board.proofs.BoardEvents.{scheduler_too}
use Rattle.gomp_board.proofs.board.Board.cancel_refusal.Goals as goal

pub returns : goal.returns
returns c = record {
  value = λ h st.
      let now = c.args.self.now in
      rw (c.first.ensures, c.is_busy.ensures.value h (scheduler_too _ _ h c.self.view_is st), c.cancel_place_or-placed.ensures.value h (room_tests now.limits now.room (cancel_room (named_kind c.args.named))) st (rw (c.first-full.ensures, c.lacks_room.ensures) (cancel_room_is c.args.named now.limits now.room))) refl;
}
