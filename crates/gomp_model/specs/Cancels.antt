-- The rows of the cancel and cancellation point constructs. OpenMP API 5.2, sections 16.1 and 16.2.
use Rattle.std.specs.Prelude.{Bool, false, Some, None}
use Rattle.gomp_types.specs.declared.cancel.CancelKind.{CancelKind}
use Rattle.gomp_events.specs.CancelCalls.{cancel_tests, cancel_room, keeps_cancel, TellsCancelled, tells_cancelled}
use Rattle.gomp_shares.specs.Cancels.{cancel_place_tests}
use Rattle.gomp_model.specs.Row.{Row, plain_row}

-- a cancel construct with this clause; it asks for the room of a cancellation that is stored
abbrev pub cancel_row : CancelKind → Bool → Row
cancel_row kind clause = record plain_row {
  by_place = λ limits seen. cancel_place_tests kind seen;
  by_task = λ m p. cancel_tests kind m p.events;
  room = cancel_room kind;
  keeps_room = keeps_cancel clause;
  cancels = Some kind;
  may_reply = λ m p reply. TellsCancelled p.terms.cancellation kind clause m p.events reply;
  gives = λ m p reply. tells_cancelled kind clause m p.events reply;
}

-- a cancellation point, which is a cancel construct with a false clause that asks for nothing
abbrev pub point_row : CancelKind → Row
point_row kind = record (cancel_row kind false) { room = 0; cancels = None }
