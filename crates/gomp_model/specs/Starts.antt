-- The row of a call that starts a share. OpenMP API 5.2, chapter 11.
use Rattle.std.specs.Prelude.{ℕ, ◌+◌, Bool, true, false, List, Some}
use Rattle.gomp_types.specs.declared.loop_desc.EndKind.{EndKind}
use Rattle.gomp_types.specs.declared.loop_desc.EndKind.TheVariants.{Wait, Nowait, Cancellable}
use Rattle.gomp_types.specs.declared.refusal.Place.TheVariants.{Share}
use Rattle.gomp_types.specs.declared.reply.Reply.{Reply}
use Rattle.gomp_types.specs.declared.shape.Shape.{Shape}
use Rattle.gomp_events.specs.declared.event.Event.{Event}
use Rattle.gomp_types.specs.Tests.{Test}
use Rattle.gomp_types.specs.Limits.{shown_number}
use Rattle.gomp_events.specs.Events.{shares_entered}
use Rattle.gomp_types.specs.Shapes.{is_copy}
use Rattle.gomp_events.specs.declared.room.TheConstants.{ARRIVAL_ROOM, PAYLOAD_ROOM}
use Rattle.gomp_shares.specs.Starts.{Deals, Starts, start_tests, compared_share, entry_and}
use Rattle.gomp_model.specs.Row.{Row, outside_row, waits_uncancelled}

-- the room that a share's start asks for: that of its member's arrival at a barrier at its end
abbrev pub end_room : EndKind → ℕ
end_room Wait = ARRIVAL_ROOM
end_room Cancellable = ARRIVAL_ROOM
end_room Nowait = 0

-- and of the words that its member puts or is given
abbrev pub share_words_room : Bool → ℕ
share_words_room true = PAYLOAD_ROOM
share_words_room false = 0

abbrev pub share_room : Shape → ℕ
share_room shape = end_room shape.end_kind + share_words_room (is_copy shape.kind)

-- its construct's own tests, its shape, how its share answers, and what that gives
abbrev pub start_row : List Test → Shape → Deals → (ℕ → Shape → ℕ → Reply → List Event) → Row
start_row own shape deals Given = waits_uncancelled (record outside_row {
  by_place = start_tests own;
  compared = λ repeated m p. compared_share shape m p.events;
  room = share_room shape;
  starts = Some shape;
  stays = true;
  may_reply = λ m p reply. Starts deals p.terms.members m shape reply p.events;
  gives = λ m p reply. entry_and Given shape m p.events reply;
  place = λ m h. Share (shown_number (shares_entered m h));
})
