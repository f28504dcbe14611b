-- A member makes room for a task before it asks a call that waits: nothing else of it changes.
use Rattle.std.proofs.Common.{◌≡◌, ◌∙◌, Bool, true, false, ap, inl, inr, refl, sym, subst}
use Rattle.std.specs.Prelude.{Result, Ok, Err, IsOk, is_err}
use Rattle.gomp_types.specs.declared.call.Call.{Call}
use Rattle.gomp_types.specs.declared.call.Call.TheVariants.{Resume}
use Rattle.gomp_types.specs.declared.refusal.Refusal.TheVariants.{NoMemory}
use Rattle.gomp_types.specs.declared.reply.Reply.{Reply}
use Rattle.gomp_types.specs.declared.reply.Reply.TheVariants.{Refused}
use Rattle.gomp_member.specs.Own.{OwnView, own_meant}
use Rattle.gomp_ring.specs.RingSeats.{SeatView}
use Rattle.gomp_team.specs.Answers.{AnswersWithRoom, TeamAnswers}
use Rattle.gomp_team.specs.Members.{MemberView, IsMoved}
use Rattle.gomp_team.specs.Seats.{seat_ask}
use Rattle.gomp_team.proofs.MoveLaws.{refusal_moves_no_events, refusal_moves_no_holds, refusal_moves_no_releases}
use Rattle.gomp_team.proofs.SeatMoves.{refused_unasked_once, stays_same}

pub with_room_is : {T : Type 0} (before inside : MemberView T) (own : OwnView) → own ≡ inside.own → inside ≡ before → record inside { own = own; room = before.room } ≡ before
with_room_is {T} before inside own same is = rw same (ap (λ (m : MemberView T). record m { room = before.room }) is)

-- with room its team has answered
answered_with_room : (allowed repeated : Bool) (own : OwnView) (call : Call) (seat : SeatView) (reply : Reply) → AnswersWithRoom true allowed repeated own call seat reply → TeamAnswers allowed repeated own call seat reply
answered_with_room allowed repeated own call seat reply (inl (full, lacks)) = absurd (cc)
answered_with_room allowed repeated own call seat reply (inr answered) = answered

-- what could not be made was not there
pub no_room_there : {A E : Type 0} (room : Bool) (made : Result A E) → (room ≡ true → IsOk made) → is_err made ≡ true → room ≡ false
no_room_there false made there fails = refl
no_room_there true (Ok value) there fails = absurd (cc)
no_room_there true (Err error) there fails = absurd (let ok = there refl in cc)

-- what is moved of the member with room is moved of it
pub moved_with_room : {T : Type 0} (reply : Reply) (before roomy after : MemberView T) → record roomy { room = before.room } ≡ before
    → IsMoved true true (own_meant roomy.own Resume) reply roomy after → IsMoved before.room true (own_meant before.own Resume) reply before after
moved_with_room {T} reply before roomy after is moved =
    subst (λ (m : MemberView T). IsMoved before.room true (own_meant m.own Resume) reply m after) is (record {
      events = moved.events;
      held = moved.held;
      freed = moved.freed;
      seat = moved.seat;
      stays = moved.stays;
      answers = inr (answered_with_room _ _ _ _ _ _ moved.answers);
      own = moved.own;
      tool = moved.tool;
      icv = moved.icv;
      ring = moved.ring;
    })

-- likewise by a call that is made
pub made_with_room : {T : Type 0} (call : Call) (reply : Reply) (before roomy after : MemberView T) → record roomy { room = before.room } ≡ before
    → IsMoved true false call reply roomy after → IsMoved before.room false call reply before after
made_with_room {T} call reply before roomy after is moved =
    subst (λ (m : MemberView T). IsMoved before.room false call reply m after) is (record {
      events = moved.events;
      held = moved.held;
      freed = moved.freed;
      seat = moved.seat;
      stays = moved.stays;
      answers = inr (answered_with_room _ _ _ _ _ _ moved.answers);
      own = moved.own;
      tool = moved.tool;
      icv = moved.icv;
      ring = moved.ring;
    })

-- one that finds no room is refused
pub refused_for_room : {T : Type 0} (repeated : Bool) (call : Call) (before roomy : MemberView T) → before.room ≡ false → record roomy { room = before.room } ≡ before
    → IsMoved before.room repeated call (Refused NoMemory) before roomy
refused_for_room {T} repeated call before roomy full is =
    let seat : roomy.seat ≡ before.seat = ap (λ (m : MemberView T). m.seat) is in
    record {
      events = ap (λ (m : MemberView T). m.events) is ∙ sym (refusal_moves_no_events repeated call NoMemory before.events (λ mismatch. cc));
      held = ap (λ (m : MemberView T). m.held) is ∙ sym (refusal_moves_no_holds repeated call NoMemory before.held);
      freed = ap (λ (m : MemberView T). m.freed) is ∙ sym (refusal_moves_no_releases repeated call NoMemory before.freed);
      seat = refused_unasked_once repeated (seat_ask before.icv.cancellation repeated call) NoMemory before.seat roomy.seat seat;
      stays = stays_same before.seat roomy.seat seat;
      answers = inl (full, refl);
      own = ap (λ (m : MemberView T). m.own) is;
      tool = ap (λ (m : MemberView T). m.tool) is;
      icv = ap (λ (m : MemberView T). m.icv) is;
      ring = ap (λ (m : MemberView T). m.ring) is;
    }
