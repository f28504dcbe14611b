-- What an operation does to a board, by the kind of its reply.
use Rattle.std.proofs.Common.{◌≡◌, ℕ, ◌+◌, ◌-◌, true, false, List, ◌∷◌, ◌++◌, Some, length, refl, ap, ◌∙◌, sym, subst, length-set, zero, suc, arith}
use Rattle.std.proofs.lemmas.Bool.Decides.{nat_tests}
use Rattle.std.specs.Prelude.{IsTrue, nat_lt, slice_set, slice_index_or, if◌then◌else◌, []}
use Rattle.std.proofs.lemmas.List.{set-get_or}
use Rattle.gomp_types.specs.declared.refusal.Refusal.TheVariants as refusals
use Rattle.gomp_types.specs.declared.reply.Reply.{Reply}
use Rattle.gomp_types.specs.declared.reply.Reply.TheVariants.{Finished, Wait, Refused}
use Rattle.gomp_types.specs.declared.refusal.Place.{Place}
use Rattle.gomp_events.specs.declared.event.Event.{Event}
use Rattle.gomp_events.specs.declared.event.Event.TheVariants.{Break}
use Rattle.gomp_board.specs.declared.op.Op.{Op}
use Rattle.gomp_board.specs.declared.op.Op.TheVariants.{Reserve}
use Rattle.gomp_board.specs.Ops.{op_asks, op_keeps, op_gives_back, keeps_room, op_begins, op_gives, op_place, op_refusal, op_drops, begun, op_may_lack, goes_on_waiting, OpReply}
use Rattle.gomp_board.specs.Boards.{BoardView, Stands, IsSame, IsOpAdmitted, Performs, members_of, kept_by, op_room_after, kept_after}
use Rattle.gomp_board.proofs.Joined.{keeping_stands}
use Rattle.gomp_board.proofs.Refused.{room_stays, kept_stays}
use Rattle.gomp_board.proofs.Waiting.{IsReply, op_answered, after_reply, not_refused}

room_unless_refused : (op : Op) (kept room : ℕ) (reply : Reply) → IsReply reply → op_room_after op kept reply room ≡ (if keeps_room op reply then room + op_asks op kept else room)
room_unless_refused op kept room (Refused refusal) is = absurd is
room_unless_refused op kept room _ is = refl

pub room_of_reply : (op : Op) (kept room : ℕ) (reply : Reply) → IsReply reply → keeps_room op reply ≡ true → op_room_after op kept reply room ≡ room + op_asks op kept
room_of_reply op kept room (Refused refusal) is keeps = absurd is
room_of_reply op kept room reply is keeps = rw (room_unless_refused op kept room reply is, keeps) refl

room_given_back : (op : Op) (kept room : ℕ) (reply : Reply) → IsReply reply → keeps_room op reply ≡ false → op_room_after op kept reply room ≡ room
room_given_back op kept room reply is keeps = rw (room_unless_refused op kept room reply is, keeps) refl

kept_of_reply : (op : Op) (m : ℕ) (board : BoardView) (reply : Reply) → IsReply reply → kept_after op m reply board.kept ≡ slice_set board.kept m (op_keeps op (kept_by m board))
kept_of_reply op m board (Refused refusal) is = absurd is
kept_of_reply op m board _ is = refl

-- a reply that is no refusal
pub op_is_answered : (op : Op) (m : ℕ) (board after : BoardView) (reply : Reply) → IsReply reply → IsOpAdmitted op m board → ((h : List Event) → Stands board h → OpReply (members_of board) m op (begun m op h) reply) →
    ((h : List Event) → Stands board h → Stands after (op_gives m op (begun m op h) reply ++ begun m op h)) → after.limits ≡ board.limits → after.room ≡ op_room_after op (kept_by m board) reply board.room →
    after.kept ≡ slice_set board.kept m (op_keeps op (kept_by m board)) → (reply ≡ Wait → goes_on_waiting op ≡ true → after ≡ board) → Performs op m board after reply
op_is_answered op m board after reply is admitted answer stands limits room kept waits = record {
  answer = λ h st. op_answered board.limits board.room (kept_by m board) (members_of board) m op h reply is (admitted h st) (answer h st);
  stands = λ h st. rw (after_reply m op reply h is) (stands h st);
  limits = limits;
  members = rw kept (length-set board.kept m (op_keeps op (kept_by m board)));
  room = room;
  kept = rw (kept_of_reply op m board reply is) kept;
  same = λ refusal e other. absurd (not_refused reply refusal is e);
  waits = waits;
}

-- which has it keep the room that it asked for
pub op_performed : (op : Op) (m : ℕ) (board after : BoardView) (reply : Reply) → IsReply reply → keeps_room op reply ≡ true → IsOpAdmitted op m board → ((h : List Event) → Stands board h → OpReply (members_of board) m op (begun m op h) reply) →
    ((h : List Event) → Stands board h → Stands after (op_gives m op (begun m op h) reply ++ begun m op h)) → after.limits ≡ board.limits → after.room ≡ board.room + op_asks op (kept_by m board) →
    after.kept ≡ slice_set board.kept m (op_keeps op (kept_by m board)) → (reply ≡ Wait → goes_on_waiting op ≡ true → after ≡ board) → Performs op m board after reply
op_performed op m board after reply is keeps admitted answer stands limits room kept waits =
    op_is_answered op m board after reply is admitted answer stands limits (room ∙ sym (room_of_reply op (kept_by m board) board.room reply is keeps)) kept waits

-- or which changes nothing
pub nothing_changed : (op : Op) (m : ℕ) (board : BoardView) (reply : Reply) → IsReply reply → IsOpAdmitted op m board → ((h : List Event) → Stands board h → OpReply (members_of board) m op (begun m op h) reply) → ((h : List Event) → Stands board h → op_begins m op h ≡ []) →
    ((h : List Event) → Stands board h → op_gives m op h reply ≡ []) → op_room_after op (kept_by m board) reply board.room ≡ board.room → op_keeps op (kept_by m board) ≡ kept_by m board → Performs op m board board reply
nothing_changed op m board reply is admitted answer begins gives room keeps =
    op_is_answered op m board board reply is admitted answer
    (λ h st. let none : begun m op h ≡ h = ap (λ (es : List Event). es ++ h) (begins h st) in rw (none, gives h st) st)
    refl (sym room) (sym (ap (slice_set board.kept m) keeps ∙ set-get_or board.kept m 0)) (λ wait goes. refl)

-- want of memory at an operation that asks for room
pub out_of_memory : (op : Op) (m : ℕ) (board after : BoardView) → IsOpAdmitted op m board → ((h : List Event) → Stands board h → IsTrue (op_may_lack op (kept_by m board) m h)) → IsSame board after → after.limits ≡ board.limits → Performs op m board after (Refused refusals.NoMemory)
out_of_memory op m board after admitted asks same limits = record {
  answer = λ h st. (admitted h st, asks h st);
  stands = λ h st. same.stands h st;
  limits = limits;
  members = ap length same.kept;
  room = same.room ∙ sym (room_stays op refusals.NoMemory (kept_by m board) board.room (λ e. cc));
  kept = same.kept ∙ sym (kept_stays op m refusals.NoMemory board.kept (λ e. cc));
  same = λ refusal e other. same;
  waits = λ wait. absurd (cc);
}

-- a construct that differs breaks the team there, and gives room back
pub team_broke : (op : Op) (m : ℕ) (place : Place) (board after : BoardView) → ((h : List Event) → Stands board h → op_refusal board.limits board.room (kept_by m board) m op h ≡ Some refusals.Mismatch) →
    ((h : List Event) → Stands board h → place ≡ op_place m op h) → ((h : List Event) → Stands board h → Stands after (Break m place ∷ h)) → after.limits ≡ board.limits → after.room ≡ op_room_after op (kept_by m board) (Refused refusals.Mismatch) board.room →
    after.kept ≡ kept_after op m (Refused refusals.Mismatch) board.kept → Performs op m board after (Refused refusals.Mismatch)
team_broke op m place board after differs there stands limits room kept = record {
  answer = λ h st. differs h st;
  stands = λ h st. subst (λ (p : Place). Stands after (Break m p ∷ h)) (there h st) (stands h st);
  limits = limits;
  members = ap length kept ∙ length-set board.kept m (slice_index_or board.kept m 0 - op_gives_back op refusals.Mismatch (slice_index_or board.kept m 0));
  room = room;
  kept = kept;
  same = λ refusal e other. absurd (let is : refusals.Mismatch ≡ refusal = cc in other (sym is));
  waits = λ wait. absurd (cc);
}

-- room that is not made, so some was asked for
asks_positive : (n : ℕ) → (n ≡ 0 → false ≡ true) → nat_lt 0 n ≡ true
asks_positive zero never = absurd (let none : false ≡ true = never refl in cc)
asks_positive (suc n) never = grind (arith, nat_tests)

pub nothing_performed : (op : Op) (m : ℕ) (board after : BoardView) (more : ℕ) → more ≡ op_asks op (kept_by m board) → ((h : List Event) → op_drops op m h ≡ false) → IsOpAdmitted op m board → after ≡ board → (more ≡ 0 → false ≡ true) → Performs op m board after (Refused refusals.NoMemory)
nothing_performed op m board after more asks goes admitted same some =
    let much : nat_lt 0 (op_asks op (kept_by m board)) ≡ true = asks_positive (op_asks op (kept_by m board)) (λ none. some (asks ∙ none)) in
    out_of_memory op m board after admitted (λ h st. rw (much, goes h) refl)
    (record { history = ap (λ (b : BoardView). b.history) same; room = ap (λ (b : BoardView). b.room) same; kept = ap (λ (b : BoardView). b.kept) same; stands = λ h st. subst (λ (b : BoardView). Stands b h) (sym same) st; stood = λ h st. subst (λ (b : BoardView). Stands b h) same st })
    (ap (λ (b : BoardView). b.limits) same)

-- room that is kept
pub reserve_performed : (m more : ℕ) (old made : BoardView) (n : ℕ) → IsOpAdmitted (Reserve more) m old → made ≡ record old { room = old.room + more } → n ≡ kept_by m old + more →
    Performs (Reserve more) m old (record made { kept = slice_set made.kept m n }) Finished
reserve_performed m more old made n admitted room_made is =
    op_performed (Reserve more) m old (record made { kept = slice_set made.kept m n }) Finished tt refl admitted (λ h st. refl)
    (λ h st. subst (λ (v : BoardView). Stands (record v { kept = slice_set v.kept m n }) h) (sym room_made) (keeping_stands old (old.room + more) (slice_set old.kept m n) h st))
    (ap (λ (v : BoardView). v.limits) room_made) (ap (λ (v : BoardView). v.room) room_made) (ap (λ (v : BoardView). slice_set v.kept m n) room_made ∙ ap (λ (k : ℕ). slice_set old.kept m k) is) (λ wait goes. absurd (cc))
