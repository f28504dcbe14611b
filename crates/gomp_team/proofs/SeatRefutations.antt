-- What no call of a member does to its seat: what each clause of its seat forbids, of any member, tool, call, reply and seats.
use Rattle.std.proofs.Common.{◌≡◌, ◌≢◌, Bool, true, false, refl, ap, sym, ◌∙◌, subst, arith, length, inl, inr}
use Rattle.gomp_types.specs.declared.call.Call.{Call}
use Rattle.gomp_types.specs.declared.refusal.Refusal.{Refusal}
use Rattle.gomp_types.specs.declared.reply.Reply.{Reply}
use Rattle.gomp_types.specs.declared.reply.Reply.TheVariants.{Cancelled, Finished, Refused, Wait}
use Rattle.gomp_types.specs.Resumes.{is_resume}
use Rattle.gomp_ompt.specs.declared.record.Record.{Record}
use Rattle.gomp_member.specs.Own.{own_meant}
use Rattle.gomp_team_calls.specs.declared.ends.ShareEnd.{ShareEnd}
use Rattle.gomp_team_calls.specs.Arrivals.{IsAccepted}
use Rattle.gomp_team_shares.specs.declared.inside.InsideCall.{InsideCall}
use Rattle.gomp_ring.specs.RingSeats.{SeatView}
use Rattle.gomp_seat_calls.specs.Ends.{has_seen_end}
use Rattle.gomp_seat_team.specs.Inside.{ServesInsideBySeat}
use Rattle.gomp_team.specs.Members.{MemberView, Called}
use Rattle.gomp_team.specs.Seats.{AsksOwnShare, AsksSeat, LeavesDrained, MovesBy, PutsOwnWords, SeatAsk, Tries, Waited, seat_ask, IsInsideReply, waits_for_turns}
use Rattle.gomp_team.specs.Seats.SeatAsk.{Aside, Ends}
use Rattle.gomp_team.specs.Seats.Tries.{Untried, Tried}

-- However often it was asked

tries_aside_change_nothing : (before after : SeatView) → Tries Aside before after → after ≡ before
tries_aside_change_nothing before after Untried = refl
tries_aside_change_nothing before after (Tried {between = between} tries same) = same ∙ tries_aside_change_nothing before between tries

waits_aside_change_nothing : (repeated : Bool) (before from : SeatView) → Waited repeated Aside before from → from ≡ before
waits_aside_change_nothing false before from waited = waited
waits_aside_change_nothing true before from waited = tries_aside_change_nothing before from waited

-- no call that asks nothing of the seat changes it
pub never_moves_a_seat_aside : (repeated : Bool) (before : SeatView) (reply : Reply) (after : SeatView) → AsksSeat repeated Aside before reply after → after ≢ before → ⊥
never_moves_a_seat_aside repeated before reply after asks other = other (asks.answers ∙ waits_aside_change_nothing repeated before asks.from asks.waited)

pub never_moves_the_seat_by_a_call_aside : {T : Type 0} (gives : T → Record → T → Type 0) (call : Call) (reply : Reply) (before after : MemberView T)
    → seat_ask before.icv.cancellation (is_resume call) (own_meant before.own call) ≡ Aside → Called gives call reply before after → after.seat ≢ before.seat → ⊥
never_moves_the_seat_by_a_call_aside gives call reply before after aside called other =
    never_moves_a_seat_aside (is_resume call) before.seat reply after.seat (subst (λ ask. AsksSeat (is_resume call) ask before.seat reply after.seat) aside called.seat) other

-- it stays that of the member, on its ring
pub never_the_seat_of_another_member : {T : Type 0} (gives : T → Record → T → Type 0) (call : Call) (reply : Reply) (before after : MemberView T) → Called gives call reply before after → after.seat.member ≢ before.seat.member → ⊥
never_the_seat_of_another_member gives call reply before after called other = other called.stays.member

pub never_a_seat_of_another_ring : {T : Type 0} (gives : T → Record → T → Type 0) (call : Call) (reply : Reply) (before after : MemberView T) → Called gives call reply before after → after.seat.table ≢ before.seat.table → ⊥
never_a_seat_of_another_ring gives call reply before after called other = other called.stays.table

pub never_in_a_team_of_another_size : {T : Type 0} (gives : T → Record → T → Type 0) (call : Call) (reply : Reply) (before after : MemberView T) → Called gives call reply before after → after.seat.members ≢ before.seat.members → ⊥
never_in_a_team_of_another_size gives call reply before after called other = other called.stays.members

pub never_another_ring : {T : Type 0} (gives : T → Record → T → Type 0) (call : Call) (reply : Reply) (before after : MemberView T) → Called gives call reply before after → after.ring ≢ before.ring → ⊥
never_another_ring gives call reply before after called other = other called.ring

-- a call that is made is not tried before
pub never_tried_before_it_was_made : (ask : SeatAsk) (before : SeatView) (reply : Reply) (after : SeatView) (asks : AsksSeat false ask before reply after) → asks.from ≢ before → ⊥
never_tried_before_it_was_made ask before reply after asks other = other asks.waited

-- At a share's end

-- no member arrives there that has seen neither that nothing is left nor that its share is cancelled
pub never_arrives_undrained : (end : ShareEnd) (before after : SeatView) (leaves : LeavesDrained end before after) → has_seen_end leaves.between.seen ≡ false → ⊥
never_arrives_undrained end before after leaves unseen = (let seen : true ≡ false = sym leaves.drawn ∙ unseen in cc)

-- nor one that has not left its share
pub never_arrives_without_leaving : (end : ShareEnd) (before after : SeatView) (leaves : LeavesDrained end before after) → after ≡ leaves.between → ⊥
never_arrives_without_leaving end before after leaves same =
    let longer = ap length (sym (ap (λ (s : SeatView). s.did) same) ∙ leaves.leaves.did) in
    omega arith

-- a call by which it does so is accepted only then
pub never_ends_its_share_undrained : (end : ShareEnd) (before : SeatView) (reply : Reply) (after : SeatView) → MovesBy (Ends end) before reply after → IsAccepted reply → (LeavesDrained end before after → ⊥) → ⊥
never_ends_its_share_undrained end before reply after moves accepted not = not (moves accepted)

-- Words

-- whoever puts its words has left its share,
pub never_puts_words_and_stays : (before after : SeatView) → PutsOwnWords before Finished after → after ≡ before → ⊥
never_puts_words_and_stays before after puts same =
    let longer = ap length (sym (ap (λ (s : SeatView). s.did) same) ∙ (puts.left refl).did) in
    omega arith

-- and whoever is refused has not
pub never_leaves_by_refused_words : (before : SeatView) (refusal : Refusal) (after : SeatView) → PutsOwnWords before (Refused refusal) after → after ≢ before → ⊥
never_leaves_by_refused_words before refusal after puts other = other (puts.kept (λ is. cc))

-- Calls on the member's share

-- none is refused and changes the seat, or is answered without it
pub never_answered_aside : (call : InsideCall) (before : SeatView) (reply : Reply) (after : SeatView) → AsksOwnShare call before reply after
    → ((refusal : Refusal) → reply ≡ Refused refusal → after ≡ before → ⊥) → ((cancelled : Bool) → ServesInsideBySeat call cancelled before reply after → ⊥) → ⊥
never_answered_aside call before reply after asks refused served = elim asks [
  | inl e ↦ refused e.0 e.1 e.2
  | inr e ↦ served e.0 e.1
]

-- none of them waits but for a turn
pub never_waits_but_for_a_turn : (call : InsideCall) (cancelled : Bool) (before : SeatView) (reply : Reply) → IsInsideReply call cancelled before.seen reply → reply ≡ Wait → waits_for_turns call before.seen ≡ false → ⊥
never_waits_but_for_a_turn call cancelled before reply is waits none = (let turn = is.turns waits in absurd (cc (turn, none)))

-- nor says in a region that is not cancelled that it is
pub never_cut_in_a_whole_region : (call : InsideCall) (before : SeatView) (reply : Reply) → IsInsideReply call false before.seen reply → reply ≡ Cancelled → ⊥
never_cut_in_a_whole_region call before reply is cut = is.uncut refl cut
