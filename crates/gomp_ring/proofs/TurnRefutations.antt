-- What no call of a member's seat tells of cancellation and turns: what each clause forbids, of any team, member, share, piece, event and list.
use Rattle.std.proofs.Common.{◌≡◌, Bool, true, false, ◌∷◌, refl, sym}
use Rattle.gomp_events.specs.declared.event.Event.{Event}
use Rattle.gomp_events.specs.declared.event.Event.TheVariants.{See}
use Rattle.gomp_events.specs.Cancels.{own_cancelled}
use Rattle.gomp_types.specs.Deals.{schedule}
use Rattle.gomp_events.specs.Laws.{Always}
use Rattle.gomp_types.proofs.Booleans.{not_both}
use Rattle.gomp_shares.specs.Calls.{kind_in, own_turn}
use Rattle.gomp_shares.specs.Only.{own_of}
use Rattle.gomp_shares.specs.Rules.{ShareRule}
use Rattle.gomp_ring.specs.RingSeats.{SeatView, SeatActs, SeatAsks, SeatSees, SeatTriesTurn}

-- Whether a share is cancelled

-- no member that asks is told otherwise than it is
pub no_seat_told_otherwise : (b n : SeatView) (answer : Bool) (asks : SeatAsks b answer n) → (answer ≡ own_cancelled b.member asks.events → ⊥) → ⊥
no_seat_told_otherwise b n answer asks other = other asks.answer_is

-- none asks after a broken rule, or after events that its seat does not know
pub no_seat_asks_after_a_broken_rule : (b n : SeatView) (answer : Bool) (asks : SeatAsks b answer n) → (Always (ShareRule (schedule b.members) b.members) asks.events → ⊥) → ⊥
no_seat_asks_after_a_broken_rule b n answer asks broken = broken asks.rule

pub no_seat_asks_after_unknown_events : (b n : SeatView) (answer : Bool) (asks : SeatAsks b answer n) → (b.did ≡ own_of b.member asks.events → ⊥) → ⊥
no_seat_asks_after_unknown_events b n answer asks unknown = unknown asks.knows

-- and nothing changes
pub no_change_by_a_seat_that_asks : (b n : SeatView) (answer : Bool) → SeatAsks b answer n → (n ≡ b → ⊥) → ⊥
no_change_by_a_seat_that_asks b n answer asks changed = changed asks.same

-- no member sees that its share is cancelled if it is not, or does not see it if it is
pub no_sight_of_no_cancellation : (b n : SeatView) (sees : SeatSees b true n) → own_cancelled b.member sees.events ≡ false → ⊥
no_sight_of_no_cancellation b n sees none = not_both (own_cancelled b.member sees.events) (sym sees.answer_is) none

pub no_cancellation_unseen : (b n : SeatView) (sees : SeatSees b false n) → own_cancelled b.member sees.events ≡ true → ⊥
no_cancellation_unseen b n sees cancelled = not_both (own_cancelled b.member sees.events) cancelled (sym sees.answer_is)

pub no_seat_sees_after_a_broken_rule : (b n : SeatView) (answer : Bool) (sees : SeatSees b answer n) → (Always (ShareRule (schedule b.members) b.members) sees.events → ⊥) → ⊥
no_seat_sees_after_a_broken_rule b n answer sees broken = broken sees.rule

pub no_seat_sees_after_unknown_events : (b n : SeatView) (answer : Bool) (sees : SeatSees b answer n) → (b.did ≡ own_of b.member sees.events → ⊥) → ⊥
no_seat_sees_after_unknown_events b n answer sees unknown = unknown sees.knows

-- no sight is another event, and none leaves the member where it does not leave its share
pub no_sight_of_another_kind : (b n : SeatView) → SeatSees b true n → (n.did ≡ See b.member (kind_in b.seen.current) ∷ b.did → ⊥) → ⊥
no_sight_of_another_kind b n sees other = other (sees.acts refl).did

pub no_sight_without_leaving : (b n : SeatView) → SeatSees b true n → n.seen.leaving ≡ false → ⊥
no_sight_without_leaving b n sees stays = not_both n.seen.leaving (sees.leaves refl) stays

-- and nothing changes if there is none
pub no_change_without_sight : (b n : SeatView) → SeatSees b false n → (n ≡ b → ⊥) → ⊥
no_change_without_sight b n sees changed = changed (sees.same refl)

-- Turns

-- no member does out of turn what is its turn's, or waits while the turn is its
pub no_seat_acts_out_of_turn : (event : Event) (b n : SeatView) (tries : SeatTriesTurn event b true n) → own_turn b.members b.member tries.events ≡ false → ⊥
no_seat_acts_out_of_turn event b n tries none = not_both (own_turn b.members b.member tries.events) (sym tries.answer_is) none

pub no_seat_waits_in_turn : (event : Event) (b n : SeatView) (tries : SeatTriesTurn event b false n) → own_turn b.members b.member tries.events ≡ true → ⊥
no_seat_waits_in_turn event b n tries turn = not_both (own_turn b.members b.member tries.events) turn (sym tries.answer_is)

pub no_seat_tries_after_a_broken_rule : (event : Event) (b n : SeatView) (answer : Bool) (tries : SeatTriesTurn event b answer n) → (Always (ShareRule (schedule b.members) b.members) tries.events → ⊥) → ⊥
no_seat_tries_after_a_broken_rule event b n answer tries broken = broken tries.rule

pub no_seat_tries_after_unknown_events : (event : Event) (b n : SeatView) (answer : Bool) (tries : SeatTriesTurn event b answer n) → (b.did ≡ own_of b.member tries.events → ⊥) → ⊥
no_seat_tries_after_unknown_events event b n answer tries unknown = unknown tries.knows

-- in turn it does this and nothing else
pub no_other_act_in_turn : (event : Event) (b n : SeatView) → SeatTriesTurn event b true n → (SeatActs event b n → ⊥) → ⊥
no_other_act_in_turn event b n tries other = other (tries.acts refl)

-- and out of turn nothing changes
pub no_seat_changes_out_of_turn : (event : Event) (b n : SeatView) → SeatTriesTurn event b false n → (n ≡ b → ⊥) → ⊥
no_seat_changes_out_of_turn event b n tries changed = changed (tries.same refl)
