-- What no call of a seat tells: what each clause of what it tells forbids, of any team, member, share, shape, event and views.
use Rattle.std.proofs.Common.{◌≡◌, ℕ, Bool, true, false, ◌∷◌, Some, None, ap, sym, ◌∙◌}
use Rattle.std.proofs.lemmas.Option.{same_Some}
use Rattle.gomp_types.specs.declared.shape.Shape.{Shape}
use Rattle.gomp_events.specs.declared.event.Event.{Event}
use Rattle.gomp_events.specs.Events.{open_share, shape_at, has_room}
use Rattle.gomp_events.specs.Cancels.{share_cancelled}
use Rattle.gomp_types.specs.Deals.{schedule}
use Rattle.gomp_events.specs.Laws.{Always}
use Rattle.gomp_types.proofs.Booleans.{not_both}
use Rattle.gomp_shares.specs.Calls.{own_turn}
use Rattle.gomp_shares.specs.Only.{own_of}
use Rattle.gomp_shares.specs.Rules.{ShareRule}
use Rattle.gomp_gate.specs.Gates.{holds_share, is_free_for, phase_of, phase_for}
use Rattle.gomp_slots.specs.declared.opening.Delay.TheVariants.{NoRoom, BeingOpened}
use Rattle.gomp_slots.specs.declared.opening.Entry.TheVariants.{Entered, NotYet, Differs}
use Rattle.gomp_slots.specs.declared.view.View.{View}
use Rattle.gomp_slots.specs.Words.{tickets}
use Rattle.gomp_slots.specs.Rule.{stands_for}
use Rattle.gomp_slots.specs.Calls.{Acts, ClaimsTicket, SeesShareCancelled, AsksShareCancelled, TriesTurn, LooksAtSlot, IsNotEntered, IsInAnotherShape, OpensNext, Settles}
use Rattle.gomp_slots.proofs.SlotShares.{none_not_some}

-- What a member does

-- no event against the rule, and none after events that broke it
pub no_act_against_the_rule : (members : ℕ) (event : Event) (v w : View) (acts : Acts members event v w) → (ShareRule (schedule members) members event acts.events → ⊥) → ⊥
no_act_against_the_rule members event v w acts broken = broken acts.rule.0

pub no_act_after_a_broken_rule : (members : ℕ) (event : Event) (v w : View) (acts : Acts members event v w) → (Always (ShareRule (schedule members) members) acts.events → ⊥) → ⊥
no_act_after_a_broken_rule members event v w acts broken = broken acts.rule.1

-- none after other events of a member of the seat than the seat knows
pub no_act_after_unknown_events : (members m : ℕ) (event : Event) (v w : View) (acts : Acts members event v w) → stands_for v m ≡ true → (own_of m v.did ≡ own_of m acts.events → ⊥) → ⊥
no_act_after_unknown_events members m event v w acts stands unknown = unknown (acts.knows.own m stands)

pub no_act_unknown_to_the_only_seat : (members : ℕ) (event : Event) (v w : View) (acts : Acts members event v w) → v.alone ≡ true → (v.did ≡ acts.events → ⊥) → ⊥
no_act_unknown_to_the_only_seat members event v w acts alone unknown = unknown (acts.knows.all alone)

-- none that the seat does not know then, or by which it acts for others
pub no_act_is_forgotten : (members : ℕ) (event : Event) (v w : View) → Acts members event v w → (w.did ≡ event ∷ v.did → ⊥) → ⊥
no_act_is_forgotten members event v w acts forgotten = forgotten (ap (λ (z : View). z.did) acts.after)

pub no_act_for_other_members : (members : ℕ) (event : Event) (v w : View) → Acts members event v w → (w.mine ≡ v.mine → ⊥) → ⊥
no_act_for_other_members members event v w acts others = others (ap (λ (z : View). z.mine) acts.after)

-- Claims

-- no claim has another ticket than the number of the claims before it
pub no_ticket_of_another_claim : (members m i found : ℕ) (shape : Shape) (v w : View) (claims : ClaimsTicket members m i found v w) → open_share m v.did ≡ Some (i, shape) → (found ≡ tickets members i shape.kind claims.acts.events → ⊥) → ⊥
no_ticket_of_another_claim members m i found shape v w claims inside wrong = wrong (claims.ticket shape inside)

-- Cancellation

-- no share is seen as cancelled, or answered to be, that is not, and none that is as not cancelled
pub no_wrong_sight : (members m i : ℕ) (v w : View) (answer : Bool) (sees : SeesShareCancelled members m i v answer w) → (answer ≡ share_cancelled i sees.events → ⊥) → ⊥
no_wrong_sight members m i v w answer sees wrong = wrong sees.answer_is

pub no_wrong_answer_of_cancellation : (members i : ℕ) (v w : View) (answer : Bool) (asks : AsksShareCancelled members i v answer w) → (answer ≡ share_cancelled i asks.events → ⊥) → ⊥
no_wrong_answer_of_cancellation members i v w answer asks wrong = wrong asks.answer_is

-- and nothing changes if it is not seen, or only asked
pub no_change_unseen : (members m i : ℕ) (v w : View) → SeesShareCancelled members m i v false w → (w ≡ v → ⊥) → ⊥
no_change_unseen members m i v w sees changed = changed (sees.unseen (λ k. false))

pub no_change_by_asking : (members i : ℕ) (v w : View) (answer : Bool) → AsksShareCancelled members i v answer w → (w ≡ v → ⊥) → ⊥
no_change_by_asking members i v w answer asks changed = changed asks.after

-- Turns

-- no member acts out of turn, and none waits whose turn it is
pub no_act_out_of_turn : (members m : ℕ) (event : Event) (v w : View) (tries : TriesTurn members m event v true w) → own_turn members m tries.events ≡ false → ⊥
no_act_out_of_turn members m event v w tries other = not_both true (λ k. true) (tries.answer_is ∙ other)

pub no_wait_in_turn : (members m : ℕ) (event : Event) (v w : View) (tries : TriesTurn members m event v false w) → own_turn members m tries.events ≡ true → ⊥
no_wait_in_turn members m event v w tries own = not_both true (λ k. true) (sym (tries.answer_is ∙ own))

pub no_change_out_of_turn : (members m : ℕ) (event : Event) (v w : View) → TriesTurn members m event v false w → (w ≡ v → ⊥) → ⊥
no_change_out_of_turn members m event v w tries changed = changed (tries.waits (λ k. false))

-- The slot of the next share

-- no slot shows a share that nobody has entered, and none hides one
pub no_share_shown_unentered : (members i found : ℕ) (v w : View) (looks : LooksAtSlot members i v found w) → holds_share i found ≡ true → shape_at i looks.events ≡ None → ⊥
no_share_shown_unentered members i found v w looks shows none = let there = looks.there shows in none_not_some (shape_at i looks.events) there.0 none there.1

pub no_share_hidden : (members i found : ℕ) (shape : Shape) (v w : View) (looks : LooksAtSlot members i v found w) → holds_share i found ≡ false → shape_at i looks.events ≡ Some shape → ⊥
no_share_hidden members i found shape v w looks hides there = none_not_some (shape_at i looks.events) shape (looks.absent hides).0 there

-- none is free for a share that has no room
pub no_free_slot_without_room : (members i found : ℕ) (v w : View) (looks : LooksAtSlot members i v found w) → holds_share i found ≡ false → is_free_for members i found ≡ true → has_room members i looks.events ≡ false → ⊥
no_free_slot_without_room members i found v w looks hides is_free full = not_both (has_room members i looks.events) (looks.free hides is_free) full

-- Opening

-- no member enters a share in another shape than those before it, or one that has no room
pub no_opening_in_another_shape : (members m i : ℕ) (shape other : Shape) (v w : View) (opens : OpensNext (record { members = members; m = m }) i shape Entered v w) → shape_at i opens.0 ≡ Some other → (other ≡ shape → ⊥) → ⊥
no_opening_in_another_shape members m i shape other v w opens there differs = differs (opens.2.0.same other there)

pub no_opening_of_a_full_slot : (members m i : ℕ) (shape : Shape) (v w : View) (opens : OpensNext (record { members = members; m = m }) i shape Entered v w) → has_room members i opens.0 ≡ false → ⊥
no_opening_of_a_full_slot members m i shape v w opens full = not_both (has_room members i opens.0) opens.2.0.room full

-- none waits for a share that others have entered, none for room where there is some, and the only seat for no other
pub no_wait_for_an_entered_share : (members m i : ℕ) (shape other : Shape) (v w : View) (opens : OpensNext (record { members = members; m = m }) i shape (NotYet NoRoom) v w) → shape_at i opens.0.events ≡ Some other → ⊥
no_wait_for_an_entered_share members m i shape other v w opens there = none_not_some (shape_at i opens.0.events) other opens.0.none there

pub no_wait_for_room_that_is_there : (members m i : ℕ) (shape : Shape) (v w : View) (opens : OpensNext (record { members = members; m = m }) i shape (NotYet NoRoom) v w) → has_room members i opens.0.events ≡ true → ⊥
no_wait_for_room_that_is_there members m i shape v w opens room = not_both (has_room members i opens.0.events) room opens.0.room_is

pub no_wait_for_an_opened_share : (members m i : ℕ) (shape other : Shape) (v w : View) (opens : OpensNext (record { members = members; m = m }) i shape (NotYet BeingOpened) v w) → shape_at i opens.0.events ≡ Some other → ⊥
no_wait_for_an_opened_share members m i shape other v w opens there = none_not_some (shape_at i opens.0.events) other opens.0.none there

pub no_opener_without_room : (members m i : ℕ) (shape : Shape) (v w : View) (opens : OpensNext (record { members = members; m = m }) i shape (NotYet BeingOpened) v w) → has_room members i opens.0.events ≡ false → ⊥
no_opener_without_room members m i shape v w opens full = not_both (has_room members i opens.0.events) opens.0.room_is full

pub no_opener_beside_the_only_seat : (members m i : ℕ) (shape : Shape) (v w : View) → OpensNext (record { members = members; m = m }) i shape (NotYet BeingOpened) v w → v.alone ≡ true → ⊥
no_opener_beside_the_only_seat members m i shape v w opens alone = not_both v.alone alone opens.1

-- none is told that a share differs which nobody has entered, or which has its shape
pub no_difference_of_an_unentered_share : (members m i : ℕ) (shape : Shape) (v w : View) (opens : OpensNext (record { members = members; m = m }) i shape Differs v w) → shape_at i opens.0.events ≡ None → ⊥
no_difference_of_an_unentered_share members m i shape v w opens none = none_not_some (shape_at i opens.0.events) opens.0.other none opens.0.other_is

pub no_difference_of_one_shape : (members m i : ℕ) (shape : Shape) (v w : View) (opens : OpensNext (record { members = members; m = m }) i shape Differs v w) → shape_at i opens.0.events ≡ Some shape → ⊥
no_difference_of_one_shape members m i shape v w opens there = opens.0.differs (same_Some opens.0.other shape (sym opens.0.other_is ∙ there))

-- no answer is given of events that broke the rule, or of which the seat did not know its part
pub no_wait_after_a_broken_rule : (members i : ℕ) (room : Bool) (v : View) (waits : IsNotEntered members i room v) → (Always (ShareRule (schedule members) members) waits.events → ⊥) → ⊥
no_wait_after_a_broken_rule members i room v waits broken = broken waits.rule

pub no_wait_after_unknown_events : (members m i : ℕ) (room : Bool) (v : View) (waits : IsNotEntered members i room v) → stands_for v m ≡ true → (own_of m v.did ≡ own_of m waits.events → ⊥) → ⊥
no_wait_after_unknown_events members m i room v waits stands unknown = unknown (waits.knows.own m stands)

pub no_difference_after_a_broken_rule : (members i : ℕ) (shape : Shape) (v : View) (apart : IsInAnotherShape members i shape v) → (Always (ShareRule (schedule members) members) apart.events → ⊥) → ⊥
no_difference_after_a_broken_rule members i shape v apart broken = broken apart.rule

pub no_difference_after_unknown_events : (members m i : ℕ) (shape : Shape) (v : View) (apart : IsInAnotherShape members i shape v) → stands_for v m ≡ true → (own_of m v.did ≡ own_of m apart.events → ⊥) → ⊥
no_difference_after_unknown_events members m i shape v apart stands unknown = unknown (apart.knows.own m stands)

-- and no answer but an entry changes what the members did
pub no_change_of_a_wait_for_room : (members m i : ℕ) (shape : Shape) (v w : View) → OpensNext (record { members = members; m = m }) i shape (NotYet NoRoom) v w → (w ≡ v → ⊥) → ⊥
no_change_of_a_wait_for_room members m i shape v w opens changed = changed opens.1

pub no_change_of_a_wait_for_an_opener : (members m i : ℕ) (shape : Shape) (v w : View) → OpensNext (record { members = members; m = m }) i shape (NotYet BeingOpened) v w → (w ≡ v → ⊥) → ⊥
no_change_of_a_wait_for_an_opener members m i shape v w opens changed = changed opens.2

pub no_event_of_a_difference : (members m i : ℕ) (shape : Shape) (v w : View) (opens : OpensNext (record { members = members; m = m }) i shape Differs v w) → (w.did ≡ v.did → ⊥) → ⊥
no_event_of_a_difference members m i shape v w opens changed = changed opens.1.did_is

-- no look at a slot is told of events that broke the rule, and no slot is taken for a share that has no room
pub no_look_after_a_broken_rule : (members i found : ℕ) (v w : View) (looks : LooksAtSlot members i v found w) → (Always (ShareRule (schedule members) members) looks.events → ⊥) → ⊥
no_look_after_a_broken_rule members i found v w looks broken = broken looks.rule

pub no_slot_taken_without_room : (members i found : ℕ) (v w : View) (looks : LooksAtSlot members i v found w) → holds_share i found ≡ false → phase_of found ≡ 1 → has_room members i looks.events ≡ false → ⊥
no_slot_taken_without_room members i found v w looks hides taken full = not_both (has_room members i looks.events) (looks.opening hides taken) full

-- a slot has no bare single whose gate tells of another share, and no other share whose gate tells of a bare single
pub no_look_at_the_phase_of_another_shape : (members i found : ℕ) (v w : View) (looks : LooksAtSlot members i v found w) → holds_share i found ≡ true → ((shape : Shape) → shape_at i looks.events ≡ Some shape → phase_of found ≡ phase_for shape → ⊥) → ⊥
no_look_at_the_phase_of_another_shape members i found v w looks here other = let there = looks.there here in other there.0 there.1 there.3

-- The end

-- no events settled that broke the rule, or that the seat does not know
pub nothing_settled_against_the_rule : (members : ℕ) (v : View) (settled : Settles members v) → (Always (ShareRule (schedule members) members) settled.events → ⊥) → ⊥
nothing_settled_against_the_rule members v settled broken = broken settled.rule

pub nothing_settled_unknown : (members m : ℕ) (v : View) (settled : Settles members v) → stands_for v m ≡ true → (own_of m v.did ≡ own_of m settled.events → ⊥) → ⊥
nothing_settled_unknown members m v settled stands unknown = unknown (settled.knows.own m stands)
