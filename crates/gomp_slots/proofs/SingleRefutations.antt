-- What no passage through a bare single is: what each clause of what it tells forbids, of any team, member, share, word and views; and who executes the single.
use Rattle.std.proofs.Common.{◌≡◌, ℕ, ◌<◌, Bool, true, false, ◌∷◌, List, Some, None, refl, ap, sym, ◌∙◌, arith}
use Rattle.std.specs.Prelude.{◌==◌}
use Rattle.std.proofs.lemmas.Option.{same_Some, none-some}
use Rattle.gomp_types.specs.declared.shape.Shape.{Shape}
use Rattle.gomp_events.specs.declared.event.Event.{Event}
use Rattle.gomp_events.specs.declared.event.Event.TheVariants.{Enter, Take, Drained, End}
use Rattle.gomp_types.specs.Singles.{single_shape}
use Rattle.gomp_events.specs.Events.{open_share, shape_at, has_room}
use Rattle.gomp_types.specs.Deals.{schedule}
use Rattle.gomp_events.specs.Takes.{next_for}
use Rattle.gomp_events.specs.Laws.{Always}
use Rattle.gomp_types.proofs.Booleans.{same_number, is_equal, not_both, share_is}
use Rattle.gomp_shares.specs.Calls.{taken_of}
use Rattle.gomp_shares.specs.Only.{own_of}
use Rattle.gomp_shares.specs.Rules.{ShareRule, MayTake, HasNone}
use Rattle.gomp_slots.specs.declared.opening.Delay.TheVariants.{NoRoom, BeingOpened}
use Rattle.gomp_slots.specs.declared.singles.Passage.TheVariants.{Passed, NotYet, Differs}
use Rattle.gomp_slots.specs.declared.view.View.{View}
use Rattle.gomp_slots.specs.Rule.{stands_for}
use Rattle.gomp_slots.specs.Calls.{single_piece, events_through, GoesThrough, TriesSingle, PassesNext}
use Rattle.gomp_slots.proofs.History.{next_in_line}
use Rattle.gomp_slots.proofs.SlotShares.{none_not_some}
use Rattle.gomp_slots.proofs.SingleSteps.{piece_of_single}

-- The events of a passage

-- the executor takes the one piece, and for the others none is left
pub piece_of_an_executor : single_piece true ≡ Some (0, 1)
piece_of_an_executor = refl

pub no_piece_of_an_onlooker : single_piece false ≡ None
no_piece_of_an_onlooker = refl

pub events_of_an_executor : (i m : ℕ) (h : List Event) → events_through true i m h ≡ End i m ∷ Take i m 0 1 ∷ Enter i m (single_shape false) ∷ h
events_of_an_executor i m h = refl

pub events_of_an_onlooker : (i m : ℕ) (h : List Event) → events_through false i m h ≡ End i m ∷ Drained i m ∷ Enter i m (single_shape false) ∷ h
events_of_an_onlooker i m h = refl

-- by the rule a member executes the single just if nobody took its piece before
has_piece : (b : Bool) (low high : ℕ) → single_piece b ≡ Some (low, high) → b ≡ true
has_piece true low high e = refl
has_piece false low high e = absurd (none-some (low, high) e)

has_none : (b : Bool) → single_piece b ≡ None → b ≡ false
has_none true e = absurd (none-some (0, 1) (sym e))
has_none false e = refl

in_single : (i m : ℕ) (shape : Shape) (h : List Event) → open_share m (Enter i m (single_shape false) ∷ h) ≡ Some (i, shape) → single_shape false ≡ shape
in_single i m shape h inside =
    let own : open_share m (Enter i m (single_shape false) ∷ h) ≡ Some (i, single_shape false) = rw (same_number m) refl in
    (share_is i i (single_shape false) shape (sym own ∙ inside)).1

pub first_one_executes : (members m i : ℕ) (executes : Bool) (h : List Event) → Always (ShareRule (schedule members) members) (events_through executes i m h) → (taken_of i h == 0) ≡ executes
first_one_executes members m i true h all =
    let may : MayTake (schedule members) i m 0 1 (Enter i m (single_shape false) ∷ h) = all.1.0 in
    let next : next_for (schedule members) (single_shape false) i m (Enter i m (single_shape false) ∷ h) ≡ Some (0, 1) = ap (λ (s : Shape). next_for (schedule members) s i m (Enter i m (single_shape false) ∷ h)) (in_single i m may.shape h may.inside) ∙ may.next in
    has_piece (taken_of i h == 0) 0 1 (sym (piece_of_single members (taken_of i h)) ∙ sym (next_in_line members m i (single_shape false) (Enter i m (single_shape false) ∷ h) refl) ∙ next)
first_one_executes members m i false h all =
    let may : HasNone (schedule members) i m (Enter i m (single_shape false) ∷ h) = all.1.0 in
    let next : next_for (schedule members) (single_shape false) i m (Enter i m (single_shape false) ∷ h) ≡ None = ap (λ (s : Shape). next_for (schedule members) s i m (Enter i m (single_shape false) ∷ h)) (in_single i m may.shape h may.inside) ∙ may.none in
    has_none (taken_of i h == 0) (sym (piece_of_single members (taken_of i h)) ∙ sym (next_in_line members m i (single_shape false) (Enter i m (single_shape false) ∷ h) refl) ∙ next)

-- What a passage tells

-- no passage is against the rule, or after events that the seat does not know
pub no_passage_against_the_rule : (members m i : ℕ) (executes : Bool) (v w : View) (goes : GoesThrough members m i executes v w) → (Always (ShareRule (schedule members) members) (events_through executes i m goes.events) → ⊥) → ⊥
no_passage_against_the_rule members m i executes v w goes broken = broken goes.rule

pub no_passage_after_unknown_events : (members m i n : ℕ) (executes : Bool) (v w : View) (goes : GoesThrough members m i executes v w) → stands_for v n ≡ true → (own_of n v.did ≡ own_of n goes.events → ⊥) → ⊥
no_passage_after_unknown_events members m i n executes v w goes stands unknown = unknown (goes.knows.own n stands)

pub no_passage_unknown_to_the_only_seat : (members m i : ℕ) (executes : Bool) (v w : View) (goes : GoesThrough members m i executes v w) → v.alone ≡ true → (v.did ≡ goes.events → ⊥) → ⊥
no_passage_unknown_to_the_only_seat members m i executes v w goes alone unknown = unknown (goes.knows.all alone)

-- none is forgotten, and by none the seat acts for others, is no more the only one, or opens a share
pub no_passage_is_forgotten : (members m i : ℕ) (executes : Bool) (v w : View) → GoesThrough members m i executes v w → (w.did ≡ events_through executes i m v.did → ⊥) → ⊥
no_passage_is_forgotten members m i executes v w goes forgotten = forgotten goes.after.did_is

pub no_passage_for_other_members : (members m i : ℕ) (executes : Bool) (v w : View) → GoesThrough members m i executes v w → (w.mine ≡ v.mine → ⊥) → ⊥
no_passage_for_other_members members m i executes v w goes others = others goes.after.mine

pub no_passage_beside_another_seat : (members m i : ℕ) (executes : Bool) (v w : View) → GoesThrough members m i executes v w → (w.alone ≡ v.alone → ⊥) → ⊥
no_passage_beside_another_seat members m i executes v w goes other = other goes.after.alone

pub no_passage_that_opens : (members m i : ℕ) (executes : Bool) (v w : View) → GoesThrough members m i executes v w → (w.opening ≡ None → ⊥) → ⊥
no_passage_that_opens members m i executes v w goes opens = opens goes.after.idle

-- no single is executed twice, and none by nobody
pub single_never_executed_twice : (members m i : ℕ) (v w : View) (goes : GoesThrough members m i true v w) → 0 < taken_of i goes.events → ⊥
single_never_executed_twice members m i v w goes taken = let none : taken_of i goes.events ≡ 0 = is_equal (taken_of i goes.events) 0 (first_one_executes members m i true goes.events goes.rule) in omega arith

pub no_onlooker_of_an_unexecuted_single : (members m i : ℕ) (v w : View) (goes : GoesThrough members m i false v w) → taken_of i goes.events ≡ 0 → ⊥
no_onlooker_of_an_unexecuted_single members m i v w goes none = not_both (taken_of i goes.events == 0) (ap (λ (n : ℕ). n == 0) none) (first_one_executes members m i false goes.events goes.rule)

-- no member goes through a share of another shape, or one without room
pub no_passage_through_another_share : (members m i : ℕ) (executes : Bool) (other : Shape) (v w : View) (goes : GoesThrough members m i executes v w) → shape_at i goes.events ≡ Some other → (other ≡ single_shape false → ⊥) → ⊥
no_passage_through_another_share members m i executes other v w goes there differs = differs (goes.rule.1.1.0.same other there)

pub no_passage_without_room : (members m i : ℕ) (executes : Bool) (v w : View) (goes : GoesThrough members m i executes v w) → has_room members i goes.events ≡ false → ⊥
no_passage_without_room members m i executes v w goes full = not_both (has_room members i goes.events) goes.rule.1.1.0.room full

-- What an exchange tells

pub no_won_exchange_without_a_passage : (members m i word found : ℕ) (v w : View) → TriesSingle (record { members = members; m = m }) i word v found w → (found == word) ≡ true → (GoesThrough members m i true v w → ⊥) → ⊥
no_won_exchange_without_a_passage members m i word found v w tries won other = other (tries.won won)

pub no_lost_exchange_with_a_change : (members m i word found : ℕ) (v w : View) → TriesSingle (record { members = members; m = m }) i word v found w → (found == word) ≡ false → (w ≡ v → ⊥) → ⊥
no_lost_exchange_with_a_change members m i word found v w tries lost changed = changed (tries.lost lost)

-- What the answer tells

pub no_passage_answered_without_one : (members m i : ℕ) (executes : Bool) (v w : View) → PassesNext members m i (Passed executes) v w → (GoesThrough members m i executes v w → ⊥) → ⊥
no_passage_answered_without_one members m i executes v w passes other = other passes

-- no member waits for a single that others have entered, or for room where there is some, and the only seat for no other
pub no_single_waited_for_that_is_entered : (members m i : ℕ) (other : Shape) (v w : View) (passes : PassesNext members m i (NotYet NoRoom) v w) → shape_at i passes.0.events ≡ Some other → ⊥
no_single_waited_for_that_is_entered members m i other v w passes there = none_not_some (shape_at i passes.0.events) other passes.0.none there

pub no_single_waited_for_with_room : (members m i : ℕ) (v w : View) (passes : PassesNext members m i (NotYet NoRoom) v w) → has_room members i passes.0.events ≡ true → ⊥
no_single_waited_for_with_room members m i v w passes room = not_both (has_room members i passes.0.events) room passes.0.room_is

pub no_single_opened_that_is_entered : (members m i : ℕ) (other : Shape) (v w : View) (passes : PassesNext members m i (NotYet BeingOpened) v w) → shape_at i passes.0.events ≡ Some other → ⊥
no_single_opened_that_is_entered members m i other v w passes there = none_not_some (shape_at i passes.0.events) other passes.0.none there

pub no_single_opened_without_room : (members m i : ℕ) (v w : View) (passes : PassesNext members m i (NotYet BeingOpened) v w) → has_room members i passes.0.events ≡ false → ⊥
no_single_opened_without_room members m i v w passes full = not_both (has_room members i passes.0.events) passes.0.room_is full

pub no_single_opened_beside_the_only_seat : (members m i : ℕ) (v w : View) → PassesNext members m i (NotYet BeingOpened) v w → v.alone ≡ true → ⊥
no_single_opened_beside_the_only_seat members m i v w passes alone = not_both v.alone alone passes.1

-- none is told of another share where nobody has entered one, or a single has been entered
pub no_single_unlike_an_unentered_share : (members m i : ℕ) (v w : View) (passes : PassesNext members m i Differs v w) → shape_at i passes.0.events ≡ None → ⊥
no_single_unlike_an_unentered_share members m i v w passes none = none_not_some (shape_at i passes.0.events) passes.0.other none passes.0.other_is

pub no_single_unlike_a_single : (members m i : ℕ) (v w : View) (passes : PassesNext members m i Differs v w) → shape_at i passes.0.events ≡ Some (single_shape false) → ⊥
no_single_unlike_a_single members m i v w passes there = passes.0.differs (same_Some passes.0.other (single_shape false) (sym passes.0.other_is ∙ there))

-- and nothing changes but by a passage
pub no_change_without_room_for_a_single : (members m i : ℕ) (v w : View) → PassesNext members m i (NotYet NoRoom) v w → (w ≡ v → ⊥) → ⊥
no_change_without_room_for_a_single members m i v w passes changed = changed passes.1

pub no_change_beside_an_opener_of_a_single : (members m i : ℕ) (v w : View) → PassesNext members m i (NotYet BeingOpened) v w → (w ≡ v → ⊥) → ⊥
no_change_beside_an_opener_of_a_single members m i v w passes changed = changed passes.2

pub no_event_at_another_share : (members m i : ℕ) (v w : View) (passes : PassesNext members m i Differs v w) → (w.did ≡ v.did → ⊥) → ⊥
no_event_at_another_share members m i v w passes changed = changed passes.1.did_is
