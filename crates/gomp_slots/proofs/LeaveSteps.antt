-- The steps by which a member leaves its share, cancels it, and sees or asks whether it is cancelled.
use Rattle.std.proofs.Common.{◌≡◌, ◌≢◌, ℕ, ◌+◌, ◌%◌, ◌^◌, ◌<◌, Bool, true, false, List, ◌∷◌, set, Option, Some, None, inl, inr, refl, ap, sym, ◌∙◌, subst, arith, slice_index, bit_or}
use Rattle.std.specs.Prelude.{◌==◌}
use Rattle.std.proofs.lemmas.Bool.{cases_Bool}
use Rattle.std.proofs.lemmas.Bool.Decides.{same_from_decides, Decides-eqb}
use Rattle.atomic_table.specs.Table.{Me, Act, Step, keeps, stepped, Allows, Valid, carried_after}
use Rattle.gomp_types.specs.declared.shape.Shape.{Shape}
use Rattle.gomp_events.specs.declared.event.Event.{Event}
use Rattle.gomp_events.specs.declared.event.Event.TheVariants.{End, Cancel, See}
use Rattle.gomp_types.specs.declared.cancel.Scope.TheVariants.{OneShare}
use Rattle.gomp_events.specs.Events.{open_share, open_number, share_number, has_ended, in_kind}
use Rattle.gomp_events.specs.Cancels.{share_cancelled, may_be_cancelled, own_cancelled, inside_cancelled}
use Rattle.gomp_types.specs.Deals.{schedule}
use Rattle.gomp_events.specs.Seen.{seen_of}
use Rattle.gomp_events.specs.declared.seen.Seen.{Seen}
use Rattle.gomp_types.specs.Shapes.{is_sections}
use Rattle.gomp_types.proofs.Booleans.{same_number, other_number, not_both}
use Rattle.gomp_shares.specs.Calls.{CanLeave, in_construct, kind_in}
use Rattle.gomp_shares.specs.Rules.{ShareRule, MayLeaveShare}
use Rattle.gomp_shares.specs.Only.{shares_only}
use Rattle.gomp_shares.proofs.SharesKeep.{not_ended}
use Rattle.gomp_shares.proofs.AnswerRules.{leave_rule, cancel_rule}
use Rattle.gomp_shares.proofs.CancelledShares.{see_rule}
use Rattle.gomp_gate.specs.Gates.{round_for, gate_word, cancelled_of, phase_for, is_bare_single}
use Rattle.gomp_gate.specs.Shapes.{bit_of}
use Rattle.gomp_gate.proofs.Gates.{leave_word, cancel_word}
use Rattle.gomp_slots.specs.declared.view.TeamSize.{TeamSize}
use Rattle.gomp_slots.specs.declared.view.View.{View}
use Rattle.gomp_slots.specs.Words.{gate_at, tickets, left_count, gate_of, BusySlot, IsCurrent, IsTable}
use Rattle.gomp_slots.specs.Rule.{IsTeam, stands_for, Knows, IsRing, IsKept}
use Rattle.gomp_slots.specs.Premises.{IsInShare}
use Rattle.gomp_slots.specs.Plays.{LeaveStep, CancelStep, SeeStep, AskStep}
use Rattle.gomp_slots.proofs.Counts.{bit_most, count_most, count_one_more, count_room}
use Rattle.gomp_slots.proofs.SlotShares.{few_tickets, gate_is}
use Rattle.gomp_slots.proofs.WordSteps.{seat_sees, inside_is_current, ring_still, ring_gate, ring_of_size, kept_still, kept_acted}
use Rattle.gomp_gate.proofs.Shapes.{phase_open}
use lib.ListN.{get_elem?}
use mathlib.Core.Option.{some}

-- Gates

left_more : (members i m : ℕ) (h : List Event) → m < members → has_ended i m h ≡ false → left_count members i (End i m ∷ h) ≡ left_count members i h + 1
left_more members i m h lt was =
    count_one_more members m (λ k. has_ended i k h) (λ k. has_ended i k (End i m ∷ h)) lt was (rw (same_number i, same_number m) refl) (λ k other. rw (same_number i, other_number m k (λ e. other (sym e))) refl)

gate_left_else : (members i m j : ℕ) (shape : Shape) (h : List Event) → j ≢ i → gate_of members j shape (End i m ∷ h) ≡ gate_of members j shape h
gate_left_else members i m j shape h other = rw (other_number i j (λ e. other (sym e))) refl

gate_cancelled_else : (members i m j : ℕ) (shape : Shape) (h : List Event) → j ≢ i → gate_of members j shape (Cancel m (OneShare i) ∷ h) ≡ gate_of members j shape h
gate_cancelled_else members i m j shape h other = rw (other_number i j (λ e. other (sym e))) refl

-- Leaving

left_word : (members i m : ℕ) (shape : Shape) (words : List ℕ) (h : List Event) (busy : Option BusySlot) → IsTeam members h → IsTable members words h busy → IsCurrent i shape h busy → m < members → has_ended i m h ≡ false →
    (slice_index words (gate_at i) + 2 ^ 40) % 2 ^ 64 ≡ gate_of members i shape (End i m ∷ h)
left_word members i m shape words h busy team table now lt was =
    let few = few_tickets members i shape h team now.shape_is in
    let below = count_room members m (λ k. has_ended i k h) lt was in
    let size = team.few_members in
    let bit = bit_most (share_cancelled i h) in
    ap (λ (n : ℕ). (n + 2 ^ 40) % 2 ^ 64) (table.gates i shape now)
    ∙ leave_word (phase_for shape) (round_for i) (tickets members i shape.kind h) (left_count members i h) (bit_of (share_cancelled i h)) (phase_open (is_bare_single shape)).1 (omega arith) (omega arith) (omega arith) (omega arith)
    ∙ ap (λ (n : ℕ). gate_word (phase_for shape) (round_for i) (tickets members i shape.kind h) n (bit_of (share_cancelled i h))) (sym (left_more members i m h lt was))

pub leave_ring : (members id m i : ℕ) (shape : Shape) (words : List ℕ) (views : List View) (v : View) (h : List Event) (busy : Option BusySlot) → IsRing members words views h busy → get_elem? views id ≡ some v → stands_for v m ≡ true → m < members → open_share m h ≡ Some (i, shape) → MayLeaveShare (schedule members) i m h →
    IsRing members (set words (gate_at i) ((slice_index words (gate_at i) + 2 ^ 40) % 2 ^ 64)) (set views id (record v { did = End i m ∷ v.did; found = None })) (End i m ∷ h) busy
leave_ring members id m i shape words views v h busy ring at stands lt inside may =
    let now = inside_is_current members m i shape words views h busy ring inside in
    ring_gate members id m i ((slice_index words (gate_at i) + 2 ^ 40) % 2 ^ 64) shape (End i m) words views v h busy ring at stands (record { who = refl; rule = may; once = tt; own = refl; shapes = λ j. refl }) inside
    (λ j s other. gate_left_else members i m j s h other) (λ j. refl) (left_word members i m shape words h busy ring.team ring.table now lt (not_ended (schedule members) members m i shape h ring.team.rule inside))

pub leave_allowed : (members id m i slots : ℕ) (me : Me Shape View) (team : TeamSize) (st : Step Shape) → team.members ≡ members → IsInShare members m i me.0 → CanLeave members m (seen_of m me.0.did) →
    Allows (IsKept team) slots id me (gate_at i) (λ n. (n + 0x10000000000) % 2 ^ 64) (LeaveStep members m i st me)
leave_allowed members id m i slots me team st same standing can s kept homes at bound =
    let v : View = me.0 in
    let h : List Event = kept.events in
    let ring : IsRing members s.words s.views h kept.busy = subst (λ (n : ℕ). IsRing n s.words s.views h kept.busy) same kept.ring in
    let mine : Knows v h = ring.seats.knows id v at in
    let is : seen_of m v.did ≡ seen_of m h = seat_sees m v h mine standing.stands in
    let inside : open_share m h ≡ Some (i, standing.shape) = sym (ap (λ (x : Seen). x.current) is) ∙ standing.inside in
    let number : open_number m h ≡ i = ap share_number inside in
    let may : MayLeaveShare (schedule members) i m h = subst (λ (n : ℕ). MayLeaveShare (schedule members) n m h) number (leave_rule members m h ring.team.rule (subst (CanLeave members m) is can)) in
    let next = leave_ring members id m i standing.shape s.words s.views v h kept.busy ring at standing.stands standing.member inside may in (
      record v { did = End i m ∷ v.did; found = None },
      keeps,
      tt,
      record { events = End i m ∷ h; busy = kept.busy; ring = subst (λ (n : ℕ). IsRing n (set s.words (gate_at i) ((slice_index s.words (gate_at i) + 2 ^ 40) % 2 ^ 64)) (set s.views id (record v { did = End i m ∷ v.did; found = None })) (End i m ∷ h) kept.busy) (sym same) next },
      (record { events = h; knows = mine; rule = next.team.rule; after = refl }, refl),
    )

-- Cancelling

cancelled_word : (members i m : ℕ) (shape : Shape) (words : List ℕ) (h : List Event) (busy : Option BusySlot) → IsTeam members h → IsTable members words h busy → IsCurrent i shape h busy →
    bit_or (slice_index words (gate_at i)) 0x800000000000 ≡ gate_of members i shape (Cancel m (OneShare i) ∷ h)
cancelled_word members i m shape words h busy team table now =
    let few = few_tickets members i shape h team now.shape_is in
    let most = count_most members (λ k. has_ended i k h) in
    let size = team.few_members in
    let bit = bit_most (share_cancelled i h) in
    let on : share_cancelled i (Cancel m (OneShare i) ∷ h) ≡ true = rw (same_number i) refl in
    ap (λ (n : ℕ). bit_or n 0x800000000000) (table.gates i shape now)
    ∙ cancel_word (phase_for shape) (round_for i) (tickets members i shape.kind h) (left_count members i h) (bit_of (share_cancelled i h)) (phase_open (is_bare_single shape)).1 (omega arith) (omega arith) (omega arith)
    ∙ ap (λ (b : Bool). gate_word (phase_for shape) (round_for i) (tickets members i shape.kind h) (left_count members i h) (bit_of b)) (sym on)

pub cancel_allowed : (members id m i slots : ℕ) (me : Me Shape View) (team : TeamSize) (st : Step Shape) → team.members ≡ members → IsInShare members m i me.0 → may_be_cancelled (open_share m me.0.did) ≡ true →
    Allows (IsKept team) slots id me (gate_at i) (λ n. bit_or n 0x800000000000) (CancelStep members m i st me)
cancel_allowed members id m i slots me team st same standing can s kept homes at bound =
    let v : View = me.0 in
    let h : List Event = kept.events in
    let ring : IsRing members s.words s.views h kept.busy = subst (λ (n : ℕ). IsRing n s.words s.views h kept.busy) same kept.ring in
    let mine : Knows v h = ring.seats.knows id v at in
    let is : seen_of m v.did ≡ seen_of m h = seat_sees m v h mine standing.stands in
    let inside : open_share m h ≡ Some (i, standing.shape) = sym (ap (λ (x : Seen). x.current) is) ∙ standing.inside in
    let now = inside_is_current members m i standing.shape s.words s.views h kept.busy ring inside in
    let number : open_number m h ≡ i = ap share_number inside in
    let may = subst (λ (n : ℕ). ShareRule (schedule members) members (Cancel m (OneShare n)) h) number (cancel_rule m h (ap may_be_cancelled (sym (ap (λ (x : Seen). x.current) is)) ∙ can)) in
    let next = ring_gate members id m i (bit_or (slice_index s.words (gate_at i)) 0x800000000000) standing.shape (Cancel m (OneShare i)) s.words s.views v h kept.busy ring at standing.stands (record { who = refl; rule = may; once = tt; own = refl; shapes = λ j. refl }) inside
    (λ j s other. gate_cancelled_else members i m j s h other) (λ j. refl) (cancelled_word members i m standing.shape s.words h kept.busy ring.team ring.table now) in (
      record v { did = Cancel m (OneShare i) ∷ v.did; found = None },
      keeps,
      tt,
      record { events = Cancel m (OneShare i) ∷ h; busy = kept.busy; ring = subst (λ (n : ℕ). IsRing n (set s.words (gate_at i) (bit_or (slice_index s.words (gate_at i)) 0x800000000000)) (set s.views id (record v { did = Cancel m (OneShare i) ∷ v.did; found = None })) (Cancel m (OneShare i) ∷ h) kept.busy) (sym same) next },
      (record { events = h; knows = mine; rule = next.team.rule; after = refl }, refl),
    )

-- Whether it is cancelled

-- a bit of a gate, and as a call reads it
bit_tells : (b : Bool) (n : ℕ) → n ≡ bit_of b → (n == 1) ≡ b
bit_tells true n e = rw e refl
bit_tells false n e = rw e refl

pub decoded_bit : (b : Bool) (n : ℕ) → (b ≡ true → n ≡ 1) × (n ≡ 1 → b ≡ true) → b ≡ (n == 1)
decoded_bit b n is = same_from_decides b (n == 1) is (Decides-eqb n 1)

bit_is : (members m i : ℕ) (v : View) (words : List ℕ) (views : List View) (h : List Event) (busy : Option BusySlot) → IsRing members words views h busy → Knows v h → (standing : IsInShare members m i v) → (cancelled_of (slice_index words (gate_at i)) == 1) ≡ share_cancelled i h
bit_is members m i v words views h busy ring mine standing =
    let inside : open_share m h ≡ Some (i, standing.shape) = sym (ap (λ (x : Seen). x.current) (seat_sees m v h mine standing.stands)) ∙ standing.inside in
    let now = inside_is_current members m i standing.shape words views h busy ring inside in
    bit_tells (share_cancelled i h) (cancelled_of (slice_index words (gate_at i))) (ap cancelled_of (ring.table.gates i standing.shape now) ∙ (gate_is members i standing.shape h ring.team now.shape_is).cancelled_is)

pub ask_allowed : (members id m i slots : ℕ) (me : Me Shape View) (team : TeamSize) (st : Step Shape) → team.members ≡ members → IsInShare members m i me.0 →
    Allows (IsKept team) slots id me (gate_at i) (λ n. n) (AskStep members i st me)
ask_allowed members id m i slots me team st same standing s kept homes at bound =
    let ring : IsRing members s.words s.views kept.events kept.busy = ring_of_size members team s.words s.views kept.events kept.busy same kept.ring in
    let mine : Knows me.0 kept.events = ring.seats.knows id me.0 at in (
      me.0,
      keeps,
      tt,
      kept_still id (gate_at i) me.1 me.0 team s kept at,
      (record { after = refl; events = kept.events; knows = mine; rule = ring.team.rule; answer_is = bit_is members m i me.0 s.words s.views kept.events kept.busy ring mine standing }, refl),
    )

see_own : (m : ℕ) (own : Option (ℕ × Shape)) (h : List Event) → shares_only (See m (kind_in own) ∷ h) ≡ See m (kind_in own) ∷ shares_only h
see_own m own h = elim (cases_Bool (in_kind is_sections own)) [ inl e ↦ rw e refl | inr e ↦ rw e refl ]

pub see_allowed : (members id m i slots : ℕ) (me : Me Shape View) (team : TeamSize) (st : Step Shape) → team.members ≡ members → IsInShare members m i me.0 → in_construct (open_share m me.0.did) ≡ true →
    Allows (IsKept team) slots id me (gate_at i) (λ n. n) (SeeStep members m i st me)
see_allowed members id m i slots me team st same standing construct s kept homes at bound =
    let ring : IsRing members s.words s.views kept.events kept.busy = ring_of_size members team s.words s.views kept.events kept.busy same kept.ring in
    let mine : Knows me.0 kept.events = ring.seats.knows id me.0 at in
    by_found ring mine (bit_is members m i me.0 s.words s.views kept.events kept.busy ring mine standing) (cancelled_of (slice_index s.words (gate_at i)) == 1) refl
  where
    by_found : IsRing members s.words s.views kept.events kept.busy → Knows me.0 kept.events → (cancelled_of (slice_index s.words (gate_at i)) == 1) ≡ share_cancelled i kept.events → (c : Bool) → (cancelled_of (slice_index s.words (gate_at i)) == 1) ≡ c →
        (u : View) × (a : Act Shape) × Valid s.homes me.1 a × IsKept team (stepped s (gate_at i) (slice_index s.words (gate_at i)) id me.1 u a) × SeeStep members m i st me (slice_index s.words (gate_at i)) (u, carried_after me.1 a)
    by_found ring mine bit true e =
        let h : List Event = kept.events in
        let is : seen_of m me.0.did ≡ seen_of m h = seat_sees m me.0 h mine standing.stands in
        let own : open_share m me.0.did ≡ open_share m h = ap (λ (x : Seen). x.current) is in
        let inside : open_share m h ≡ Some (i, standing.shape) = sym own ∙ standing.inside in
        let cancelled : own_cancelled m h ≡ true = ap (λ (o : Option (ℕ × Shape)). inside_cancelled o h) inside ∙ sym bit ∙ e in
        let event : Event = See m (kind_in (open_share m me.0.did)) in
        let rule : ShareRule (schedule members) members (See m (kind_in (open_share m me.0.did))) h = subst (λ (o : Option (ℕ × Shape)). ShareRule (schedule members) members (See m (kind_in o)) h) (sym own) (see_rule (schedule members) members m h (ap in_construct (sym own) ∙ construct) cancelled) in
        let u : View = record me.0 { did = See m (kind_in (open_share m me.0.did)) ∷ me.0.did; found = None } in
        let after = ring_still members id m (See m (kind_in (open_share m me.0.did))) s.words s.views me.0 h kept.busy ring at standing.stands (record { who = refl; rule = rule; once = tt; own = see_own m (open_share m me.0.did) h; shapes = λ j. refl }) (λ j t e. refl) (λ j. refl) in (
          u,
          keeps,
          tt,
          kept_acted members id (gate_at i) me.1 u team s (See m (kind_in (open_share m me.0.did)) ∷ h) kept.busy same after,
          (record { seen = λ x. record { events = h; knows = mine; rule = after.team.rule; after = refl }; unseen = λ x. absurd (not_both _ e x); events = h; knows = mine; rule = ring.team.rule; answer_is = bit }, refl),
        )
    by_found ring mine bit false e = (
      me.0,
      keeps,
      tt,
      kept_still id (gate_at i) me.1 me.0 team s kept at,
      (record { seen = λ x. absurd (not_both _ x e); unseen = λ x. refl; events = kept.events; knows = mine; rule = ring.team.rule; answer_is = bit }, refl),
    )
