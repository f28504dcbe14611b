-- What the seat of a member keeps when it looks at the member's next share, and what that call tells.
use Rattle.std.proofs.Common.{◌≡◌, ℕ, Bool, true, false, List, Some, inl, inr, refl, ap, sym, ◌∙◌, subst}
use Rattle.std.specs.Prelude.{not}
use Rattle.std.proofs.lemmas.Bool.{cases_Bool}
use Rattle.atomic_table.specs.Seated.{TableId}
use Rattle.gomp_types.specs.declared.shape.Shape.{Shape}
use Rattle.gomp_events.specs.declared.event.Event.{Event}
use Rattle.gomp_events.specs.declared.seen.Seen.{Seen}
use Rattle.gomp_types.specs.Shapes.{same_shape}
use Rattle.gomp_types.specs.Compare.{shape_differs}
use Rattle.gomp_types.specs.Deals.{schedule}
use Rattle.gomp_events.specs.Events.{shape_at}
use Rattle.gomp_events.specs.Laws.{Always}
use Rattle.gomp_types.proofs.Compared.{same_shape_itself, differs_from}
use Rattle.gomp_chunks.specs.Plans.{PlanView}
use Rattle.gomp_gate.specs.Gates.{holds_share}
use Rattle.gomp_gate.specs.Shapes.{SameWords}
use Rattle.gomp_gate.proofs.Shapes.{words_tell_shape}
use Rattle.gomp_shares.specs.Rules.{ShareRule}
use Rattle.gomp_slots.specs.declared.view.View.{View}
use Rattle.gomp_slots.specs.Rule.{stands_for, FitsWords}
use Rattle.gomp_slots.specs.Calls.{HasDone, LooksAtSlot}
use Rattle.gomp_slots.specs.Premises.{IsBeforeShare}
use Rattle.gomp_ring.specs.RingSeats.{SeatView, IsSeat, SeatCompares}

-- What the seat keeps

-- its members do nothing by a look
pub look_keeps : (key members m i word : ℕ) (seen : Seen) (plan : PlanView) (v now : View) → IsSeat members m seen plan v → LooksAtSlot key i v word now → HasDone v.did v now
look_keeps key members m i word seen plan v now seat looked = elim (cases_Bool (holds_share i word)) [
  | inl here ↦
      let now_is = (looked.there here).4 in
      record { did_is = ap (λ (x : View). x.did) now_is; mine = ap (λ (x : View). x.mine) now_is; alone = ap (λ (x : View). x.alone) now_is; idle = ap (λ (x : View). x.opening) now_is ∙ seat.idle }
  | inr absent ↦
      let now_is = (looked.absent absent).1 in
      record { did_is = ap (λ (x : View). x.did) now_is; mine = ap (λ (x : View). x.mine) now_is; alone = ap (λ (x : View). x.alone) now_is; idle = ap (λ (x : View). x.opening) now_is ∙ seat.idle }
]

-- so its next share is the same
pub before_share_still : (key m i : ℕ) (v now : View) → IsBeforeShare key m i v → HasDone v.did v now → IsBeforeShare key m i now
before_share_still key m i v now before done = record {
  member = before.member;
  stands = rw done.mine before.stands;
  next = rw done.did_is before.next;
}

-- What the call tells

-- of a share that nobody has entered no shape differs
pub absent_share_differs : (key i word : ℕ) (shape : Shape) (v now : View) (looked : LooksAtSlot key i v word now) → holds_share i word ≡ false → false ≡ shape_differs shape (shape_at i looked.events)
absent_share_differs key i word shape v now looked absent = sym (ap (shape_differs shape) (looked.absent absent).0)

-- of one that is open those do that have other words
pub words_of_slot_differ : (key i word : ℕ) (shape : Shape) (same : Bool) (v now : View) (looked : LooksAtSlot key i v word now) → holds_share i word ≡ true → FitsWords shape →
    (same ≡ true → (other : Shape) → now.found ≡ Some other → SameWords other shape) → (same ≡ false → now.found ≡ Some shape → ⊥) → not same ≡ shape_differs shape (shape_at i looked.events)
words_of_slot_differ key i word shape same v now looked here fits alike unlike =
    let there = looked.there here in
    by same alike unlike there.0 (ap (λ (x : View). x.found) there.4) there.2 ∙ sym (ap (shape_differs shape) there.1)
  where
    by : (same : Bool) → (same ≡ true → (other : Shape) → now.found ≡ Some other → SameWords other shape) → (same ≡ false → now.found ≡ Some shape → ⊥) → (other : Shape) → now.found ≡ Some other → FitsWords other → not same ≡ shape_differs shape (Some other)
    by true alike unlike other found others =
        let one : other ≡ shape = words_tell_shape other shape others.valid fits.valid others.start others.incr fits.start fits.incr (alike refl other found) in
        sym (ap (λ (s : Shape). not (same_shape s shape)) one ∙ ap not (same_shape_itself shape))
    by false alike unlike other found others = sym (differs_from shape other (λ e. unlike refl (found ∙ ap Some e)))

pub comparison_tells : (key members m seated word : ℕ) (table then_table : TableId) (seen : Seen) (plan : PlanView) (shape : Shape) (answer : Bool) (v looking now : View) (before : SeatView) → key ≡ members → IsSeat members m seen plan v → stands_for v m ≡ true → then_table ≡ table → (looked : LooksAtSlot key seen.entered v word looking) → answer ≡ shape_differs shape (shape_at seen.entered looked.events) → now.did ≡ v.did →
    record { table = table; members = members; member = m; seated = seated; seen = seen; did = v.did } ≡ before → SeatCompares before shape answer (record { table = then_table; members = members; member = m; seated = seated; seen = seen; did = now.did })
comparison_tells key members m seated word table then_table seen plan shape answer v looking now before team seat stands same looked answer_is unchanged view =
    let h : List Event = looked.events in
    let after : SeatView = record { table = then_table; members = members; member = m; seated = seated; seen = seen; did = now.did } in
    subst (λ (b : SeatView). SeatCompares b shape answer after) view (record {
      events = h;
      knows = sym seat.own ∙ looked.knows.own m stands;
      rule = subst (λ (n : ℕ). Always (ShareRule (schedule n) n) h) team looked.rule;
      answer_is = answer_is;
      same = rw (same, unchanged) refl;
    })
