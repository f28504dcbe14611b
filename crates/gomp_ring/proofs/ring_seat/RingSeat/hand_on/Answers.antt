use Rattle.std.proofs.Common.{◌≡◌, ℕ, ◌-◌, ◌<◌, true, Option, inl, inr, ◌∙◌, refl, ap, sym, subst, arith}
use Rattle.gomp_types.specs.declared.shape.Shape.{Shape}
use Rattle.gomp_events.specs.declared.seen.Seen.{Seen}
use Rattle.gomp_slots.specs.declared.view.View.{View}
use Rattle.gomp_ring.specs.Rings.{ring_members}
use Rattle.gomp_ring.specs.RingSeats.{SeatView}
use Rattle.std.proofs.lemmas.Bool.{cases_Bool}
use Rattle.gomp_events.specs.declared.event.Event.TheVariants.{HandOn}
use Rattle.gomp_events.specs.Events.{share_number}
use Rattle.gomp_shares.specs.Calls.{CanHandOn, number_in}
use Rattle.gomp_ring.specs.RingSeats.{piece_handed_on}
use Rattle.gomp_ring.proofs.SeatCalls.{own_stands, still_acts_for}
use Rattle.gomp_ring.proofs.SeatEntries.{seat_unchanged, counts_unchanged}
use Rattle.gomp_ring.proofs.SeatTurns.{acts_inside, did_then, seat_after_act, counts_stay, holds_of_place, sees_as_before, has_number, number_few, number_of_last, no_piece_asked_for, piece_asked_for, try_tells, no_piece_tells}
use Rattle.gomp_ring.proofs.SeatSingles.{none_executed}
use Rattle.gomp_ring.proofs.ring_seat.RingSeat.hand_on.Goals.{then-self-eq0-via-then-self-eq0, then-self-eq0-via-else-self-eq0+then-self}
use Rattle.gomp_ring.proofs.ring_seat.RingSeat.hand_on.Goals as goal

pub returns-then-self-eq0 : goal.returns-then-self-eq0
returns-then-self-eq0 c =
    let none = no_piece_asked_for c.self.inside.cursor.plan c.self.inside.asked c.self.inside.drained c.self.invariant.6 (elim c.then-self-eq0.branch [
      | then-self-eq0-via-then-self-eq0 w ↦ inl w.if-self-eq0.true
      | then-self-eq0-via-else-self-eq0+then-self w ↦ inr w.if-self.true
    ]) in
    record { turn = no_piece_tells _ _ _ _ piece_handed_on _ _ _ _ c.self.invariant.1 none c.self.view_is }

pub hand_on-requires-clause-may : goal.hand_on-requires-clause-may
hand_on-requires-clause-may c =
    let team : ring_members c.args.ring.now ≡ c.self.inside.members = c.requires.ring.members ∙ sym (ap (λ (a : SeatView). a.members) c.self.view_is) in
    let stands = own_stands _ _ _ _ c.self.invariant.2 in
    let can = subst (λ (a : SeatView). CanHandOn a.members a.member a.seen) (sym c.self.view_is) c.requires.place in
    holds_of_place _ _ _ (λ (n : ℕ) (s : Seen). CanHandOn n c.self.inside.member s) _ _ _ team c.self.invariant.1 can

pub hand_on-requires-clause-piece : goal.hand_on-requires-clause-piece
hand_on-requires-clause-piece c =
    let asked : 0 < c.self.inside.asked = (let apart = c.if-self-eq0.false in omega arith) in
    let some = piece_asked_for c.self.inside.cursor.plan c.self.inside.asked c.self.inside.drained c.self.invariant.6 asked c.if-self.false in
    let there = some.1 in
    (refl, number_few _ _ _ c.self.inside.asked _ some.0 _ _ _ c.self.invariant.1 (sym c.get.ensures ∙ c.in-Some.is) refl there)

pub hand_on-requires-clause-holds : goal.hand_on-requires-clause-holds
hand_on-requires-clause-holds c =
    let team : ring_members c.args.ring.now ≡ c.self.inside.members = c.requires.ring.members ∙ sym (ap (λ (a : SeatView). a.members) c.self.view_is) in
    let stands = own_stands _ _ _ _ c.self.invariant.2 in
    let asked : 0 < c.self.inside.asked = (let apart = c.if-self-eq0.false in omega arith) in
    let some = piece_asked_for c.self.inside.cursor.plan c.self.inside.asked c.self.inside.drained c.self.invariant.6 asked c.if-self.false in
    let there = some.1 in
    has_number _ _ _ _ c.self.inside.asked _ some.0 _ _ _ team c.self.invariant.1 stands (sym c.get.ensures ∙ c.in-Some.is) refl there

pub invariant_of-self : goal.invariant_of-self
invariant_of-self c =
    let team : ring_members c.args.ring.now ≡ c.self.inside.members = c.requires.ring.members ∙ sym (ap (λ (a : SeatView). a.members) c.self.view_is) in
    let stands = own_stands _ _ _ _ c.self.invariant.2 in
    let is = λ (e : c.hand_on.result ≡ true). acts_inside _ _ _ c.in-Some.share c.in-Some.field-0-1 (HandOn c.in-Some.share c.self.inside.member (c.self.inside.asked - 1)) _ _ _ _ _ team c.self.invariant.1 stands (sym c.get.ensures ∙ c.in-Some.is) refl (c.hand_on.ensures.turn.acts e) (sees_as_before _ _ (HandOn c.in-Some.share c.self.inside.member (c.self.inside.asked - 1)) _ _ _ c.self.invariant.1 refl) refl refl in
    elim (cases_Bool c.hand_on.result) [
      | inl e ↦ (
        c.hand_on.ensures.seat.1 ∙ c.self.invariant.0,
        seat_after_act _ _ _ _ _ _ _ _ _ _ _ (is e),
        still_acts_for _ _ _ _ _ c.self.invariant.2 (ap (λ (x : View). x.mine) (is e).acts.after) (ap (λ (x : View). x.alone) (is e).acts.after),
        counts_stay _ _ _ _ (HandOn c.in-Some.share c.self.inside.member (c.self.inside.asked - 1)) _ _ _ _ c.self.invariant.3 (did_then _ _ _ _ _ _ _ _ _ _ _ (is e)) (record { count = λ share. refl; pieces = λ share. refl; loops = refl }) refl refl,
        c.self.invariant.4,
        c.self.invariant.5,
        c.self.invariant.6,
        c.self.invariant.7,
        c.self.invariant.8,
        c.self.invariant.9,
        none_executed _ _ _ _ c.self.invariant.10 (sym c.get.ensures ∙ c.in-Some.is),
        c.self.invariant.11,
        c.self.invariant.12,
        c.self.invariant.13,
        c.self.invariant.14,
      )
      | inr e ↦
          let same = c.hand_on.ensures.turn.waits e in (
            c.hand_on.ensures.seat.1 ∙ c.self.invariant.0,
            seat_unchanged _ _ _ _ _ _ c.self.invariant.1 (ap (λ (x : View). x.did) same) (ap (λ (x : View). x.opening) same ∙ c.self.invariant.1.idle),
            still_acts_for _ _ _ _ _ c.self.invariant.2 (ap (λ (x : View). x.mine) same) (ap (λ (x : View). x.alone) same),
            counts_unchanged _ _ _ _ _ _ _ c.self.invariant.3 (ap (λ (x : View). x.did) same),
            c.self.invariant.4,
            c.self.invariant.5,
            c.self.invariant.6,
            c.self.invariant.7,
            c.self.invariant.8,
            c.self.invariant.9,
            none_executed _ _ _ _ c.self.invariant.10 (sym c.get.ensures ∙ c.in-Some.is),
            c.self.invariant.11,
            c.self.invariant.12,
            c.self.invariant.13,
            c.self.invariant.14,
          )
    ]

pub returns : goal.returns
returns c =
    let team : ring_members c.args.ring.now ≡ c.self.inside.members = c.requires.ring.members ∙ sym (ap (λ (a : SeatView). a.members) c.self.view_is) in
    let stands = own_stands _ _ _ _ c.self.invariant.2 in
    let asked : 0 < c.self.inside.asked = (let apart = c.if-self-eq0.false in omega arith) in
    let some = piece_asked_for c.self.inside.cursor.plan c.self.inside.asked c.self.inside.drained c.self.invariant.6 asked c.if-self.false in
    let there = some.1 in
    let is = λ (e : c.hand_on.result ≡ true). acts_inside _ _ _ c.in-Some.share c.in-Some.field-0-1 (HandOn c.in-Some.share c.self.inside.member (c.self.inside.asked - 1)) _ _ _ _ _ team c.self.invariant.1 stands (sym c.get.ensures ∙ c.in-Some.is) refl (c.hand_on.ensures.turn.acts e) (sees_as_before _ _ (HandOn c.in-Some.share c.self.inside.member (c.self.inside.asked - 1)) _ _ _ c.self.invariant.1 refl) refl refl in
    let number = number_of_last _ _ _ c.self.inside.asked _ some.0 _ _ _ c.self.invariant.1 (sym c.get.ensures ∙ c.in-Some.is) refl there in
    let event_is = ap (λ (o : Option (ℕ × Shape)). HandOn (share_number o) c.self.inside.member (number_in c.self.inside.members c.self.inside.current c.self.inside.member c.self.inside.seat.me.0.did)) (sym c.get.ensures ∙ c.in-Some.is) ∙ ap (HandOn c.in-Some.share c.self.inside.member) number in
    record { turn = try_tells _ _ _ _ _ _ _ _ _ piece_handed_on _ _ _ _ _ _ team c.self.invariant.1 stands is c.hand_on.ensures.seat.0 c.hand_on.ensures.turn event_is c.self.view_is }
