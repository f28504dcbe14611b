use Rattle.std.proofs.Common.{◌≡◌, ℕ, true, ◌∙◌, refl, ap, sym, subst}
use Rattle.gomp_events.specs.declared.seen.Seen.{Seen}
use Rattle.gomp_slots.specs.declared.view.View.{View}
use Rattle.gomp_ring.specs.Rings.{ring_members}
use Rattle.gomp_ring.specs.RingSeats.{SeatView}
use Rattle.gomp_events.specs.declared.event.Event.TheVariants.{See}
use Rattle.gomp_events.specs.Events.{open_share}
use Rattle.gomp_shares.specs.Calls.{CanSee, in_construct, kind_in}
use Rattle.gomp_ring.proofs.SeatCalls.{own_stands, still_acts_for, in_share}
use Rattle.gomp_ring.proofs.SeatTurns.{acts_inside, did_then, seat_after_act, counts_stay, holds_of_place, sees_leaving, sight_tells, no_sight_tells}
use Rattle.gomp_ring.proofs.SeatSingles.{none_executed}
use Rattle.gomp_ring.proofs.ring_seat.RingSeat.see.Goals as goal

pub see_cancelled-requires-clause-inside : goal.see_cancelled-requires-clause-inside
see_cancelled-requires-clause-inside c =
    let team : ring_members c.args.ring.now ≡ c.self.inside.members = c.requires.ring.members ∙ sym (ap (λ (a : SeatView). a.members) c.self.view_is) in
    let stands = own_stands _ _ _ _ c.self.invariant.2 in
    in_share _ _ _ _ _ _ _ _ team c.self.invariant.1 stands (sym c.get.ensures ∙ c.in-Some.is)

pub see_cancelled-requires-clause-may : goal.see_cancelled-requires-clause-may
see_cancelled-requires-clause-may c =
    let team : ring_members c.args.ring.now ≡ c.self.inside.members = c.requires.ring.members ∙ sym (ap (λ (a : SeatView). a.members) c.self.view_is) in
    let stands = own_stands _ _ _ _ c.self.invariant.2 in
    let can = subst (λ (a : SeatView). CanSee a.members a.member a.seen) (sym c.self.view_is) c.requires.place in
    holds_of_place _ _ _ (λ (n : ℕ) (s : Seen). in_construct s.current ≡ true) _ _ _ team c.self.invariant.1 can.inside

pub returns-then-not-see_cancelled : goal.returns-then-not-see_cancelled
returns-then-not-see_cancelled c =
    let team : ring_members c.args.ring.now ≡ c.self.inside.members = c.requires.ring.members ∙ sym (ap (λ (a : SeatView). a.members) c.self.view_is) in
    let stands = own_stands _ _ _ _ c.self.invariant.2 in
    record { seen = no_sight_tells _ _ _ _ _ _ _ c.in-Some.field-0-1 _ _ _ _ _ _ team c.self.invariant.1 stands (sym c.get.ensures ∙ c.in-Some.is) c.see_cancelled.ensures.seat.0 c.see_cancelled.ensures.seen c.if-not-see_cancelled.true c.self.view_is }

pub invariant_of-self-2 : goal.invariant_of-self-2
invariant_of-self-2 c =
    let team : ring_members c.args.ring.now ≡ c.self.inside.members = c.requires.ring.members ∙ sym (ap (λ (a : SeatView). a.members) c.self.view_is) in
    let stands = own_stands _ _ _ _ c.self.invariant.2 in
    let is = acts_inside _ _ _ c.in-Some.share c.in-Some.field-0-1 (See c.self.inside.member (kind_in (open_share c.self.inside.member c.self.inside.seat.me.0.did))) _ _ _ _ _ team c.self.invariant.1 stands (sym c.get.ensures ∙ c.in-Some.is) refl (c.see_cancelled.ensures.seen.seen c.if-not-see_cancelled.false) (sees_leaving _ _ _ _ _ c.self.invariant.1) refl refl in (
      c.see_cancelled.ensures.seat.1 ∙ c.self.invariant.0,
      seat_after_act _ _ _ _ _ _ _ _ _ _ _ is,
      still_acts_for _ _ _ _ _ c.self.invariant.2 (ap (λ (x : View). x.mine) is.acts.after) (ap (λ (x : View). x.alone) is.acts.after),
      counts_stay _ _ _ _ (See c.self.inside.member (kind_in (open_share c.self.inside.member c.self.inside.seat.me.0.did))) _ _ _ _ c.self.invariant.3 (did_then _ _ _ _ _ _ _ _ _ _ _ is) (record { count = λ share. refl; pieces = λ share. refl; loops = refl }) refl refl,
      c.self.invariant.4,
      c.self.invariant.5,
      c.self.invariant.6,
      c.self.invariant.7,
      c.self.invariant.8,
      c.self.invariant.9,
      none_executed _ _ _ _ c.self.invariant.10 (sym c.get.ensures ∙ c.in-Some.is),
      c.self.invariant.11,
      c.self.invariant.12,
      c.self.invariant.13,
      c.self.invariant.14,
    )

pub returns : goal.returns
returns c =
    let team : ring_members c.args.ring.now ≡ c.self.inside.members = c.requires.ring.members ∙ sym (ap (λ (a : SeatView). a.members) c.self.view_is) in
    let stands = own_stands _ _ _ _ c.self.invariant.2 in
    let is = acts_inside _ _ _ c.in-Some.share c.in-Some.field-0-1 (See c.self.inside.member (kind_in (open_share c.self.inside.member c.self.inside.seat.me.0.did))) _ _ _ _ _ team c.self.invariant.1 stands (sym c.get.ensures ∙ c.in-Some.is) refl (c.see_cancelled.ensures.seen.seen c.if-not-see_cancelled.false) (sees_leaving _ _ _ _ _ c.self.invariant.1) refl refl in
    record { seen = sight_tells _ _ _ _ _ _ _ c.in-Some.field-0-1 _ _ _ _ _ _ c.self.invariant.1 stands c.see_cancelled.ensures.seat.0 c.see_cancelled.ensures.seen c.if-not-see_cancelled.false is c.self.view_is }
