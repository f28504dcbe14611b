use Rattle.std.proofs.Common.{◌≡◌, ℕ, Option, ◌∙◌, refl, ap, sym, subst, arith}
use Rattle.gomp_types.specs.declared.shape.Shape.{Shape}
use Rattle.gomp_events.specs.declared.seen.Seen.{Seen}
use Rattle.gomp_slots.specs.declared.view.View.{View}
use Rattle.gomp_ring.specs.Rings.{ring_members}
use Rattle.gomp_ring.specs.RingSeats.{SeatView}
use Rattle.gomp_events.specs.declared.event.Event.TheVariants.{Part}
use Rattle.gomp_events.specs.Events.{share_number}
use Rattle.gomp_shares.specs.Calls.{CanBeginPart}
use Rattle.gomp_shares.proofs.AnswerRules.{rest_tells}
use Rattle.gomp_ring.proofs.SeatCalls.{own_stands, still_acts_for}
use Rattle.gomp_ring.proofs.SeatTurns.{acts_inside, did_then, seat_after_act, counts_stay, holds_of_place, sees_part, has_number, iteration_few, own_turn_tells, no_turn_tells}
use Rattle.gomp_ring.proofs.Asking.{no_ticket_in_a_part}
use Rattle.gomp_ring.proofs.SeatSingles.{none_executed}
use Rattle.gomp_ring.proofs.ring_seat.RingSeat.try_turn.Goals as goal

pub begin_part-requires-clause-holds : goal.begin_part-requires-clause-holds
begin_part-requires-clause-holds c =
    let team : ring_members c.args.ring.now ≡ c.self.inside.members = c.requires.ring.members ∙ sym (ap (λ (a : SeatView). a.members) c.self.view_is) in
    let stands = own_stands _ _ _ _ c.self.invariant.2 in
    let can = subst (λ (a : SeatView). CanBeginPart a.members a.member c.args.iteration a.seen) (sym c.self.view_is) c.requires.place in
    let rest = rest_tells _ _ _ can.rest in
    has_number _ _ _ _ c.self.inside.asked _ rest.piece _ _ _ team c.self.invariant.1 stands (sym c.get.ensures ∙ c.in-Some.is) refl rest.is

pub begin_part-requires-clause-may : goal.begin_part-requires-clause-may
begin_part-requires-clause-may c =
    let team : ring_members c.args.ring.now ≡ c.self.inside.members = c.requires.ring.members ∙ sym (ap (λ (a : SeatView). a.members) c.self.view_is) in
    let stands = own_stands _ _ _ _ c.self.invariant.2 in
    let can = subst (λ (a : SeatView). CanBeginPart a.members a.member c.args.iteration a.seen) (sym c.self.view_is) c.requires.place in
    holds_of_place _ _ _ (λ (n : ℕ) (s : Seen). CanBeginPart n c.self.inside.member c.args.iteration s) _ _ _ team c.self.invariant.1 can

pub returns-then-not-begin_part : goal.returns-then-not-begin_part
returns-then-not-begin_part c =
    let team : ring_members c.args.ring.now ≡ c.self.inside.members = c.requires.ring.members ∙ sym (ap (λ (a : SeatView). a.members) c.self.view_is) in
    let stands = own_stands _ _ _ _ c.self.invariant.2 in
    record {
      turn = no_turn_tells _ _ _ _ _ _ _ (λ (b : SeatView). Part (share_number b.seen.current) b.member c.args.iteration) _ _ _ _ _ _ team c.self.invariant.1 stands c.begin_part.ensures.seat.0 c.begin_part.ensures.turn c.if-not-begin_part.true c.self.view_is;
    }

pub overflow_add-self : goal.overflow_add-self
overflow_add-self c =
    let can = subst (λ (a : SeatView). CanBeginPart a.members a.member c.args.iteration a.seen) (sym c.self.view_is) c.requires.place in
    let few = iteration_few _ _ _ c.self.inside.asked c.args.iteration c.in-Some.field-0-1 _ _ _ c.self.invariant.1 (sym c.get.ensures ∙ c.in-Some.is) refl can in
    omega arith

pub invariant_of-self-2 : goal.invariant_of-self-2
invariant_of-self-2 c =
    let team : ring_members c.args.ring.now ≡ c.self.inside.members = c.requires.ring.members ∙ sym (ap (λ (a : SeatView). a.members) c.self.view_is) in
    let stands = own_stands _ _ _ _ c.self.invariant.2 in
    let is = acts_inside _ _ _ c.in-Some.share c.in-Some.field-0-1 (Part c.in-Some.share c.self.inside.member c.args.iteration) _ _ _ _ _ team c.self.invariant.1 stands (sym c.get.ensures ∙ c.in-Some.is) refl (c.begin_part.ensures.turn.acts c.if-not-begin_part.false) (sees_part _ _ c.in-Some.share c.args.iteration _ _ _ c.self.invariant.1) refl refl in (
      c.begin_part.ensures.seat.1 ∙ c.self.invariant.0,
      seat_after_act _ _ _ _ _ _ _ _ _ _ _ is,
      still_acts_for _ _ _ _ _ c.self.invariant.2 (ap (λ (x : View). x.mine) is.acts.after) (ap (λ (x : View). x.alone) is.acts.after),
      counts_stay _ _ _ _ (Part c.in-Some.share c.self.inside.member c.args.iteration) _ _ _ _ c.self.invariant.3 (did_then _ _ _ _ _ _ _ _ _ _ _ is) (record { count = λ share. refl; pieces = λ share. refl; loops = refl }) refl refl,
      c.self.invariant.4,
      c.self.invariant.5,
      c.self.invariant.6,
      no_ticket_in_a_part c.self.inside.current c.self.inside.drained,
      c.self.invariant.8,
      c.self.invariant.9,
      none_executed _ _ _ _ c.self.invariant.10 (sym c.get.ensures ∙ c.in-Some.is),
      c.self.invariant.11,
      c.self.invariant.12,
      c.self.invariant.13,
      c.self.invariant.14,
    )

pub returns : goal.returns
returns c =
    let team : ring_members c.args.ring.now ≡ c.self.inside.members = c.requires.ring.members ∙ sym (ap (λ (a : SeatView). a.members) c.self.view_is) in
    let stands = own_stands _ _ _ _ c.self.invariant.2 in
    let is = acts_inside _ _ _ c.in-Some.share c.in-Some.field-0-1 (Part c.in-Some.share c.self.inside.member c.args.iteration) _ _ _ _ _ team c.self.invariant.1 stands (sym c.get.ensures ∙ c.in-Some.is) refl (c.begin_part.ensures.turn.acts c.if-not-begin_part.false) (sees_part _ _ c.in-Some.share c.args.iteration _ _ _ c.self.invariant.1) refl refl in
    record {
      turn = own_turn_tells _ _ _ _ _ _ _ _ _ (λ (b : SeatView). Part (share_number b.seen.current) b.member c.args.iteration) _ _ _ _ _ _ _ is c.begin_part.ensures.seat.0 c.begin_part.ensures.turn c.if-not-begin_part.false (ap (λ (o : Option (ℕ × Shape)). Part (share_number o) c.self.inside.member c.args.iteration) (sym c.get.ensures ∙ c.in-Some.is)) c.self.view_is;
    }
