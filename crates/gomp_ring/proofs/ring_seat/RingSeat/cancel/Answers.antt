use Rattle.std.proofs.Common.{◌≡◌, ℕ, true, Option, ◌∙◌, refl, ap, sym, subst}
use Rattle.gomp_types.specs.declared.shape.Shape.{Shape}
use Rattle.gomp_events.specs.declared.seen.Seen.{Seen}
use Rattle.gomp_slots.specs.declared.view.View.{View}
use Rattle.gomp_ring.specs.Rings.{ring_members}
use Rattle.gomp_ring.specs.RingSeats.{SeatView}
use Rattle.gomp_events.specs.declared.event.Event.TheVariants.{Cancel}
use Rattle.gomp_types.specs.declared.cancel.Scope.TheVariants.{OneShare}
use Rattle.gomp_events.specs.Events.{share_number}
use Rattle.gomp_events.specs.Cancels.{may_be_cancelled}
use Rattle.gomp_shares.specs.Calls.{CanCancel}
use Rattle.gomp_ring.proofs.SeatCalls.{own_stands, still_acts_for, in_share}
use Rattle.gomp_ring.proofs.SeatTurns.{acts_inside, did_then, seat_after_act, act_tells, counts_stay, holds_of_place, sees_as_before}
use Rattle.gomp_ring.proofs.SeatSingles.{none_executed}
use Rattle.gomp_ring.proofs.ring_seat.RingSeat.cancel.Goals as goal

pub cancel_share-requires-clause-inside : goal.cancel_share-requires-clause-inside
cancel_share-requires-clause-inside c =
    let team : ring_members c.args.ring.now ≡ c.self.inside.members = c.requires.ring.members ∙ sym (ap (λ (a : SeatView). a.members) c.self.view_is) in
    let stands = own_stands _ _ _ _ c.self.invariant.2 in
    in_share _ _ _ _ _ _ _ _ team c.self.invariant.1 stands (sym c.get.ensures ∙ c.in-Some.is)

pub cancel_share-requires-clause-may : goal.cancel_share-requires-clause-may
cancel_share-requires-clause-may c =
    let team : ring_members c.args.ring.now ≡ c.self.inside.members = c.requires.ring.members ∙ sym (ap (λ (a : SeatView). a.members) c.self.view_is) in
    let stands = own_stands _ _ _ _ c.self.invariant.2 in
    let can = subst (λ (a : SeatView). CanCancel a.members a.member a.seen) (sym c.self.view_is) c.requires.place in
    holds_of_place _ _ _ (λ (n : ℕ) (s : Seen). may_be_cancelled s.current ≡ true) _ _ _ team c.self.invariant.1 can.cancellable

pub invariant_of-self : goal.invariant_of-self
invariant_of-self c =
    let team : ring_members c.args.ring.now ≡ c.self.inside.members = c.requires.ring.members ∙ sym (ap (λ (a : SeatView). a.members) c.self.view_is) in
    let stands = own_stands _ _ _ _ c.self.invariant.2 in
    let is = acts_inside _ _ _ c.in-Some.share c.in-Some.field-0-1 (Cancel c.self.inside.member (OneShare c.in-Some.share)) _ _ _ _ _ team c.self.invariant.1 stands (sym c.get.ensures ∙ c.in-Some.is) refl c.cancel_share.ensures.acted (sees_as_before _ _ (Cancel c.self.inside.member (OneShare c.in-Some.share)) _ _ _ c.self.invariant.1 refl) refl refl in (
      c.cancel_share.ensures.seat.1 ∙ c.self.invariant.0,
      seat_after_act _ _ _ _ _ _ _ _ _ _ _ is,
      still_acts_for _ _ _ _ _ c.self.invariant.2 (ap (λ (x : View). x.mine) is.acts.after) (ap (λ (x : View). x.alone) is.acts.after),
      counts_stay _ _ _ _ (Cancel c.self.inside.member (OneShare c.in-Some.share)) _ _ _ _ c.self.invariant.3 (did_then _ _ _ _ _ _ _ _ _ _ _ is) (record { count = λ share. refl; pieces = λ share. refl; loops = refl }) refl refl,
      c.self.invariant.4,
      c.self.invariant.5,
      c.self.invariant.6,
      c.self.invariant.7,
      c.self.invariant.8,
      c.self.invariant.9,
      none_executed _ _ _ _ c.self.invariant.10 (sym c.get.ensures ∙ c.in-Some.is),
      c.self.invariant.11,
      c.self.invariant.12,
      c.self.invariant.13,
      c.self.invariant.14,
    )

pub returns : goal.returns
returns c =
    let team : ring_members c.args.ring.now ≡ c.self.inside.members = c.requires.ring.members ∙ sym (ap (λ (a : SeatView). a.members) c.self.view_is) in
    let stands = own_stands _ _ _ _ c.self.invariant.2 in
    let is = acts_inside _ _ _ c.in-Some.share c.in-Some.field-0-1 (Cancel c.self.inside.member (OneShare c.in-Some.share)) _ _ _ _ _ team c.self.invariant.1 stands (sym c.get.ensures ∙ c.in-Some.is) refl c.cancel_share.ensures.acted (sees_as_before _ _ (Cancel c.self.inside.member (OneShare c.in-Some.share)) _ _ _ c.self.invariant.1 refl) refl refl in
    record {
      cancelled = act_tells _ _ _ _ _ _ _ _ _ (λ (b : SeatView). Cancel b.member (OneShare (share_number b.seen.current))) _ _ _ _ _ _ is c.cancel_share.ensures.seat.0 (ap (λ (o : Option (ℕ × Shape)). Cancel c.self.inside.member (OneShare (share_number o))) (sym c.get.ensures ∙ c.in-Some.is)) c.self.view_is;
    }
