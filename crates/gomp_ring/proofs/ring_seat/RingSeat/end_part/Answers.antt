use Rattle.std.proofs.Common.{◌≡◌, ℕ, false, Option, ◌∙◌, refl, ap, sym, subst}
use Rattle.gomp_types.specs.declared.shape.Shape.{Shape}
use Rattle.gomp_events.specs.declared.seen.Seen.{Seen}
use Rattle.gomp_slots.specs.declared.view.View.{View}
use Rattle.gomp_ring.specs.Rings.{ring_members}
use Rattle.gomp_ring.specs.RingSeats.{SeatView, asks_by_ticket}
use Rattle.gomp_events.specs.declared.event.Event.TheVariants.{PartEnd}
use Rattle.gomp_events.specs.Events.{share_number}
use Rattle.gomp_shares.specs.Calls.{CanEndPart}
use Rattle.gomp_ring.proofs.SeatCalls.{own_stands, still_acts_for, in_share}
use Rattle.gomp_ring.proofs.SeatTurns.{acts_inside, did_then, seat_after_act, act_tells, counts_stay, holds_of_place, sees_part_end, in_part_is_inside}
use Rattle.gomp_ring.proofs.Asking.{ticket_out_of_parts}
use Rattle.gomp_ring.proofs.SeatSingles.{none_executed}
use Rattle.gomp_ring.proofs.ring_seat.RingSeat.end_part.Goals as goal

pub unreachable-requires : goal.unreachable-requires
unreachable-requires c =
    let can = subst (λ (a : SeatView). CanEndPart a.members a.member a.seen) (sym c.self.view_is) c.requires.place in
    in_part_is_inside _ _ _ _ _ c.self.invariant.1 can (sym c.get.ensures ∙ c.in_default.is)

pub end_part-requires-clause-inside : goal.end_part-requires-clause-inside
end_part-requires-clause-inside c =
    let team : ring_members c.args.ring.now ≡ c.self.inside.members = c.requires.ring.members ∙ sym (ap (λ (a : SeatView). a.members) c.self.view_is) in
    let stands = own_stands _ _ _ _ c.self.invariant.2 in
    in_share _ _ _ _ _ _ _ _ team c.self.invariant.1 stands (sym c.get.ensures ∙ c.in-Some.is)

pub end_part-requires-clause-may : goal.end_part-requires-clause-may
end_part-requires-clause-may c =
    let team : ring_members c.args.ring.now ≡ c.self.inside.members = c.requires.ring.members ∙ sym (ap (λ (a : SeatView). a.members) c.self.view_is) in
    let stands = own_stands _ _ _ _ c.self.invariant.2 in
    let can = subst (λ (a : SeatView). CanEndPart a.members a.member a.seen) (sym c.self.view_is) c.requires.place in
    holds_of_place _ _ _ (λ (n : ℕ) (s : Seen). CanEndPart n c.self.inside.member s) _ _ _ team c.self.invariant.1 can

pub invariant_of-self : goal.invariant_of-self
invariant_of-self c =
    let team : ring_members c.args.ring.now ≡ c.self.inside.members = c.requires.ring.members ∙ sym (ap (λ (a : SeatView). a.members) c.self.view_is) in
    let stands = own_stands _ _ _ _ c.self.invariant.2 in
    let is = acts_inside _ _ _ c.in-Some.share c.in-Some.shape (PartEnd c.in-Some.share c.self.inside.member) _ _ _ _ _ team c.self.invariant.1 stands (sym c.get.ensures ∙ c.in-Some.is) refl c.end_part.ensures.acted (sees_part_end _ _ c.in-Some.share _ _ _ c.self.invariant.1) refl refl in (
      c.end_part.ensures.seat.1 ∙ c.self.invariant.0,
      seat_after_act _ _ _ _ _ _ _ _ _ _ _ is,
      still_acts_for _ _ _ _ _ c.self.invariant.2 (ap (λ (x : View). x.mine) is.acts.after) (ap (λ (x : View). x.alone) is.acts.after),
      counts_stay _ _ _ _ (PartEnd c.in-Some.share c.self.inside.member) _ _ _ _ c.self.invariant.3 (did_then _ _ _ _ _ _ _ _ _ _ _ is) (record { count = λ share. refl; pieces = λ share. refl; loops = refl }) refl refl,
      c.self.invariant.4,
      c.self.invariant.5,
      c.self.invariant.6,
      c.is_asking-self-inside.ensures ∙ ticket_out_of_parts (c.in-Some.share, c.in-Some.shape) c.self.inside.drained ∙ sym (ap (λ (o : Option (ℕ × Shape)). asks_by_ticket o c.self.inside.drained false) (sym c.get.ensures ∙ c.in-Some.is)),
      c.self.invariant.8,
      c.self.invariant.9,
      none_executed _ _ _ _ c.self.invariant.10 (sym c.get.ensures ∙ c.in-Some.is),
      c.self.invariant.11,
      c.self.invariant.12,
      c.self.invariant.13,
      c.self.invariant.14,
    )

pub returns : goal.returns
returns c =
    let team : ring_members c.args.ring.now ≡ c.self.inside.members = c.requires.ring.members ∙ sym (ap (λ (a : SeatView). a.members) c.self.view_is) in
    let stands = own_stands _ _ _ _ c.self.invariant.2 in
    let is = acts_inside _ _ _ c.in-Some.share c.in-Some.shape (PartEnd c.in-Some.share c.self.inside.member) _ _ _ _ _ team c.self.invariant.1 stands (sym c.get.ensures ∙ c.in-Some.is) refl c.end_part.ensures.acted (sees_part_end _ _ c.in-Some.share _ _ _ c.self.invariant.1) refl refl in
    record {
      ended = act_tells _ _ _ _ _ _ _ _ _ (λ (b : SeatView). PartEnd (share_number b.seen.current) b.member) _ _ _ _ _ _ is c.end_part.ensures.seat.0 (ap (λ (o : Option (ℕ × Shape)). PartEnd (share_number o) c.self.inside.member) (sym c.get.ensures ∙ c.in-Some.is)) c.self.view_is;
    }
