use Rattle.std.proofs.Common.{◌≡◌, ◌∙◌, ap, sym}
use Rattle.gomp_ring.specs.Rings.{ring_members}
use Rattle.gomp_ring.specs.RingSeats.{SeatView}
use Rattle.gomp_ring.proofs.SeatCalls.{own_stands, in_share}
use Rattle.gomp_ring.proofs.SeatTurns.{asking_tells, asking_outside_tells}
use Rattle.gomp_ring.proofs.ring_seat.RingSeat.cancelled.Goals as goal

pub ask_cancelled-requires-clause-inside : goal.ask_cancelled-requires-clause-inside
ask_cancelled-requires-clause-inside c =
    let team : ring_members c.args.ring.now ≡ c.self.inside.members = c.requires.ring.members ∙ sym (ap (λ (a : SeatView). a.members) c.self.view_is) in
    let stands = own_stands _ _ _ _ c.self.invariant.2 in
    in_share _ _ _ _ _ _ _ _ team c.self.invariant.1 stands (sym c.get.ensures ∙ c.in-Some.is)

pub returns-in_default : goal.returns-in_default
returns-in_default c = record { asked = asking_outside_tells _ _ _ _ _ _ _ _ c.self.invariant.1 (sym c.get.ensures ∙ c.in_default.is) c.self.view_is }

pub returns : goal.returns
returns c =
    let team : ring_members c.args.ring.now ≡ c.self.inside.members = c.requires.ring.members ∙ sym (ap (λ (a : SeatView). a.members) c.self.view_is) in
    let stands = own_stands _ _ _ _ c.self.invariant.2 in
    record { asked = asking_tells _ _ _ _ _ _ _ c.in-Some.field-0-1 _ _ _ _ _ _ team c.self.invariant.1 stands (sym c.get.ensures ∙ c.in-Some.is) c.ask_cancelled.ensures.seat.0 c.ask_cancelled.ensures.answer c.self.view_is }
