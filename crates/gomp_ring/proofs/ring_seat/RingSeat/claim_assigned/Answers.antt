use Rattle.std.proofs.Common.{◌≡◌, ◌<◌, ◌∙◌, true, slice_get, Option, Some, None, refl, ap, sym, subst, arith}
use Rattle.std.specs.Prelude.{is_some, not}
use Rattle.gomp_types.specs.Pieces.{Piece}
use Rattle.gomp_chunks.specs.Plans.{PlanView, pieces}
use Rattle.gomp_shares.specs.Calls.{CanClaim}
use Rattle.gomp_slots.specs.declared.view.View.{View}
use Rattle.gomp_ring.specs.Rings.{ring_members}
use Rattle.gomp_ring.specs.RingSeats.{SeatView, seen_by, AreWhole, AreNoneFrom}
use Rattle.gomp_ring.proofs.SeatCalls.{own_stands, still_acts_for, may_take_assigned, claimed_by_assignment, sees_claim, claim_tells, seat_after_claim, counts_claim, own_count_more, own_as_before, asked_next, asked_past, plus_none}
use Rattle.gomp_types.specs.Shapes.{is_static}
use Rattle.gomp_events.specs.Events.{in_kind}
use Rattle.gomp_ring.proofs.Asking.{no_ticket_of_a_static_share}
use Rattle.gomp_ring.proofs.SeatSingles.{none_executed}
use Rattle.gomp_ring.proofs.RingReadings.{two_numbers_are_a_piece}
use Rattle.gomp_ring.proofs.ring_seat.RingSeat.claim_assigned.Goals as goal

pub take_assigned-requires-clause-may : goal.take_assigned-requires-clause-may
take_assigned-requires-clause-may c =
    let team : ring_members c.args.ring.now ≡ c.self.inside.members = c.requires.ring.members ∙ sym (ap (λ (a : SeatView). a.members) c.self.view_is) in
    let can = subst (λ (a : SeatView). CanClaim a.members a.member a.seen) (sym c.self.view_is) c.requires.place in
    let static = sym (ap (in_kind is_static) (sym c.get.ensures ∙ c.in-Some.is)) ∙ subst (λ (a : SeatView). in_kind is_static a.seen.current ≡ true) (sym c.self.view_is) c.requires.assigned in
    may_take_assigned _ _ _ _ _ _ _ _ team c.self.invariant.1 (own_stands _ _ _ _ c.self.invariant.2) (sym c.get.ensures ∙ c.in-Some.is) can static

pub invariant_of-self : goal.invariant_of-self
invariant_of-self c =
    let team : ring_members c.args.ring.now ≡ c.self.inside.members = c.requires.ring.members ∙ sym (ap (λ (a : SeatView). a.members) c.self.view_is) in
    let can = subst (λ (a : SeatView). CanClaim a.members a.member a.seen) (sym c.self.view_is) c.requires.place in
    let static = sym (ap (in_kind is_static) (sym c.get.ensures ∙ c.in-Some.is)) ∙ subst (λ (a : SeatView). in_kind is_static a.seen.current ≡ true) (sym c.self.view_is) c.requires.assigned in
    let is = claimed_by_assignment _ _ _ _ _ _ _ c.in-Some.field-0-1 (Some (c.in-Some-next_piece.first, c.in-Some-next_piece.end)) _ _ _ _ team c.self.invariant.1 (own_stands _ _ _ _ c.self.invariant.2) (sym c.get.ensures ∙ c.in-Some.is) can static c.self.invariant.3 c.take_assigned.ensures.acted c.in-Some-next_piece.ensures.piece c.in-Some-next_piece.ensures.within in
    let asked = asked_next c.next_piece.new.self.plan c.in-Some-next_piece.number ∙ ap (λ (p : PlanView). slice_get (pieces p) c.in-Some-next_piece.number) c.next_piece.ensures.plan ∙ c.in-Some-next_piece.ensures.number in
    let sees = ap (λ (p : Option Piece). record (seen_by c.self.inside.entered c.self.inside.current c.self.inside.drained c.self.inside.cursor.plan c.self.inside.asked c.self.inside.next_part c.self.inside.in_part c.self.inside.leaving) { piece = p }) asked ∙ sees_claim _ _ _ _ _ c.self.inside.drained _ _ _ _ is (sym can.more) in (
      c.take_assigned.ensures.seat.1 ∙ c.self.invariant.0,
      seat_after_claim _ _ _ _ _ _ _ _ _ _ _ is sees refl refl c.next_piece.ensures.plan,
      still_acts_for _ _ _ _ _ c.self.invariant.2 (ap (λ (x : View). x.mine) is.acts.after) (ap (λ (x : View). x.alone) is.acts.after),
      counts_claim _ _ _ _ _ _ _ _ _ _ _ _ _ _ _ is c.self.invariant.3 refl refl refl (λ assigned. own_count_more _ _ _ _ _ _ _ _ _ _ _ _ is c.self.invariant.3 assigned c.saturating_add-self-inside.result c.saturating_add-self-inside.ensures),
      subst (λ (p : PlanView). AreWhole p c.self.inside.whole) (sym c.next_piece.ensures.plan) c.self.invariant.4,
      c.self.invariant.5,
      λ some. ap is_some asked ∙ sym (ap not can.more),
      c.self.invariant.7,
      c.self.invariant.8,
      λ bare. c.next_piece.ensures.plan ∙ c.self.invariant.9 bare,
      none_executed _ _ _ _ c.self.invariant.10 (sym c.get.ensures ∙ c.in-Some.is),
      c.self.invariant.11,
      c.self.invariant.12,
      subst (λ (p : PlanView). AreNoneFrom p c.self.inside.none_from) (sym c.next_piece.ensures.plan) c.self.invariant.13,
      c.next_piece.ensures.plan ∙ c.self.invariant.14,
    )

pub invariant_of-self-in-None : goal.invariant_of-self-in-None
invariant_of-self-in-None c =
    let team : ring_members c.args.ring.now ≡ c.self.inside.members = c.requires.ring.members ∙ sym (ap (λ (a : SeatView). a.members) c.self.view_is) in
    let can = subst (λ (a : SeatView). CanClaim a.members a.member a.seen) (sym c.self.view_is) c.requires.place in
    let assigned = subst (λ (a : SeatView). in_kind is_static a.seen.current ≡ true) (sym c.self.view_is) c.requires.assigned in
    let static = sym (ap (in_kind is_static) (sym c.get.ensures ∙ c.in-Some.is)) ∙ assigned in
    let is = claimed_by_assignment _ _ _ _ _ _ _ c.in-Some.field-0-1 None _ _ _ _ team c.self.invariant.1 (own_stands _ _ _ _ c.self.invariant.2) (sym c.get.ensures ∙ c.in-Some.is) can static c.self.invariant.3 c.take_assigned.ensures.acted c.in-None.ensures.piece tt in
    let any = (let member = c.self.invariant.1.member in let some : 0 < c.self.inside.members = omega arith in some) in
    let asked = asked_past c.self.inside.members 18446744073709551615 c.in-Some.field-0-1 c.next_piece.new.self.plan any (c.self.invariant.1.valid _ (sym c.get.ensures ∙ c.in-Some.is)) (c.next_piece.ensures.plan ∙ c.self.invariant.1.plan_is _ (sym c.get.ensures ∙ c.in-Some.is)) (omega arith) in
    let sees = ap (λ (p : Option Piece). record (seen_by c.self.inside.entered c.self.inside.current true c.self.inside.cursor.plan c.self.inside.asked c.self.inside.next_part c.self.inside.in_part c.self.inside.leaving) { piece = p }) asked ∙ sees_claim _ _ _ _ _ true _ _ _ _ is refl in (
      c.take_assigned.ensures.seat.1 ∙ c.self.invariant.0,
      seat_after_claim _ _ _ _ _ _ _ _ _ _ _ is sees refl refl c.next_piece.ensures.plan,
      still_acts_for _ _ _ _ _ c.self.invariant.2 (ap (λ (x : View). x.mine) is.acts.after) (ap (λ (x : View). x.alone) is.acts.after),
      counts_claim _ _ _ _ _ _ _ _ _ _ _ _ _ _ _ is c.self.invariant.3 refl refl (plus_none c.self.inside.here) (λ assigned. own_as_before _ _ _ _ _ _ _ _ _ _ _ is c.self.invariant.3 assigned),
      subst (λ (p : PlanView). AreWhole p c.self.inside.whole) (sym c.next_piece.ensures.plan) c.self.invariant.4,
      c.self.invariant.5,
      λ some. ap is_some asked,
      c.self.invariant.7 ∙ no_ticket_of_a_static_share _ _ c.self.inside.in_part assigned ∙ sym (no_ticket_of_a_static_share _ true c.self.inside.in_part assigned),
      c.self.invariant.8,
      λ bare. c.next_piece.ensures.plan ∙ c.self.invariant.9 bare,
      none_executed _ _ _ _ c.self.invariant.10 (sym c.get.ensures ∙ c.in-Some.is),
      c.self.invariant.11,
      c.self.invariant.12,
      subst (λ (p : PlanView). AreNoneFrom p c.self.inside.none_from) (sym c.next_piece.ensures.plan) c.self.invariant.13,
      c.next_piece.ensures.plan ∙ c.self.invariant.14,
    )

pub returns-in-Some-next_piece : goal.returns-in-Some-next_piece
returns-in-Some-next_piece c =
    let team : ring_members c.args.ring.now ≡ c.self.inside.members = c.requires.ring.members ∙ sym (ap (λ (a : SeatView). a.members) c.self.view_is) in
    let can = subst (λ (a : SeatView). CanClaim a.members a.member a.seen) (sym c.self.view_is) c.requires.place in
    let static = sym (ap (in_kind is_static) (sym c.get.ensures ∙ c.in-Some.is)) ∙ subst (λ (a : SeatView). in_kind is_static a.seen.current ≡ true) (sym c.self.view_is) c.requires.assigned in
    let is = claimed_by_assignment _ _ _ _ _ _ _ c.in-Some.field-0-1 (Some (c.in-Some-next_piece.first, c.in-Some-next_piece.end)) _ _ _ _ team c.self.invariant.1 (own_stands _ _ _ _ c.self.invariant.2) (sym c.get.ensures ∙ c.in-Some.is) can static c.self.invariant.3 c.take_assigned.ensures.acted c.in-Some-next_piece.ensures.piece c.in-Some-next_piece.ensures.within in
    let asked = asked_next c.next_piece.new.self.plan c.in-Some-next_piece.number ∙ ap (λ (p : PlanView). slice_get (pieces p) c.in-Some-next_piece.number) c.next_piece.ensures.plan ∙ c.in-Some-next_piece.ensures.number in
    let sees = ap (λ (p : Option Piece). record (seen_by c.self.inside.entered c.self.inside.current c.self.inside.drained c.self.inside.cursor.plan c.self.inside.asked c.self.inside.next_part c.self.inside.in_part c.self.inside.leaving) { piece = p }) asked ∙ sees_claim _ _ _ _ _ c.self.inside.drained _ _ _ _ is (sym can.more) in
    record { claimed = claim_tells _ _ _ _ _ _ _ _ _ _ _ _ _ _ _ is c.take_assigned.ensures.seat.0 sees c.self.view_is (sym (two_numbers_are_a_piece _ _ is.within.0)) }

pub returns-in-None : goal.returns-in-None
returns-in-None c =
    let team : ring_members c.args.ring.now ≡ c.self.inside.members = c.requires.ring.members ∙ sym (ap (λ (a : SeatView). a.members) c.self.view_is) in
    let can = subst (λ (a : SeatView). CanClaim a.members a.member a.seen) (sym c.self.view_is) c.requires.place in
    let static = sym (ap (in_kind is_static) (sym c.get.ensures ∙ c.in-Some.is)) ∙ subst (λ (a : SeatView). in_kind is_static a.seen.current ≡ true) (sym c.self.view_is) c.requires.assigned in
    let is = claimed_by_assignment _ _ _ _ _ _ _ c.in-Some.field-0-1 None _ _ _ _ team c.self.invariant.1 (own_stands _ _ _ _ c.self.invariant.2) (sym c.get.ensures ∙ c.in-Some.is) can static c.self.invariant.3 c.take_assigned.ensures.acted c.in-None.ensures.piece tt in
    let any = (let member = c.self.invariant.1.member in let some : 0 < c.self.inside.members = omega arith in some) in
    let asked = asked_past c.self.inside.members 18446744073709551615 c.in-Some.field-0-1 c.next_piece.new.self.plan any (c.self.invariant.1.valid _ (sym c.get.ensures ∙ c.in-Some.is)) (c.next_piece.ensures.plan ∙ c.self.invariant.1.plan_is _ (sym c.get.ensures ∙ c.in-Some.is)) (omega arith) in
    let sees = ap (λ (p : Option Piece). record (seen_by c.self.inside.entered c.self.inside.current true c.self.inside.cursor.plan c.self.inside.asked c.self.inside.next_part c.self.inside.in_part c.self.inside.leaving) { piece = p }) asked ∙ sees_claim _ _ _ _ _ true _ _ _ _ is refl in
    record { claimed = claim_tells _ _ _ _ _ _ _ _ _ _ _ _ _ _ _ is c.take_assigned.ensures.seat.0 sees c.self.view_is refl }
