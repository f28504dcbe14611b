use Rattle.std.proofs.Common.{◌≡◌, ℕ, ◌+◌, ◌*◌, ◌<◌, ◌∙◌, true, slice_get, Option, refl, ap, sym, subst, arith}
use Rattle.std.specs.Prelude.{is_some, not}
use Rattle.std.proofs.lemmas.Bool.Decides.{nat_tests}
use Rattle.gomp_types.specs.Shapes.{is_static}
use Rattle.gomp_types.specs.Pieces.{Piece}
use Rattle.gomp_events.specs.Events.{in_kind}
use Rattle.gomp_types.proofs.Booleans.{not_both}
use Rattle.gomp_chunks.specs.Plans.{PlanView, pieces}
use Rattle.gomp_shares.specs.Calls.{CanClaim}
use Rattle.gomp_slots.specs.declared.view.View.{View}
use Rattle.gomp_ring.specs.Rings.{ring_members}
use Rattle.gomp_ring.specs.RingSeats.{SeatView, seen_by, AreWhole, AreNoneFrom, piece_in}
use Rattle.gomp_ring.proofs.SeatCalls.{own_stands, still_acts_for, may_take_ticket, claimed_by_ticket, claimed_whole, sees_claim, claim_tells, seat_after_claim, counts_claim, asked_next, asked_whole, chunk_more, rest_more, none_if_equal, some_unless_none}
use Rattle.gomp_ring.proofs.Asking.{ticket_until_drained, seat_has_ticket, static_without_ticket}
use Rattle.gomp_ring.proofs.SeatSingles.{none_executed}
use Rattle.gomp_ring.proofs.RingReadings.{two_numbers_are_a_piece}
use Rattle.gomp_ring.proofs.ring_seat.RingSeat.claim.Goals as goal

-- A static share

pub claim_assigned-requires-clause-assigned : goal.claim_assigned-requires-clause-assigned
claim_assigned-requires-clause-assigned c =
    let can = subst (λ (a : SeatView). CanClaim a.members a.member a.seen) (sym c.self.view_is) c.requires.place in
    subst (λ (a : SeatView). in_kind is_static a.seen.current ≡ true) c.self.view_is (static_without_ticket _ _ _ can.inside can.more can.apart (sym c.self.invariant.7 ∙ c.if-not-self.true))

-- Any other

pub take_ticket_at-ticket-requires-clause-may : goal.take_ticket_at-ticket-requires-clause-may
take_ticket_at-ticket-requires-clause-may c =
    let team : ring_members c.args.ring.now ≡ c.self.inside.members = c.requires.ring.members ∙ sym (ap (λ (a : SeatView). a.members) c.self.view_is) in
    let can = subst (λ (a : SeatView). CanClaim a.members a.member a.seen) (sym c.self.view_is) c.requires.place in
    let has = seat_has_ticket _ _ _ _ _ _ _ c.self.invariant.1 c.self.invariant.8 c.self.invariant.7 c.if-not-self.false in
    may_take_ticket _ _ _ _ _ _ _ _ team c.self.invariant.1 (own_stands _ _ _ _ c.self.invariant.2) has.is can has.queue

pub invariant_of-self : goal.invariant_of-self
invariant_of-self c =
    let team : ring_members c.args.ring.now ≡ c.self.inside.members = c.requires.ring.members ∙ sym (ap (λ (a : SeatView). a.members) c.self.view_is) in
    let can = subst (λ (a : SeatView). CanClaim a.members a.member a.seen) (sym c.self.view_is) c.requires.place in
    let has = seat_has_ticket _ _ _ _ _ _ _ c.self.invariant.1 c.self.invariant.8 c.self.invariant.7 c.if-not-self.false in
    let lt : c.take_ticket_at-ticket.result < c.self.inside.whole = (let o = c.if-ticket-self.true in grind (arith, nat_tests)) in
    let is = claimed_whole _ _ _ _ c.take_ticket_at-ticket.result c.self.inside.whole has.shape _ _ _ _ team c.self.invariant.1 (own_stands _ _ _ _ c.self.invariant.2) has.is can c.self.invariant.4 lt c.take_ticket_at-ticket.ensures.claimed.acts in
    let asked = asked_whole c.self.inside.members c.take_ticket_at-ticket.result c.self.inside.whole has.shape c.self.inside.cursor.plan (c.self.invariant.1.plan_is _ has.is) c.self.invariant.4 lt in
    let sees = ap (λ (p : Option Piece). record (seen_by c.self.inside.entered c.self.inside.current c.self.inside.drained c.self.inside.cursor.plan c.self.inside.asked c.self.inside.next_part c.self.inside.in_part c.self.inside.leaving) { piece = p }) asked ∙ sees_claim _ _ _ _ _ c.self.inside.drained _ _ _ _ is (sym can.more) in (
      c.take_ticket_at-ticket.ensures.seat.1 ∙ c.self.invariant.0,
      seat_after_claim _ _ _ _ _ _ _ _ _ _ _ is sees refl refl refl,
      still_acts_for _ _ _ _ _ c.self.invariant.2 (ap (λ (x : View). x.mine) is.acts.after) (ap (λ (x : View). x.alone) is.acts.after),
      counts_claim _ _ _ _ _ _ _ _ _ _ _ _ _ _ _ is c.self.invariant.3 refl refl (ap (λ (n : ℕ). c.self.inside.here + n) has.chunk_is ∙ chunk_more c.self.inside.here c.take_ticket_at-ticket.result has.shape.chunk) (λ static. absurd (not_both _ static (has.queue))),
      c.self.invariant.4,
      c.self.invariant.5,
      λ some. ap is_some asked ∙ sym (ap not can.more),
      c.self.invariant.7,
      c.self.invariant.8,
      c.self.invariant.9,
      none_executed _ _ _ _ c.self.invariant.10 has.is,
      c.self.invariant.11,
      c.self.invariant.12,
      c.self.invariant.13,
      c.self.invariant.14,
    )

pub returns-then-ticket-self : goal.returns-then-ticket-self
returns-then-ticket-self c =
    let team : ring_members c.args.ring.now ≡ c.self.inside.members = c.requires.ring.members ∙ sym (ap (λ (a : SeatView). a.members) c.self.view_is) in
    let can = subst (λ (a : SeatView). CanClaim a.members a.member a.seen) (sym c.self.view_is) c.requires.place in
    let has = seat_has_ticket _ _ _ _ _ _ _ c.self.invariant.1 c.self.invariant.8 c.self.invariant.7 c.if-not-self.false in
    let lt : c.take_ticket_at-ticket.result < c.self.inside.whole = (let o = c.if-ticket-self.true in grind (arith, nat_tests)) in
    let is = claimed_whole _ _ _ _ c.take_ticket_at-ticket.result c.self.inside.whole has.shape _ _ _ _ team c.self.invariant.1 (own_stands _ _ _ _ c.self.invariant.2) has.is can c.self.invariant.4 lt c.take_ticket_at-ticket.ensures.claimed.acts in
    let asked = asked_whole c.self.inside.members c.take_ticket_at-ticket.result c.self.inside.whole has.shape c.self.inside.cursor.plan (c.self.invariant.1.plan_is _ has.is) c.self.invariant.4 lt in
    let sees = ap (λ (p : Option Piece). record (seen_by c.self.inside.entered c.self.inside.current c.self.inside.drained c.self.inside.cursor.plan c.self.inside.asked c.self.inside.next_part c.self.inside.in_part c.self.inside.leaving) { piece = p }) asked ∙ sees_claim _ _ _ _ _ c.self.inside.drained _ _ _ _ is (sym can.more) in
    record { claimed = claim_tells _ _ _ _ _ _ _ _ _ _ _ _ _ _ _ is c.take_ticket_at-ticket.ensures.seat.0 sees c.self.view_is (sym (two_numbers_are_a_piece _ _ is.within.0) ∙ sym (ap (λ (n : ℕ). piece_in (c.take_ticket_at-ticket.result * n) (c.take_ticket_at-ticket.result * n + n)) has.chunk_is)) }

pub invariant_of-self-2 : goal.invariant_of-self-2
invariant_of-self-2 c =
    let team : ring_members c.args.ring.now ≡ c.self.inside.members = c.requires.ring.members ∙ sym (ap (λ (a : SeatView). a.members) c.self.view_is) in
    let can = subst (λ (a : SeatView). CanClaim a.members a.member a.seen) (sym c.self.view_is) c.requires.place in
    let has = seat_has_ticket _ _ _ _ _ _ _ c.self.invariant.1 c.self.invariant.8 c.self.invariant.7 c.if-not-self.false in
    let first : ℕ = c.finish_piece.result.first in
    let end : ℕ = c.finish_piece.result.end in
    let is = claimed_by_ticket _ _ _ _ c.take_ticket_at-ticket.result has.shape (piece_in first end) _ _ _ _ team c.self.invariant.1 (own_stands _ _ _ _ c.self.invariant.2) has.is can c.take_ticket_at-ticket.ensures.claimed.acts c.finish_piece.ensures.piece c.finish_piece.ensures.within in
    let asked = asked_next c.finish_piece.new.cursor.plan c.take_ticket_at-ticket.result ∙ ap (λ (p : PlanView). slice_get (pieces p) c.take_ticket_at-ticket.result) c.finish_piece.ensures.plan ∙ sym c.finish_piece.ensures.piece in
    let sees = ap (λ (p : Option Piece). record (seen_by c.self.inside.entered c.self.inside.current c.finish_piece.new.drained c.self.inside.cursor.plan c.self.inside.asked c.self.inside.next_part c.self.inside.in_part c.self.inside.leaving) { piece = p }) asked ∙ sees_claim _ _ _ _ _ c.finish_piece.new.drained _ _ _ _ is (none_if_equal first end c.finish_piece.ensures.ends ∙ sym c.finish_piece.ensures.drained) in (
      c.take_ticket_at-ticket.ensures.seat.1 ∙ c.self.invariant.0,
      seat_after_claim _ _ _ _ _ _ _ _ _ _ _ is sees refl refl c.finish_piece.ensures.plan,
      still_acts_for _ _ _ _ _ c.self.invariant.2 (ap (λ (x : View). x.mine) is.acts.after) (ap (λ (x : View). x.alone) is.acts.after),
      counts_claim _ _ _ _ _ _ _ _ _ _ _ _ _ _ _ is c.self.invariant.3 refl refl (c.finish_piece.ensures.here ∙ rest_more c.self.inside.here c.self.inside.chunk first end c.finish_piece.ensures.ends) (λ static. absurd (not_both _ static (has.queue))),
      subst (λ (p : PlanView). AreWhole p c.self.inside.whole) (sym c.finish_piece.ensures.plan) c.self.invariant.4,
      c.self.invariant.5,
      λ some. ap is_some asked ∙ some_unless_none (piece_in first end) ∙ ap not (none_if_equal first end c.finish_piece.ensures.ends ∙ sym c.finish_piece.ensures.drained),
      c.finish_piece.ensures.asking ∙ ticket_until_drained _ c.self.inside.drained _ c.finish_piece.new.drained (sym c.self.invariant.7 ∙ c.if-not-self.false),
      c.self.invariant.8,
      λ bare. c.finish_piece.ensures.plan ∙ c.self.invariant.9 bare,
      none_executed _ _ _ _ c.self.invariant.10 has.is,
      c.self.invariant.11,
      c.self.invariant.12,
      subst (λ (p : PlanView). AreNoneFrom p c.self.inside.none_from) (sym c.finish_piece.ensures.plan) c.self.invariant.13,
      c.finish_piece.ensures.plan ∙ c.self.invariant.14,
    )

pub returns : goal.returns
returns c =
    let team : ring_members c.args.ring.now ≡ c.self.inside.members = c.requires.ring.members ∙ sym (ap (λ (a : SeatView). a.members) c.self.view_is) in
    let can = subst (λ (a : SeatView). CanClaim a.members a.member a.seen) (sym c.self.view_is) c.requires.place in
    let has = seat_has_ticket _ _ _ _ _ _ _ c.self.invariant.1 c.self.invariant.8 c.self.invariant.7 c.if-not-self.false in
    let first : ℕ = c.finish_piece.result.first in
    let end : ℕ = c.finish_piece.result.end in
    let is = claimed_by_ticket _ _ _ _ c.take_ticket_at-ticket.result has.shape (piece_in first end) _ _ _ _ team c.self.invariant.1 (own_stands _ _ _ _ c.self.invariant.2) has.is can c.take_ticket_at-ticket.ensures.claimed.acts c.finish_piece.ensures.piece c.finish_piece.ensures.within in
    let asked = asked_next c.finish_piece.new.cursor.plan c.take_ticket_at-ticket.result ∙ ap (λ (p : PlanView). slice_get (pieces p) c.take_ticket_at-ticket.result) c.finish_piece.ensures.plan ∙ sym c.finish_piece.ensures.piece in
    let sees = ap (λ (p : Option Piece). record (seen_by c.self.inside.entered c.self.inside.current c.finish_piece.new.drained c.self.inside.cursor.plan c.self.inside.asked c.self.inside.next_part c.self.inside.in_part c.self.inside.leaving) { piece = p }) asked ∙ sees_claim _ _ _ _ _ c.finish_piece.new.drained _ _ _ _ is (none_if_equal first end c.finish_piece.ensures.ends ∙ sym c.finish_piece.ensures.drained) in
    record { claimed = claim_tells _ _ _ _ _ _ _ _ _ _ _ _ _ _ _ is c.take_ticket_at-ticket.ensures.seat.0 sees c.self.view_is refl }

pub take_ticket_at-ticket-requires-clause-gate : goal.take_ticket_at-ticket-requires-clause-gate
take_ticket_at-ticket-requires-clause-gate c =
    let has = seat_has_ticket _ _ _ _ _ _ _ c.self.invariant.1 c.self.invariant.8 c.self.invariant.7 c.if-not-self.false in
    c.self.invariant.5 _ has.is
