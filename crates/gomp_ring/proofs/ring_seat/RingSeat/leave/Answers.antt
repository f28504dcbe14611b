use Rattle.std.proofs.Common.{◌≡◌, ℕ, ◌+◌, Option, false, ◌∙◌, ◌∷◌, refl, ap, sym, subst}
use Rattle.std.proofs.lemmas.Option.{none-some}
use Rattle.gomp_events.specs.declared.event.Event.TheVariants.{End}
use Rattle.gomp_shares.specs.Calls.{CanLeave}
use Rattle.gomp_slots.specs.declared.view.View.{View}
use Rattle.gomp_ring.specs.Rings.{ring_members}
use Rattle.gomp_slots.specs.Calls.{Acts}
use Rattle.gomp_types.specs.declared.shape.Shape.{Shape}
use Rattle.gomp_events.specs.Events.{share_number}
use Rattle.gomp_ring.specs.RingSeats.{SeatView, SeatActs, IsSeat, Counts, seen_by, asks_by_ticket}
use Rattle.gomp_ring.proofs.SeatCalls.{own_stands, still_acts_for, part_of_team, in_share, seat_after}
use Rattle.gomp_ring.proofs.SeatEntries.{may_leave_share, sees_left, counts_left, leave_tells}
use Rattle.gomp_ring.proofs.SeatSingles.{none_executed}
use Rattle.gomp_ring.proofs.ring_seat.RingSeat.leave.Goals as goal

pub leave_share-requires-clause-inside : goal.leave_share-requires-clause-inside
leave_share-requires-clause-inside c =
    let team : ring_members c.args.ring.now ≡ c.self.inside.members = c.requires.ring.members ∙ sym (ap (λ (a : SeatView). a.members) c.self.view_is) in
    in_share _ _ _ _ _ _ _ _ team c.self.invariant.1 (own_stands _ _ _ _ c.self.invariant.2) (sym c.get.ensures ∙ c.in-Some.is)

pub leave_share-requires-clause-may : goal.leave_share-requires-clause-may
leave_share-requires-clause-may c =
    let team : ring_members c.args.ring.now ≡ c.self.inside.members = c.requires.ring.members ∙ sym (ap (λ (a : SeatView). a.members) c.self.view_is) in
    let can = subst (λ (a : SeatView). CanLeave a.members a.member a.seen) (sym c.self.view_is) c.requires.place in
    may_leave_share _ _ _ _ _ _ team c.self.invariant.1 can

pub invariant_of-self : goal.invariant_of-self
invariant_of-self c =
    let team : ring_members c.args.ring.now ≡ c.self.inside.members = c.requires.ring.members ∙ sym (ap (λ (a : SeatView). a.members) c.self.view_is) in
    let acts : Acts (ring_members c.args.ring.now) (End c.in-Some.share c.self.inside.member) c.self.inside.seat.me.0 c.leave_share.new.seat.me.0 = c.leave_share.ensures.acted in
    let goes : c.leave_share.new.seat.me.0.did ≡ End c.in-Some.share c.self.inside.member ∷ c.self.inside.seat.me.0.did = ap (λ (x : View). x.did) acts.after in
    let left = c.leave.ensures in (
      c.leave_share.ensures.seat.1 ∙ c.self.invariant.0,
      subst (λ (o : Option (ℕ × Shape)). IsSeat c.self.inside.members c.self.inside.member (seen_by c.self.inside.entered o c.self.inside.drained c.self.inside.cursor.plan c.self.inside.asked c.self.inside.next_part c.self.inside.in_part false) c.self.inside.cursor.plan c.leave_share.new.seat.me.0) (sym left) (seat_after _ _ _ c.in-Some.shape _ _ _ _ (End c.in-Some.share c.self.inside.member) _ _ c.self.invariant.1 (sym c.get.ensures ∙ c.in-Some.is) refl acts.after (part_of_team _ _ _ _ _ (End c.in-Some.share c.self.inside.member) _ _ team c.self.invariant.1 (own_stands _ _ _ _ c.self.invariant.2) refl acts) (sees_left _ _ c.in-Some.share _ _ c.self.inside.seat.me.0 c.leave_share.new.seat.me.0 c.self.invariant.1 goes) refl (λ share at. absurd (none-some share at)) refl),
      still_acts_for _ _ _ _ _ c.self.invariant.2 (ap (λ (x : View). x.mine) acts.after) (ap (λ (x : View). x.alone) acts.after),
      subst (λ (o : Option (ℕ × Shape)). Counts c.self.inside.member c.self.inside.own c.self.inside.here (c.self.inside.taken + c.loop_part.result) (seen_by c.self.inside.entered o c.self.inside.drained c.self.inside.cursor.plan c.self.inside.asked c.self.inside.next_part c.self.inside.in_part false) c.leave_share.new.seat.me.0) (sym left) (counts_left _ _ _ _ _ _ _ c.in-Some.shape _ _ _ _ c.self.invariant.1 c.self.invariant.3 (sym c.get.ensures ∙ c.in-Some.is) goes (ap (λ (n : ℕ). c.self.inside.taken + n) c.loop_part.ensures)),
      c.self.invariant.4,
      λ share at. absurd (none-some share (sym left ∙ at)),
      c.self.invariant.6,
      sym (ap (λ (o : Option (ℕ × Shape)). asks_by_ticket o c.self.inside.drained c.self.inside.in_part) left),
      λ share at. absurd (none-some share (sym left ∙ at)),
      c.self.invariant.9,
      none_executed _ _ _ _ c.self.invariant.10 (sym c.get.ensures ∙ c.in-Some.is),
      c.self.invariant.11,
      c.self.invariant.12,
      c.self.invariant.13,
      c.self.invariant.14,
    )

pub returns : goal.returns
returns c =
    let team : ring_members c.args.ring.now ≡ c.self.inside.members = c.requires.ring.members ∙ sym (ap (λ (a : SeatView). a.members) c.self.view_is) in
    let acts : Acts (ring_members c.args.ring.now) (End c.in-Some.share c.self.inside.member) c.self.inside.seat.me.0 c.leave_share.new.seat.me.0 = c.leave_share.ensures.acted in
    let goes : c.leave_share.new.seat.me.0.did ≡ End c.in-Some.share c.self.inside.member ∷ c.self.inside.seat.me.0.did = ap (λ (x : View). x.did) acts.after in
    record { left = subst (λ (o : Option (ℕ × Shape)). SeatActs (End (share_number c.args.self.now.seen.current) c.args.self.now.member) c.args.self.now (record { table = c.leave_share.new.seat.table_id; members = c.self.inside.members; member = c.self.inside.member; seated = c.self.inside.seated; seen = seen_by c.self.inside.entered o c.self.inside.drained c.self.inside.cursor.plan c.self.inside.asked c.self.inside.next_part c.self.inside.in_part false; did = c.leave_share.new.seat.me.0.did })) (sym c.leave.ensures) (leave_tells _ _ _ c.in-Some.share _ _ _ c.in-Some.shape _ _ _ _ _ _ team c.self.invariant.1 (own_stands _ _ _ _ c.self.invariant.2) (sym c.get.ensures ∙ c.in-Some.is) c.leave_share.ensures.seat.0 acts (sees_left _ _ c.in-Some.share _ _ c.self.inside.seat.me.0 c.leave_share.new.seat.me.0 c.self.invariant.1 goes) c.self.view_is) }
