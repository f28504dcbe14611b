use Rattle.std.proofs.Common.{◌≡◌, ℕ, sym, ap, subst}
use Rattle.atomic_table.specs.Table.{Me}
use Rattle.gomp_types.specs.declared.shape.Shape.{Shape}
use Rattle.gomp_slots.specs.declared.view.View.{View}
use Rattle.gomp_slots.specs.Premises.{slots_members}
use Rattle.gomp_share_ring.specs.AllShares.{IsAll}
use Rattle.gomp_share_ring.proofs.AllCalls.{new_team, nothing_stands}
use Rattle.gomp_share_ring.proofs.NotedTakes.{noted_new}
use Rattle.gomp_share_ring.proofs.ring_all.RingAllShares.make.Goals as goal

pub invariant_of-result : goal.invariant_of-result
invariant_of-result c =
    let size : slots_members c.in_ok-slots.slots ≡ c.args.count = c.in_ok-slots.ensures.slots in
    let me = c.in_ok-slots.ensures.seat.1 in
    let v = ap (λ (m : Me Shape View). m.0) me in
    let items = c.in_ok-seats.ensures.items_if_clones_equal (λ y e. e) in
    let made : IsAll c.args.count c.in_ok-seats.seats.items c.in_ok-slots.seat.me.0 = new_team c.args.count c.new-10.result c.in_ok-seats.seats.items _ c.requires.team.0 c.new-10.ensures.seen items v in
    let all = subst (λ (n : ℕ). IsAll n c.in_ok-seats.seats.items c.in_ok-slots.seat.me.0) (sym size) made in
    (c.in_ok-slots.ensures.seat.0, ap (λ (m : Me Shape View). m.1) me, sym size, all, rw c.new-11.ensures (noted_new _ (ap (λ (x : View). x.did) v)))

pub returns-clause-stands : goal.returns-clause-stands
returns-clause-stands c =
    let size : slots_members c.in_ok-slots.slots ≡ c.args.count = c.in_ok-slots.ensures.slots in
    let me = c.in_ok-slots.ensures.seat.1 in
    let v = ap (λ (m : Me Shape View). m.0) me in
    let items = c.in_ok-seats.ensures.items_if_clones_equal (λ y e. e) in
    let made : IsAll c.args.count c.in_ok-seats.seats.items c.in_ok-slots.seat.me.0 = new_team c.args.count c.new-10.result c.in_ok-seats.seats.items _ c.requires.team.0 c.new-10.ensures.seen items v in
    let all = subst (λ (n : ℕ). IsAll n c.in_ok-seats.seats.items c.in_ok-slots.seat.me.0) (sym size) made in
    nothing_stands _ _ _ all (ap (λ (x : View). x.did) v)
