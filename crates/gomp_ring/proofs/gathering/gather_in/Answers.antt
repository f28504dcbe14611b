use Rattle.std.proofs.Common.{◌≡◌, length, slice_get, Some, refl, arith, ◌∙◌, sym}
use Rattle.std.proofs.lemmas.Option.{slice_get_read}
use Rattle.gomp_ring.proofs.Joined.{next_seat, first_joined, next_joined, joined_apart, seats_are_gathered}
use Rattle.gomp_ring.proofs.gathering.gather_in.Goals as goal

-- The first seat

pub into_parts-whole-requires : goal.into_parts-whole-requires
into_parts-whole-requires c =
    let all = c.requires.seats in
    let some = c.args.ring.now.slots.some_member in
    let at : slice_get c.args.seats.items 0 ≡ Some c.remove.result = slice_get_read c.args.seats.items (length c.args.seats.items) 0 c.remove.result refl (let count = all.count in omega arith) c.remove.ensures.value in
    record { seated = all.seated _ _ at }

pub loop-rest-init : goal.loop-rest-init
loop-rest-init c =
    let all = c.requires.seats in
    let some = c.args.ring.now.slots.some_member in
    let at : slice_get c.args.seats.items 0 ≡ Some c.remove.result = slice_get_read c.args.seats.items (length c.args.seats.items) 0 c.remove.result refl (let count = all.count in omega arith) c.remove.ensures.value in
    first_joined _ _ _ _ _ _ _ _ all at c.into_parts-whole.ensures.parts c.remove.ensures.items c.requires.taken

-- Each further one

pub into_parts-seat-requires : goal.into_parts-seat-requires
into_parts-seat-requires c =
    let at = next_seat _ _ _ _ _ _ _ _ _ c.loop-rest.invariant c.loop-rest.rest.ok.0 (sym c.is_empty.ensures ∙ c.loop-rest-test.true) c.remove-in-loop-rest.ensures.value in
    record { seated = c.requires.seats.seated _ _ at }

pub join_seats-requires-clause-seats : goal.join_seats-requires-clause-seats
join_seats-requires-clause-seats c =
    let at = next_seat _ _ _ _ _ _ _ _ _ c.loop-rest.invariant c.loop-rest.rest.ok.0 (sym c.is_empty.ensures ∙ c.loop-rest-test.true) c.remove-in-loop-rest.ensures.value in
    let given = c.into_parts-seat.ensures.parts in
    (c.loop-rest.invariant.table, given.table ∙ (c.requires.seats.on _ _ at).table, given.holds)

pub join_seats-requires-clause-apart : goal.join_seats-requires-clause-apart
join_seats-requires-clause-apart c =
    let at = next_seat _ _ _ _ _ _ _ _ _ c.loop-rest.invariant c.loop-rest.rest.ok.0 (sym c.is_empty.ensures ∙ c.loop-rest-test.true) c.remove-in-loop-rest.ensures.value in
    joined_apart _ _ _ _ _ _ _ _ _ _ _ c.requires.seats c.loop-rest.invariant at c.into_parts-seat.ensures.parts

pub loop-rest-preserved : goal.loop-rest-preserved
loop-rest-preserved c =
    let at = next_seat _ _ _ _ _ _ _ _ _ c.loop-rest.invariant c.loop-rest.rest.ok.0 (sym c.is_empty.ensures ∙ c.loop-rest-test.true) c.remove-in-loop-rest.ensures.value in
    next_joined _ _ _ _ _ _ _ _ _ _ _ _ _ _ c.requires.seats c.loop-rest.invariant at c.into_parts-seat.ensures.parts c.join_seats.ensures.seat.0 c.join_seats.ensures.seat.1 c.remove-in-loop-rest.ensures.items c.min-shares.ensures

-- If no seat is left

pub returns : goal.returns
returns c = record { gathered = seats_are_gathered _ _ _ _ _ _ _ _ c.args.ring.now.slots.some_member c.requires.seats c.loop-rest.invariant c.loop-rest.rest.ok.0 (sym c.is_empty.ensures ∙ c.loop-rest-test.false) c.settle.ensures.settled }
