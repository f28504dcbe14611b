use Rattle.std.proofs.Common.{◌+◌, ◌<◌, ap, sym, ◌∙◌, subst, arith}
use Rattle.gomp_slots.specs.declared.view.View.{View}
use Rattle.gomp_ring.specs.RingSeats.{ActsFor}
use Rattle.gomp_ring.proofs.SeatEntries.{second_once, kept_acts_for, seat_unchanged, counts_unchanged}
use Rattle.gomp_ring.proofs.ring_seat.RingSeat.split.Goals as goal

pub split_seat-seat-requires-clause-distinct : goal.split_seat-seat-requires-clause-distinct
split_seat-seat-requires-clause-distinct c =
    let more : c.self.inside.seated < c.self.inside.members = let within = c.self.invariant.2.within in let apart = c.if-self.false in omega arith in
    second_once _ _ _ _ c.self.invariant.2 more

pub invariant_of-self : goal.invariant_of-self
invariant_of-self c =
    let more : c.self.inside.seated < c.self.inside.members = let within = c.self.invariant.2.within in let apart = c.if-self.false in omega arith in
    let kept = c.split_seat-seat.ensures.views.0 in (
      ap (λ m. m.1) kept ∙ c.self.invariant.0,
      seat_unchanged _ _ _ _ _ _ c.self.invariant.1 (ap (λ m. m.0.did) kept) (ap (λ m. m.0.opening) kept ∙ c.self.invariant.1.idle),
      subst (λ (v : View). ActsFor c.self.inside.members c.self.inside.member (c.self.inside.seated + 1) v) (sym (ap (λ m. m.0) kept)) (kept_acts_for _ _ _ _ c.self.invariant.2 more),
      counts_unchanged _ _ _ _ _ _ _ c.self.invariant.3 (ap (λ m. m.0.did) kept),
      c.self.invariant.4,
      c.self.invariant.5,
      c.self.invariant.6,
      c.self.invariant.7,
      c.self.invariant.8,
      c.self.invariant.9,
      c.self.invariant.10,
      c.self.invariant.11,
      c.self.invariant.12,
      c.self.invariant.13,
      c.self.invariant.14,
    )
