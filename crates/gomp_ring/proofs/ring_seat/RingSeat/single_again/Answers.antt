use Rattle.std.proofs.Common.{◌≡◌, ◌<◌, ◌^◌, true, ◌∙◌, refl, ap, sym, subst, arith}
use Rattle.std.specs.Prelude.{nat_lt}
use Rattle.gomp_events.specs.declared.seen.Seen.{Seen}
use Rattle.gomp_events.proofs.TestReadings.{below_is}
use Rattle.gomp_slots.specs.Calls.{GoesThrough}
use Rattle.gomp_ring.specs.Rings.{ring_members}
use Rattle.gomp_ring.specs.RingSeats.{SeatView, IsSeat, Counts}
use Rattle.gomp_ring.proofs.SeatCalls.{own_stands, still_acts_for}
use Rattle.gomp_ring.proofs.SeatSingles.{may_open_again, sees_passed, seat_after_pass, counts_passed, passage_tells, seen_again, executed_again}
use Rattle.gomp_ring.proofs.ring_seat.RingSeat.single_again.Goals as goal

pub invariant_of-self-2 : goal.invariant_of-self-2
invariant_of-self-2 c =
    let team : ring_members c.args.ring.now ≡ c.self.inside.members = c.requires.ring.members ∙ sym (ap (λ (a : SeatView). a.members) c.self.view_is) in
    let less : c.self.inside.entered < c.self.inside.again_below = c.if-share-self.false in
    let below = below_is c.self.inside.entered c.self.inside.again_below less in
    let most = c.self.invariant.11 in
    let few : c.self.inside.entered < 2 ^ 48 = omega arith in
    let can = may_open_again _ _ (nat_lt c.self.inside.entered c.self.inside.again_below) _ _ _ c.self.invariant.1 c.self.invariant.10 below few in
    let stands = own_stands _ _ _ _ c.self.invariant.2 in
    let goes : GoesThrough (ring_members c.args.ring.now) c.self.inside.member c.self.inside.entered true c.self.inside.seat.me.0 c.pass_again.new.seat.me.0 = c.pass_again.ensures.passed c.if-not-pass_again.false in
    let seen = seen_again _ _ (nat_lt c.self.inside.entered c.self.inside.again_below) c.self.invariant.10 below refl in (
      c.pass_again.ensures.seat.1 ∙ c.self.invariant.0,
      subst (λ (s : Seen). IsSeat c.self.inside.members c.self.inside.member s c.self.inside.cursor.plan c.pass_again.new.seat.me.0) (sym seen) (seat_after_pass true _ _ _ c.self.inside.entered _ _ _ _ _ team c.self.invariant.1 stands refl can goes),
      still_acts_for _ _ _ _ _ c.self.invariant.2 goes.after.mine goes.after.alone,
      subst (λ (s : Seen). Counts c.self.inside.member c.self.inside.own c.self.inside.here c.self.inside.taken s c.pass_again.new.seat.me.0) (sym seen) (counts_passed true _ _ _ c.self.inside.entered _ _ _ _ _ _ _ _ _ c.self.invariant.1 refl can c.self.invariant.3 goes),
      c.self.invariant.4,
      c.self.invariant.5,
      c.self.invariant.6,
      c.self.invariant.7,
      c.self.invariant.8,
      c.self.invariant.9,
      executed_again _ _ (nat_lt c.self.inside.entered c.self.inside.again_below) _ c.self.invariant.10 below refl,
      c.self.invariant.11,
      c.self.invariant.12,
      c.self.invariant.13,
      c.self.invariant.14,
    )

pub returns-clause-passed : goal.returns-clause-passed
returns-clause-passed c = λ passed.
    let team : ring_members c.args.ring.now ≡ c.self.inside.members = c.requires.ring.members ∙ sym (ap (λ (a : SeatView). a.members) c.self.view_is) in
    let goes : GoesThrough (ring_members c.args.ring.now) c.self.inside.member c.self.inside.entered true c.self.inside.seat.me.0 c.pass_again.new.seat.me.0 = c.pass_again.ensures.passed c.if-not-pass_again.false in
    let less : c.self.inside.entered < c.self.inside.again_below = c.if-share-self.false in
    let below = below_is c.self.inside.entered c.self.inside.again_below less in
    let seen = seen_again _ _ (nat_lt c.self.inside.entered c.self.inside.again_below) c.self.invariant.10 below refl in
    let sees = seen ∙ sees_passed true _ _ c.self.inside.entered _ _ c.self.inside.seat.me.0 c.pass_again.new.seat.me.0 c.self.invariant.1 refl goes.after.did_is in
    passage_tells true _ _ _ _ _ _ _ _ _ _ _ _ team c.self.invariant.1 (own_stands _ _ _ _ c.self.invariant.2) c.pass_again.ensures.seat.0 sees goes c.self.view_is
