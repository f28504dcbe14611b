use Rattle.std.proofs.Common.{◌≡◌, ℕ, false, ◌∙◌, refl, ap, sym, subst, Option}
use Rattle.std.specs.Prelude.{not, nat_lt, ◌&&◌}
use Rattle.gomp_events.specs.declared.seen.Seen.{Seen}
use Rattle.gomp_types.specs.declared.shape.Shape.{Shape}
use Rattle.gomp_types.specs.Singles.{single_shape}
use Rattle.gomp_shares.specs.Calls.{CanOpen}
use Rattle.gomp_slots.specs.declared.singles.Passage.{Passage}
use Rattle.gomp_slots.specs.declared.singles.Passage.TheVariants.{Passed, NotYet, Differs}
use Rattle.gomp_ring.specs.Rings.{ring_members}
use Rattle.gomp_ring.specs.RingSeats.{SeatView, IsSeat, Counts, asks_by_ticket}
use Rattle.gomp_ring.proofs.SeatCalls.{own_stands, still_acts_for}
use Rattle.gomp_ring.proofs.SeatEntries.{before_share, may_open, in_no_share}
use Rattle.gomp_ring.proofs.SeatSingles.{has_executed, below_most, sees_passed, kept_seen, asked_there, seat_after_pass, counts_passed, passage_tells, passing_tells}
use Rattle.gomp_ring.proofs.ring_seat.RingSeat.single_by_look.Goals as goal

pub pass_single-requires-clause-next : goal.pass_single-requires-clause-next
pass_single-requires-clause-next c =
    let team : ring_members c.args.ring.now ≡ c.self.inside.members = c.requires.ring.members ∙ sym (ap (λ (a : SeatView). a.members) c.self.view_is) in
    before_share _ _ _ _ _ _ _ team c.self.invariant.1 (own_stands _ _ _ _ c.self.invariant.2) refl

pub pass_single-requires-clause-may : goal.pass_single-requires-clause-may
pass_single-requires-clause-may c =
    let team : ring_members c.args.ring.now ≡ c.self.inside.members = c.requires.ring.members ∙ sym (ap (λ (a : SeatView). a.members) c.self.view_is) in
    let can = subst (λ (a : SeatView). CanOpen a.members a.member (single_shape false) a.seen) (sym c.self.view_is) c.requires.place in
    may_open _ _ _ _ _ (single_shape false) _ team c.self.invariant.1 can

pub invariant_of-self : goal.invariant_of-self
invariant_of-self c =
    let team : ring_members c.args.ring.now ≡ c.self.inside.members = c.requires.ring.members ∙ sym (ap (λ (a : SeatView). a.members) c.self.view_is) in
    let can = subst (λ (a : SeatView). CanOpen a.members a.member (single_shape false) a.seen) (sym c.self.view_is) c.requires.place in
    let goes = c.in-Passed.ensures.answer in
    let stands = own_stands _ _ _ _ c.self.invariant.2 in
    let seen = kept_seen c.in-Passed.executes c.self.inside.members c.self.inside.entered _ _ _ (in_no_share _ can.outside) c.keep_single.ensures.plan c.asked_in_single-self-inside.ensures in (
      c.pass_single.ensures.seat.1 ∙ c.self.invariant.0,
      subst (λ (s : Seen). IsSeat c.self.inside.members c.self.inside.member s c.keep_single.new.cursor.plan c.pass_single.new.seat.me.0) (sym seen) (seat_after_pass c.in-Passed.executes _ _ _ c.self.inside.entered _ _ _ _ _ team c.self.invariant.1 stands refl can goes),
      still_acts_for _ _ _ _ _ c.self.invariant.2 goes.after.mine goes.after.alone,
      subst (λ (s : Seen). Counts c.self.inside.member c.self.inside.own c.self.inside.here c.self.inside.taken s c.pass_single.new.seat.me.0) (sym seen) (counts_passed c.in-Passed.executes _ _ _ c.self.inside.entered _ _ _ _ _ _ _ _ _ c.self.invariant.1 refl can c.self.invariant.3 goes),
      c.keep_single.ensures.whole,
      c.self.invariant.5,
      asked_there c.in-Passed.executes c.self.inside.members _ _ c.keep_single.ensures.plan c.asked_in_single-self-inside.ensures,
      c.self.invariant.7 ∙ ap (λ (o : Option (ℕ × Shape)). asks_by_ticket o c.self.inside.drained c.self.inside.in_part) (in_no_share _ can.outside) ∙ sym (ap (λ (o : Option (ℕ × Shape)). asks_by_ticket o (not c.in-Passed.executes) false) (in_no_share _ can.outside)),
      c.self.invariant.8,
      λ bare. c.keep_single.ensures.plan,
      has_executed c.in-Passed.executes _ c.self.inside.entered _ _ seen refl c.goes_on_below-self-inside.ensures,
      below_most (c.in-Passed.executes && nat_lt 6 c.self.inside.entered) _ c.goes_on_below-self-inside.ensures,
      c.self.invariant.12,
      c.keep_single.ensures.none,
      c.keep_single.ensures.plan ∙ sym (ap (λ (s : Shape). record { members = c.self.inside.members; shape = s }) c.keep_single.ensures.planned),
    )

pub returns-in-Passed : goal.returns-in-Passed
returns-in-Passed c =
    let team : ring_members c.args.ring.now ≡ c.self.inside.members = c.requires.ring.members ∙ sym (ap (λ (a : SeatView). a.members) c.self.view_is) in
    let can = subst (λ (a : SeatView). CanOpen a.members a.member (single_shape false) a.seen) (sym c.self.view_is) c.requires.place in
    let goes = c.in-Passed.ensures.answer in
    let seen = kept_seen c.in-Passed.executes c.self.inside.members c.self.inside.entered _ _ _ (in_no_share _ can.outside) c.keep_single.ensures.plan c.asked_in_single-self-inside.ensures in
    let sees = seen ∙ sees_passed c.in-Passed.executes _ _ c.self.inside.entered _ _ c.self.inside.seat.me.0 c.pass_single.new.seat.me.0 c.self.invariant.1 refl goes.after.did_is in
    record { passed = passage_tells c.in-Passed.executes _ _ _ _ _ _ _ _ _ _ _ _ team c.self.invariant.1 (own_stands _ _ _ _ c.self.invariant.2) c.pass_single.ensures.seat.0 sees goes c.self.view_is }

pub returns-in-NotYet : goal.returns-in-NotYet
returns-in-NotYet c =
    let team : ring_members c.args.ring.now ≡ c.self.inside.members = c.requires.ring.members ∙ sym (ap (λ (a : SeatView). a.members) c.self.view_is) in
    record { passed = passing_tells _ _ _ _ _ _ _ _ (NotYet c.in-NotYet.delay) _ _ _ team c.self.invariant.1 c.self.invariant.2 c.pass_single.ensures.seat.0 c.in-NotYet.ensures.answer (λ executes e. let no_ : ◌≡◌ {A = Passage} (NotYet c.in-NotYet.delay) (Passed executes) = e in cc) c.self.view_is }

pub returns-in-Differs : goal.returns-in-Differs
returns-in-Differs c =
    let team : ring_members c.args.ring.now ≡ c.self.inside.members = c.requires.ring.members ∙ sym (ap (λ (a : SeatView). a.members) c.self.view_is) in
    record { passed = passing_tells _ _ _ _ _ _ _ _ Differs _ _ _ team c.self.invariant.1 c.self.invariant.2 c.pass_single.ensures.seat.0 c.in-Differs.ensures.answer (λ executes e. let no_ : ◌≡◌ {A = Passage} Differs (Passed executes) = e in cc) c.self.view_is }
