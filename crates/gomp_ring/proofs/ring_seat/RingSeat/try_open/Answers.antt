use Rattle.std.proofs.Common.{◌≡◌, ℕ, ◌+◌, Option, false, ◌∙◌, refl, ap, sym, subst, arith}
use Rattle.gomp_shares.specs.Calls.{CanOpen}
use Rattle.gomp_slots.specs.declared.opening.Entry.{Entry}
use Rattle.gomp_slots.specs.declared.opening.Entry.TheVariants.{Entered, NotYet, Differs}
use Rattle.gomp_types.specs.declared.shape.Shape.{Shape}
use Rattle.gomp_slots.specs.Words.{gate_at}
use Rattle.gomp_ring.specs.Rings.{ring_members}
use Rattle.gomp_events.specs.declared.event.Event.TheVariants.{Enter}
use Rattle.gomp_ring.specs.RingSeats.{SeatView, SeatActs, IsSeat, Counts, seen_by, asks_by_ticket}
use Rattle.gomp_ring.proofs.SeatCalls.{own_stands, still_acts_for}
use Rattle.gomp_ring.proofs.SeatEntries.{before_share, may_open, sees_entered, seat_after_entry, entry_of_team, counts_entered, entry_tells, opening_tells}
use Rattle.gomp_ring.proofs.SeatSingles.{never_below_none}
use Rattle.gomp_slots.proofs.OwnPieces.{one_share}
use Rattle.gomp_ring.proofs.ring_seat.RingSeat.try_open.Goals as goal

pub open_next-requires-clause-next : goal.open_next-requires-clause-next
open_next-requires-clause-next c =
    let team : ring_members c.args.ring.now ≡ c.self.inside.members = c.requires.ring.members ∙ sym (ap (λ (a : SeatView). a.members) c.self.view_is) in
    before_share _ _ _ _ _ _ _ team c.self.invariant.1 (own_stands _ _ _ _ c.self.invariant.2) refl

pub open_next-requires-clause-may : goal.open_next-requires-clause-may
open_next-requires-clause-may c =
    let team : ring_members c.args.ring.now ≡ c.self.inside.members = c.requires.ring.members ∙ sym (ap (λ (a : SeatView). a.members) c.self.view_is) in
    let can = subst (λ (a : SeatView). CanOpen a.members a.member c.args.shape.now a.seen) (sym c.self.view_is) c.requires.place in
    may_open _ _ _ _ _ _ _ team c.self.invariant.1 can

pub invariant_of-self : goal.invariant_of-self
invariant_of-self c =
    let team : ring_members c.args.ring.now ≡ c.self.inside.members = c.requires.ring.members ∙ sym (ap (λ (a : SeatView). a.members) c.self.view_is) in
    let can = subst (λ (a : SeatView). CanOpen a.members a.member c.args.shape.now a.seen) (sym c.self.view_is) c.requires.place in
    let opens = c.in-Entered.ensures.answer in
    let done = opens.3 in
    let there = c.enter.ensures in (
      c.open_next.ensures.seat.1 ∙ c.self.invariant.0,
      subst (λ (o : Option (ℕ × Shape)). IsSeat c.self.inside.members c.self.inside.member (seen_by (c.self.inside.entered + 1) o false c.keep_plan.new.cursor.plan 0 0 false false) c.keep_plan.new.cursor.plan c.open_next.new.seat.me.0) (sym there) (seat_after_entry _ _ c.self.inside.entered _ _ _ c.args.shape.now _ _ c.self.invariant.1 refl can c.keep_plan.ensures.plan (entry_of_team _ _ _ c.self.inside.entered _ _ c.args.shape.now _ _ team c.self.invariant.1 (own_stands _ _ _ _ c.self.invariant.2) opens) done),
      still_acts_for _ _ _ _ _ c.self.invariant.2 done.mine done.alone,
      subst (λ (o : Option (ℕ × Shape)). Counts c.self.inside.member 0 0 c.self.inside.taken (seen_by (c.self.inside.entered + 1) o false c.keep_plan.new.cursor.plan 0 0 false false) c.open_next.new.seat.me.0) (sym there) (counts_entered _ _ _ c.self.inside.entered _ _ _ _ _ c.args.shape.now _ _ team c.self.invariant.1 (own_stands _ _ _ _ c.self.invariant.2) refl can c.self.invariant.3 opens),
      c.keep_plan.ensures.whole,
      λ share at. c.gate_index-self-inside.ensures.word ∙ ap (λ (s : ℕ × Shape). gate_at s.0) (sym (one_share _ _ share (sym there ∙ at))),
      λ some. absurd (omega arith),
      c.is_asking-self-inside.ensures ∙ sym (ap (λ (o : Option (ℕ × Shape)). asks_by_ticket o false false) there),
      λ share at. ap (λ (s : ℕ × Shape). s.1.chunk) (sym (one_share _ _ share (sym there ∙ at))),
      λ bare. absurd (cc),
      λ is. absurd (never_below_none _ is),
      omega arith,
      c.self.invariant.12,
      c.keep_plan.ensures.none,
      c.keep_plan.ensures.plan ∙ sym (ap (λ (s : Shape). record { members = c.self.inside.members; shape = s }) c.keep_plan.ensures.planned),
    )

pub returns-in-Entered : goal.returns-in-Entered
returns-in-Entered c =
    let team : ring_members c.args.ring.now ≡ c.self.inside.members = c.requires.ring.members ∙ sym (ap (λ (a : SeatView). a.members) c.self.view_is) in
    let opens = c.in-Entered.ensures.answer in
    let sees = sees_entered _ _ c.self.inside.entered _ _ c.args.shape.now c.self.inside.seat.me.0 c.open_next.new.seat.me.0 c.self.invariant.1 refl opens.3.did_is in
    record { opened = subst (λ (o : Option (ℕ × Shape)). SeatActs (Enter c.args.self.now.seen.entered c.args.self.now.member c.args.shape.now) c.args.self.now (record { table = c.open_next.new.seat.table_id; members = c.self.inside.members; member = c.self.inside.member; seated = c.self.inside.seated; seen = seen_by (c.self.inside.entered + 1) o false c.keep_plan.new.cursor.plan 0 0 false false; did = c.open_next.new.seat.me.0.did })) (sym c.enter.ensures) (entry_tells _ _ _ _ _ _ _ _ _ c.args.shape.now _ _ _ team c.self.invariant.1 (own_stands _ _ _ _ c.self.invariant.2) c.open_next.ensures.seat.0 sees opens c.self.view_is) }

pub returns-in-NotYet : goal.returns-in-NotYet
returns-in-NotYet c =
    let team : ring_members c.args.ring.now ≡ c.self.inside.members = c.requires.ring.members ∙ sym (ap (λ (a : SeatView). a.members) c.self.view_is) in
    record { opened = opening_tells _ _ _ _ _ _ _ _ c.args.shape.now (NotYet c.in-NotYet.delay) _ _ _ team c.self.invariant.1 c.self.invariant.2 c.open_next.ensures.seat.0 c.in-NotYet.ensures.answer (λ e. let no_ : ◌≡◌ {A = Entry} (NotYet c.in-NotYet.delay) Entered = e in cc) c.self.view_is }

pub returns-in-Differs : goal.returns-in-Differs
returns-in-Differs c =
    let team : ring_members c.args.ring.now ≡ c.self.inside.members = c.requires.ring.members ∙ sym (ap (λ (a : SeatView). a.members) c.self.view_is) in
    record { opened = opening_tells _ _ _ _ _ _ _ _ c.args.shape.now Differs _ _ _ team c.self.invariant.1 c.self.invariant.2 c.open_next.ensures.seat.0 c.in-Differs.ensures.answer (λ e. let no_ : ◌≡◌ {A = Entry} Differs Entered = e in cc) c.self.view_is }
