use Rattle.std.proofs.Common.{◌≡◌, FitsSigned, refl, ap, sym, ◌∙◌, rules}
use Rattle.std.specs.Int.{w64}
use Rattle.gomp_types.specs.Values.{IsShape}
use Rattle.gomp_ring.specs.Rings.{ring_members}
use Rattle.gomp_ring.specs.RingSeats.{SeatView}
use Rattle.gomp_ring.proofs.SeatCalls.{own_stands, still_acts_for}
use Rattle.gomp_ring.proofs.SeatEntries.{before_share, seat_unchanged, counts_unchanged}
use Rattle.gomp_ring.proofs.SeatLooks.{look_keeps, before_share_still, absent_share_differs, words_of_slot_differ, comparison_tells}
use Rattle.gomp_ring.proofs.ring_seat.RingSeat.differs.Goals as goal

pub look_at_next-word-requires-clause-next : goal.look_at_next-word-requires-clause-next
look_at_next-word-requires-clause-next c =
    let team : ring_members c.args.ring.now ≡ c.self.inside.members = c.requires.ring.members ∙ sym (ap (λ (a : SeatView). a.members) c.self.view_is) in
    before_share _ _ _ _ _ _ _ team c.self.invariant.1 (own_stands _ _ _ _ c.self.invariant.2) refl

pub has_same_words-requires-clause-next : goal.has_same_words-requires-clause-next
has_same_words-requires-clause-next c =
    let team : ring_members c.args.ring.now ≡ c.self.inside.members = c.requires.ring.members ∙ sym (ap (λ (a : SeatView). a.members) c.self.view_is) in
    let done = look_keeps _ _ _ _ _ _ _ _ _ c.self.invariant.1 c.look_at_next-word.ensures.looked in
    before_share_still _ _ _ _ _ (before_share _ _ _ _ _ _ _ team c.self.invariant.1 (own_stands _ _ _ _ c.self.invariant.2) refl) done

pub has_same_words-requires-clause-shape : goal.has_same_words-requires-clause-shape
has_same_words-requires-clause-shape c = c.requires.place.valid

pub invariant_of-self : goal.invariant_of-self
invariant_of-self c =
    let done = look_keeps _ _ _ _ _ _ _ _ _ c.self.invariant.1 c.look_at_next-word.ensures.looked in (
      c.look_at_next-word.ensures.seat.1 ∙ c.self.invariant.0,
      seat_unchanged _ _ _ _ _ _ c.self.invariant.1 done.did_is done.idle,
      still_acts_for _ _ _ _ _ c.self.invariant.2 done.mine done.alone,
      counts_unchanged _ _ _ _ _ _ _ c.self.invariant.3 done.did_is,
      c.self.invariant.4,
      c.self.invariant.5,
      c.self.invariant.6,
      c.self.invariant.7,
      c.self.invariant.8,
      c.self.invariant.9,
      c.self.invariant.10,
      c.self.invariant.11,
      c.self.invariant.12,
      c.self.invariant.13,
      c.self.invariant.14,
    )

pub invariant_of-self-2 : goal.invariant_of-self-2
invariant_of-self-2 c =
    let done = look_keeps _ _ _ _ _ _ _ _ _ c.self.invariant.1 c.look_at_next-word.ensures.looked in
    let same = c.has_same_words.ensures.seat.1 in (
      ap (λ m. m.1) same ∙ c.look_at_next-word.ensures.seat.1 ∙ c.self.invariant.0,
      seat_unchanged _ _ _ _ _ _ c.self.invariant.1 (ap (λ m. m.0.did) same ∙ done.did_is) (ap (λ m. m.0.opening) same ∙ done.idle),
      still_acts_for _ _ _ _ _ c.self.invariant.2 (ap (λ m. m.0.mine) same ∙ done.mine) (ap (λ m. m.0.alone) same ∙ done.alone),
      counts_unchanged _ _ _ _ _ _ _ c.self.invariant.3 (ap (λ m. m.0.did) same ∙ done.did_is),
      c.self.invariant.4,
      c.self.invariant.5,
      c.self.invariant.6,
      c.self.invariant.7,
      c.self.invariant.8,
      c.self.invariant.9,
      c.self.invariant.10,
      c.self.invariant.11,
      c.self.invariant.12,
      c.self.invariant.13,
      c.self.invariant.14,
    )

pub returns-then-not-holds_share : goal.returns-then-not-holds_share
returns-then-not-holds_share c =
    let team : ring_members c.args.ring.now ≡ c.self.inside.members = c.requires.ring.members ∙ sym (ap (λ (a : SeatView). a.members) c.self.view_is) in
    let looked = c.look_at_next-word.ensures.looked in
    let done = look_keeps _ _ _ _ _ _ _ _ _ c.self.invariant.1 looked in
    record { compared = comparison_tells _ _ _ _ _ _ _ _ _ c.args.shape.now _ _ _ c.look_at_next-word.new.seat.me.0 _ team c.self.invariant.1 (own_stands _ _ _ _ c.self.invariant.2) c.look_at_next-word.ensures.seat.0 looked (absent_share_differs _ _ _ _ _ _ looked (sym c.holds_share.ensures.answer ∙ c.if-not-holds_share.true)) done.did_is c.self.view_is }

pub returns : goal.returns
returns c =
    let team : ring_members c.args.ring.now ≡ c.self.inside.members = c.requires.ring.members ∙ sym (ap (λ (a : SeatView). a.members) c.self.view_is) in
    let looked = c.look_at_next-word.ensures.looked in
    let done = look_keeps _ _ _ _ _ _ _ _ _ c.self.invariant.1 looked in
    let same = c.has_same_words.ensures.seat in
    let valid : IsShape c.args.shape.now = c.requires.place.valid in
    let start : FitsSigned w64 c.args.shape.now.start = search rules in
    let incr : FitsSigned w64 c.args.shape.now.incr = search rules in
    let answer = words_of_slot_differ _ _ _ _ c.has_same_words.result _ _ looked (sym c.holds_share.ensures.answer ∙ c.if-not-holds_share.false) (record { valid = valid; start = start; incr = incr }) c.has_same_words.ensures.same c.has_same_words.ensures.differs in
    record { compared = comparison_tells _ _ _ _ _ _ _ _ _ c.args.shape.now _ _ _ c.has_same_words.new.seat.me.0 _ team c.self.invariant.1 (own_stands _ _ _ _ c.self.invariant.2) (same.0 ∙ c.look_at_next-word.ensures.seat.0) looked answer (ap (λ m. m.0.did) same.1 ∙ done.did_is) c.self.view_is }
