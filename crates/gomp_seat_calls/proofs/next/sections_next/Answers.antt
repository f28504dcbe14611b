use Rattle.std.proofs.Common.{sym, ◌∙◌}
use Rattle.gomp_types.proofs.Booleans.{not_both}
use Rattle.gomp_ring.specs.RingSeats.{may_claim}
use Rattle.gomp_seat_calls.proofs.OwnPlace.{may_claim_section, refused_least}
use Rattle.gomp_seat_calls.proofs.next.sections_next.Goals as goal

pub refuse_next-requires-then-not-may_claim : goal.refuse_next-requires-then-not-may_claim
refuse_next-requires-then-not-may_claim c = record {
  refused = λ none. not_both (may_claim c.args.seat.now.seen) (may_claim_section c.args.seat.now c.current.ensures.stands none) (sym c.may_claim.ensures.answer ∙ c.if-not-may_claim.true);
}

pub returns-then-not-may_claim-clause-answers : goal.returns-then-not-may_claim-clause-answers
returns-then-not-may_claim-clause-answers c =
    refused_least _ _ c.args.seat.now c.refuse_next-then-not-may_claim.result
    (λ none. not_both (may_claim c.args.seat.now.seen) (may_claim_section c.args.seat.now c.current.ensures.stands none) (sym c.may_claim.ensures.answer ∙ c.if-not-may_claim.true))
    c.refuse_next-then-not-may_claim.ensures.least
