use Rattle.std.proofs.Common.{◌≡◌, ℕ, Some, ap, sym, ◌∙◌}
use Rattle.gomp_types.specs.declared.shape.Shape.{Shape}
use Rattle.gomp_loops.specs.Answers.{reply_of_piece}
use Rattle.gomp_ring.specs.RingSeats.{piece_in}
use Rattle.gomp_seat_calls.specs.Chunks.{reply_of_chunk}
use Rattle.gomp_seat_calls.proofs.ClaimsAlone.{alone_is_answered, alone_may_claim}
use Rattle.gomp_seat_calls.proofs.OwnSteps.{claimed_within, claims_its_share}
use Rattle.gomp_seat_calls.proofs.chunk.claim_chunk.Goals as goal

pub claim-requires-clause-place : goal.claim-requires-clause-place
claim-requires-clause-place c = c.may_claim.ensures.place (c.may_claim.ensures.answer ∙ alone_may_claim c.args.seat.now.seen c.requires.alone)

pub chunk_of-requires-clause-shape : goal.chunk_of-requires-clause-shape
chunk_of-requires-clause-shape c =
    let inside : c.args.seat.now.seen.current ≡ Some (c.in-Some.field-0-0, c.in-Some.shape) = sym c.current.ensures.value ∙ c.in-Some.is in
    c.current.ensures.stands.valid (c.in-Some.field-0-0, c.in-Some.shape) inside

pub chunk_of-requires-clause-within : goal.chunk_of-requires-clause-within
chunk_of-requires-clause-within c =
    let inside : c.args.seat.now.seen.current ≡ Some (c.in-Some.field-0-0, c.in-Some.shape) = sym c.current.ensures.value ∙ c.in-Some.is in
    claimed_within c.args.seat.now c.claim.new.self (piece_in c.claim.result.first c.claim.result.end) c.in-Some.field-0-0 c.in-Some.shape c.current.ensures.stands c.claim.ensures.claimed inside

pub returns-clause-answers : goal.returns-clause-answers
returns-clause-answers c =
    let inside : c.args.seat.now.seen.current ≡ Some (c.in-Some.field-0-0, c.in-Some.shape) = sym c.current.ensures.value ∙ c.in-Some.is in
    let piece = piece_in c.claim.result.first c.claim.result.end in
    alone_is_answered c.args.seat.now (reply_of_chunk c.chunk_of.result.first c.chunk_of.result.count) c.claim.new.self c.requires.alone (record {
      piece = piece;
      claims = c.claim.ensures.claimed;
      reply_is = c.chunk_of.ensures.reply ∙ sym (ap (λ (share : ℕ × Shape). reply_of_piece share.1 piece) (claims_its_share c.args.seat.now c.claim.new.self piece (c.in-Some.field-0-0, c.in-Some.shape) c.claim.ensures.claimed inside));
    })
