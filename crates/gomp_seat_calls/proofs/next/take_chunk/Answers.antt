use Rattle.std.proofs.Common.{ℕ, ap, sym, ◌∙◌}
use Rattle.gomp_types.specs.declared.shape.Shape.{Shape}
use Rattle.gomp_loops.specs.Answers.{reply_of_piece}
use Rattle.gomp_ring.specs.RingSeats.{piece_in}
use Rattle.gomp_seat_calls.proofs.OwnSteps.{claimed_within, claims_its_share}
use Rattle.gomp_seat_calls.proofs.next.take_chunk.Goals as goal

pub piece_reply-requires-clause-shape : goal.piece_reply-requires-clause-shape
piece_reply-requires-clause-shape c = c.current.ensures.stands.valid (c.requires.inside.0, c.args.shape.now) c.requires.inside.1

pub piece_reply-requires-clause-within : goal.piece_reply-requires-clause-within
piece_reply-requires-clause-within c = rw c.some_piece.ensures (claimed_within c.args.seat.now c.claim.new.self _ c.requires.inside.0 c.args.shape.now c.current.ensures.stands c.claim.ensures.claimed c.requires.inside.1)

pub returns-clause-takes : goal.returns-clause-takes
returns-clause-takes c = record {
  piece = piece_in c.claim.result.first c.claim.result.end;
  claims = c.claim.ensures.claimed;
  reply_is = c.piece_reply.ensures.answer ∙ ap (reply_of_piece c.args.shape.now) c.some_piece.ensures
      ∙ sym (ap (λ (share : ℕ × Shape). reply_of_piece share.1 (piece_in c.claim.result.first c.claim.result.end)) (claims_its_share c.args.seat.now c.claim.new.self _ (c.requires.inside.0, c.args.shape.now) c.claim.ensures.claimed c.requires.inside.1));
}
