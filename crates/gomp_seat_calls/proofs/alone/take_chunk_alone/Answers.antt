use Rattle.std.proofs.Common.{ℕ, ap, sym, ◌∙◌}
use Rattle.gomp_types.specs.declared.shape.Shape.{Shape}
use Rattle.gomp_loops.specs.Answers.{reply_of_piece}
use Rattle.gomp_ring.specs.RingSeats.{piece_in}
use Rattle.gomp_seat_calls.proofs.OwnSteps.{claimed_within, claims_its_share}
use Rattle.gomp_seat_calls.proofs.alone.take_chunk_alone.Goals as goal

pub chunk_of-requires-clause-within : goal.chunk_of-requires-clause-within
chunk_of-requires-clause-within c = claimed_within c.args.seat.now c.claim.new.self (piece_in c.claim.result.first c.claim.result.end) c.requires.inside.0 c.args.shape.now c.current.ensures.stands c.claim.ensures.claimed c.requires.inside.1

pub returns-clause-takes : goal.returns-clause-takes
returns-clause-takes c =
    let piece = piece_in c.claim.result.first c.claim.result.end in
    record {
      piece = piece;
      claims = c.claim.ensures.claimed;
      reply_is = c.chunk_of.ensures.reply ∙ sym (ap (λ (share : ℕ × Shape). reply_of_piece share.1 piece) (claims_its_share c.args.seat.now c.claim.new.self piece (c.requires.inside.0, c.args.shape.now) c.claim.ensures.claimed c.requires.inside.1));
    }
