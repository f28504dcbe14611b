use Rattle.std.proofs.Common.{◌<◌, arith}
use Rattle.gomp_ring.proofs.RingReadings.{two_numbers_are_a_piece}
use Rattle.gomp_seat_calls.proofs.chunk.chunk_of.Goals as goal

pub value_at-requires-clause-within : goal.value_at-requires-clause-within
value_at-requires-clause-within c =
    let below : c.args.piece.first < c.args.piece.end = c.if-first-end.true in
    let within = (c.requires.within (c.args.piece.first, c.args.piece.end) (two_numbers_are_a_piece c.args.piece.first c.args.piece.end below)).1 in
    omega (arith, below, within)
