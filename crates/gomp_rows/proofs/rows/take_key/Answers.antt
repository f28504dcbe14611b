use Rattle.std.proofs.Common.{arith}
use Rattle.gomp_rows.proofs.Tables.{key_stored}
use Rattle.gomp_rows.proofs.rows.take_key.Goals as goal

pub overflow_sub-place : goal.overflow_sub-place
overflow_sub-place g = let high = (key_stored g.args.base g.args.number g.args.keys.now.items g.requires.there).0 in omega (arith, high)

pub overflow_sub-place-2 : goal.overflow_sub-place-2
overflow_sub-place-2 g = let high = (key_stored g.args.base g.args.number g.args.keys.now.items g.requires.there).0 in omega (arith, high)

pub index_mut-requires : goal.index_mut-requires
index_mut-requires g = rw g.args.keys.now.ok.0 (key_stored g.args.base g.args.number g.args.keys.now.items g.requires.there).1
