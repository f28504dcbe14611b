use Rattle.std.proofs.Common.{arith, sym, ◌∙◌}
use Rattle.std.proofs.lemmas.List.{get_or_default}
use Rattle.gomp_rows.proofs.Tables.{key_above, key_stored}
use Rattle.gomp_rows.proofs.rows.stored_key.Goals as goal

pub overflow_sub-number : goal.overflow_sub-number
overflow_sub-number g = let high = (key_stored g.args.base g.args.number g.args.keys.now.items g.requires.there).0 in omega (arith, high)

pub overflow_sub-number-2 : goal.overflow_sub-number-2
overflow_sub-number-2 g = let high = (key_stored g.args.base g.args.number g.args.keys.now.items g.requires.there).0 in omega (arith, high)

pub index-requires : goal.index-requires
index-requires g = rw g.args.keys.now.ok.0 (key_stored g.args.base g.args.number g.args.keys.now.items g.requires.there).1

pub returns : goal.returns
returns g =
    let (high, within) = key_stored g.args.base g.args.number g.args.keys.now.items g.requires.there in
    g.index.ensures ∙ get_or_default g.args.keys.now.items _ _ 0 within ∙ sym (key_above g.args.base g.args.number g.args.keys.now.items high)
