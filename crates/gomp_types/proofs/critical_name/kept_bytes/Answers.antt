use Rattle.std.proofs.Common.{sym, arith}
use Rattle.std.proofs.lemmas.List.{length-take-le, take_all}
use Rattle.gomp_types.proofs.critical_name.kept_bytes.Goals as goal

pub returns-then-text-le-KEPT_BYTES-clause-bytes : goal.returns-then-text-le-KEPT_BYTES-clause-bytes
returns-then-text-le-KEPT_BYTES-clause-bytes c = sym (take_all 33 c.args.text.now c.if-text-le-KEPT_BYTES.true)

pub slice_bounds-result-end : goal.slice_bounds-result-end
slice_bounds-result-end c = let long = c.if-text-le-KEPT_BYTES.false in sym (length-take-le 33 c.args.text.now (omega arith))

pub returns-clause-few : goal.returns-clause-few
returns-clause-few c = let long = c.if-text-le-KEPT_BYTES.false in let len = length-take-le 33 c.args.text.now (omega arith) in omega (arith, len)
