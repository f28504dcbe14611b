use Rattle.std.proofs.Common.{rules, ◌-◌, ◌<◌, ◌^◌, refl, Result, Ok, Err, IsTrue, FitsSigned, arith}
use Rattle.std.specs.Int.{w64}
use Rattle.std.specs.Prelude.{OkIff, is_ok}
use Rattle.gomp_types.proofs.ValueIn128Bits.{value_is_within_128_bits}
use Rattle.gomp_share_ring.proofs.fitting.last_value_fits.Goals as goal

-- what is answered just if a fact holds says whether it does
told_by_ok : {T E : Type 0} (result : Result T E) (P : Type 0) (value : T) → OkIff result P value → (IsTrue (is_ok result) → P) × (P → IsTrue (is_ok result))
told_by_ok (Ok x) P value iff = (λ ok. iff.0, λ holds. refl)
told_by_ok (Err e) P value iff = (λ ok. absurd (cc), λ holds. absurd (iff holds))

pub returns : goal.returns
returns c =
    let fs : FitsSigned w64 c.args.shape.now.start = search rules in
    let fi : FitsSigned w64 c.args.shape.now.incr = search rules in
    let few = c.requires.few in
    let some = c.requires.some in
    let small : c.args.shape.now.trips - 1 < 2 ^ 39 = omega arith in
    let is = value_is_within_128_bits c.args.shape.now.start c.args.shape.now.incr (c.args.shape.now.trips - 1) fs fi small in
    rw (c.is_ok.ensures.value) (told_by_ok c.try_from.result _ _ (rw is at c.try_from.ensures))
