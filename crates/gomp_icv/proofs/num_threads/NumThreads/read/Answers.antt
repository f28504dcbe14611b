use Rattle.std.proofs.Common.{arith, ◌≡◌, ◌≤◌, ◌+◌, ◌∙◌, true, false, Some, length, ap, sym}
use Rattle.std.specs.Prelude.{option_copied, ◌==◌}
use Rattle.std.proofs.lemmas.Bool.Decides.{nat_tests}
use Rattle.gomp_text.specs.Words.{parts_left}
use Rattle.gomp_icv.specs.Variables.{max_number}
use Rattle.gomp_icv.specs.EnvValues.{sizes_of, number_of}
use Rattle.gomp_icv.proofs.Sizes.{one_kept, one_dropped, sizes_with_one_more}
use Rattle.gomp_icv.proofs.num_threads.NumThreads.read.Goals as goal

pub loop-rest-preserved : goal.loop-rest-preserved
loop-rest-preserved c =
    let before : option_copied c.loop-rest.rest ≡ Some c.in-Some.parts.now = ap option_copied c.in-Some.is in
    let number : number_of 1 max_number c.cut_at.result.0.now ≡ Some c.in_ok-number.field-0 = sym c.number_of.ensures.value ∙ c.in_ok-number.was in
    let here = rw (before, c.cut_at.ensures.parts, number) at c.loop-rest.invariant.so_far in
    let test : (length c.loop-rest.sizes.items == 4) ≡ true = sym c.is_full.ensures.value ∙ c.if-not-is_full.false in
    let full : length c.loop-rest.sizes.items ≡ 4 = grind (arith, nat_tests, test) in
    record {
      so_far = sym (one_dropped c.loop-rest.sizes.items c.in_ok-number.field-0 (sizes_of (parts_left 44 (option_copied c.cut_at.result.1))) full) ∙ here;
      sizes = c.loop-rest.invariant.sizes;
      some = omega (arith, full);
      few = c.loop-rest.invariant.few;
    }

pub loop-rest-preserved-then-not-is_full : goal.loop-rest-preserved-then-not-is_full
loop-rest-preserved-then-not-is_full c =
    let before : option_copied c.loop-rest.rest ≡ Some c.in-Some.parts.now = ap option_copied c.in-Some.is in
    let number : number_of 1 max_number c.cut_at.result.0.now ≡ Some c.in_ok-number.field-0 = sym c.number_of.ensures.value ∙ c.in_ok-number.was in
    let here = rw (before, c.cut_at.ensures.parts, number) at c.loop-rest.invariant.so_far in
    let test : (length c.loop-rest.sizes.items == 4) ≡ false = sym c.is_full.ensures.value ∙ c.if-not-is_full.true in
    let few : length c.loop-rest.sizes.items + 1 ≤ 4 = let most = c.loop-rest.invariant.few in grind (arith, nat_tests, test, most) in
    let range = c.in_ok-number.ensures.range in
    record {
      so_far = rw c.push.ensures.items (sym (one_kept c.loop-rest.sizes.items c.in_ok-number.field-0 (sizes_of (parts_left 44 (option_copied c.cut_at.result.1)))) ∙ here);
      sizes = rw c.push.ensures.items (sizes_with_one_more c.loop-rest.sizes.items c.in_ok-number.field-0 c.loop-rest.invariant.sizes range.0 range.1);
      some = omega (arith, c.push.ensures.len);
      few = omega (arith, c.push.ensures.len, few);
    }
