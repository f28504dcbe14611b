use Rattle.std.proofs.Common.{rules, nat_le, ◌≡◌, ◌∙◌, ◌<◌, sym, ap, refl, arith, true, false, None, Some}
use Rattle.std.specs.Prelude.{is_some}
use Rattle.std.proofs.lemmas.Bool.Decides.{nat_tests}
use Rattle.gomp_types.specs.Tests.{first_holding, outcome}
use Rattle.gomp_types.specs.Iterations.{loop_tests}
use Rattle.gomp_types.specs.Pieces.{shape_of}
use Rattle.gomp_types.specs.Values.{IsShape}
use Rattle.gomp_types.proofs.TestRows.{outcome_refused, outcome_value}
use Rattle.gomp_types.proofs.IterationValues.{outcome_fine}
use Rattle.gomp_shares.specs.Calls.{most_shares}
use Rattle.gomp_loops.proofs.LoopReplies.{start_own, start_at_limit, loop_may_open}
use Rattle.gomp_loops.proofs.admission.loop_start_shape.Goals as goal

pub returns-in-Ok-clause-first : goal.returns-in-Ok-clause-first
returns-in-Ok-clause-first c =
    let out : is_some c.args.seen.now.current ≡ false = sym c.is_some.ensures ∙ c.if-is_some.false in
    let fine : first_holding (loop_tests c.args.desc.now) ≡ None = outcome_fine (first_holding (loop_tests c.args.desc.now)) (shape_of c.args.desc.now) c.in-Ok.field-0 (sym c.shape.ensures.shape ∙ c.in-Ok.is) in
    let past : nat_le c.args.limits.now.shares c.args.seen.now.entered ≡ true = grind (arith, nat_tests, c.if-seen-limits.true) in
    sym (ap (λ found. outcome found (shape_of c.args.desc.now)) (start_at_limit c.args.limits.now c.args.seen.now c.args.desc.now out fine) ∙ rw past refl)

pub returns-in-Ok-2-clause-place : goal.returns-in-Ok-2-clause-place
returns-in-Ok-2-clause-place c =
    let out : is_some c.args.seen.now.current ≡ false = sym c.is_some.ensures ∙ c.if-is_some.false in
    let is = outcome_value (first_holding (loop_tests c.args.desc.now)) (shape_of c.args.desc.now) c.in-Ok.field-0 (sym c.shape.ensures.shape ∙ c.in-Ok.is) in
    let valid : IsShape (shape_of c.args.desc.now) = rw c.in-Ok-2.is at c.shape.ensures.fits in
    let few : c.args.seen.now.entered < most_shares = search rules in
    loop_may_open c.args.desc.now c.args.seen.now c.in-Ok.field-0 is valid out few

pub returns-in-Err-clause-first : goal.returns-in-Err-clause-first
returns-in-Err-clause-first c =
    let out : is_some c.args.seen.now.current ≡ false = sym c.is_some.ensures ∙ c.if-is_some.false in
    let first : first_holding (loop_tests c.args.desc.now) ≡ Some c.in-Err.refusal = outcome_refused (first_holding (loop_tests c.args.desc.now)) _ c.in-Err.refusal (sym c.shape.ensures.shape ∙ c.in-Err.is) in
    sym (ap (λ found. outcome found (shape_of c.args.desc.now)) (start_own c.args.limits.now c.args.seen.now c.args.desc.now c.in-Err.refusal out first))
