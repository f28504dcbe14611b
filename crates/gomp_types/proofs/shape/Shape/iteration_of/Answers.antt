use Rattle.std.proofs.Common.{rules, ◌≡◌, ◌∙◌, ◌/◌, ap, sym}
use Rattle.std.proofs.lemmas.Int.{to_z-of_z}
use Rattle.std.specs.Int.{w64}
use Rattle.std.specs.Prelude.{ℤ, FitsSigned}
use mir.Val.{to_z, of_z}
use Rattle.gomp_types.specs.Values.{iteration_at}
use Rattle.gomp_types.proofs.IterationValues.{found_here, other_there, no_iteration_past_the_last}
use Rattle.gomp_types.proofs.shape.Shape.iteration_of.Goals as goal
use Rattle.gomp_types.proofs.shape.Shape.iteration_of.Goals.{else-k-self-via-then-k-self+else-value_at-value, else-k-self-via-else-k-self}

same_number : (a b : ℤ) → FitsSigned w64 a → FitsSigned w64 b → of_z w64 a ≡ of_z w64 b → a ≡ b
same_number a b fa fb e = sym (to_z-of_z w64 a fa) ∙ ap (to_z w64) e ∙ to_z-of_z w64 b fb

pub returns-then-value_at-value : goal.returns-then-value_at-value
returns-then-value_at-value c =
    let at : iteration_at c.args.self.now c.args.value ≡ c.abs_diff.result / c.unsigned_abs.result = search rules in
    let own : FitsSigned w64 c.args.value = search rules in
    let fits = rw (← c.value_at.ensures) at (c.requires.shape.fits _ c.if-k-self.true) in
    found_here c.args.self.now c.args.value _ at c.if-k-self.true (sym c.value_at.ensures ∙ same_number c.value_at.result c.args.value fits own c.if-value_at-value.true)

pub returns : goal.returns
returns c =
    let at : iteration_at c.args.self.now c.args.value ≡ c.abs_diff.result / c.unsigned_abs.result = search rules in
    elim c.else-k-self.branch [
      | else-k-self-via-then-k-self+else-value_at-value w ↦ other_there c.args.self.now c.args.value _ at (λ here. w.if-value_at-value.false (ap (of_z w64) (w.value_at.ensures ∙ here)))
      | else-k-self-via-else-k-self w ↦ no_iteration_past_the_last c.args.self.now c.args.value _ at w.if-k-self.false
    ]
