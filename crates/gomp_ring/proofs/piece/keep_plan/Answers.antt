use Rattle.std.proofs.Common.{ap, sym, ◌∙◌}
use Rattle.gomp_types.specs.declared.shape.Shape.{Shape}
use Rattle.gomp_types.proofs.Compared.{same_shape_is}
use Rattle.gomp_ring.proofs.piece.keep_plan.Goals as goal

pub returns-then-is_same-clause-plan : goal.returns-then-is_same-clause-plan
returns-then-is_same-clause-plan c = c.requires.kept ∙ ap (λ (s : Shape). record { members = c.args.members; shape = s }) (same_shape_is _ _ (sym c.is_same.ensures ∙ c.if-is_same.true))

pub returns-then-is_same-clause-planned : goal.returns-then-is_same-clause-planned
returns-then-is_same-clause-planned c = same_shape_is _ _ (sym c.is_same.ensures ∙ c.if-is_same.true)
