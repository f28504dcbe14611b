use Rattle.std.proofs.Common.{◌≡◌, ℕ, true, IfSome, slice_get, ap, sym, ◌∙◌, subst}
use Rattle.std.specs.Prelude.{◌&&◌, ◌==◌}
use Rattle.gomp_types.specs.declared.shape.Shape.{Shape}
use Rattle.gomp_types.specs.Shapes.{same_shape}
use Rattle.gomp_types.proofs.Booleans.{and_left, and_right, is_equal}
use Rattle.gomp_types.proofs.Compared.{same_shape_is}
use Rattle.gomp_chunks.specs.Plans.{PlanView, IsPieceWithin, pieces}
use Rattle.gomp_share_ring.proofs.shared_cursor.SharedCursor.piece_at.Goals as goal
use Rattle.gomp_share_ring.proofs.shared_cursor.SharedCursor.piece_at.Goals.{then-not-is_over, else-not-is_over}

-- a plan that compares as these is theirs
plan_of_these : (plan : PlanView) (members : ℕ) (shape : Shape) → (plan.members == members && same_shape plan.shape shape) ≡ true → plan ≡ record { members = members; shape = shape }
plan_of_these plan members shape same =
    ap (λ (n : ℕ). record { members = n; shape = plan.shape }) (is_equal plan.members members (and_left (plan.members == members) (same_shape plan.shape shape) same))
    ∙ ap (λ (s : Shape). record { members = members; shape = s }) (same_shape_is plan.shape shape (and_right (plan.members == members) (same_shape plan.shape shape) same))

-- the cursor that is asked has the plan that is wanted
plan_asked : (c : goal.After-advance_to) → c.if-not-is_over.self-inside.cursor.plan ≡ record { members = c.args.members; shape = c.args.shape.now }
plan_asked c = elim c.if-not-is_over.branch [
  | then-not-is_over w ↦ ap (λ i. i.cursor.plan) w.self-inside-is ∙ w.self-then-not-is_over.invariant ∙ w.self-then-not-is_over.view_is ∙ w.new.ensures
  | else-not-is_over w ↦
      ap (λ i. i.cursor.plan) w.self-inside-is ∙ c.self.invariant ∙ c.self.view_is
      ∙ plan_of_these c.args.self.now c.args.members c.args.shape.now (sym c.is_over.ensures ∙ w.if-not-is_over.false)
]

pub returns-clause-piece : goal.returns-clause-piece
returns-clause-piece c = c.advance_to.ensures.piece ∙ ap (λ (plan : PlanView). slice_get (pieces plan) c.args.j) (plan_asked c)

pub returns-clause-within : goal.returns-clause-within
returns-clause-within c = subst (λ (plan : PlanView). IfSome c.advance_to.result (IsPieceWithin plan.shape.trips)) (plan_asked c) c.advance_to.ensures.within
