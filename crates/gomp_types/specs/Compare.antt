-- When a member's construct differs from the team's. (own)
use Rattle.std.specs.Prelude.{ℕ, not, Bool, false, Option, Some, None}
use Rattle.gomp_types.specs.declared.loop_desc.EndKind.{EndKind}
use Rattle.gomp_types.specs.declared.shape.Shape.{Shape}
use Rattle.gomp_types.specs.Shapes.{same_shape, same_end}

-- whether the team's share is of another shape
abbrev pub shape_differs : Shape → Option Shape → Bool
shape_differs shape None = false
shape_differs shape (Some other) = not (same_shape other shape)

-- whether the member's share ends otherwise
abbrev pub end_differs : EndKind → Option (ℕ × Shape) → Bool
end_differs kind None = false
end_differs kind (Some share) = not (same_end share.1.end_kind kind)
