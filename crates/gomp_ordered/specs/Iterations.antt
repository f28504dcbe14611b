-- The iteration of an ordered loop that a value stands for. OpenMP API 5.2, section 15.10.2.
use Rattle.std.specs.Prelude.{ℕ, ℤ, Option, Some, None, IfSome}
use Rattle.gomp_types.specs.declared.shape.Shape.{Shape}
use Rattle.gomp_events.specs.declared.seen.Seen.{Seen}
use Rattle.gomp_types.specs.Values.{IsShape, iteration_of}

-- the share that the member is in has the shape of a construct
abbrev pub HasShape : Seen → Type 0
HasShape seen = IfSome seen.current (λ share. IsShape share.1)

-- the iteration of the member's share with this value
abbrev pub seen_iteration : Option (ℕ × Shape) → ℤ → Option ℕ
seen_iteration None value = None
seen_iteration (Some share) value = iteration_of share.1 value
