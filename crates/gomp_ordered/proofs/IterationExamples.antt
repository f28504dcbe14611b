-- The iteration of an ordered loop that a value stands for, and the shape that a member's share has: what each tells and refuses.
use Rattle.std.proofs.Common.{◌≡◌, ℕ, true, false, Option, Some, None, refl, arith}
use Rattle.std.specs.Prelude.{pos}
use Rattle.gomp_types.specs.declared.loop_desc.EndKind.TheVariants.{Wait as WaitEnd}
use Rattle.gomp_types.specs.declared.shape.Shape.{Shape}
use Rattle.gomp_types.specs.declared.shape.ShareKind.TheVariants.{Dynamic}
use Rattle.gomp_events.specs.declared.seen.Seen.{Seen}
use Rattle.gomp_ordered.specs.Iterations.{HasShape, seen_iteration}

-- three iterations from 10 on, in steps of 4
abbrev by_four : Shape
by_four = record { start = pos 10; incr = pos 4; trips = 3; kind = Dynamic; chunk = 1; ordered = true; end_kind = WaitEnd }

-- pieces without an iteration, which no construct has
abbrev no_pieces : Shape
no_pieces = record by_four { chunk = 0 }

-- what a member sees in a share
abbrev sees_in : Option (ℕ × Shape) → Seen
sees_in current = record { entered = 1; current = current; drained = false; piece = Some (0, 3); next_part = 0; in_part = false; leaving = false }

-- the value of the last iteration
pub iteration_of_the_last : seen_iteration (Some (7, by_four)) (pos 18) ≡ Some 2
iteration_of_the_last = refl

-- one between two iterations, one after the last and one before the first
pub iteration_of_no_value : (seen_iteration (Some (7, by_four)) (pos 12) ≡ None) × (seen_iteration (Some (7, by_four)) (pos 22) ≡ None) × (seen_iteration (Some (7, by_four)) (pos 6) ≡ None)
iteration_of_no_value = (refl, refl, refl)

-- outside a share no value has one
pub iteration_outside : seen_iteration None (pos 10) ≡ None
iteration_outside = refl

-- outside a share there is no shape to have
pub has_shape_outside : HasShape (sees_in None)
has_shape_outside = tt

-- and in one it is that of a construct
pub has_no_such_shape : HasShape (sees_in (Some (0, no_pieces))) → ⊥
has_no_such_shape has = absurd (let some = has.some in omega arith)
