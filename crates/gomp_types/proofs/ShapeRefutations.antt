-- Which values are no shape of a share, of any kind, start, step, chunk and end.
use Rattle.std.proofs.Common.{◌≡◌, ℕ, ◌<◌, true, arith, ap}
use Rattle.std.specs.Prelude.{pos, FitsSigned}
use Rattle.std.specs.Int.{w64}
use Rattle.gomp_types.specs.declared.shape.Shape.{Shape}
use Rattle.gomp_types.specs.declared.loop_desc.EndKind.{EndKind}
use Rattle.gomp_types.specs.declared.loop_desc.EndKind.TheVariants.{Cancellable}
use Rattle.gomp_types.specs.Iterations.{max_trips, max_chunk}
use Rattle.gomp_types.specs.Shapes.{same_end}
use Rattle.gomp_types.specs.Values.{IsShape, value_at}
use Rattle.gomp_types.proofs.Booleans.{not_both}

-- none has more iterations than the limit
pub no_shape_of_too_many_iterations : (shape : Shape) → max_trips < shape.trips → IsShape shape → ⊥
no_shape_of_too_many_iterations shape many is = let most = is.trips in absurd (omega (arith, many))

-- none has a larger chunk than the limit
pub no_shape_of_too_large_a_chunk : (shape : Shape) → max_chunk < shape.chunk → IsShape shape → ⊥
no_shape_of_too_large_a_chunk shape large is = let most = is.chunk in absurd (omega (arith, large))

-- none has a chunk of no iteration
pub no_shape_of_an_empty_chunk : (shape : Shape) → shape.chunk ≡ 0 → IsShape shape → ⊥
no_shape_of_an_empty_chunk shape none is = let some = is.some in absurd (omega (arith, none))

-- none has a step that does not lead on
pub no_shape_of_a_zero_step : (shape : Shape) → shape.incr ≡ pos 0 → IsShape shape → ⊥
no_shape_of_a_zero_step shape zero is = is.moves zero

-- none has an iteration whose value is no number of 64 bits
pub no_shape_of_too_wide_a_value : (shape : Shape) (k : ℕ) → k < shape.trips → (FitsSigned w64 (value_at shape k) → ⊥) → IsShape shape → ⊥
no_shape_of_too_wide_a_value shape k within wide is = wide (is.fits k within)

-- none that may be cancelled is ordered
pub no_ordered_shape_that_may_be_cancelled : (shape : Shape) → shape.end_kind ≡ Cancellable → shape.ordered ≡ true → IsShape shape → ⊥
no_ordered_shape_that_may_be_cancelled shape end ordered is = not_both shape.ordered ordered (is.unordered (ap (λ (e : EndKind). same_end e Cancellable) end))
