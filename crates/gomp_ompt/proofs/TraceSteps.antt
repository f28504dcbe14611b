-- Traces that are taken back one after another.
use Rattle.std.proofs.Common.{List, [], ◌∷◌, ◌++◌, refl, sym, subst}
use Rattle.gomp_ompt.specs.Traces.{TraceView, TakesRecords, TakesTraces, with_lost}

-- the traces so far, and then one more
pub takes_one_more : (old between new : TraceView) (children : List TraceView) (child : TraceView) → TakesTraces old children between → TakesRecords (with_lost between child.lost) child.records new → TakesTraces old (children ++ child ∷ []) new
takes_one_more old between new [] child same takes = let P : TraceView → Type 0 = λ trace. TakesRecords (with_lost trace child.lost) child.records new in (new, subst P (sym same) takes, refl)
takes_one_more old between new (other ∷ children) child so_far takes = (so_far.0, so_far.1, takes_one_more so_far.0 between new children child so_far.2 takes)
