-- That the slices of a lane nest, as viewers take them: each end ends what began last and has not ended. (own)
use Rattle.std.specs.Prelude.{◌≡◌, List, [], ◌∷◌}
use Rattle.gomp_ompt.specs.declared.record.Endpoint.{Endpoint}
use Rattle.gomp_ompt.specs.declared.record.Endpoint.TheVariants.{Begin, End, Single}
use Rattle.gomp_ompt.specs.declared.record.Record.{Record}
use Rattle.gomp_trace.specs.Lanes.{ended}

-- what a record makes of what has begun and not ended, the innermost first: it is put in front, it ends the first, or it leaves them
abbrev pub Changes : Endpoint → Record → List Record → List Record → Type 0
Changes Begin event before after = after ≡ event ∷ before
Changes End event [] after = ⊥
Changes End event (inner ∷ outer) after = (event ≡ ended inner) × (after ≡ outer)
Changes Single event before after = after ≡ before

-- these records nest, from what has begun before them to what has begun and not ended behind them
abbrev pub Nests : List Record → List Record → List Record → Type 0
Nests before [] after = before ≡ after
Nests before (event ∷ events) after = (between : List Record) × Changes event.scope event before between × Nests between events after
