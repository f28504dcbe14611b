-- What the definitions never let happen, each in the whole generality of the law in Laws.antt that it cites.
use Rattle.std.proofs.Common.{ℕ, ◌<◌, ◌≡◌, ◌≢◌, sym, ◌∙◌}
use Rattle.std.specs.Prelude.{pos}
use Rattle.gomp_types.specs.declared.shape.Shape.{Shape}
use Rattle.gomp_types.specs.Pieces.{pieces_of, Tiles}
use Rattle.gomp_types.specs.Values.{IsShape, value_at, iteration_at}
use Rattle.gomp_types.specs.Deals.{IsDealt, schedule}
use Rattle.gomp_types.proofs.Laws.{value_tells_its_iteration, pieces_tile_the_share, schedule_deals_fairly}

-- a value never tells the number of another iteration
pub value_never_tells_another_iteration : (shape : Shape) (k j : ℕ) → shape.incr ≢ pos 0 → k ≢ j → iteration_at shape (value_at shape k) ≡ j → ⊥
value_never_tells_another_iteration shape k j moves other tells = other (sym (value_tells_its_iteration shape k moves) ∙ tells)

-- the pieces of no share leave an iteration out, overlap or are empty
pub pieces_never_fail_to_tile : (members : ℕ) (shape : Shape) → 0 < members → IsShape shape → (Tiles 0 (pieces_of members shape) shape.trips → ⊥) → ⊥
pieces_never_fail_to_tile members shape team is fails = fails (pieces_tile_the_share members shape team is)

-- no share of any kind is dealt out unfairly
pub schedule_never_deals_unfairly : (members : ℕ) (shape : Shape) → 0 < members → IsShape shape → (IsDealt (schedule members) members shape → ⊥) → ⊥
schedule_never_deals_unfairly members shape team is unfair = unfair (schedule_deals_fairly members shape team is)
