-- What holds of numbers, pieces, arrivals and tasks, from the definitions alone: the laws that the crates above cite.
use Rattle.std.proofs.Common.{ℕ, ◌<◌, ◌≡◌, ◌≢◌}
use Rattle.std.specs.Prelude.{pos}
use Rattle.gomp_types.specs.declared.shape.Shape.{Shape}
use Rattle.gomp_types.specs.Pieces.{pieces_of, Tiles}
use Rattle.gomp_types.specs.Values.{IsShape, value_at, iteration_at}
use Rattle.gomp_types.specs.Deals.{IsDealt, schedule}
use Rattle.gomp_types.proofs.IterationValues.{iteration_at-value_at}
use Rattle.gomp_types.proofs.Dealing.{pieces_tile_all, schedule_deals}

-- an iteration's value tells its number
pub value_tells_its_iteration : (shape : Shape) (k : ℕ) → shape.incr ≢ pos 0 → iteration_at shape (value_at shape k) ≡ k
value_tells_its_iteration = iteration_at-value_at

-- the pieces of a share lead from its first iteration to its last: each begins where the one before it ends, and none is empty
pub pieces_tile_the_share : (members : ℕ) (shape : Shape) → 0 < members → IsShape shape → Tiles 0 (pieces_of members shape) shape.trips
pieces_tile_the_share = pieces_tile_all

-- each schedule deals fairly: each iteration is in one piece, which is some member's to take
pub schedule_deals_fairly : (members : ℕ) (shape : Shape) → 0 < members → IsShape shape → IsDealt (schedule members) members shape
schedule_deals_fairly members shape team is = schedule_deals members shape team is.some
