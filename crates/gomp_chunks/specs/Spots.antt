-- A spot in the pieces of a guided loop: a piece's number and its first iteration. (own)
use Rattle.std.specs.Prelude.{ℕ, ◌≡◌, ◌≢◌, ◌+◌, ◌-◌, ◌≤◌, ◌⊎◌, length, slice_get}
use Rattle.gomp_types.specs.declared.shape.Shape.{Shape}
use Rattle.gomp_types.specs.declared.shape.ShareKind.TheVariants.{Guided, Dynamic}
use Rattle.gomp_types.specs.Pieces.{guided_from, guided_pieces}
use Rattle.gomp_chunks.specs.Plans.{PlanView, pieces}
use Rattle.gomp_chunks.specs.declared.guided.Spot.{Spot}

-- what a cursor keeps: the plan, the spot of the piece that was asked for last, which moves only if the loop is guided, and how many pieces there are, if it is not
pub record CursorView : Type 0 where
  pub plan : PlanView
  pub spot : Spot
  pub count : ℕ
  pub dynamic_count : ℕ

-- from this spot on, the pieces are those of what is left
pub record IsSpot (members : ℕ) (shape : Shape) (spot : Spot) : Type 0 where
  pub within : spot.first ≤ shape.trips
  pub number : spot.number ≤ length (guided_pieces shape.trips members shape.chunk)
  pub most : ℕ
  pub enough : shape.trips - spot.first ≤ most
  pub rest : (i : ℕ) → slice_get (guided_pieces shape.trips members shape.chunk) (spot.number + i) ≡ slice_get (guided_from members shape.chunk most spot.first (shape.trips - spot.first)) i

-- the spot is one of the plan, and the count is that of its pieces if the loop is not guided
pub record IsCursor (plan : PlanView) (spot : Spot) (count : ℕ) : Type 0 where
  pub there : IsSpot plan.members plan.shape spot
  pub counted : plan.shape.kind ≢ Guided → count ≡ length (pieces plan)

-- the spot of a guided loop is that of piece number j, or is at the end of the loop
abbrev pub IsSpotAt : Shape → Spot → ℕ → Type 0
IsSpotAt shape spot j = shape.kind ≡ Guided → (spot.number ≡ j) ⊎ (spot.first ≡ shape.trips)

-- the number of a dynamic loop's pieces, or 0
abbrev pub IsDynamicCount : PlanView → ℕ → Type 0
IsDynamicCount plan count = (count ≡ 0) ⊎ ((plan.shape.kind ≡ Dynamic) × (count ≡ length (pieces plan)))
