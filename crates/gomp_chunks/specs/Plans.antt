-- A plan: the pieces of one work-share, who owns which, and which one is next. (own)
use Rattle.std.specs.Prelude.{ℕ, ◌<◌, ◌≤◌, nat_lt, List, Option, Some, None, length, slice_get, option_and_then, if◌then◌else◌}
use Rattle.gomp_types.specs.declared.shape.Shape.{Shape}
use Rattle.gomp_types.specs.Pieces.{Piece, pieces_of, owner_by}
use Rattle.gomp_types.specs.Deals.{schedule}

-- the work-share of which a plan tells
pub record PlanView : Type 0 where
  pub members : ℕ
  pub shape : Shape

abbrev pub pieces : PlanView → List Piece
pieces plan = pieces_of plan.members plan.shape

-- the owner of piece number j, if there is one
abbrev pub owner_in : Option (ℕ → ℕ) → List Piece → ℕ → Option ℕ
owner_in None pieces j = None
owner_in (Some owner) pieces j = if nat_lt j (length pieces) then Some (owner j) else None

abbrev pub owner : PlanView → ℕ → Option ℕ
owner plan j = owner_in (owner_by plan.members plan.shape.kind) (pieces plan) j

-- the pieces that are the member's to take, in order
abbrev pub own_queue : PlanView → ℕ → List Piece
own_queue plan m = (schedule plan.members).queue plan.shape ((schedule plan.members).queue_of plan.shape m)

-- how many pieces count of those that are the member's to take: its own takes of a static share, and else all members'
abbrev pub count_for : Option (ℕ → ℕ) → ℕ → ℕ → ℕ
count_for None own all = all
count_for (Some owner) own all = own

-- the least piece that nobody took of those that are the member's to take, if it took `own` pieces and all members took `all`
abbrev pub next_piece : PlanView → ℕ → ℕ → ℕ → Option Piece
next_piece plan m own all = slice_get (own_queue plan m) (count_for (owner_by plan.members plan.shape.kind) own all)

-- the piece with this number, if there is a number
abbrev pub piece_at : PlanView → Option ℕ → Option Piece
piece_at plan number = option_and_then (slice_get (pieces plan)) number

-- a piece has an iteration, and ends by the last one
abbrev pub IsPieceWithin : ℕ → Piece → Type 0
IsPieceWithin trips piece = (piece.0 < piece.1) × (piece.1 ≤ trips)
