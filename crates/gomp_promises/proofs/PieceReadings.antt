-- Which pieces a share has, of every number of members and iterations, every chunk and every place; who owns them, and how they are dealt out.
use Rattle.std.proofs.Common.{◌≡◌, ◌≢◌, ◌<◌, ◌≤◌, ℕ, ◌+◌, ◌*◌, ◌∙◌, zero, suc, true, false, List, [], ◌∷◌, Some, None, length, ap, refl, arith}
use Rattle.std.specs.Prelude.{ℤ, pos, ◌+ℤ◌, ◌-ℤ◌, ◌*ℤ◌, ◌-◌, ◌/◌, ◌%◌, ◌==◌, nat_lt, min, max, unsigned_abs, map, slice_get}
use Rattle.std.specs.Ordering.{int_eq}
use Rattle.std.specs.Int.{div_ceil}
use Rattle.std.specs.List.{range_with_len}
use Rattle.std.proofs.lemmas.Bool.{lt-ltb}
use Rattle.std.proofs.lemmas.Bool.Decides.{nat_tests}
use Rattle.std.proofs.lemmas.List.FromFn.{length-map-range_with_len, get_or-map-range_with_len}
use Rattle.std.proofs.lemmas.Option.{slice_get-get_or, slice_get_past}
use Rattle.gomp_types.specs.declared.loop_desc.LoopDesc.{LoopDesc}
use Rattle.gomp_types.specs.declared.loop_desc.Sched.TheVariants as sched
use Rattle.gomp_types.specs.declared.shape.Shape.{Shape}
use Rattle.gomp_types.specs.declared.shape.ShareKind.{ShareKind}
use Rattle.gomp_types.specs.declared.shape.ShareKind.TheVariants as kind
use Rattle.gomp_types.specs.Iterations.{trip_count}
use Rattle.gomp_types.specs.Values.{value_at, iteration_at, iteration_of}
use Rattle.gomp_types.specs.Pieces.{Piece, resolved_chunk, share_kind_of, shape_of, dynamic_piece, dynamic_pieces, even_start, even_piece, even_pieces, guided_size, guided_from, guided_pieces, whole_piece, kind_pieces, pieces_of, owner_by}
use Rattle.gomp_types.specs.Deals.{owned_from, queues_of, schedule}
use Rattle.gomp_chunks.specs.Plans.{PlanView, pieces, owner_in, owner, own_queue, count_for, next_piece, piece_at}

-- Lists of pieces

-- at each place of so many stands what is made for it
made_at : (piece : ℕ → Piece) (count j : ℕ) → j < count → slice_get (map piece (range_with_len 0 count)) j ≡ Some (piece j)
made_at piece count j within =
    let long : length (map piece (range_with_len 0 count)) ≡ count = length-map-range_with_len piece 0 count in
    slice_get-get_or (map piece (range_with_len 0 count)) j (0, 0) (omega arith) ∙ ap Some (get_or-map-range_with_len piece 0 count j j (0, 0) within (omega arith))

none_past : (piece : ℕ → Piece) (count j : ℕ) → count ≤ j → slice_get (map piece (range_with_len 0 count)) j ≡ None
none_past piece count j past =
    let long : length (map piece (range_with_len 0 count)) ≡ count = length-map-range_with_len piece 0 count in
    slice_get_past (map piece (range_with_len 0 count)) j (omega arith)

-- Pieces of a dynamic loop

-- each has its chunk, the last perhaps less
pub dynamic_piece_has_its_chunk : (trips chunk j : ℕ) → dynamic_piece trips chunk j ≡ (j * chunk, min trips (j * chunk + chunk))
dynamic_piece_has_its_chunk trips chunk j = refl

-- it stands at its own place
pub dynamic_piece_stands_at_its_place : (trips chunk j : ℕ) → j < div_ceil trips chunk → slice_get (dynamic_pieces trips chunk) j ≡ Some (dynamic_piece trips chunk j)
dynamic_piece_stands_at_its_place trips chunk j within = made_at (dynamic_piece trips chunk) (div_ceil trips chunk) j within

-- and behind the last stands none
pub no_dynamic_piece_stands_behind_the_last : (trips chunk j : ℕ) → div_ceil trips chunk ≤ j → slice_get (dynamic_pieces trips chunk) j ≡ None
no_dynamic_piece_stands_behind_the_last trips chunk j past = none_past (dynamic_piece trips chunk) (div_ceil trips chunk) j past

-- Pieces of a static loop without a chunk

-- each begins behind those before it, of which the first have one iteration more
pub even_piece_begins_behind_those_before : (trips members j : ℕ) → (even_start trips members j ≡ j * (trips / members) + min j (trips % members)) × (even_piece trips members j ≡ (even_start trips members j, even_start trips members (j + 1)))
even_piece_begins_behind_those_before trips members j = (refl, refl)

-- it stands at its own place
pub even_piece_stands_at_its_place : (trips members j : ℕ) → j < min trips members → slice_get (even_pieces trips members) j ≡ Some (even_piece trips members j)
even_piece_stands_at_its_place trips members j within = made_at (even_piece trips members) (min trips members) j within

-- and behind the last stands none
pub no_even_piece_stands_behind_the_last : (trips members j : ℕ) → min trips members ≤ j → slice_get (even_pieces trips members) j ≡ None
no_even_piece_stands_behind_the_last trips members j past = none_past (even_piece trips members) (min trips members) j past

-- Pieces of a guided loop

-- the next has its share of what is left, at least a chunk, and no more than is left
pub guided_piece_has_its_size : (members chunk rest : ℕ) → guided_size members chunk rest ≡ min rest (max chunk (div_ceil rest members))
guided_piece_has_its_size members chunk rest = refl

-- it begins where it stands, and the others go on behind it
pub guided_pieces_go_on_behind_the_next : (members chunk most low rest : ℕ) →
    guided_from members chunk (suc most) low (suc rest) ≡ (low, low + guided_size members chunk (suc rest)) ∷ guided_from members chunk most (low + guided_size members chunk (suc rest)) (suc rest - guided_size members chunk (suc rest))
guided_pieces_go_on_behind_the_next members chunk most low rest = refl

-- if nothing is left, or no more may be, there is none
pub no_guided_piece_is_empty : (members chunk most low rest : ℕ) → (guided_from members chunk zero low rest ≡ []) × (guided_from members chunk (suc most) low zero ≡ [])
no_guided_piece_is_empty members chunk most low rest = (refl, refl)

-- they begin with the first iteration, and have all
pub guided_pieces_begin_with_the_first : (trips members chunk : ℕ) → guided_pieces trips members chunk ≡ guided_from members chunk trips 0 trips
guided_pieces_begin_with_the_first trips members chunk = refl

-- One piece

-- it has all there is
pub one_piece_has_all_there_is : (most : ℕ) → (whole_piece zero ≡ []) × (whole_piece (suc most) ≡ (0, suc most) ∷ [])
one_piece_has_all_there_is most = (refl, refl)

-- Shares

-- a share has the pieces of its own kind
pub share_has_the_pieces_of_its_kind : (members : ℕ) (shape : Shape) → pieces_of members shape ≡ kind_pieces members shape.kind shape
share_has_the_pieces_of_its_kind members shape = refl

pub kind_has_its_own_pieces : (members : ℕ) (shape : Shape) →
    (kind_pieces members kind.StaticChunked shape ≡ dynamic_pieces shape.trips shape.chunk)
    × (kind_pieces members kind.StaticEven shape ≡ even_pieces shape.trips members)
    × (kind_pieces members kind.Dynamic shape ≡ dynamic_pieces shape.trips shape.chunk)
    × (kind_pieces members kind.Guided shape ≡ guided_pieces shape.trips members shape.chunk)
    × (kind_pieces members kind.Sections shape ≡ dynamic_pieces shape.trips 1)
    × (kind_pieces members kind.Single shape ≡ whole_piece shape.trips)
    × (kind_pieces members kind.SingleCopy shape ≡ whole_piece shape.trips)
kind_has_its_own_pieces members shape = (refl, refl, refl, refl, refl, refl, refl)

-- a loop has the kind of its own schedule, whatever its chunk is, and a static one is even if it has no chunk
pub loop_has_the_kind_of_its_schedule : (chunk : ℤ) → (share_kind_of sched.Guided chunk ≡ kind.Guided) × (share_kind_of sched.Dynamic chunk ≡ kind.Dynamic) × (share_kind_of sched.Runtime chunk ≡ kind.Dynamic)
loop_has_the_kind_of_its_schedule chunk = (refl, refl, refl)

pub static_loop_is_even_without_a_chunk : (chunk : ℤ) → (share_kind_of sched.Static (pos 0) ≡ kind.StaticEven) × (int_eq chunk (pos 0) ≡ false → share_kind_of sched.Static chunk ≡ kind.StaticChunked)
static_loop_is_even_without_a_chunk chunk = (refl, λ some. rw some refl)

-- its shape has all that its loop has but the end, of which the number of iterations tells
pub shape_is_that_of_its_loop : (loop : LoopDesc) → shape_of loop ≡ record { start = loop.start; incr = loop.incr; trips = trip_count loop; kind = share_kind_of loop.sched loop.chunk; chunk = max 1 (unsigned_abs loop.chunk); ordered = loop.ordered; end_kind = loop.end_kind }
shape_is_that_of_its_loop loop = refl

pub chunk_that_counts_is_at_least_one : (chunk : ℤ) → resolved_chunk chunk ≡ max 1 (unsigned_abs chunk)
chunk_that_counts_is_at_least_one chunk = refl

-- Queues

-- a share is dealt out by its own kind
pub schedule_is_that_of_the_kind : (members m q : ℕ) (shape : Shape) → ((schedule members).queue_of shape m ≡ (queues_of members shape.kind).queue_of shape m) × ((schedule members).queue shape q ≡ (queues_of members shape.kind).queue shape q)
schedule_is_that_of_the_kind members m q shape = (refl, refl)

-- a kind whose pieces have no owner has one queue, with all of them
pub pieces_without_an_owner_have_one_queue : (members m q : ℕ) (shape : Shape) (of : ShareKind) → owner_by members of ≡ None → ((queues_of members of).queue_of shape m ≡ 0) × ((queues_of members of).queue shape q ≡ kind_pieces members of shape)
pieces_without_an_owner_have_one_queue members m q shape of none = (rw none refl, rw none refl)

-- and one whose pieces have one has a queue for each member, with its own
pub owned_pieces_have_their_queues : (members m q : ℕ) (shape : Shape) (of : ShareKind) (owns : ℕ → ℕ) → owner_by members of ≡ Some owns → ((queues_of members of).queue_of shape m ≡ m) × ((queues_of members of).queue shape q ≡ owned_from owns q 0 (kind_pieces members of shape))
owned_pieces_have_their_queues members m q shape of owns some = (rw some refl, rw some refl)

-- in which each piece is kept if the member owns it
pub owned_piece_is_kept : (owns : ℕ → ℕ) (m j : ℕ) (piece : Piece) (later : List Piece) → (owned_from owns m j [] ≡ []) × ((owns j == m) ≡ true → owned_from owns m j (piece ∷ later) ≡ piece ∷ owned_from owns m (j + 1) later) × ((owns j == m) ≡ false → owned_from owns m j (piece ∷ later) ≡ owned_from owns m (j + 1) later)
owned_piece_is_kept owns m j piece later = (refl, λ own. rw own refl, λ other. rw other refl)

-- Owners

-- the pieces of a static share have owners, by their numbers, and no others have
pub static_pieces_have_owners : (members : ℕ) → (owner_by members kind.StaticChunked ≡ Some (λ j. j % members)) × (owner_by members kind.StaticEven ≡ Some (λ j. j))
static_pieces_have_owners members = (refl, refl)

pub no_other_pieces_have_owners : (members : ℕ) (of : ShareKind) → of ≢ kind.StaticChunked → of ≢ kind.StaticEven → owner_by members of ≡ None
no_other_pieces_have_owners members kind.StaticChunked chunked even = absurd (chunked refl)
no_other_pieces_have_owners members kind.StaticEven chunked even = absurd (even refl)
no_other_pieces_have_owners members _ chunked even = refl

-- a piece that there is has its owner, and one that there is not has none
pub each_piece_has_its_owner : (owns : ℕ → ℕ) (all : List Piece) (j : ℕ) → j < length all → owner_in (Some owns) all j ≡ Some (owns j)
each_piece_has_its_owner owns all j within = rw (lt-ltb j (length all) within) refl

pub no_piece_behind_the_last_has_an_owner : (owns : ℕ → ℕ) (all : List Piece) (j : ℕ) → length all ≤ j → owner_in (Some owns) all j ≡ None
no_piece_behind_the_last_has_an_owner owns all j past = let is : nat_lt j (length all) ≡ false = grind (arith, nat_tests, past) in rw is refl

pub no_piece_without_owners_has_one : (all : List Piece) (j : ℕ) → owner_in None all j ≡ None
no_piece_without_owners_has_one all j = refl

-- Plans

-- a plan has the pieces and the owners of its shape
pub plan_has_its_pieces_and_owners : (plan : PlanView) (j : ℕ) → (pieces plan ≡ pieces_of plan.members plan.shape) × (owner plan j ≡ owner_in (owner_by plan.members plan.shape.kind) (pieces plan) j)
plan_has_its_pieces_and_owners plan j = (refl, refl)

-- chunks go around the members, and an even part is its member's
pub chunk_of_a_plan_goes_around : (plan : PlanView) (j : ℕ) → plan.shape.kind ≡ kind.StaticChunked → j < length (pieces plan) → owner plan j ≡ Some (j % plan.members)
chunk_of_a_plan_goes_around plan j is within = ap (λ found. owner_in (owner_by plan.members found) (pieces plan) j) is ∙ each_piece_has_its_owner (λ j. j % plan.members) (pieces plan) j within

pub even_part_of_a_plan_is_its_members : (plan : PlanView) (j : ℕ) → plan.shape.kind ≡ kind.StaticEven → j < length (pieces plan) → owner plan j ≡ Some j
even_part_of_a_plan_is_its_members plan j is within = ap (λ found. owner_in (owner_by plan.members found) (pieces plan) j) is ∙ each_piece_has_its_owner (λ j. j) (pieces plan) j within

-- no other has an owner
pub other_piece_of_a_plan_has_no_owner : (plan : PlanView) (j : ℕ) → plan.shape.kind ≢ kind.StaticChunked → plan.shape.kind ≢ kind.StaticEven → owner plan j ≡ None
other_piece_of_a_plan_has_no_owner plan j chunked even = rw (no_other_pieces_have_owners plan.members plan.shape.kind chunked even) refl

-- what a member may take is in its queue, and the next is behind those that were taken from it
pub next_piece_of_a_plan_is_the_first_left : (plan : PlanView) (m own all : ℕ) →
    (own_queue plan m ≡ (schedule plan.members).queue plan.shape ((schedule plan.members).queue_of plan.shape m)) × (next_piece plan m own all ≡ slice_get (own_queue plan m) (count_for (owner_by plan.members plan.shape.kind) own all))
next_piece_of_a_plan_is_the_first_left plan m own all = (refl, refl)

-- of owned pieces its own takes count, of others all
pub takes_count_by_owners : (owns : ℕ → ℕ) (own all : ℕ) → (count_for None own all ≡ all) × (count_for (Some owns) own all ≡ own)
takes_count_by_owners owns own all = (refl, refl)

pub piece_of_a_plan_is_at_its_number : (plan : PlanView) (number : ℕ) → (piece_at plan (Some number) ≡ slice_get (pieces plan) number) × (piece_at plan None ≡ None)
piece_of_a_plan_is_at_its_number plan number = (refl, refl)

-- Values

-- an iteration has its value, and a value the iteration that it would have
pub iteration_of_a_shape_has_its_value : (shape : Shape) (k : ℕ) (value : ℤ) → (value_at shape k ≡ shape.start +ℤ (pos k *ℤ shape.incr)) × (iteration_at shape value ≡ unsigned_abs (value -ℤ shape.start) / unsigned_abs shape.incr)
iteration_of_a_shape_has_its_value shape k value = (refl, refl)

-- a value is of that iteration if there is one that has it
pub value_of_an_iteration_tells_it : (shape : Shape) (value : ℤ) → iteration_at shape value < shape.trips → int_eq (value_at shape (iteration_at shape value)) value ≡ true → iteration_of shape value ≡ Some (iteration_at shape value)
value_of_an_iteration_tells_it shape value within same = rw (lt-ltb (iteration_at shape value) shape.trips within, same) refl

pub value_behind_the_last_iteration_tells_none : (shape : Shape) (value : ℤ) → shape.trips ≤ iteration_at shape value → iteration_of shape value ≡ None
value_behind_the_last_iteration_tells_none shape value past = let is : nat_lt (iteration_at shape value) shape.trips ≡ false = grind (arith, nat_tests, past) in rw is refl

pub value_between_iterations_tells_none : (shape : Shape) (value : ℤ) → iteration_at shape value < shape.trips → int_eq (value_at shape (iteration_at shape value)) value ≡ false → iteration_of shape value ≡ None
value_between_iterations_tells_none shape value within other = rw (lt-ltb (iteration_at shape value) shape.trips within, other) refl
