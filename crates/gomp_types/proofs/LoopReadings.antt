-- When a loop is refused, how it is dealt out and what members compare of it, of any start, end, step, schedule, chunk and clause, so that no case is left out.
use Rattle.std.proofs.Common.{◌≡◌, ◌≢◌, ℕ, ◌+◌, ◌/◌, ◌%◌, ◌<◌, ◌≤◌, Bool, true, false, Some, None, refl, arith, inl, inr}
use Rattle.std.specs.Prelude.{ℤ, pos, negsuc, ◌+ℤ◌, int_lt, nat_lt, ◌&&◌, if◌then◌else◌}
use Rattle.std.specs.Ordering.{int_eq}
use Rattle.std.specs.Int.{div_ceil}
use Rattle.std.proofs.lemmas.Bool.{cases_Bool}
use Rattle.std.proofs.lemmas.Bool.Decides.{nat_tests}
use Rattle.std.proofs.lemmas.Int.{ints}
use Rattle.gomp_types.specs.declared.loop_desc.LoopDesc.{LoopDesc}
use Rattle.gomp_types.specs.declared.loop_desc.Sched.{Sched}
use Rattle.gomp_types.specs.declared.loop_desc.Sched.TheVariants.{Static, Dynamic, Guided, Runtime}
use Rattle.gomp_types.specs.declared.loop_desc.EndKind.{EndKind}
use Rattle.gomp_types.specs.declared.loop_desc.EndKind.TheVariants.{Wait, Nowait, Cancellable}
use Rattle.gomp_types.specs.declared.refusal.Refusal.TheVariants.{ZeroStep, BadChunk, LoopTooLong, OrderedLoop}
use Rattle.gomp_types.specs.declared.shape.Shape.{Shape}
use Rattle.gomp_types.specs.declared.shape.ShareKind.TheVariants as kind
use Rattle.gomp_types.specs.Tests.{first_holding}
use Rattle.gomp_types.specs.Iterations.{iteration_value, lies_before_end, trip_count, is_bad_chunk, is_runtime, may_lose_order, loop_tests, max_chunk, max_trips}
use Rattle.gomp_types.specs.Pieces.{share_kind_of, resolved_loop, shape_of, owner_by, kind_pieces, dynamic_pieces, guided_size, guided_pieces, even_piece, even_pieces, whole_piece}
use Rattle.gomp_types.specs.Sections.{sections_shape}
use Rattle.gomp_types.specs.Values.{value_at}
use Rattle.gomp_types.specs.Shapes.{same_end, same_shape}
use Rattle.gomp_types.specs.Compare.{shape_differs, end_differs}
use Rattle.gomp_types.proofs.Compared.{same_end_is, same_end_itself, same_shape_is, same_shape_itself}

same_int : (a : ℤ) → int_eq a a ≡ true
same_int a = grind (arith, ints, nat_tests)

other_int : (a b : ℤ) → a ≢ b → int_eq a b ≡ false
other_int a b differ = grind (arith, ints, nat_tests, differ)

-- The values of iterations

-- a value lies before the end in the direction of the step
pub value_before_the_end_upwards : (loop : LoopDesc) (value : ℤ) → int_lt (pos 0) loop.incr ≡ true → lies_before_end loop value ≡ int_lt value loop.end
value_before_the_end_upwards loop value up = rw up refl

pub value_before_the_end_downwards : (loop : LoopDesc) (value : ℤ) → int_lt (pos 0) loop.incr ≡ false → lies_before_end loop value ≡ int_lt loop.end value
value_before_the_end_downwards loop value down = rw down refl

-- the first iteration has the start as its value, and each later one a step more, as the loop is written and as it is compared
pub first_value_is_the_start : (shape : Shape) → value_at shape 0 ≡ shape.start
first_value_is_the_start shape = grind (arith, ints)

pub next_value_is_a_step_on : (shape : Shape) (k : ℕ) → value_at shape (k + 1) ≡ value_at shape k +ℤ shape.incr
next_value_is_a_step_on shape k = grind (arith, ints)

pub iteration_has_the_value_compared : (loop : LoopDesc) (k : ℕ) → iteration_value loop k ≡ value_at (shape_of loop) k
iteration_has_the_value_compared loop k = refl

-- How a loop is dealt out

-- a static loop without a chunk has a part for each member, and with any chunk pieces of that
pub static_with_a_chunk_is_chunked : (chunk : ℤ) → chunk ≢ pos 0 → share_kind_of Static chunk ≡ kind.StaticChunked
static_with_a_chunk_is_chunked chunk some = rw (other_int chunk (pos 0) some) refl

-- the others are dealt out by their schedule, whatever their chunk is
pub other_kinds_by_their_schedule : (chunk : ℤ) → (share_kind_of Dynamic chunk ≡ kind.Dynamic) × (share_kind_of Guided chunk ≡ kind.Guided) × (share_kind_of Runtime chunk ≡ kind.Dynamic)
other_kinds_by_their_schedule chunk = (refl, refl, refl)

-- that is what members compare
pub shape_has_the_kind : (loop : LoopDesc) → (shape_of loop).kind ≡ share_kind_of loop.sched loop.chunk
shape_has_the_kind loop = refl

-- one schedule is left to the control variables
pub only_runtime_is_left_open : (is_runtime Static ≡ false) × (is_runtime Dynamic ≡ false) × (is_runtime Guided ≡ false) × (is_runtime Runtime ≡ true)
only_runtime_is_left_open = (refl, refl, refl, refl)

-- they change no loop with a schedule of its own
pub loop_with_its_schedule_stays : (sched : Sched) (chunk : ℤ) (loop : LoopDesc) → is_runtime loop.sched ≡ false → resolved_loop sched chunk loop ≡ loop
loop_with_its_schedule_stays sched chunk loop own = rw own refl

-- nor one with a chunk, which is refused
pub loop_with_a_chunk_stays : (sched : Sched) (chunk : ℤ) (loop : LoopDesc) → loop.chunk ≢ pos 0 → resolved_loop sched chunk loop ≡ loop
loop_with_a_chunk_stays sched chunk loop some = rw (other_int loop.chunk (pos 0) some) (by_schedule (is_runtime loop.sched))
  where
    by_schedule : (b : Bool) → (if b && false then record loop { sched = sched; chunk = chunk } else loop) ≡ loop
    by_schedule true = refl
    by_schedule false = refl

-- each kind has its own pieces, whatever its count, its chunk and the team are
pub each_kind_has_its_pieces :
    (members : ℕ) (shape : Shape) →
    (kind_pieces members kind.StaticChunked shape ≡ dynamic_pieces shape.trips shape.chunk)
    × (kind_pieces members kind.StaticEven shape ≡ even_pieces shape.trips members)
    × (kind_pieces members kind.Dynamic shape ≡ dynamic_pieces shape.trips shape.chunk)
    × (kind_pieces members kind.Guided shape ≡ guided_pieces shape.trips members shape.chunk)
    × (kind_pieces members kind.Sections shape ≡ dynamic_pieces shape.trips 1)
    × (kind_pieces members kind.Single shape ≡ whole_piece shape.trips)
    × (kind_pieces members kind.SingleCopy shape ≡ whole_piece shape.trips)
each_kind_has_its_pieces members shape = (refl, refl, refl, refl, refl, refl, refl)

-- the pieces of a static loop have owners, by their numbers, and no others have
pub each_kind_has_its_owners :
    (members : ℕ) →
    (owner_by members kind.StaticChunked ≡ Some (λ j. j % members))
    × (owner_by members kind.StaticEven ≡ Some (λ j. j))
    × (owner_by members kind.Dynamic ≡ None)
    × (owner_by members kind.Guided ≡ None)
    × (owner_by members kind.Sections ≡ None)
    × (owner_by members kind.Single ≡ None)
    × (owner_by members kind.SingleCopy ≡ None)
each_kind_has_its_owners members = (refl, refl, refl, refl, refl, refl, refl)

-- a piece of a guided loop has the members' part of the rest, rounded up, if that is no less than a chunk
pub guided_piece_has_its_part : (members chunk rest : ℕ) → chunk ≤ div_ceil rest members → div_ceil rest members ≤ rest → guided_size members chunk rest ≡ div_ceil rest members
guided_piece_has_its_part members chunk rest large within = omega (arith, large, within)

-- and else a chunk, if that is no more than the rest
pub guided_piece_has_a_chunk : (members chunk rest : ℕ) → div_ceil rest members ≤ chunk → chunk ≤ rest → guided_size members chunk rest ≡ chunk
guided_piece_has_a_chunk members chunk rest small within = omega (arith, small, within)

-- a member's part of a static loop without a chunk has the members' part of all, rounded down, and of the first ones one more
pub first_parts_have_one_more : (trips members j : ℕ) → j < trips % members → (even_piece trips members j).1 ≡ (even_piece trips members j).0 + trips / members + 1
first_parts_have_one_more trips members j first = omega (arith, first)

pub later_parts_have_no_more : (trips members j : ℕ) → trips % members ≤ j → (even_piece trips members j).1 ≡ (even_piece trips members j).0 + trips / members
later_parts_have_no_more trips members j later = omega (arith, later)

-- Loops that are refused

-- a negative chunk is refused, and one above the limit
pub negative_chunk_is_bad : (n : ℕ) (loop : LoopDesc) → loop.chunk ≡ negsuc n → is_bad_chunk loop ≡ true
negative_chunk_is_bad n loop is = rw is refl

pub chunk_above_the_most_is_bad : (n : ℕ) (loop : LoopDesc) → loop.chunk ≡ pos n → max_chunk < n → is_bad_chunk loop ≡ true
chunk_above_the_most_is_bad n loop is many = grind (arith, ints, nat_tests, is, many)

-- any chunk is, if the control variables give the schedule
pub chunk_of_a_runtime_loop_is_bad : (loop : LoopDesc) → is_runtime loop.sched ≡ true → loop.chunk ≢ pos 0 → is_bad_chunk loop ≡ true
chunk_of_a_runtime_loop_is_bad loop runtime some = grind (arith, ints, nat_tests, runtime, some)

-- and no other is
pub no_other_chunk_is_bad : (n : ℕ) (loop : LoopDesc) → loop.chunk ≡ pos n → n ≤ max_chunk → is_runtime loop.sched ≡ false → is_bad_chunk loop ≡ false
no_other_chunk_is_bad n loop is few own = grind (arith, ints, nat_tests, is, few, own)

pub absent_chunk_is_not_bad : (loop : LoopDesc) → loop.chunk ≡ pos 0 → is_bad_chunk loop ≡ false
absent_chunk_is_not_bad loop none = grind (arith, ints, nat_tests, none)

-- a loop loses its order if it has one and may be cancelled
pub order_is_lost_if_cancellable : (loop : LoopDesc) → loop.ordered ≡ true → loop.end_kind ≡ Cancellable → may_lose_order loop ≡ true
order_is_lost_if_cancellable loop ordered cancellable = rw (ordered, cancellable) refl

pub no_order_is_lost_without_a_clause : (loop : LoopDesc) → loop.ordered ≡ false → may_lose_order loop ≡ false
no_order_is_lost_without_a_clause loop unordered = rw unordered refl

pub no_order_is_lost_at_another_end : (loop : LoopDesc) → loop.end_kind ≢ Cancellable → may_lose_order loop ≡ false
no_order_is_lost_at_another_end loop differ = by_end loop.end_kind refl
  where
    by_end : (kind : EndKind) → loop.end_kind ≡ kind → may_lose_order loop ≡ false
    by_end Wait e = rw e (by_clause loop.ordered)
      where
        by_clause : (b : Bool) → (b && false) ≡ false
        by_clause true = refl
        by_clause false = refl
    by_end Nowait e = rw e (by_clause loop.ordered)
      where
        by_clause : (b : Bool) → (b && false) ≡ false
        by_clause true = refl
        by_clause false = refl
    by_end Cancellable e = absurd (differ e)

-- a loop is refused for its step, else for its chunk, else for its length, else for its order
pub loop_without_a_step_is_refused : (loop : LoopDesc) → loop.incr ≡ pos 0 → first_holding (loop_tests loop) ≡ Some ZeroStep
loop_without_a_step_is_refused loop none = rw none refl

pub loop_of_a_bad_chunk_is_refused : (loop : LoopDesc) → loop.incr ≢ pos 0 → is_bad_chunk loop ≡ true → first_holding (loop_tests loop) ≡ Some BadChunk
loop_of_a_bad_chunk_is_refused loop moves bad = rw (other_int loop.incr (pos 0) moves, bad) refl

pub loop_above_the_most_is_refused :
    (loop : LoopDesc) → loop.incr ≢ pos 0 → is_bad_chunk loop ≡ false → max_trips < trip_count loop → first_holding (loop_tests loop) ≡ Some LoopTooLong
loop_above_the_most_is_refused loop moves fine long =
    let above : nat_lt max_trips (trip_count loop) ≡ true = grind (arith, nat_tests, long) in rw (other_int loop.incr (pos 0) moves, fine, above) refl

pub loop_that_loses_its_order_is_refused :
    (loop : LoopDesc) → loop.incr ≢ pos 0 → is_bad_chunk loop ≡ false → trip_count loop ≤ max_trips → may_lose_order loop ≡ true → first_holding (loop_tests loop) ≡ Some OrderedLoop
loop_that_loses_its_order_is_refused loop moves fine few loses =
    let within : nat_lt max_trips (trip_count loop) ≡ false = grind (arith, nat_tests, few) in rw (other_int loop.incr (pos 0) moves, fine, within, loses) refl

-- and no other is
pub no_other_loop_is_refused :
    (loop : LoopDesc) → loop.incr ≢ pos 0 → is_bad_chunk loop ≡ false → trip_count loop ≤ max_trips → may_lose_order loop ≡ false → first_holding (loop_tests loop) ≡ None
no_other_loop_is_refused loop moves fine few keeps =
    let within : nat_lt max_trips (trip_count loop) ≡ false = grind (arith, nat_tests, few) in rw (other_int loop.incr (pos 0) moves, fine, within, keeps) refl

-- What is compared

-- sections are compared by their count and their end alone
pub sections_have_one_shape : (count : ℕ) (end_kind : EndKind) → sections_shape count end_kind ≡ record { start = pos 1; incr = pos 1; trips = count; kind = kind.Sections; chunk = 1; ordered = false; end_kind = end_kind }
sections_have_one_shape count end_kind = refl

-- so a member's construct differs from the team's if that is another, and not if it is the same or there is none
pub shape_differs_from_another : (shape other : Shape) → other ≢ shape → shape_differs shape (Some other) ≡ true
shape_differs_from_another shape other differ = elim (cases_Bool (same_shape other shape)) [ inl same ↦ absurd (differ (same_shape_is other shape same)) | inr apart ↦ rw apart refl ]

pub shape_never_differs_from_itself : (shape : Shape) → (shape_differs shape (Some shape) ≡ false) × (shape_differs shape None ≡ false)
shape_never_differs_from_itself shape = rw (same_shape_itself shape) (refl, refl)

-- and the end of its share is by another call or by its own
pub end_differs_by_another_call : (kind : EndKind) (i : ℕ) (shape : Shape) → shape.end_kind ≢ kind → end_differs kind (Some (i, shape)) ≡ true
end_differs_by_another_call kind i shape differ = elim (cases_Bool (same_end shape.end_kind kind)) [ inl same ↦ absurd (differ (same_end_is shape.end_kind kind same)) | inr apart ↦ rw apart refl ]

pub end_never_differs_by_its_own : (i : ℕ) (shape : Shape) → (end_differs shape.end_kind (Some (i, shape)) ≡ false) × ((kind : EndKind) → end_differs kind None ≡ false)
end_never_differs_by_its_own i shape = (rw (same_end_itself shape.end_kind) refl, λ kind. refl)
