-- What loops, sections and singles are, when two of them are one, and in which pieces they are dealt out.
use Rattle.std.proofs.Common.{◌≡◌, ℕ, true, false, List, [], ◌∷◌, Some, None, Ok, Err, refl, arith}
use Rattle.std.specs.Prelude.{ℤ, pos, negsuc, map}
use Rattle.gomp_types.specs.declared.loop_desc.LoopDesc.{LoopDesc}
use Rattle.gomp_types.specs.declared.loop_desc.Sched.{Sched}
use Rattle.gomp_types.specs.declared.loop_desc.Sched.TheVariants.{Static, Guided, Dynamic, Runtime}
use Rattle.gomp_types.specs.declared.loop_desc.EndKind.TheVariants.{Wait, Nowait, Cancellable}
use Rattle.gomp_types.specs.declared.refusal.Refusal.TheVariants.{ZeroStep, BadChunk, LoopTooLong, BadSections, OrderedLoop}
use Rattle.gomp_types.specs.declared.shape.Shape.{Shape}
use Rattle.gomp_types.specs.declared.shape.ShareKind.{ShareKind}
use Rattle.gomp_types.specs.declared.shape.ShareKind.TheVariants as kind
use Rattle.gomp_types.specs.Limits.{standard, capped_limits}
use Rattle.gomp_types.specs.Tests.{first_holding, outcome}
use Rattle.gomp_types.specs.Shapes.{is_loop, is_static, is_sections, is_single, is_copy, same_kind, same_end, same_bool, same_shape}
use Rattle.gomp_types.specs.Iterations.{trip_count, iteration_value, lies_before_end, is_bad_chunk, trip_tests, loop_tests}
use Rattle.gomp_types.specs.Sections.{sections_shape, sections_tests}
use Rattle.gomp_types.specs.Singles.{single_shape, with_word}
use Rattle.gomp_types.specs.Pieces.{resolved_loop, resolved_chunk, share_kind_of, shape_of, pieces_of, Tiles}
use Rattle.gomp_types.specs.Values.{IsShape}
use Rattle.gomp_types.specs.Deals.{times}
use Rattle.gomp_types.specs.ExampleShapes.{four, ten}

-- Kinds

-- the kinds of constructs
abbrev all_kinds : List ShareKind
all_kinds = kind.StaticChunked ∷ kind.StaticEven ∷ kind.Dynamic ∷ kind.Guided ∷ kind.Sections ∷ kind.Single ∷ kind.SingleCopy ∷ []

-- which of them are loops, loops with pieces of each member's own, sections, singles, and singles with words
pub kinds_of_constructs :
    (map is_loop all_kinds ≡ true ∷ true ∷ true ∷ true ∷ false ∷ false ∷ false ∷ [])
    × (map is_static all_kinds ≡ true ∷ true ∷ false ∷ false ∷ false ∷ false ∷ false ∷ [])
    × (map is_sections all_kinds ≡ false ∷ false ∷ false ∷ false ∷ true ∷ false ∷ false ∷ [])
    × (map is_single all_kinds ≡ false ∷ false ∷ false ∷ false ∷ false ∷ true ∷ true ∷ [])
    × (map is_copy all_kinds ≡ false ∷ false ∷ false ∷ false ∷ false ∷ false ∷ true ∷ [])
kinds_of_constructs = (refl, refl, refl, refl, refl)

-- each kind is the same as itself alone
pub kinds_differ : map (λ one. map (same_kind one) all_kinds) all_kinds
    ≡ (true ∷ false ∷ false ∷ false ∷ false ∷ false ∷ false ∷ [])
    ∷ (false ∷ true ∷ false ∷ false ∷ false ∷ false ∷ false ∷ [])
    ∷ (false ∷ false ∷ true ∷ false ∷ false ∷ false ∷ false ∷ [])
    ∷ (false ∷ false ∷ false ∷ true ∷ false ∷ false ∷ false ∷ [])
    ∷ (false ∷ false ∷ false ∷ false ∷ true ∷ false ∷ false ∷ [])
    ∷ (false ∷ false ∷ false ∷ false ∷ false ∷ true ∷ false ∷ [])
    ∷ (false ∷ false ∷ false ∷ false ∷ false ∷ false ∷ true ∷ [])
    ∷ []
kinds_differ = refl

-- and so is each end
pub ends_differ : map (λ one. map (same_end one) (Wait ∷ Nowait ∷ [])) (Wait ∷ Nowait ∷ []) ≡ (true ∷ false ∷ []) ∷ (false ∷ true ∷ []) ∷ []
ends_differ = refl

-- each clause
pub clauses_differ : map (λ one. map (same_bool one) (true ∷ false ∷ [])) (true ∷ false ∷ []) ≡ (true ∷ false ∷ []) ∷ (false ∷ true ∷ []) ∷ []
clauses_differ = refl

-- two loops that differ in the start, the step, the number of iterations, the schedule, the chunk, the clause, and the end
pub shapes_differ :
    map (same_shape (four false))
    (four false ∷ record (four false) { start = pos 1 } ∷ record (four false) { incr = pos 2 } ∷ record (four false) { trips = 5 }
    ∷ record (four false) { kind = kind.Guided } ∷ record (four false) { chunk = 1 } ∷ four true ∷ record (four false) { end_kind = Nowait } ∷ [])
    ≡ true ∷ false ∷ false ∷ false ∷ false ∷ false ∷ false ∷ false ∷ []
shapes_differ = refl

-- Loops

-- a loop from a start to an end
abbrev loop_from : ℤ → ℤ → ℤ → Sched → ℤ → LoopDesc
loop_from start end incr sched chunk = record { start = start; end = end; incr = incr; sched = sched; chunk = chunk; ordered = true; end_kind = Nowait }

-- the values of a loop's iterations, upwards and downwards
pub iterations_have_values :
    (map (iteration_value (loop_from (pos 5) (pos 11) (pos 3) Static (pos 0))) (0 ∷ 1 ∷ 2 ∷ []) ≡ pos 5 ∷ pos 8 ∷ pos 11 ∷ [])
    × (map (iteration_value (loop_from (pos 1) (negsuc 3) (negsuc 1) Static (pos 0))) (0 ∷ 1 ∷ 2 ∷ []) ≡ pos 1 ∷ negsuc 0 ∷ negsuc 2 ∷ [])
iterations_have_values = (refl, refl)

-- a value before the end, at it and behind it
pub values_before_the_end :
    (map (lies_before_end (loop_from (pos 0) (pos 9) (pos 3) Static (pos 0))) (pos 8 ∷ pos 9 ∷ pos 10 ∷ []) ≡ true ∷ false ∷ false ∷ [])
    × (map (lies_before_end (loop_from (pos 9) (pos 0) (negsuc 2) Static (pos 0))) (pos 1 ∷ pos 0 ∷ negsuc 0 ∷ []) ≡ true ∷ false ∷ false ∷ [])
values_before_the_end = (refl, refl)

-- how many iterations there are up to the end, and past it; downwards; from the end on, and away from it
pub iterations_of_loops :
    map trip_count
    (loop_from (pos 0) (pos 9) (pos 3) Static (pos 0) ∷ loop_from (pos 0) (pos 10) (pos 3) Static (pos 0) ∷ loop_from (pos 9) (pos 0) (negsuc 2) Static (pos 0)
    ∷ loop_from (pos 9) (negsuc 0) (negsuc 2) Static (pos 0) ∷ loop_from (pos 5) (pos 5) (pos 1) Static (pos 0) ∷ loop_from (pos 9) (pos 0) (pos 3) Static (pos 0)
    ∷ loop_from (pos 0) (pos 9) (negsuc 2) Static (pos 0) ∷ [])
    ≡ 3 ∷ 4 ∷ 3 ∷ 4 ∷ 0 ∷ 0 ∷ 0 ∷ []
iterations_of_loops = refl

-- a chunk is bad if it is negative, too large, or given with a schedule of the control variables
pub chunks_that_are_bad :
    map is_bad_chunk
    (loop_from (pos 0) (pos 9) (pos 3) Static (negsuc 0) ∷ loop_from (pos 0) (pos 9) (pos 3) Static (pos 0) ∷ loop_from (pos 0) (pos 9) (pos 3) Static (pos 549755813888)
    ∷ loop_from (pos 0) (pos 9) (pos 3) Static (pos 549755813889) ∷ loop_from (pos 0) (pos 9) (pos 3) Runtime (pos 0) ∷ loop_from (pos 0) (pos 9) (pos 3) Runtime (pos 1) ∷ [])
    ≡ true ∷ false ∷ false ∷ true ∷ false ∷ true ∷ []
chunks_that_are_bad = refl

-- a loop is refused for its step before its chunk, for its chunk before its length, and then if it is ordered and may be cancelled
pub loops_that_are_refused :
    map (λ loop. first_holding (loop_tests loop))
    (loop_from (pos 0) (pos 549755813889) (pos 0) Static (negsuc 0) ∷ loop_from (pos 0) (pos 549755813889) (pos 1) Static (negsuc 0)
    ∷ loop_from (pos 0) (pos 549755813889) (pos 1) Static (pos 0) ∷ loop_from (pos 0) (pos 549755813888) (pos 1) Static (pos 0) ∷ record (loop_from (pos 0) (pos 549755813889) (pos 1) Static (pos 0)) { end_kind = Cancellable }
    ∷ record (loop_from (pos 0) (pos 9) (pos 3) Static (pos 0)) { end_kind = Cancellable } ∷ record (loop_from (pos 0) (pos 9) (pos 3) Static (pos 0)) { end_kind = Cancellable; ordered = false }
    ∷ [])
    ≡ Some ZeroStep ∷ Some BadChunk ∷ Some LoopTooLong ∷ None ∷ Some LoopTooLong ∷ Some OrderedLoop ∷ None ∷ []
loops_that_are_refused = refl

-- whether it can be counted is nothing of its order
pub loop_counted_in_any_order :
    first_holding (trip_tests (record (loop_from (pos 0) (pos 9) (pos 3) Static (pos 0)) { end_kind = Cancellable })) ≡ None
loop_counted_in_any_order = refl

-- what is compared of a loop, with a chunk and without
pub shapes_of_loops :
    (shape_of (loop_from (pos 5) (pos 11) (pos 3) Static (pos 7)) ≡ record { start = pos 5; incr = pos 3; trips = 2; kind = kind.StaticChunked; chunk = 7; ordered = true; end_kind = Nowait })
    × (shape_of (record (loop_from (pos 5) (pos 5) (pos 3) Guided (pos 0)) { ordered = false; end_kind = Wait }) ≡ record { start = pos 5; incr = pos 3; trips = 0; kind = kind.Guided; chunk = 1; ordered = false; end_kind = Wait })
shapes_of_loops = (refl, refl)

-- how loops are dealt out, without a chunk and with one
pub kinds_of_loops :
    (map (λ sched. share_kind_of sched (pos 0)) (Static ∷ Dynamic ∷ Guided ∷ Runtime ∷ []) ≡ kind.StaticEven ∷ kind.Dynamic ∷ kind.Guided ∷ kind.Dynamic ∷ [])
    × (map (λ sched. share_kind_of sched (pos 2)) (Static ∷ Dynamic ∷ Guided ∷ Runtime ∷ []) ≡ kind.StaticChunked ∷ kind.Dynamic ∷ kind.Guided ∷ kind.Dynamic ∷ [])
kinds_of_loops = (refl, refl)

-- a loop takes the schedule of the control variables if it leaves that to them and has no chunk
pub loops_that_are_resolved :
    (resolved_loop Guided (pos 4) (loop_from (pos 0) (pos 9) (pos 3) Runtime (pos 0)) ≡ loop_from (pos 0) (pos 9) (pos 3) Guided (pos 4))
    × (resolved_loop Guided (pos 4) (loop_from (pos 0) (pos 9) (pos 3) Runtime (pos 2)) ≡ loop_from (pos 0) (pos 9) (pos 3) Runtime (pos 2))
    × (resolved_loop Guided (pos 4) (loop_from (pos 0) (pos 9) (pos 3) Static (pos 0)) ≡ loop_from (pos 0) (pos 9) (pos 3) Static (pos 0))
loops_that_are_resolved = (refl, refl, refl)

-- the chunk that counts
pub chunks_of_loops : map resolved_chunk (pos 0 ∷ pos 1 ∷ pos 5 ∷ []) ≡ 1 ∷ 1 ∷ 5 ∷ []
chunks_of_loops = refl

-- Sections and singles

-- what is compared of sections
pub shape_of_sections : sections_shape 3 Wait ≡ record { start = pos 1; incr = pos 1; trips = 3; kind = kind.Sections; chunk = 1; ordered = false; end_kind = Wait }
shape_of_sections = refl

-- the most sections that are not refused
pub sections_that_are_refused : map (λ count. first_holding (sections_tests count)) (0 ∷ 65536 ∷ 65537 ∷ []) ≡ None ∷ None ∷ Some BadSections ∷ []
sections_that_are_refused = refl

-- what is compared of singles, without words and with
pub shapes_of_singles :
    (single_shape false ≡ record { start = pos 0; incr = pos 1; trips = 1; kind = kind.Single; chunk = 1; ordered = false; end_kind = Nowait })
    × (single_shape true ≡ record { start = pos 0; incr = pos 1; trips = 1; kind = kind.SingleCopy; chunk = 1; ordered = false; end_kind = Nowait })
shapes_of_singles = (refl, refl)

-- an eighth word is kept, and a ninth is not
pub words_that_are_kept :
    (with_word (1 ∷ 2 ∷ 3 ∷ 4 ∷ 5 ∷ 6 ∷ 7 ∷ []) 8 ≡ 1 ∷ 2 ∷ 3 ∷ 4 ∷ 5 ∷ 6 ∷ 7 ∷ 8 ∷ [])
    × (with_word (1 ∷ 2 ∷ 3 ∷ 4 ∷ 5 ∷ 6 ∷ 7 ∷ 8 ∷ []) 9 ≡ 1 ∷ 2 ∷ 3 ∷ 4 ∷ 5 ∷ 6 ∷ 7 ∷ 8 ∷ [])
words_that_are_kept = (refl, refl)

-- Pieces

-- ten iterations of each kind in a team of four
pub pieces_of_each_kind :
    map (λ kind. pieces_of 4 (ten kind)) all_kinds
    ≡ ((0, 2) ∷ (2, 4) ∷ (4, 6) ∷ (6, 8) ∷ (8, 10) ∷ [])
    ∷ ((0, 3) ∷ (3, 6) ∷ (6, 8) ∷ (8, 10) ∷ [])
    ∷ ((0, 2) ∷ (2, 4) ∷ (4, 6) ∷ (6, 8) ∷ (8, 10) ∷ [])
    ∷ ((0, 3) ∷ (3, 5) ∷ (5, 7) ∷ (7, 9) ∷ (9, 10) ∷ [])
    ∷ ((0, 1) ∷ (1, 2) ∷ (2, 3) ∷ (3, 4) ∷ (4, 5) ∷ (5, 6) ∷ (6, 7) ∷ (7, 8) ∷ (8, 9) ∷ (9, 10) ∷ [])
    ∷ ((0, 10) ∷ [])
    ∷ ((0, 10) ∷ [])
    ∷ []
pieces_of_each_kind = refl

-- no iterations are in no piece
pub pieces_of_none : map (λ kind. pieces_of 4 (record (ten kind) { trips = 0 })) all_kinds ≡ [] ∷ [] ∷ [] ∷ [] ∷ [] ∷ [] ∷ [] ∷ []
pieces_of_none = refl

-- two iterations are in two pieces, though there are four members
pub pieces_of_few : pieces_of 4 (record (ten kind.StaticEven) { trips = 2 }) ≡ (0, 1) ∷ (1, 2) ∷ []
pieces_of_few = refl

-- the last piece is shorter
pub pieces_of_nine :
    (pieces_of 4 (record (ten kind.Dynamic) { trips = 9 }) ≡ (0, 2) ∷ (2, 4) ∷ (4, 6) ∷ (6, 8) ∷ (8, 9) ∷ [])
    × (pieces_of 4 (record (ten kind.StaticChunked) { trips = 9 }) ≡ (0, 2) ∷ (2, 4) ∷ (4, 6) ∷ (6, 8) ∷ (8, 9) ∷ [])
pieces_of_nine = (refl, refl)

-- how many pieces have an iteration
pub times_in_pieces : map (λ k. times k ((0, 2) ∷ (1, 3) ∷ [])) (0 ∷ 1 ∷ 2 ∷ 3 ∷ []) ≡ 1 ∷ 2 ∷ 1 ∷ 0 ∷ []
times_in_pieces = refl

-- pieces that end too early
pub tiles_too_short : Tiles 0 ((0, 2) ∷ (2, 3) ∷ []) 4 → ⊥
tiles_too_short tiles = absurd (let last = tiles.2.2 in omega arith)

-- that end too late
pub tiles_too_long : Tiles 0 ((0, 2) ∷ (2, 5) ∷ []) 4 → ⊥
tiles_too_long tiles = absurd (let last = tiles.2.2 in omega arith)

-- that leave an iteration out
pub tiles_with_a_gap : Tiles 0 ((0, 2) ∷ (3, 4) ∷ []) 4 → ⊥
tiles_with_a_gap tiles = absurd (let next = tiles.2.0 in omega arith)

-- that have one twice
pub tiles_that_overlap : Tiles 0 ((0, 2) ∷ (1, 4) ∷ []) 4 → ⊥
tiles_that_overlap tiles = absurd (let next = tiles.2.0 in omega arith)

-- and one that is empty
pub tiles_that_are_empty : Tiles 0 ((0, 2) ∷ (2, 2) ∷ (2, 4) ∷ []) 4 → ⊥
tiles_that_are_empty tiles = absurd (let some = tiles.2.1 in omega arith)

-- What is no construct's shape

-- no construct has too many iterations
pub shape_too_long : IsShape (record (four false) { trips = 549755813889; incr = pos 1 }) → ⊥
shape_too_long is = absurd (let trips = is.trips in omega arith)

-- too large a chunk
pub shape_of_large_chunk : IsShape (record (four false) { chunk = 549755813889 }) → ⊥
shape_of_large_chunk is = absurd (let chunk = is.chunk in omega arith)

-- no chunk
pub shape_of_no_chunk : IsShape (record (four false) { chunk = 0 }) → ⊥
shape_of_no_chunk is = absurd (let some = is.some in omega arith)

-- no step
pub shape_of_no_step : IsShape (record (four false) { incr = pos 0 }) → ⊥
shape_of_no_step is = is.moves refl

-- or an iteration whose value is none
pub shape_of_no_value : IsShape (record (four false) { start = pos 9223372036854775805 }) → ⊥
shape_of_no_value is = absurd (let last = is.fits 3 (omega arith) in omega arith)

-- nor is one ordered that may be cancelled
pub shape_that_loses_order : IsShape (record (four false) { end_kind = Cancellable; ordered = true }) → ⊥
shape_that_loses_order is = absurd (let unordered = is.unordered refl in cc)

-- Tests and limits

-- the first of two tests that hold, and no refusal if none does
pub first_test_that_holds :
    (first_holding ((false, ZeroStep) ∷ (true, BadChunk) ∷ (true, LoopTooLong) ∷ []) ≡ Some BadChunk) × (first_holding ((false, ZeroStep) ∷ (false, BadChunk) ∷ []) ≡ None)
    × (first_holding [] ≡ None) × (outcome {A = ℕ} None 7 ≡ Ok 7) × (outcome {A = ℕ} (Some BadChunk) 7 ≡ Err BadChunk)
first_test_that_holds = (refl, refl, refl, refl, refl)

-- the limits of a team for which none are given
pub limits_of_a_team : standard ≡ record { shares = 131064; tasks = 1048576; events = 16777216 }
limits_of_a_team = refl

-- each limit counts up to the standard one
pub limits_that_count :
    (capped_limits (record { shares = 131065; tasks = 1048577; events = 16777217 }) ≡ standard)
    × (capped_limits (record { shares = 3; tasks = 1048575; events = 16777215 }) ≡ record { shares = 3; tasks = 1048575; events = 16777215 })
limits_that_count = (refl, refl)
