-- Pieces have whole numbers of iterations: chunks, members and counts of every size, stated of every number, and computed at both ends.
use Rattle.std.proofs.Common.{◌≡◌, ℕ, zero, suc, ◌+◌, ◌*◌, ◌<◌, ◌≤◌, [], ◌∷◌, Some, None, length, slice_get, min, refl, arith}
use Rattle.std.specs.Prelude.{pos, map}
use Rattle.gomp_types.specs.declared.loop_desc.Sched.TheVariants.{Static, Dynamic, Guided}
use Rattle.gomp_types.specs.Pieces.{dynamic_piece, guided_size, whole_piece}
use Rattle.gomp_chunks.specs.Plans.{pieces, owner, count_for}
use Rattle.gomp_chunks.specs.Examples.{loop_plan, sections_plan}

-- a piece that the loop holds whole has a whole chunk, whatever the chunk and the piece's number are
pub piece_has_a_whole_chunk : (trips chunk j : ℕ) → j * chunk + chunk ≤ trips → dynamic_piece trips chunk j ≡ (j * chunk, j * chunk + chunk)
piece_has_a_whole_chunk trips chunk j whole = let last : min trips (j * chunk + chunk) ≡ j * chunk + chunk = omega (arith, whole) in rw last refl

-- and the last one what is left
pub last_piece_has_the_rest : (trips chunk j : ℕ) → trips ≤ j * chunk + chunk → dynamic_piece trips chunk j ≡ (j * chunk, trips)
last_piece_has_the_rest trips chunk j rest = let last : min trips (j * chunk + chunk) ≡ trips = omega (arith, rest) in rw last refl

-- the next piece of a guided loop has all that is left, if that is no more than a chunk
pub guided_piece_has_the_rest : (members chunk rest : ℕ) → rest ≤ chunk → guided_size members chunk rest ≡ rest
guided_piece_has_the_rest members chunk rest few = omega (arith, few)

-- the sizes of guided pieces, in the largest team and the smallest, of the longest loop and of short ones
pub guided_sizes_at_both_ends :
    map (λ members. guided_size members 1 549755813888) (1 ∷ 2 ∷ 63 ∷ 64 ∷ []) ≡ 549755813888 ∷ 274877906944 ∷ 8726282761 ∷ 8589934592 ∷ []
guided_sizes_at_both_ends = refl

pub guided_sizes_by_chunk :
    map (λ chunk. guided_size 64 chunk 549755813888) (1 ∷ 8589934592 ∷ 8589934593 ∷ 549755813887 ∷ 549755813888 ∷ []) ≡ 8589934592 ∷ 8589934592 ∷ 8589934593 ∷ 549755813887 ∷ 549755813888 ∷ []
guided_sizes_by_chunk = refl

-- the longest loop in chunks of every length of a number
pub longest_loop_in_large_chunks :
    (pieces (loop_plan 64 Dynamic (pos 549755813888) (pos 549755813887)) ≡ (0, 549755813887) ∷ (549755813887, 549755813888) ∷ [])
    × (pieces (loop_plan 64 Static (pos 549755813888) (pos 274877906944)) ≡ (0, 274877906944) ∷ (274877906944, 549755813888) ∷ [])
    × (pieces (loop_plan 64 Guided (pos 549755813888) (pos 549755813887)) ≡ (0, 549755813887) ∷ (549755813887, 549755813888) ∷ [])
    × (pieces (loop_plan 64 Dynamic (pos 4294967297) (pos 4294967296)) ≡ (0, 4294967296) ∷ (4294967296, 4294967297) ∷ [])
    × (pieces (loop_plan 64 Static (pos 65537) (pos 65536)) ≡ (0, 65536) ∷ (65536, 65537) ∷ [])
    × (pieces (loop_plan 64 Dynamic (pos 257) (pos 256)) ≡ (0, 256) ∷ (256, 257) ∷ [])
longest_loop_in_large_chunks = (refl, refl, refl, refl, refl, refl)

-- the first and the last member's part of the longest loop without a chunk, and where a loop of one iteration less gives each of the first ones more
pub even_parts_of_the_longest_loop :
    (slice_get (pieces (loop_plan 64 Static (pos 549755813888) (pos 0))) 0 ≡ Some (0, 8589934592)) × (slice_get (pieces (loop_plan 64 Static (pos 549755813888) (pos 0))) 63 ≡ Some (541165879296, 549755813888))
    × (slice_get (pieces (loop_plan 64 Static (pos 549755813887) (pos 0))) 62 ≡ Some (532575944704, 541165879296)) × (slice_get (pieces (loop_plan 64 Static (pos 549755813887) (pos 0))) 63 ≡ Some (541165879296, 549755813887))
    × (slice_get (pieces (loop_plan 64 Static (pos 549755813888) (pos 0))) 64 ≡ None)
even_parts_of_the_longest_loop = (refl, refl, refl, refl, refl)

-- the last of the most sections is a piece of its own
pub last_of_the_most_sections : (slice_get (pieces (sections_plan 65536)) 65535 ≡ Some (65535, 65536)) × (slice_get (pieces (sections_plan 65536)) 65536 ≡ None) × (slice_get (pieces (sections_plan 65536)) 0 ≡ Some (0, 1))
last_of_the_most_sections = (refl, refl, refl)

-- a single is whole, however much it has
pub whole_piece_has_all : (count : ℕ) → 0 < count → length (whole_piece count) ≡ 1
whole_piece_has_all zero some = absurd (omega (arith, some))
whole_piece_has_all (suc most) some = refl

-- owners of pieces behind the first 256 and 65,536
pub owners_of_late_pieces :
    (owner (loop_plan 64 Static (pos 70000) (pos 1)) 256 ≡ Some 0) × (owner (loop_plan 64 Static (pos 70000) (pos 1)) 65599 ≡ Some 63) × (owner (loop_plan 63 Static (pos 70000) (pos 1)) 65536 ≡ Some 16)
    × (owner (loop_plan 64 Static (pos 70000) (pos 1)) 70000 ≡ None)
owners_of_late_pieces = (refl, refl, refl, refl)

-- the pieces that count are those that were taken, however many
pub every_take_counts : (own all : ℕ) (by : ℕ → ℕ) → (count_for None own all ≡ all) × (count_for (Some by) own all ≡ own)
every_take_counts own all by = (refl, refl)
