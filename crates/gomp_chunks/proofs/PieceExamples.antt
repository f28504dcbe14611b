-- Worked plans: the pieces of a share of each kind, their owners, and which piece is next.
use Rattle.std.proofs.Common.{◌≡◌, ◌-◌, ◌^◌, pos, true, false, [], ◌∷◌, Some, None, length, slice_get, refl}
use Rattle.gomp_types.specs.declared.loop_desc.Sched.TheVariants.{Static, Dynamic, Guided}
use Rattle.gomp_types.specs.Singles.{single_shape}
use Rattle.gomp_chunks.specs.Plans.{pieces, owner, own_queue, next_piece, piece_at}
use Rattle.gomp_chunks.specs.Examples.{plan_for, loop_plan, sections_plan, static_ten, dynamic_ten, guided_ten, even_ten}

-- Pieces

-- a dynamic loop in chunks of three: the last piece is shorter
pub dynamic_pieces_by_three : pieces (loop_plan 4 Dynamic (pos 10) (pos 3)) ≡ (0, 3) ∷ (3, 6) ∷ (6, 9) ∷ (9, 10) ∷ []
dynamic_pieces_by_three = refl

-- and in chunks that divide it
pub dynamic_pieces_by_five : pieces (loop_plan 4 Dynamic (pos 10) (pos 5)) ≡ (0, 5) ∷ (5, 10) ∷ []
dynamic_pieces_by_five = refl

-- without a chunk each iteration is a piece
pub dynamic_pieces_by_one : pieces (loop_plan 4 Dynamic (pos 3) (pos 0)) ≡ (0, 1) ∷ (1, 2) ∷ (2, 3) ∷ []
dynamic_pieces_by_one = refl

-- the longest loop is one piece in the largest chunk
pub dynamic_pieces_at_the_limit : pieces (loop_plan 4 Dynamic (pos (2 ^ 39)) (pos (2 ^ 39))) ≡ (0, 2 ^ 39) ∷ []
dynamic_pieces_at_the_limit = refl

-- a loop without iterations has no piece
pub no_dynamic_pieces : pieces (loop_plan 4 Dynamic (pos 0) (pos 3)) ≡ []
no_dynamic_pieces = refl

-- a static loop with a chunk has the same pieces as a dynamic one
pub static_pieces_by_three : pieces static_ten ≡ (0, 3) ∷ (3, 6) ∷ (6, 9) ∷ (9, 10) ∷ []
static_pieces_by_three = refl

-- the longest static loop is one piece in the largest chunk
pub static_pieces_at_the_limit : pieces (loop_plan 64 Static (pos (2 ^ 39)) (pos (2 ^ 39))) ≡ (0, 2 ^ 39) ∷ []
static_pieces_at_the_limit = refl

-- without a chunk each member has its piece, the first ones with one iteration more
pub even_pieces_of_four : pieces (loop_plan 4 Static (pos 10) (pos 0)) ≡ (0, 3) ∷ (3, 6) ∷ (6, 8) ∷ (8, 10) ∷ []
even_pieces_of_four = refl

-- and a member that would have no iteration has no piece
pub even_pieces_of_few : pieces (loop_plan 4 Static (pos 2) (pos 0)) ≡ (0, 1) ∷ (1, 2) ∷ []
even_pieces_of_few = refl

-- without iterations there is no piece for any member
pub no_even_pieces : pieces (loop_plan 4 Static (pos 0) (pos 0)) ≡ []
no_even_pieces = refl

-- the last of 64 members has the end of the longest loop
pub even_piece_at_the_limit : slice_get (pieces (loop_plan 64 Static (pos (2 ^ 39)) (pos 0))) 63 ≡ Some (2 ^ 39 - 2 ^ 33, 2 ^ 39)
even_piece_at_the_limit = refl

-- of the longest loop each of 64 members has a piece
pub even_pieces_at_the_limit : length (pieces (loop_plan 64 Static (pos (2 ^ 39)) (pos 0))) ≡ 64
even_pieces_at_the_limit = refl

-- a guided loop: each piece is a quarter of what is left, and two iterations at least
pub guided_pieces_of_four : pieces (loop_plan 4 Guided (pos 20) (pos 2)) ≡ (0, 5) ∷ (5, 9) ∷ (9, 12) ∷ (12, 14) ∷ (14, 16) ∷ (16, 18) ∷ (18, 20) ∷ []
guided_pieces_of_four = refl

-- the last piece has no more than what is left, also if the chunk is larger
pub guided_pieces_by_three : pieces guided_ten ≡ (0, 5) ∷ (5, 8) ∷ (8, 10) ∷ []
guided_pieces_by_three = refl

-- a guided loop without iterations has no piece
pub no_guided_pieces : pieces (loop_plan 4 Guided (pos 0) (pos 2)) ≡ []
no_guided_pieces = refl

-- a member alone takes the longest loop at once
pub guided_pieces_alone : pieces (loop_plan 1 Guided (pos (2 ^ 39)) (pos 0)) ≡ (0, 2 ^ 39) ∷ []
guided_pieces_alone = refl

-- in the largest chunk the longest guided loop is one piece
pub guided_pieces_at_the_limit : pieces (loop_plan 64 Guided (pos (2 ^ 39)) (pos (2 ^ 39))) ≡ (0, 2 ^ 39) ∷ []
guided_pieces_at_the_limit = refl

-- the longest guided loop of 64 members has 1490 pieces
pub guided_pieces_count : length (pieces (loop_plan 64 Guided (pos (2 ^ 39)) (pos 1))) ≡ 1490
guided_pieces_count = refl

-- each section is a piece
pub section_pieces_of_five : pieces (sections_plan 5) ≡ (0, 1) ∷ (1, 2) ∷ (2, 3) ∷ (3, 4) ∷ (4, 5) ∷ []
section_pieces_of_five = refl

-- one section is one piece
pub section_pieces_of_one : pieces (sections_plan 1) ≡ (0, 1) ∷ []
section_pieces_of_one = refl

-- no section is no piece
pub no_section_pieces : pieces (sections_plan 0) ≡ []
no_section_pieces = refl

-- a single is one piece, with words for the others or without
pub single_pieces : pieces (plan_for 4 (single_shape false)) ≡ (0, 1) ∷ []
single_pieces = refl

-- a single with words is one piece too
pub copy_pieces : pieces (plan_for 4 (single_shape true)) ≡ (0, 1) ∷ []
copy_pieces = refl

-- Owners

-- with a chunk the members take turns
pub static_owner_first : owner static_ten 0 ≡ Some 0
static_owner_first = refl

-- the second piece is the second member's
pub static_owner_second : owner static_ten 1 ≡ Some 1
static_owner_second = refl

-- the third is the first member's again
pub static_owner_third : owner static_ten 2 ≡ Some 0
static_owner_third = refl

-- the last is the second member's
pub static_owner_last : owner static_ten 3 ≡ Some 1
static_owner_last = refl

-- past the last piece there is no owner
pub static_owner_past : owner static_ten 4 ≡ None
static_owner_past = refl

-- without a chunk piece j is member j's
pub even_owner_first : owner even_ten 0 ≡ Some 0
even_owner_first = refl

-- the second member has the second piece
pub even_owner_last : owner even_ten 1 ≡ Some 1
even_owner_last = refl

-- there is no third
pub even_owner_past : owner even_ten 2 ≡ None
even_owner_past = refl

-- other pieces belong to whoever asks next
pub dynamic_owner : owner dynamic_ten 0 ≡ None
dynamic_owner = refl

-- nor does a guided piece have an owner
pub guided_owner : owner guided_ten 0 ≡ None
guided_owner = refl

-- nor a section
pub section_owner : owner (sections_plan 5) 0 ≡ None
section_owner = refl

-- nor a single
pub single_owner : owner (plan_for 4 (single_shape false)) 0 ≡ None
single_owner = refl

-- nor a single with words
pub copy_owner : owner (plan_for 4 (single_shape true)) 0 ≡ None
copy_owner = refl

-- The next piece

-- of a static loop each member takes its own, whatever the others took
pub own_pieces_of_the_first : own_queue static_ten 0 ≡ (0, 3) ∷ (6, 9) ∷ []
own_pieces_of_the_first = refl

-- the second member's pieces are the others
pub own_pieces_of_the_second : own_queue static_ten 1 ≡ (3, 6) ∷ (9, 10) ∷ []
own_pieces_of_the_second = refl

-- without a chunk it has one piece
pub own_piece_of_an_even_loop : own_queue even_ten 1 ≡ (5, 10) ∷ []
own_piece_of_an_even_loop = refl

-- and of a dynamic loop any piece is its to take
pub own_pieces_of_a_dynamic_loop : own_queue dynamic_ten 1 ≡ pieces dynamic_ten
own_pieces_of_a_dynamic_loop = refl

-- the first member begins with the first piece, though three were taken
pub static_next_first : next_piece static_ten 0 0 3 ≡ Some (0, 3)
static_next_first = refl

-- the second member begins with the second piece
pub static_next_second : next_piece static_ten 1 0 3 ≡ Some (3, 6)
static_next_second = refl

-- after one of its own it takes the last piece
pub static_next_last : next_piece static_ten 1 1 3 ≡ Some (9, 10)
static_next_last = refl

-- none if it took all of its own
pub static_next_none : next_piece static_ten 0 2 3 ≡ None
static_next_none = refl

-- nor if it is said to have taken far more
pub static_next_far : next_piece static_ten 0 (2 ^ 64 - 1) 3 ≡ None
static_next_far = refl

-- without a chunk it takes its one piece
pub even_next_first : next_piece even_ten 1 0 3 ≡ Some (5, 10)
even_next_first = refl

-- and then none
pub even_next_none : next_piece even_ten 1 1 3 ≡ None
even_next_none = refl

-- of others the least piece that nobody took, however many are its own
pub dynamic_next : next_piece dynamic_ten 1 2 3 ≡ Some (9, 10)
dynamic_next = refl

-- none if all pieces were taken
pub dynamic_next_none : next_piece dynamic_ten 1 2 4 ≡ None
dynamic_next_none = refl

-- so of a guided loop
pub guided_next : next_piece guided_ten 0 0 2 ≡ Some (8, 10)
guided_next = refl

-- and none after its last piece
pub guided_next_none : next_piece guided_ten 0 0 3 ≡ None
guided_next_none = refl

-- so of sections
pub section_next : next_piece (sections_plan 5) 1 0 4 ≡ Some (4, 5)
section_next = refl

-- and none after the last section
pub section_next_none : next_piece (sections_plan 5) 1 0 5 ≡ None
section_next_none = refl

-- so of a single
pub next_of_a_single : next_piece (plan_for 4 (single_shape false)) 3 0 0 ≡ Some (0, 1)
next_of_a_single = refl

-- and none if it is taken
pub single_next_none : next_piece (plan_for 4 (single_shape false)) 3 0 1 ≡ None
single_next_none = refl

-- the piece of a number, and none if there is no number or no piece
pub piece_at_a_number : piece_at dynamic_ten (Some 3) ≡ Some (9, 10)
piece_at_a_number = refl

-- past the last piece there is none
pub piece_past_the_last : piece_at dynamic_ten (Some 4) ≡ None
piece_past_the_last = refl

-- without a number there is none
pub piece_at_no_number : piece_at dynamic_ten None ≡ None
piece_at_no_number = refl
