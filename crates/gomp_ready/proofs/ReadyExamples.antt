-- Tasks that may be taken: what a put and a take leave, when a task stands twice, for how many more there is room, and which a member has passed over.
use Rattle.std.proofs.Common.{◌≡◌, true, false, [], ◌∷◌, ◌++◌, Some, None, refl}
use Rattle.std.specs.Prelude.{map, filter, nat_le}
use Rattle.gomp_ready.specs.Ends.{with_at}
use Rattle.gomp_ready.specs.Marks.{fronts, lowered, mark_at, without}
use Rattle.gomp_ready.specs.Ready.{AreOnce, with_task, with_taken, in_order, passed_at}
use Rattle.gomp_ready.specs.declared.deque.End.TheVariants.{Newest, Oldest}

-- a task is put before the higher ones
pub put_in_its_place : (with_task 7 (4 ∷ 9 ∷ []) ≡ 4 ∷ 7 ∷ 9 ∷ []) × (with_task 1 (4 ∷ 9 ∷ []) ≡ 1 ∷ 4 ∷ 9 ∷ []) × (with_task 12 (4 ∷ 9 ∷ []) ≡ 4 ∷ 9 ∷ 12 ∷ []) × (with_task 4 (4 ∷ 9 ∷ []) ≡ 4 ∷ 4 ∷ 9 ∷ []) × (with_task 4 [] ≡ 4 ∷ [])
put_in_its_place = (refl, refl, refl, refl, refl)

-- and numbers at the end of 32 bits
pub put_at_large_numbers : with_task 4294967295 (4294967294 ∷ 4294967295 ∷ []) ≡ 4294967294 ∷ 4294967295 ∷ 4294967295 ∷ []
put_at_large_numbers = refl

-- wherever they stand, they are seen by their numbers
pub seen_by_numbers : map in_order ((9 ∷ 4 ∷ 7 ∷ []) ∷ (7 ∷ 9 ∷ 4 ∷ []) ∷ ((9 ∷ []) ++ (7 ∷ 4 ∷ [])) ∷ []) ≡ (4 ∷ 7 ∷ 9 ∷ []) ∷ (4 ∷ 7 ∷ 9 ∷ []) ∷ (4 ∷ 7 ∷ 9 ∷ []) ∷ []
seen_by_numbers = refl

-- one is taken, or none is
pub seven_is_taken : (with_taken (Some 7) (4 ∷ 9 ∷ []) ≡ in_order (9 ∷ 4 ∷ 7 ∷ [])) × (with_taken None (4 ∷ 9 ∷ []) ≡ in_order (9 ∷ 4 ∷ []))
seven_is_taken = (refl, refl)

-- those up to 7 are left
pub kept_up_to_seven : filter (λ t. nat_le t 7) (in_order (9 ∷ 4 ∷ 7 ∷ [])) ≡ 4 ∷ 7 ∷ []
kept_up_to_seven = refl

-- three tasks, and none
pub three_once : AreOnce (4 ∷ 7 ∷ 9 ∷ [])
three_once = (refl, (refl, (refl, tt)))

pub none_once : AreOnce []
none_once = tt

-- the first stands twice
pub first_twice : AreOnce (4 ∷ 7 ∷ 4 ∷ []) → ⊥
first_twice once = absurd (let none = once.0 in cc)

-- a later one does
pub later_twice : AreOnce (4 ∷ 7 ∷ 7 ∷ []) → ⊥
later_twice once = absurd (let none = once.1.0 in cc)

-- one more task at either end of a deque, and none
pub either_end : (with_at Newest (Some 7) (9 ∷ 4 ∷ []) ≡ 9 ∷ 4 ∷ 7 ∷ []) × (with_at Oldest (Some 7) (9 ∷ 4 ∷ []) ≡ 7 ∷ 9 ∷ 4 ∷ []) × (with_at Newest None (9 ∷ 4 ∷ []) ≡ 9 ∷ 4 ∷ []) × (with_at Oldest None (9 ∷ 4 ∷ []) ≡ 9 ∷ 4 ∷ [])
either_end = (refl, refl, refl, refl)

-- two members have looked at 2 tasks and at 3 of a list; the second, in the task that it has started, at one alone
pub two_marks : map (λ m. map (λ l. mark_at m l ((2 ∷ []) ∷ (3 ∷ 1 ∷ []) ∷ [])) (0 ∷ 1 ∷ 2 ∷ [])) (0 ∷ 1 ∷ 2 ∷ []) ≡ (2 ∷ 0 ∷ 0 ∷ []) ∷ (3 ∷ 1 ∷ 0 ∷ []) ∷ (0 ∷ 0 ∷ 0 ∷ []) ∷ []
two_marks = refl

-- those they have passed over
pub two_fronts : fronts (9 ∷ 4 ∷ 7 ∷ 5 ∷ []) ((2 ∷ []) ∷ (3 ∷ 1 ∷ []) ∷ []) ≡ ((9 ∷ 4 ∷ []) ∷ []) ∷ ((9 ∷ 4 ∷ 7 ∷ []) ∷ (9 ∷ []) ∷ []) ∷ []
two_fronts = refl

pub passed_by_two :
    map (λ m. map (λ l. passed_at m l (record { members = 2; ids = 4 ∷ 5 ∷ 7 ∷ 9 ∷ []; room = 1; passed = fronts (9 ∷ 4 ∷ 7 ∷ 5 ∷ []) ((2 ∷ []) ∷ (3 ∷ 1 ∷ []) ∷ []) })) (0 ∷ 1 ∷ 2 ∷ [])) (0 ∷ 1 ∷ 2 ∷ []) ≡
    ((9 ∷ 4 ∷ []) ∷ [] ∷ [] ∷ []) ∷ ((9 ∷ 4 ∷ 7 ∷ []) ∷ (9 ∷ []) ∷ [] ∷ []) ∷ ([] ∷ [] ∷ [] ∷ []) ∷ []
passed_by_two = refl

-- once two tasks have gone out of the list
pub two_marks_lower : without 2 ((2 ∷ []) ∷ (3 ∷ 1 ∷ []) ∷ []) ≡ (0 ∷ []) ∷ (1 ∷ 0 ∷ []) ∷ []
two_marks_lower = refl

pub one_mark_lower : (map (lowered true) (3 ∷ 1 ∷ 0 ∷ []) ≡ 2 ∷ 0 ∷ 0 ∷ []) × (map (lowered false) (3 ∷ 1 ∷ 0 ∷ []) ≡ 3 ∷ 1 ∷ 0 ∷ [])
one_mark_lower = (refl, refl)
