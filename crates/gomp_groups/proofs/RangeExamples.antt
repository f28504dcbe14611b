-- Rows of groups keep whole numbers and whole counts: what holds of every number is stated of every number, and both ends are computed.
use Rattle.std.proofs.Common.{◌≡◌, ℕ, Bool, true, false, List, [], ◌∷◌, Option, Some, None, refl, arith, suc}
use Rattle.std.specs.Prelude.{◌≢◌, map}
use Rattle.gomp_types.specs.declared.task.Task.{Task}
use Rattle.gomp_types.specs.declared.task.Task.TheVariants.{Implicit, Explicit}
use Rattle.gomp_types.proofs.Booleans.{same_number, other_number}
use Rattle.gomp_groups.specs.declared.links.TheConstants.{MAX_GROUPS}
use Rattle.gomp_groups.specs.declared.rows.GroupRow.{GroupRow}
use Rattle.gomp_groups.specs.declared.rows.GroupSeat.{GroupSeat}
use Rattle.gomp_groups.specs.declared.rows.SeatedTask.{SeatedTask}
use Rattle.gomp_groups.specs.Links.{group_of, code_of}
use Rattle.gomp_groups.specs.Rows.{outer_at, pending_at, since_at, seat_at, same_group, own_group, no_group, no_seat, no_task, needed_row, one_child_more, one_child_less}

-- a group's row has its outer group and its counts, whatever they are
pub row_keeps_group_and_counts : (outer pending since : ℕ) (groups : List GroupRow) →
    (outer_at (record { outer = Some outer; pending = pending; since = since } ∷ groups) 0 ≡ Some outer)
    × (pending_at (record { outer = Some outer; pending = pending; since = since } ∷ groups) 0 ≡ pending)
    × (since_at (record { outer = Some outer; pending = pending; since = since } ∷ groups) 0 ≡ since)
row_keeps_group_and_counts outer pending since groups = (refl, refl, refl)

-- a task's seat has its count and its groups, whether its row says that it is complete or not
pub seat_keeps_its_numbers : (children around last : ℕ) (parent : Task) (complete : Bool) (tasks : List (Option SeatedTask)) (members : List GroupSeat) →
    (seat_at (Some (record { parent = parent; seat = record { children = children; around = Some around; last = Some last }; complete = complete }) ∷ tasks) members (Explicit 1) ≡ record { children = children; around = Some around; last = Some last })
    × (seat_at tasks (record { children = children; around = Some around; last = Some last } ∷ members) (Implicit 0) ≡ record { children = children; around = Some around; last = Some last })
seat_keeps_its_numbers children around last parent complete tasks members = (refl, refl)

-- the row of an open task is kept as it is
pub open_row_is_kept : (parent : Task) (seat : GroupSeat) → needed_row (record { parent = parent; seat = seat; complete = false }) ≡ Some (record { parent = parent; seat = seat; complete = false })
open_row_is_kept parent seat = refl

-- and so is that of any task with open children
pub row_with_children_is_kept : (parent : Task) (others : ℕ) (around last : Option ℕ) (complete : Bool) → needed_row (record { parent = parent; seat = record { children = suc others; around = around; last = last }; complete = complete }) ≡ Some (record { parent = parent; seat = record { children = suc others; around = around; last = last }; complete = complete })
row_with_children_is_kept parent others around last true = rw (other_number (suc others) 0 (λ e. omega (arith, e))) refl
row_with_children_is_kept parent others around last false = refl

-- that of a complete task without one never
pub row_without_children_is_not_kept : (parent : Task) (around last : Option ℕ) → needed_row (record { parent = parent; seat = record { children = 0; around = around; last = last }; complete = true }) ≡ None
row_without_children_is_not_kept parent around last = refl

-- one child less is one, whatever the count
pub one_less_at_both_ends : map (λ n. (one_child_less (record { children = n; around = None; last = None })).children) (1 ∷ 2 ∷ 256 ∷ 65536 ∷ 4294967296 ∷ 18446744073709551615 ∷ []) ≡ 0 ∷ 1 ∷ 255 ∷ 65535 ∷ 4294967295 ∷ 18446744073709551614 ∷ []
one_less_at_both_ends = refl

-- and one child more is one
pub one_more_at_both_ends : map (λ n. (one_child_more (record { children = n; around = None; last = None })).children) (0 ∷ 255 ∷ 65535 ∷ 4294967294 ∷ []) ≡ 1 ∷ 256 ∷ 65536 ∷ 4294967295 ∷ []
one_more_at_both_ends = refl

-- what is not there is empty
pub rows_that_are_empty : (no_group ≡ record { outer = None; pending = 0; since = 0 }) × (no_seat ≡ record { children = 0; around = None; last = None }) × (no_task.seat ≡ no_seat)
rows_that_are_empty = (refl, refl, refl)

-- a group's code is one more than its number, and a team has as many groups as there are codes beside that of none
pub codes_at_both_ends : map group_of (0 ∷ 1 ∷ 256 ∷ 65536 ∷ 4294967295 ∷ []) ≡ None ∷ Some 0 ∷ Some 255 ∷ Some 65535 ∷ Some 4294967294 ∷ []
codes_at_both_ends = refl

pub last_group_has_a_code : (MAX_GROUPS ≡ 4294967295) × (code_of (Some 4294967294) ≡ 4294967295) × (code_of (Some 0) ≡ 1) × (code_of None ≡ 0)
last_group_has_a_code = (refl, refl, refl, refl)

-- no two have one code
pub code_is_of_one : (group : Option ℕ) → group_of (code_of group) ≡ group
code_is_of_one None = refl
code_is_of_one (Some q) = refl

-- two groups are the same by their whole numbers
pub group_is_itself : (q : ℕ) → same_group (Some q) (Some q) ≡ true
group_is_itself q = same_number q

pub groups_of_two_numbers : (q other : ℕ) → q ≢ other → same_group (Some q) (Some other) ≡ false
groups_of_two_numbers q other differ = other_number q other differ

-- the last group that a task has opened is its own, unless it is the one around the task
pub own_group_is_the_last : (children around last : ℕ) → last ≢ around → own_group (record { children = children; around = Some around; last = Some last }) ≡ Some last
own_group_is_the_last children around last differ = rw (other_number last around differ) refl

pub group_around_is_not_its_own : (children around : ℕ) → own_group (record { children = children; around = Some around; last = Some around }) ≡ None
group_around_is_not_its_own children around = rw (same_number around) refl

-- numbers that agree in 32 bits, or in 16, alone
pub groups_of_large_numbers : map (λ q. same_group (Some q) (Some 1)) (1 ∷ 257 ∷ 65537 ∷ 4294967297 ∷ 18446744073709551615 ∷ []) ≡ true ∷ false ∷ false ∷ false ∷ false ∷ []
groups_of_large_numbers = refl
