-- For how many events a board has room that are still to come. (own)
use Rattle.std.specs.Prelude.{ℕ, ◌+◌, ◌==◌, ◌&&◌, ◌||◌, not, Bool, true, false, if◌then◌else◌, is_some, List, [], ◌∷◌}
use Rattle.std.proofs.Common.{zero, suc}
use Rattle.gomp_events.specs.declared.event.Event.{Event}
use Rattle.gomp_events.specs.declared.event.Event.TheVariants.{GroupEnd}
use Rattle.gomp_events.specs.Events.{at_barrier, at_region_end, clash_of}
use Rattle.gomp_events.specs.Tasks.{tasks_created, has_started, is_complete, how_many, open_tasks}
use Rattle.gomp_events.specs.Groups.{groups_opened}

-- of tasks: the end of each that is open, and the start of each that was not started
abbrev pub owed_by_tasks : List Event → ℕ
owed_by_tasks h = open_tasks (λ t. true) h + how_many (tasks_created h) (λ t. not (has_started t h) && not (is_complete t h))

-- whether the group was ended
abbrev pub has_group_ended : ℕ → List Event → Bool
has_group_ended q [] = false
has_group_ended q (GroupEnd group m ∷ earlier) = group == q || has_group_ended q earlier
has_group_ended q (_ ∷ earlier) = has_group_ended q earlier

-- how many numbers below n pass the test
abbrev pub count_below : ℕ → (ℕ → Bool) → ℕ
count_below zero test = 0
count_below (suc q) test = if test q then count_below q test + 1 else count_below q test

-- of groups: the end of each that is open
abbrev pub owed_by_groups : List Event → ℕ
owed_by_groups h = count_below (groups_opened h) (λ q. not (has_group_ended q h))

-- of a member: its pass if it waits at a barrier, and the arrival at the region's end and the pass there, unless it has arrived there
abbrev pub owed_by_member : ℕ → List Event → ℕ
owed_by_member m h = (if at_barrier m h then 1 else 0) + (if at_region_end m h then 0 else 2)

-- of all members of a team of this size
abbrev pub owed_by_members : ℕ → List Event → ℕ
owed_by_members zero h = 0
owed_by_members (suc m) h = owed_by_member m h + owed_by_members m h

-- of a team that is not broken: the break
abbrev pub owed_for_break : List Event → ℕ
owed_for_break h = if is_some (clash_of h) then 0 else 1

-- of all
abbrev pub owed : ℕ → List Event → ℕ
owed members h = owed_by_tasks h + owed_by_groups h + owed_by_members members h + owed_for_break h
