-- The number, the name and the printed text of each refusal, computed, and the texts of the places and of the causes of
-- a break at the least numbers and at the largest. The values stand here apart from the table, so that a wrong entry of
-- it is refused. (own)
use Rattle.std.proofs.Common.{◌≡◌, ℕ, List, refl}
use Rattle.std.specs.Prelude.{codes}
use Rattle.std.specs.Fmt.{digits}
use Rattle.gomp_types.specs.declared.refusal.Place.TheVariants.{Share, Barrier, Stopped}
use Rattle.gomp_types.specs.declared.refusal.Refusal.TheVariants.{BadMember, Ended, Broken, Waiting, Leaving, InsideTask, NotInTask, InsideShare, OutsideShare, InOrdered, HoldsCritical, ZeroStep, BadChunk, LoopTooLong, BadSections, OrderedLoop, EndDiffers, NotDrained, Drained, NotOrdered, OrderedBackwards, NotInside, NotCancellable, NoGroup, GroupOpen, TooDeep, TooManyTasks, TooManyDepends, NameTooLong, AlreadyHeld, NotHolder, NoLock, CountTooLarge, TooManyShares, Mismatch, TraceFull, NoMemory, BadTeam, TooManyLevels, BadEnv}
use Rattle.gomp_types.specs.RefusalTexts.{Prints, text_of, clash_text, place_text}

-- the member's number is not below the team's size
pub bad_member_prints : Prints BadMember 1 (codes "BadMember") (codes "E1 BadMember")
unfolding digits
bad_member_prints = (refl, refl, refl)

-- the member has passed the region's end
pub ended_prints : Prints Ended 2 (codes "Ended") (codes "E2 Ended")
unfolding digits
ended_prints = (refl, refl, refl)

-- the member's wait is open
pub waiting_prints : Prints Waiting 4 (codes "Waiting") (codes "E4 Waiting")
unfolding digits
waiting_prints = (refl, refl, refl)

-- the member leaves what was cancelled
pub leaving_prints : Prints Leaving 5 (codes "Leaving") (codes "E5 Leaving")
unfolding digits
leaving_prints = (refl, refl, refl)

-- the member executes an explicit task
pub inside_task_prints : Prints InsideTask 6 (codes "InsideTask") (codes "E6 InsideTask")
unfolding digits
inside_task_prints = (refl, refl, refl)

-- the member executes no explicit task
pub not_in_task_prints : Prints NotInTask 7 (codes "NotInTask") (codes "E7 NotInTask")
unfolding digits
not_in_task_prints = (refl, refl, refl)

-- the member is in a work-share
pub inside_share_prints : Prints InsideShare 8 (codes "InsideShare") (codes "E8 InsideShare")
unfolding digits
inside_share_prints = (refl, refl, refl)

-- the member is in no work-share of the call's kind
pub outside_share_prints : Prints OutsideShare 9 (codes "OutsideShare") (codes "E9 OutsideShare")
unfolding digits
outside_share_prints = (refl, refl, refl)

-- the member is in an ordered part
pub in_ordered_prints : Prints InOrdered 10 (codes "InOrdered") (codes "E10 InOrdered")
unfolding digits
in_ordered_prints = (refl, refl, refl)

-- the member's task holds a critical name
pub holds_critical_prints : Prints HoldsCritical 11 (codes "HoldsCritical") (codes "E11 HoldsCritical")
unfolding digits
holds_critical_prints = (refl, refl, refl)

-- the loop's step is 0
pub zero_step_prints : Prints ZeroStep 12 (codes "ZeroStep") (codes "E12 ZeroStep")
unfolding digits
zero_step_prints = (refl, refl, refl)

-- the chunk is negative, too large, or given with a runtime schedule
pub bad_chunk_prints : Prints BadChunk 13 (codes "BadChunk") (codes "E13 BadChunk")
unfolding digits
bad_chunk_prints = (refl, refl, refl)

-- the loop has too many iterations
pub loop_too_long_prints : Prints LoopTooLong 14 (codes "LoopTooLong") (codes "E14 LoopTooLong")
unfolding digits
loop_too_long_prints = (refl, refl, refl)

-- the construct has too many sections
pub bad_sections_prints : Prints BadSections 15 (codes "BadSections") (codes "E15 BadSections")
unfolding digits
bad_sections_prints = (refl, refl, refl)

-- the loop is ordered, and may be cancelled
pub ordered_loop_prints : Prints OrderedLoop 16 (codes "OrderedLoop") (codes "E16 OrderedLoop")
unfolding digits
ordered_loop_prints = (refl, refl, refl)

-- the share ends otherwise
pub end_differs_prints : Prints EndDiffers 17 (codes "EndDiffers") (codes "E17 EndDiffers")
unfolding digits
end_differs_prints = (refl, refl, refl)

-- the member has not been told that nothing is left
pub not_drained_prints : Prints NotDrained 18 (codes "NotDrained") (codes "E18 NotDrained")
unfolding digits
not_drained_prints = (refl, refl, refl)

-- the member has been told that nothing is left
pub drained_prints : Prints Drained 19 (codes "Drained") (codes "E19 Drained")
unfolding digits
drained_prints = (refl, refl, refl)

-- the loop is not ordered
pub not_ordered_prints : Prints NotOrdered 20 (codes "NotOrdered") (codes "E20 NotOrdered")
unfolding digits
not_ordered_prints = (refl, refl, refl)

-- the iteration is not in the member's piece, or not after its last ordered one
pub ordered_backwards_prints : Prints OrderedBackwards 21 (codes "OrderedBackwards") (codes "E21 OrderedBackwards")
unfolding digits
ordered_backwards_prints = (refl, refl, refl)

-- no such part is open, or no wait
pub not_inside_prints : Prints NotInside 22 (codes "NotInside") (codes "E22 NotInside")
unfolding digits
not_inside_prints = (refl, refl, refl)

-- the end is not that of a construct that may be cancelled
pub not_cancellable_prints : Prints NotCancellable 23 (codes "NotCancellable") (codes "E23 NotCancellable")
unfolding digits
not_cancellable_prints = (refl, refl, refl)

-- there is no group to end
pub no_group_prints : Prints NoGroup 24 (codes "NoGroup") (codes "E24 NoGroup")
unfolding digits
no_group_prints = (refl, refl, refl)

-- a group is open
pub group_open_prints : Prints GroupOpen 25 (codes "GroupOpen") (codes "E25 GroupOpen")
unfolding digits
group_open_prints = (refl, refl, refl)

-- the new task would lie too deep
pub too_deep_prints : Prints TooDeep 26 (codes "TooDeep") (codes "E26 TooDeep")
unfolding digits
too_deep_prints = (refl, refl, refl)

-- the region has had its tasks
pub too_many_tasks_prints : Prints TooManyTasks 27 (codes "TooManyTasks") (codes "E27 TooManyTasks")
unfolding digits
too_many_tasks_prints = (refl, refl, refl)

-- the clause has too many items
pub too_many_depends_prints : Prints TooManyDepends 28 (codes "TooManyDepends") (codes "E28 TooManyDepends")
unfolding digits
too_many_depends_prints = (refl, refl, refl)

-- the critical name is too long
pub name_too_long_prints : Prints NameTooLong 29 (codes "NameTooLong") (codes "E29 NameTooLong")
unfolding digits
name_too_long_prints = (refl, refl, refl)

-- the name or the lock is held
pub already_held_prints : Prints AlreadyHeld 30 (codes "AlreadyHeld") (codes "E30 AlreadyHeld")
unfolding digits
already_held_prints = (refl, refl, refl)

-- the task does not hold it
pub not_holder_prints : Prints NotHolder 31 (codes "NotHolder") (codes "E31 NotHolder")
unfolding digits
not_holder_prints = (refl, refl, refl)

-- there is no such lock
pub no_lock_prints : Prints NoLock 32 (codes "NoLock") (codes "E32 NoLock")
unfolding digits
no_lock_prints = (refl, refl, refl)

-- a count is at its limit
pub count_too_large_prints : Prints CountTooLarge 33 (codes "CountTooLarge") (codes "E33 CountTooLarge")
unfolding digits
count_too_large_prints = (refl, refl, refl)

-- the member has started as many shares as the limit
pub too_many_shares_prints : Prints TooManyShares 34 (codes "TooManyShares") (codes "E34 TooManyShares")
unfolding digits
too_many_shares_prints = (refl, refl, refl)

-- the construct differs from the team's
pub mismatch_prints : Prints Mismatch 35 (codes "Mismatch") (codes "E35 Mismatch")
unfolding digits
mismatch_prints = (refl, refl, refl)

-- no room for events is left
pub trace_full_prints : Prints TraceFull 36 (codes "TraceFull") (codes "E36 TraceFull")
unfolding digits
trace_full_prints = (refl, refl, refl)

-- memory was refused
pub no_memory_prints : Prints NoMemory 37 (codes "NoMemory") (codes "E37 NoMemory")
unfolding digits
no_memory_prints = (refl, refl, refl)

-- no team has this size
pub bad_team_prints : Prints BadTeam 38 (codes "BadTeam") (codes "E38 BadTeam")
unfolding digits
bad_team_prints = (refl, refl, refl)

-- no region may be nested so deep
pub too_many_levels_prints : Prints TooManyLevels 39 (codes "TooManyLevels") (codes "E39 TooManyLevels")
unfolding digits
too_many_levels_prints = (refl, refl, refl)

-- a word of the environment is ignored, whatever it is
pub bad_env_prints : (name : List ℕ) → Prints (BadEnv name) 41 (codes "BadEnv") (codes "E41 BadEnv")
unfolding digits
bad_env_prints name = (refl, refl, refl)

-- the team is broken, at its first share by member 0
pub broken_prints : Prints (Broken (record { member = 0; place = Share 0 })) 3 (codes "Broken") (codes "E3 Broken 0 share 0")
unfolding digits
broken_prints = (refl, refl, refl)

-- at its first barrier by member 1
pub broken_at_a_barrier : text_of (Broken (record { member = 1; place = Barrier 0 })) ≡ codes "E3 Broken 1 barrier 0"
unfolding digits
broken_at_a_barrier = refl

-- by the last member of the largest team, which stopped it
pub broken_by_a_stop : text_of (Broken (record { member = 63; place = Stopped })) ≡ codes "E3 Broken 63 stopped"
unfolding digits
broken_by_a_stop = refl

-- the numbers 9 and 10, between which a digit is added
pub clash_of_one_digit : clash_text (record { member = 9; place = Share 9 }) ≡ codes "9 share 9"
unfolding digits
clash_of_one_digit = refl

pub clash_of_two_digits : clash_text (record { member = 10; place = Barrier 10 }) ≡ codes "10 barrier 10"
unfolding digits
clash_of_two_digits = refl

-- the largest numbers of a member, a share and a barrier
pub clash_of_the_largest : clash_text (record { member = 65535; place = Share 18446744073709551615 }) ≡ codes "65535 share 18446744073709551615"
unfolding digits
clash_of_the_largest = refl

pub first_share : place_text (Share 0) ≡ codes "share 0"
unfolding digits
first_share = refl

pub largest_share : place_text (Share 18446744073709551615) ≡ codes "share 18446744073709551615"
unfolding digits
largest_share = refl

pub first_barrier : place_text (Barrier 0) ≡ codes "barrier 0"
unfolding digits
first_barrier = refl

pub largest_barrier : place_text (Barrier 18446744073709551615) ≡ codes "barrier 18446744073709551615"
unfolding digits
largest_barrier = refl

pub at_a_stop : place_text Stopped ≡ codes "stopped"
at_a_stop = refl
