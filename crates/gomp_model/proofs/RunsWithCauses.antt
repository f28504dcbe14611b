-- Worked runs of a team: each reply of these runs has its cause.
use Rattle.std.proofs.Common.{rules, refl}
use Rattle.gomp_types.specs.declared.call.Call.TheVariants.{SectionsStart, SingleCopyStart}
use Rattle.gomp_types.specs.declared.loop_desc.Sched.TheVariants.{Static, Dynamic, Guided}
use Rattle.gomp_types.specs.declared.loop_desc.EndKind.TheVariants.{Nowait}
use Rattle.gomp_types.specs.declared.depend.DepKind.TheVariants.{DepIn, DepOut, DepInout, DepInoutset, DepMutex}
use Rattle.std.specs.Prelude.{take}
use Rattle.gomp_model.specs.Examples.{owned_pieces, even_pieces_of_four, shrinking_pieces, runtime_pieces, differing_schedule, IsRunOf, one_share, second_share, whole_region, IsRun, one_nowait, loop_of_two, empty_loops, refused_ends, ninth_share, differing_loop, other_end_values, differing_barrier, stopped_team, stopped_waiting, stopped_inside}
use Rattle.gomp_model.specs.ShareExamples.{sections_of_two, no_sections, single_of_two, copy_of_three, misplaced_calls, differing_single, differing_copy, differing_sections, ordered_of_two, handed_of_two, ordered_alone, ordered_downwards, unordered_parts, differing_ordered, parts_of_a_piece, ends_in_order, named_in_a_part}
use Rattle.gomp_model.specs.HoldExamples.{names_and_locks, names_to_the_end, destroyed_while_waiting, nest_of_two, names_in_a_loop}
use Rattle.gomp_model.specs.TaskRuns.{tasks_at_barriers, task_at_a_resume, task_at_a_loop_end, children_of_two, wait_for_children, wait_for_a_running_child, nested_waits, group_of_one, group_with_a_grandchild, group_in_a_group, refused_in_tasks, refused_ends_of_tasks, locks_of_tasks, lock_of_an_ended_task, with_events, one_task, room_for_one_task, room_for_none, no_room_for_another}
use Rattle.gomp_model.specs.DependRuns.{undeferred_alone, child_of_an_undeferred_task, wait_in_an_undeferred_task, down_at_once, nested_at_once, writer_before_its_own, waits_for_its_own, another_before_its_own, both_before_its_own, task_in_a_final_task, children_of_a_final_task, reader_at_a_barrier, readers_between_writers, sets_together, mutexes_in_order, held_pair, pair_together, items_of_others, waits_for_one_item, passes_beside_another, runs_the_unnamed, waits_for_the_held, as_many_items, refused_in_an_undeferred_task, names_of_an_undeferred_task, memory_at_creation, waits_on, passes_on}
use Rattle.gomp_model.specs.RegionExamples.{region_of_two, later_barrier, later_share, differing_at_resume, differing_ninth, ninth_and_tenth, copied_at_once, early_arrivals, early_sections_end, early_starts, outside_calls, second_of_each, stopped_at_the_end}

-- Loops, barriers and stops

-- a loop over a team of two, from its start to its barrier
pub loop_of_two_has_causes : IsRun 2 loop_of_two
loop_of_two_has_causes = search rules

-- loops without an iteration
pub empty_loops_have_causes : IsRun 1 empty_loops
empty_loops_have_causes = search rules

-- a loop whose end comes too early, and in the form that it does not have
pub refused_ends_have_causes : IsRun 1 refused_ends
refused_ends_have_causes = search rules

-- a ninth share waits until the first is over
pub ninth_share_has_causes : IsRun 2 ninth_share
ninth_share_has_causes = search rules

-- a team that may open one share refuses the second
pub second_share_has_causes : IsRunOf one_share second_share
second_share_has_causes = search rules

-- a member alone in its team goes through a region, with calls that it may not make
pub whole_region_has_causes : IsRun 1 whole_region
whole_region_has_causes = search rules

-- a team breaks at loops that differ
pub differing_loop_has_causes : IsRun 2 differing_loop
differing_loop_has_causes = search rules

-- loops with other end values and the same iterations are alike
pub other_end_values_have_causes : IsRun 2 other_end_values
other_end_values_have_causes = search rules

-- a team breaks at barriers that differ
pub differing_barrier_has_causes : IsRun 2 differing_barrier
differing_barrier_has_causes = search rules

-- a team is stopped
pub stopped_team_has_causes : IsRun 2 stopped_team
stopped_team_has_causes = search rules

-- by a member that waits
pub stopped_waiting_has_causes : IsRun 2 stopped_waiting
stopped_waiting_has_causes = search rules

-- and by one inside a share
pub stopped_inside_has_causes : IsRun 1 stopped_inside
stopped_inside_has_causes = search rules

-- Schedules

-- a static loop with a chunk
pub owned_pieces_have_causes : IsRun 2 owned_pieces
owned_pieces_have_causes = search rules

-- a static loop without one
pub even_pieces_have_causes : IsRun 4 even_pieces_of_four
even_pieces_have_causes = search rules

-- a guided loop
pub shrinking_pieces_have_causes : IsRun 4 shrinking_pieces
shrinking_pieces_have_causes = search rules

-- a runtime loop
pub runtime_pieces_have_causes : IsRun 2 runtime_pieces
runtime_pieces_have_causes = search rules

-- a team breaks at a dynamic loop in place of a static one
pub dynamic_for_static_has_causes : IsRun 2 (differing_schedule Static Dynamic)
dynamic_for_static_has_causes = search rules

-- at a guided loop in place of a static one
pub guided_for_static_has_causes : IsRun 2 (differing_schedule Static Guided)
guided_for_static_has_causes = search rules

-- and at a guided loop in place of a dynamic one
pub guided_for_dynamic_has_causes : IsRun 2 (differing_schedule Dynamic Guided)
guided_for_dynamic_has_causes = search rules

-- Sections and singles

-- sections over a team of two
pub sections_of_two_have_causes : IsRun 2 sections_of_two
sections_of_two_have_causes = search rules

-- a construct without sections
pub no_sections_have_causes : IsRun 1 no_sections
no_sections_have_causes = search rules

-- a single over a team of two
pub single_of_two_has_causes : IsRun 2 single_of_two
single_of_two_has_causes = search rules

-- a single with words over a team of three
pub copy_of_three_has_causes : IsRun 3 copy_of_three
copy_of_three_has_causes = search rules

-- calls of other constructs
pub misplaced_calls_have_causes : IsRun 1 misplaced_calls
misplaced_calls_have_causes = search rules

-- a team breaks at singles that differ
pub differing_single_has_causes : IsRun 2 differing_single
differing_single_has_causes = search rules

-- at singles of which one has words
pub differing_copy_has_causes : IsRun 2 differing_copy
differing_copy_has_causes = search rules

-- and at sections that differ
pub differing_sections_have_causes : IsRun 2 differing_sections
differing_sections_have_causes = search rules

-- Ordered loops

-- an ordered loop over a team of two
pub ordered_of_two_has_causes : IsRun 2 ordered_of_two
ordered_of_two_has_causes = search rules

-- one whose pieces have no part
pub handed_of_two_has_causes : IsRun 2 handed_of_two
handed_of_two_has_causes = search rules

-- one of a member alone
pub ordered_alone_has_causes : IsRun 1 ordered_alone
ordered_alone_has_causes = search rules

-- one that counts downwards
pub ordered_downwards_has_causes : IsRun 1 ordered_downwards
ordered_downwards_has_causes = search rules

-- parts in a loop without the clause
pub unordered_parts_have_causes : IsRun 1 unordered_parts
unordered_parts_have_causes = search rules

-- a team breaks at loops of which one is ordered
pub differing_ordered_has_causes : IsRun 2 differing_ordered
differing_ordered_has_causes = search rules

-- Regions, whose members go from one construct to another

-- a share with a barrier, and the end of the region
pub region_of_two_has_causes : IsRun 2 region_of_two
region_of_two_has_causes = search rules

-- a second barrier, at which the members have entered different numbers of shares
pub later_barrier_has_causes : IsRun 2 later_barrier
later_barrier_has_causes = search rules

-- a second share, with another end
pub later_share_has_causes : IsRun 2 later_share
later_share_has_causes = search rules

-- a start that waits for room differs at its resume
pub differing_at_resume_has_causes : IsRun 2 differing_at_resume
differing_at_resume_has_causes = search rules

-- a loop that does so
pub loop_at_resume_has_causes : IsRun 2 (differing_ninth one_nowait)
loop_at_resume_has_causes = search rules

-- sections that do
pub sections_at_resume_have_causes : IsRun 2 (differing_ninth (SectionsStart 1 Nowait))
sections_at_resume_have_causes = search rules

-- and a single with words
pub copy_at_resume_has_causes : IsRun 2 (differing_ninth SingleCopyStart)
copy_at_resume_has_causes = search rules

-- eight loops that one member has left, and the other has not
eight_ahead_have_causes : IsRun 2 (take 24 ninth_and_tenth)
eight_ahead_have_causes = search rules

-- then sections wait for room
pub ninth_has_causes : IsRun 2 (take 30 ninth_and_tenth)
ninth_has_causes = ((refl, refl), ((refl, refl), ((refl, refl), ((refl, refl), ((refl, refl), ((refl, refl), eight_ahead_have_causes))))))

-- and a single with words does after them
pub tenth_has_causes : IsRun 2 (take 33 ninth_and_tenth)
tenth_has_causes = ((refl, refl), ((refl, refl), ((refl, refl), ninth_has_causes)))

-- until the other member has left its share
pub ninth_and_tenth_have_causes : IsRun 2 ninth_and_tenth
ninth_and_tenth_have_causes = ((refl, refl), ((refl, refl), tenth_has_causes))

-- words that are there before they are asked for
pub copied_at_once_has_causes : IsRun 2 copied_at_once
copied_at_once_has_causes = search rules

-- two parts of one piece
pub parts_of_a_piece_have_causes : IsRun 1 parts_of_a_piece
parts_of_a_piece_have_causes = search rules

-- arrivals that differ, with a test before that one
pub early_arrivals_have_causes : IsRun 2 early_arrivals
early_arrivals_have_causes = search rules

-- an end of sections that differs, with a test before that one
pub early_sections_end_has_causes : IsRun 2 early_sections_end
early_sections_end_has_causes = search rules

-- starts that differ, with a test before that one
pub early_starts_have_causes : IsRun 2 early_starts
early_starts_have_causes = search rules

-- ends that are refused, in the order of their tests
pub ends_in_order_have_causes : IsRun 1 ends_in_order
ends_in_order_have_causes = search rules

-- ends outside a share, want of memory, and starts inside a share
pub outside_calls_have_causes : IsRun 1 outside_calls
outside_calls_have_causes = search rules

-- a second share of each kind in a team that may open one
pub second_of_each_has_causes : IsRunOf one_share second_of_each
second_of_each_has_causes = search rules

-- a stop by a member that waits at the end of the region
pub stopped_at_the_end_has_causes : IsRun 3 stopped_at_the_end
stopped_at_the_end_has_causes = search rules

-- Critical names and locks

-- two members, a name that both want, and a lock of each kind
pub names_and_locks_have_causes : IsRun 2 names_and_locks
names_and_locks_have_causes = search rules

-- a member alone holds two names, and may not end the region with them
pub names_to_the_end_have_causes : IsRun 1 names_to_the_end
names_to_the_end_have_causes = search rules

-- a lock is destroyed while a member waits for it
pub destroyed_while_waiting_has_causes : IsRun 2 destroyed_while_waiting
destroyed_while_waiting_has_causes = search rules

-- a nestable lock goes from one member to another
pub nest_of_two_has_causes : IsRun 2 nest_of_two
nest_of_two_has_causes = search rules

-- names inside of a loop, and a lock that is held at a barrier
pub names_in_a_loop_have_causes : IsRun 1 names_in_a_loop
names_in_a_loop_have_causes = search rules

-- a name that is held at the end of an ordered part
pub named_in_a_part_has_causes : IsRun 1 named_in_a_part
named_in_a_part_has_causes = search rules

-- Tasks and groups

-- tasks that are run at a barrier, and at the region's end
pub tasks_at_barriers_have_causes : IsRun 2 tasks_at_barriers
tasks_at_barriers_have_causes = search rules

-- one that is run at a resume
pub task_at_a_resume_has_causes : IsRun 2 task_at_a_resume
task_at_a_resume_has_causes = search rules

-- and at the end of a loop
pub task_at_a_loop_end_has_causes : IsRun 2 task_at_a_loop_end
task_at_a_loop_end_has_causes = search rules

-- a task waits for its child
pub children_of_two_have_causes : IsRun 2 children_of_two
children_of_two_have_causes = search rules

-- and not for the child of that
pub wait_for_children_has_causes : IsRun 2 wait_for_children
wait_for_children_has_causes = search rules

-- it waits while another member runs it
pub wait_for_a_running_child_has_causes : IsRun 2 wait_for_a_running_child
wait_for_a_running_child_has_causes = search rules

-- waits in waits
pub nested_waits_have_causes : IsRun 1 (nested_waits 20)
nested_waits_have_causes = search rules

-- the end of a group
pub group_of_one_has_causes : IsRun 1 group_of_one
group_of_one_has_causes = search rules

-- a group's task has a child
pub group_with_a_grandchild_has_causes : IsRun 2 group_with_a_grandchild
group_with_a_grandchild_has_causes = search rules

-- groups in a group and in its task
pub group_in_a_group_has_causes : IsRun 1 group_in_a_group
group_in_a_group_has_causes = search rules

-- refusals in a task and outside
pub refused_in_tasks_have_causes : IsRun 1 refused_in_tasks
refused_in_tasks_have_causes = search rules

-- ends that are refused
pub refused_ends_of_tasks_have_causes : IsRun 1 refused_ends_of_tasks
refused_ends_of_tasks_have_causes = search rules

-- locks that are set by tasks
pub locks_of_tasks_have_causes : IsRun 1 locks_of_tasks
locks_of_tasks_have_causes = search rules

-- and not unset by them
pub lock_of_an_ended_task_has_causes : IsRun 1 lock_of_an_ended_task
lock_of_an_ended_task_has_causes = search rules

-- room for one task
pub room_for_one_task_has_causes : IsRunOf one_task room_for_one_task
room_for_one_task_has_causes = search rules

-- for none
pub room_for_none_has_causes : IsRunOf (with_events 1 2) room_for_none
room_for_none_has_causes = search rules

-- and for none but the region's end, in a team that breaks
pub no_room_for_another_has_causes : IsRunOf (with_events 2 5) no_room_for_another
no_room_for_another_has_causes = search rules

-- Undeferred and final tasks

-- an undeferred task, and what comes after it
pub undeferred_alone_has_causes : IsRun 1 undeferred_alone
undeferred_alone_has_causes = search rules

-- its child
pub child_of_an_undeferred_task_has_causes : IsRun 1 child_of_an_undeferred_task
child_of_an_undeferred_task_has_causes = search rules

-- a wait in it
pub wait_in_an_undeferred_task_has_causes : IsRun 1 wait_in_an_undeferred_task
wait_in_an_undeferred_task_has_causes = search rules

-- ten, each in the one before
pub ten_at_once_have_causes : IsRun 1 (down_at_once 10)
ten_at_once_have_causes = ((refl, (refl, refl, (refl, refl))), ((refl, (refl, refl, (refl, refl))), ((refl, (refl, refl, (refl, refl))), ((refl, (refl, refl, (refl, refl))), ((refl, (refl, refl, (refl, refl))), ((refl, (refl, refl, (refl, refl))), ((refl, (refl, refl, (refl, refl))), ((refl, (refl, refl, (refl, refl))), ((refl, (refl, refl, (refl, refl))), ((refl, (refl, refl, (refl, refl))), tt))))))))))

-- twenty
pub down_at_once_have_causes : IsRun 1 (down_at_once 20)
down_at_once_have_causes = ((refl, (refl, refl, (refl, refl))), ((refl, (refl, refl, (refl, refl))), ((refl, (refl, refl, (refl, refl))), ((refl, (refl, refl, (refl, refl))), ((refl, (refl, refl, (refl, refl))), ((refl, (refl, refl, (refl, refl))), ((refl, (refl, refl, (refl, refl))), ((refl, (refl, refl, (refl, refl))), ((refl, (refl, refl, (refl, refl))), ((refl, (refl, refl, (refl, refl))), ten_at_once_have_causes))))))))))

-- ten of these end
pub ten_ended_have_causes : IsRun 1 (take 30 (nested_at_once 20))
ten_ended_have_causes = ((refl, refl), ((refl, refl), ((refl, refl), ((refl, refl), ((refl, refl), ((refl, refl), ((refl, refl), ((refl, refl), ((refl, refl), ((refl, refl), down_at_once_have_causes))))))))))

-- and all
pub nested_at_once_have_causes : IsRun 1 (nested_at_once 20)
nested_at_once_have_causes = ((refl, refl), ((refl, refl), ((refl, refl), ((refl, refl), ((refl, refl), ((refl, refl), ((refl, refl), ((refl, refl), ((refl, refl), ((refl, refl), ten_ended_have_causes))))))))))

-- one that waits for a writer, which its creator runs
pub writer_before_its_own_has_causes : IsRun 1 writer_before_its_own
writer_before_its_own_has_causes = search rules

-- one whose writer another member runs
pub waits_for_its_own_has_causes : IsRun 2 waits_for_its_own
waits_for_its_own_has_causes = search rules

-- one whose creator runs a third task meanwhile
pub another_before_its_own_has_causes : IsRun 2 another_before_its_own
another_before_its_own_has_causes = search rules

-- one whose creator runs two writers before
pub both_before_its_own_has_causes : IsRun 1 both_before_its_own
both_before_its_own_has_causes = search rules

-- a task in a final and undeferred task
pub task_in_a_final_task_has_causes : IsRun 1 task_in_a_final_task
task_in_a_final_task_has_causes = search rules

-- a task in a final one, and its child
pub children_of_a_final_task_have_causes : IsRun 1 children_of_a_final_task
children_of_a_final_task_have_causes = search rules

-- Tasks with items

-- a reader waits for a writer
pub reader_at_a_barrier_has_causes : IsRun 2 reader_at_a_barrier
reader_at_a_barrier_has_causes = search rules

-- two readers between two writers, until the first of them runs
pub readers_after_a_writer_have_causes : IsRun 2 (take 8 readers_between_writers)
readers_after_a_writer_have_causes = search rules

-- and the second writer after both
pub readers_between_writers_have_causes : IsRun 2 readers_between_writers
readers_between_writers_have_causes = (search rules, (search rules, (search rules, (search rules, (search rules, (search rules, (search rules, (search rules, (search rules, readers_after_a_writer_have_causes)))))))))

-- two tasks of a set
pub sets_together_have_causes : IsRun 2 sets_together
sets_together_have_causes = search rules

-- two of a mutex
pub mutexes_in_order_have_causes : IsRun 2 mutexes_in_order
mutexes_in_order_have_causes = search rules

-- items of tasks that are no siblings
pub items_of_others_have_causes : IsRun 2 items_of_others
items_of_others_have_causes = search rules

-- a reader after a task of each kind
pub reader_after_each_has_causes :
    IsRun 2 (pair_together DepIn DepIn) × IsRun 2 (held_pair DepIn DepOut) × IsRun 2 (held_pair DepIn DepInout)
    × IsRun 2 (held_pair DepIn DepInoutset) × IsRun 2 (held_pair DepIn DepMutex)
reader_after_each_has_causes = search rules

-- a writer after a task of each kind
pub writer_after_each_has_causes :
    IsRun 2 (held_pair DepOut DepIn) × IsRun 2 (held_pair DepOut DepOut) × IsRun 2 (held_pair DepOut DepInout)
    × IsRun 2 (held_pair DepOut DepInoutset) × IsRun 2 (held_pair DepOut DepMutex)
writer_after_each_has_causes = search rules

-- a reader and writer after a task of each kind
pub update_after_each_has_causes :
    IsRun 2 (held_pair DepInout DepIn) × IsRun 2 (held_pair DepInout DepOut) × IsRun 2 (held_pair DepInout DepInout)
    × IsRun 2 (held_pair DepInout DepInoutset) × IsRun 2 (held_pair DepInout DepMutex)
update_after_each_has_causes = search rules

-- a task of a set after a task of each kind
pub set_after_each_has_causes :
    IsRun 2 (held_pair DepInoutset DepIn) × IsRun 2 (held_pair DepInoutset DepOut) × IsRun 2 (held_pair DepInoutset DepInout)
    × IsRun 2 (pair_together DepInoutset DepInoutset) × IsRun 2 (held_pair DepInoutset DepMutex)
set_after_each_has_causes = search rules

-- a task of a mutex after a task of each kind
pub mutex_after_each_has_causes :
    IsRun 2 (held_pair DepMutex DepIn) × IsRun 2 (held_pair DepMutex DepOut) × IsRun 2 (held_pair DepMutex DepInout)
    × IsRun 2 (held_pair DepMutex DepInoutset) × IsRun 2 (held_pair DepMutex DepMutex)
mutex_after_each_has_causes = search rules

-- Waits with items

-- a taskwait with items
pub waits_for_one_item_has_causes : IsRun 1 waits_for_one_item
waits_for_one_item_has_causes = search rules

-- one that passes while another child runs
pub passes_beside_another_has_causes : IsRun 2 passes_beside_another
passes_beside_another_has_causes = search rules

-- one at which another child is run
pub runs_the_unnamed_has_causes : IsRun 2 runs_the_unnamed
runs_the_unnamed_has_causes = search rules

-- one that waits for a child that is held
pub waits_for_the_held_has_causes : IsRun 1 waits_for_the_held
waits_for_the_held_has_causes = search rules

-- a taskwait that reads, after a child of each kind
pub wait_to_read_has_causes :
    IsRun 2 (passes_on DepIn DepIn) × IsRun 2 (waits_on DepIn DepOut) × IsRun 2 (waits_on DepIn DepInout)
    × IsRun 2 (waits_on DepIn DepInoutset) × IsRun 2 (waits_on DepIn DepMutex)
wait_to_read_has_causes = search rules

-- one that writes
pub wait_to_write_has_causes :
    IsRun 2 (waits_on DepOut DepIn) × IsRun 2 (waits_on DepOut DepOut) × IsRun 2 (waits_on DepOut DepInout)
    × IsRun 2 (waits_on DepOut DepInoutset) × IsRun 2 (waits_on DepOut DepMutex)
wait_to_write_has_causes = search rules

-- that does both
pub wait_to_update_has_causes :
    IsRun 2 (waits_on DepInout DepIn) × IsRun 2 (waits_on DepInout DepOut) × IsRun 2 (waits_on DepInout DepInout)
    × IsRun 2 (waits_on DepInout DepInoutset) × IsRun 2 (waits_on DepInout DepMutex)
wait_to_update_has_causes = search rules

-- with an item of a set
pub wait_with_a_set_has_causes :
    IsRun 2 (waits_on DepInoutset DepIn) × IsRun 2 (waits_on DepInoutset DepOut) × IsRun 2 (waits_on DepInoutset DepInout)
    × IsRun 2 (passes_on DepInoutset DepInoutset) × IsRun 2 (waits_on DepInoutset DepMutex)
wait_with_a_set_has_causes = search rules

-- and with one of a mutex, which is let in (own)
pub wait_with_a_mutex_has_causes :
    IsRun 2 (waits_on DepMutex DepIn) × IsRun 2 (waits_on DepMutex DepOut) × IsRun 2 (waits_on DepMutex DepInout)
    × IsRun 2 (waits_on DepMutex DepInoutset) × IsRun 2 (waits_on DepMutex DepMutex)
wait_with_a_mutex_has_causes = search rules

-- Refusals of tasks with items and of undeferred tasks

-- sixteen items, and seventeen
pub as_many_items_have_causes : IsRun 1 as_many_items
as_many_items_have_causes = search rules

-- refusals in an undeferred task and outside
pub refused_in_an_undeferred_task_have_causes : IsRun 1 refused_in_an_undeferred_task
refused_in_an_undeferred_task_have_causes = search rules

-- a name that such a task holds
pub names_of_an_undeferred_task_have_causes : IsRun 1 names_of_an_undeferred_task
names_of_an_undeferred_task_have_causes = search rules

-- want of memory at a creation
pub memory_at_creation_has_causes : IsRun 1 memory_at_creation
memory_at_creation_has_causes = search rules
