-- Worked runs of cancellation: each reply of these runs has its cause.
use Rattle.std.proofs.Common.{rules, refl}
use Rattle.std.specs.Prelude.{take}
use Rattle.gomp_model.specs.Examples.{IsRun, IsRunOf}
use Rattle.gomp_model.specs.CancelRuns.{cancellable_team, cancellable_with, region_cancelled, nothing_cancelled, barrier_cut_short, met_barrier_cut_short, ends_cut_short, start_cut_short, turns_cut_short, next_cut_short, words_cut_short, leaves_all, stopped_leaving, loop_cancelled, loop_left_unseen, sections_cancelled, cancels_nothing, loop_in_a_cancelled_region, group_cancelled, task_left, task_of_a_cancelled_region, waiting_creator, room_of_cancellations, no_room_to_cancel, dropped_without_room}

-- The region

-- a member cancels the region while another executes a task
pub region_cancelled_has_causes : IsRunOf (cancellable_team 2) region_cancelled
region_cancelled_has_causes = search rules

-- the control variable allows no cancellation
pub nothing_cancelled_has_causes : IsRun 2 nothing_cancelled
nothing_cancelled_has_causes = search rules

-- a member waits at a barrier
pub barrier_cut_short_has_causes : IsRunOf (cancellable_team 2) barrier_cut_short
barrier_cut_short_has_causes = search rules

-- at one to which all have come
pub met_barrier_cut_short_has_causes : IsRunOf (cancellable_team 2) met_barrier_cut_short
met_barrier_cut_short_has_causes = search rules

-- a member has not seen the cancellation
pub ends_cut_short_have_causes : IsRunOf (cancellable_team 2) ends_cut_short
ends_cut_short_have_causes = search rules

-- it waits for room
pub start_cut_short_has_causes : IsRunOf (cancellable_team 2) start_cut_short
start_cut_short_has_causes = search rules

-- for its turn in an ordered loop
pub turns_cut_short_have_causes : IsRunOf (cancellable_team 2) turns_cut_short
turns_cut_short_have_causes = search rules

-- or for the next piece of one
pub next_cut_short_has_causes : IsRunOf (cancellable_team 2) next_cut_short
next_cut_short_has_causes = search rules

-- or for the words of a single
pub words_cut_short_have_causes : IsRunOf (cancellable_team 2) words_cut_short
words_cut_short_have_causes = search rules

-- a member leaves the region with all that it has open
pub leaves_all_has_causes : IsRunOf (cancellable_team 1) leaves_all
leaves_all_has_causes = search rules

-- it stops the team
pub stopped_leaving_has_causes : IsRunOf (cancellable_team 1) stopped_leaving
stopped_leaving_has_causes = search rules

-- Loops and sections

-- a loop
pub loop_cancelled_has_causes : IsRunOf (cancellable_team 2) loop_cancelled
loop_cancelled_has_causes = search rules

-- one that a member leaves without having seen that
pub loop_left_unseen_has_causes : IsRunOf (cancellable_team 2) loop_left_unseen
loop_left_unseen_has_causes = search rules

-- sections
pub sections_cancelled_has_causes : IsRunOf (cancellable_team 1) sections_cancelled
sections_cancelled_has_causes = search rules

-- nothing that can be cancelled
pub cancels_nothing_has_causes : IsRunOf (cancellable_team 1) cancels_nothing
cancels_nothing_has_causes = search rules

-- a loop in a cancelled region
pub loop_in_a_cancelled_region_has_causes : IsRunOf (cancellable_team 2) loop_in_a_cancelled_region
loop_in_a_cancelled_region_has_causes = search rules

-- Groups

-- a group, by a task in it
pub group_until_it_is_cancelled_has_causes : IsRunOf (cancellable_team 2) (take 8 group_cancelled)
group_until_it_is_cancelled_has_causes = search rules

-- and what comes after
pub group_cancelled_has_causes : IsRunOf (cancellable_team 2) group_cancelled
group_cancelled_has_causes = ((refl, (refl, refl, refl, (refl, refl))), ((refl, refl), ((refl, refl), ((refl, refl), ((refl, (refl, refl)), ((refl, refl), ((refl, refl), ((refl, refl), group_until_it_is_cancelled_has_causes))))))))

-- a task ends and does nothing else
pub task_left_has_causes : IsRunOf (cancellable_team 1) task_left
task_left_has_causes = search rules

-- one of a cancelled region
pub task_of_a_cancelled_region_has_causes : IsRunOf (cancellable_team 2) task_of_a_cancelled_region
task_of_a_cancelled_region_has_causes = search rules

-- Undeferred tasks

-- a creator waits for its undeferred task
pub waiting_creator_has_causes : IsRunOf (cancellable_team 3) waiting_creator
waiting_creator_has_causes = search rules

-- Room

-- a cancellation takes the last room
pub room_of_cancellations_has_causes : IsRunOf (cancellable_with 1 4) room_of_cancellations
room_of_cancellations_has_causes = search rules

-- there is none left
pub no_room_to_cancel_has_causes : IsRunOf (cancellable_with 1 3) no_room_to_cancel
no_room_to_cancel_has_causes = search rules

-- a task is dropped where there is none
pub dropped_without_room_has_causes : IsRunOf (cancellable_with 2 6) dropped_without_room
dropped_without_room_has_causes = search rules
