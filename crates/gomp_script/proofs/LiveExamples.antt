-- What the lines of a talk ask for, computed, before and after a team stands. (own)
use Rattle.std.proofs.Common.{◌≡◌, true, false, [], ◌∷◌, Some, None, Ok, Err, codes, refl}
use Rattle.std.specs.Prelude.{map}
use Rattle.gomp_types.specs.declared.call.Call.TheVariants.{Barrier, Cancel, Point, UnsetNest, TaskCreate, Taskwait}
use Rattle.gomp_types.specs.declared.cancel.CancelKind.TheVariants.{Taskgroup}
use Rattle.gomp_types.specs.declared.depend.DepKind.TheVariants.{DepIn, DepOut}
use Rattle.gomp_script.specs.declared.live.LiveLine.TheVariants.{NewTeam, NextStep}
use Rattle.gomp_script.specs.declared.parse.Why.TheVariants.{FirstLine, UnknownWord, MissingWord, BadNumber, ExtraWord}
use Rattle.gomp_script.specs.StepText.{plain_step, loop_step, sections_step, copy_end_step, ordered_step, cancel_step, point_step, lock_step, task_step, taskwait_step, team_of}
use Rattle.gomp_script.specs.LiveText.{LiveHasItems, read_live_line}
use Rattle.gomp_script.specs.Examples.{parts, task_of, task_with, item_of}

-- a new team may be asked for at any time
pub new_teams_asked : (map (read_live_line false) (parts (codes "team 2|  team 65 ")) ≡ Ok (Some (NewTeam 2)) ∷ Ok (Some (NewTeam 65)) ∷ []) × (read_live_line true (codes "team 2") ≡ Ok (Some (NewTeam 2)))
unfolding plain_step loop_step sections_step copy_end_step ordered_step team_of
new_teams_asked = (refl, refl)

-- a step of a team that stands, of which there is none at first
pub steps_asked : (read_live_line true (codes "3 barrier") ≡ Ok (Some (NextStep (record { member = 3; call = Barrier })))) × (read_live_line false (codes "3 barrier") ≡ Err FirstLine)
unfolding plain_step loop_step sections_step copy_end_step ordered_step team_of
steps_asked = (refl, refl)

-- a step on a lock
pub lock_asked : read_live_line true (codes "3 unset_nest 7") ≡ Ok (Some (NextStep (record { member = 3; call = UnsetNest 7 })))
unfolding lock_step
lock_asked = refl

-- a cancellation, a point of one, and one without its clause
pub cancel_asked : map (read_live_line true) (parts (codes "3 cancel taskgroup 0|3 point taskgroup|3 cancel taskgroup")) ≡ Ok (Some (NextStep (record { member = 3; call = Cancel Taskgroup false }))) ∷ Ok (Some (NextStep (record { member = 3; call = Point Taskgroup }))) ∷ Err MissingWord ∷ []
unfolding cancel_step point_step
cancel_asked = refl

-- a step on tasks
pub task_asked : read_live_line true (codes "3 task 7 5") ≡ Ok (Some (NextStep (record { member = 3; call = TaskCreate (task_of 7 5) })))
unfolding task_step
task_asked = refl

-- one of a task with an item, and a wait for such tasks; an item without its address
pub items_asked : map (read_live_line true) (parts (codes "3 task 7 5 out 100|3 taskwait in 100|3 taskwait in")) ≡ Ok (Some (NextStep (record { member = 3; call = TaskCreate (task_with (item_of DepOut 100 ∷ [])) }))) ∷ Ok (Some (NextStep (record { member = 3; call = Taskwait (item_of DepIn 100 ∷ []) }))) ∷ Err MissingWord ∷ []
unfolding task_step taskwait_step
items_asked = refl

-- a line with an item may find no memory
pub asked_item_takes : LiveHasItems (Ok (Some (NextStep (record { member = 3; call = Taskwait (item_of DepIn 100 ∷ []) }))))
asked_item_takes = λ same. absurd (cc)

-- one without an item may not
pub asked_task_takes_none : LiveHasItems (Ok (Some (NextStep (record { member = 3; call = TaskCreate (task_of 7 5) })))) → ⊥
asked_task_takes_none = λ some. some refl

-- nor may another step, a new team, a line that asks for nothing or a bad one
pub asked_others_take_none : (LiveHasItems (Ok (Some (NextStep (record { member = 3; call = Barrier })))) → ⊥) × (LiveHasItems (Ok (Some (NewTeam 2))) → ⊥) × (LiveHasItems (Ok None) → ⊥) × (LiveHasItems (Err MissingWord) → ⊥)
asked_others_take_none = (λ some. some refl, λ never. never, λ never. never, λ never. never)

-- lines that ask for nothing
pub lines_that_ask_nothing : map (read_live_line true) (parts (codes "|  |# 3 barrier|#")) ≡ Ok None ∷ Ok None ∷ Ok None ∷ Ok None ∷ []
unfolding plain_step loop_step sections_step copy_end_step ordered_step team_of
lines_that_ask_nothing = refl

-- and bad ones
pub bad_lines_of_a_talk : map (read_live_line true) (parts (codes "team|team x|team 1 2|foo|3 foo|x barrier|3 barrier 1")) ≡ Err MissingWord ∷ Err BadNumber ∷ Err ExtraWord ∷ Err MissingWord ∷ Err UnknownWord ∷ Err BadNumber ∷ Err ExtraWord ∷ []
unfolding plain_step loop_step sections_step copy_end_step ordered_step team_of
bad_lines_of_a_talk = refl
