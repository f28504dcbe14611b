-- What the rows of a creation, of a taskwait and of the end of a task say of descriptions and items.
use Rattle.std.proofs.Common.{◌≡◌, ℕ, true, false, List, [], ◌∷◌, Some, None, refl}
use Rattle.std.specs.Prelude.{map, ◌++◌}
use Rattle.gomp_types.specs.declared.call.Call.{Call}
use Rattle.gomp_types.specs.declared.call.Call.TheVariants.{TaskCreate, TaskEnd, Taskwait}
use Rattle.gomp_types.specs.declared.depend.DepKind.TheVariants.{DepIn, DepOut, DepMutex}
use Rattle.gomp_types.specs.declared.task.Task.TheVariants.{Implicit, Explicit}
use Rattle.gomp_types.specs.declared.reply.Reply.{Reply}
use Rattle.gomp_types.specs.declared.reply.Reply.TheVariants.{Finished, Passed, Wait, Created, Run as RunTask, TaskDone}
use Rattle.gomp_events.specs.declared.event.Event.{Event}
use Rattle.gomp_events.specs.declared.event.Event.TheVariants.{Create, Start, Done, Waited}
use Rattle.gomp_events.specs.TaskExamples.{one_job, at_once, last_of_all, item, with_items, nested_groups}
use Rattle.gomp_model.specs.Calls.{row_of}
use Rattle.gomp_model.specs.Examples.{past_with, share_answers, lock_answers}
use Rattle.gomp_model.specs.DependRuns.{one_item, reads}
use Rattle.gomp_model.proofs.RowExamples.{flags, keys, kinds, takers}

-- calls with an undeferred task, a final one and items
abbrev described : List Call
described = TaskCreate at_once ∷ TaskCreate last_of_all ∷ TaskCreate (with_items (reads 2)) ∷ Taskwait (reads 2) ∷ []

-- Flags

-- a creation may find no memory and asks for room, whatever its description is; a taskwait does neither, whatever its items are
pub memory_of_descriptions : (takers [] described ≡ true ∷ true ∷ true ∷ false ∷ []) × (map (λ call. (row_of call).room) described ≡ 3 ∷ 3 ∷ 3 ∷ 0 ∷ [])
memory_of_descriptions = (refl, refl)

-- none of them stays in its place, puts words, holds a name or a lock, arrives at a barrier or starts a share
pub flags_of_descriptions :
    (flags (λ row. row.stays) described ≡ map (λ call. false) described) × (flags (λ row. row.puts) described ≡ map (λ call. false) described)
    × (keys described ≡ map (λ call. None) described)
    × (kinds described ≡ map (λ call. None) described) × (map (λ call. (row_of call).starts) described ≡ map (λ call. None) described)
flags_of_descriptions = (refl, refl, refl, refl, refl)

-- a creation names the whole description, a taskwait none
pub creations_of_descriptions :
    map (λ call. (row_of call).creates) described ≡ Some at_once ∷ Some last_of_all ∷ Some (with_items (reads 2)) ∷ None ∷ []
creations_of_descriptions = refl

-- Events that a call gives whatever it is answered

-- the creation gives the description as it was asked for, also in a final task; a taskwait gives none
pub begun_by_descriptions :
    (map (λ call. (row_of call).begins 0 (past_with 1 [])) described
    ≡ (Create 1 0 (Implicit 0) at_once ∷ []) ∷ (Create 1 0 (Implicit 0) last_of_all ∷ []) ∷ (Create 1 0 (Implicit 0) (with_items (reads 2)) ∷ []) ∷ [] ∷ [])
    × ((row_of (TaskCreate one_job)).begins 0 (past_with 1 (Create 1 0 (Implicit 0) last_of_all ∷ Start 1 0 ∷ [])) ≡ Create 2 0 (Explicit 1) one_job ∷ [])
begun_by_descriptions = (refl, refl)

-- Events that a reply gives

-- those of this call by this member among groups, for each of these replies
abbrev given : ℕ → Call → List Reply → List Event
given m call [] = []
given m call (reply ∷ replies) = (row_of call).gives m (past_with 2 nested_groups) reply ++ given m call replies

-- a creation starts the task that is run, its own or another
pub given_by_undeferred_creations :
    (given 0 (TaskCreate at_once) (RunTask 3 8 80 true ∷ RunTask 4 7 70 false ∷ []) ≡ Start 3 0 ∷ Start 4 0 ∷ []) × (given 1 (TaskCreate last_of_all) (RunTask 3 8 80 true ∷ []) ≡ Start 3 1 ∷ [])
    × (given 0 (TaskCreate at_once) (Created 5 ∷ Wait ∷ Passed ∷ Finished ∷ TaskDone 2 false ∷ share_answers ++ lock_answers) ≡ [])
given_by_undeferred_creations = (refl, refl, refl)

-- a taskwait that passes gives its items in their order, one at which a task is run the start, and one that waits nothing
pub given_by_item_waits :
    (given 0 (Taskwait (item DepOut 7 ∷ item DepIn 9 ∷ [])) (Passed ∷ RunTask 3 8 80 false ∷ []) ≡ Waited 0 (item DepOut 7 ∷ item DepIn 9 ∷ []) ∷ Start 3 0 ∷ [])
    × (given 1 (Taskwait (one_item DepMutex 9)) (Passed ∷ []) ≡ Waited 1 (one_item DepMutex 9) ∷ []) × (given 0 (Taskwait (reads 2)) (Wait ∷ Finished ∷ Created 1 ∷ TaskDone 2 true ∷ lock_answers) ≡ [])
given_by_item_waits = (refl, refl, refl)

-- the end of a task is the same event, whether a wait is open again or not
pub given_by_ends : given 0 TaskEnd (TaskDone 2 false ∷ TaskDone 2 true ∷ []) ≡ Done 2 0 ∷ Done 2 0 ∷ []
given_by_ends = refl
