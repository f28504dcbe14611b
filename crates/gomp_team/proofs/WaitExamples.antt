-- By which operation a member goes on with a call that waits: of each kind of wait.
use Rattle.std.proofs.Common.{ℕ, ◌≡◌, true, [], Some, None, refl}
use Rattle.gomp_types.specs.declared.call.Call.TheVariants.{LoopNext, Barrier, RegionEnd, SectionsEndCancel, Set, TaskEnd, Taskwait, GroupStart, GroupEnd, Cancel, Resume, Stop}
use Rattle.gomp_types.specs.declared.cancel.CancelKind.TheVariants.{Parallel}
use Rattle.gomp_board.specs.declared.op.Op.TheVariants.{AwaitChildren, AwaitGroup, AwaitBarrier}
use Rattle.gomp_team.specs.Waits.{awaited_op}

-- at a barrier, the region's end and the end of a construct it waits for the barrier
barrier_is_awaited : awaited_op Barrier ≡ Some AwaitBarrier
barrier_is_awaited = refl

region_end_is_awaited : awaited_op RegionEnd ≡ Some AwaitBarrier
region_end_is_awaited = refl

sections_end_is_awaited : awaited_op SectionsEndCancel ≡ Some AwaitBarrier
sections_end_is_awaited = refl

-- in a taskwait for its children, at a group's end for the group
children_are_awaited : awaited_op (Taskwait []) ≡ Some (AwaitChildren [])
children_are_awaited = refl

group_end_is_awaited : awaited_op GroupEnd ≡ Some AwaitGroup
group_end_is_awaited = refl

-- no other call waits for the board
no_piece_is_awaited : awaited_op LoopNext ≡ None
no_piece_is_awaited = refl

no_lock_is_awaited : (number : ℕ) → awaited_op (Set number) ≡ None
no_lock_is_awaited number = refl

no_task_end_is_awaited : awaited_op TaskEnd ≡ None
no_task_end_is_awaited = refl

no_group_start_is_awaited : awaited_op GroupStart ≡ None
no_group_start_is_awaited = refl

no_cancel_is_awaited : awaited_op (Cancel Parallel true) ≡ None
no_cancel_is_awaited = refl

no_resume_is_awaited : awaited_op Resume ≡ None
no_resume_is_awaited = refl

no_stop_is_awaited : awaited_op Stop ≡ None
no_stop_is_awaited = refl
