-- Which call each construct and statement makes. (own)
use Rattle.std.specs.Prelude.{ℕ, ℤ, ◌≢◌, ◌+◌, ◌-◌, ◌^◌, ◌∷◌, [], true, Option, Some, None, drop, min, slice_get}
use Rattle.std.specs.Int.{cast_unsigned, w64}
use Rattle.gomp_types.specs.declared.call.Call.{Call}
use Rattle.gomp_types.specs.declared.call.Call.TheVariants.{LoopStart, LoopNext, LoopEnd, LoopEndNowait, LoopEndCancel, SectionsNext, SectionsEnd, SectionsEndNowait, SectionsEndCancel, SectionsStart, SingleStart, SingleCopyStart, SingleCopyEnd, OrderedStart, OrderedEnd, CriticalStart, GroupStart, CriticalEnd, TaskCreate, TaskEnd, GroupEnd, RegionEnd, Stop, Barrier as BarrierCall, Taskwait as TaskwaitCall, Cancel as CancelCall, Point as PointCall}
use Rattle.gomp_types.specs.declared.loop_desc.EndKind.{EndKind}
use Rattle.gomp_types.specs.declared.loop_desc.EndKind.TheVariants.{Wait, Nowait, Cancellable}
use Rattle.gomp_types.specs.declared.task.TaskDesc.{TaskDesc}
use Rattle.gomp_region.specs.declared.statement.BlockConstruct.{BlockConstruct}
use Rattle.gomp_region.specs.declared.statement.BlockConstruct.TheVariants.{Loop, Sections, Single, Copy, Ordered, Critical, Task, Group, Parallel}
use Rattle.gomp_region.specs.declared.statement.Statement.{Statement}
use Rattle.gomp_region.specs.declared.statement.Statement.TheVariants.{Begin, Taskwait, Barrier, Cancel, Point}
use Rattle.gomp_region.specs.declared.statement.TaskClauses.{TaskClauses}
use Rattle.gomp_region.specs.declared.script.Script.{Script}
use Rattle.gomp_region.specs.declared.script.ScriptLine.{ScriptLine}
use Rattle.gomp_program.specs.Places.{blocks_inside, statement_at}
use Rattle.gomp_program.specs.declared.acts.ScriptAct.{ScriptAct}
use Rattle.gomp_program.specs.declared.acts.ScriptAct.TheVariants.{Do, Parallel as ParallelAct}
use Rattle.gomp_program.specs.declared.frame.Stage.{Stage}
use Rattle.gomp_program.specs.declared.frame.Stage.TheVariants.{Starting, Continuing, Putting, Ending, EndingGroup, Releasing, EndingRegion}

-- the end calls, by what stands at the end
abbrev pub loop_end : EndKind → Call
loop_end Wait = LoopEnd
loop_end Nowait = LoopEndNowait
loop_end Cancellable = LoopEndCancel

abbrev pub sections_end : EndKind → Call
sections_end Wait = SectionsEnd
sections_end Nowait = SectionsEndNowait
sections_end Cancellable = SectionsEndCancel

-- the call that ends a construct; a single is ended by a barrier of all
abbrev pub call_to_end : BlockConstruct → Call
call_to_end (Loop desc) = loop_end desc.end_kind
call_to_end (Sections end_kind) = sections_end end_kind
call_to_end Single = BarrierCall
call_to_end (Copy number) = BarrierCall
call_to_end Ordered = OrderedEnd
call_to_end (Critical name) = CriticalEnd name
call_to_end (Task clauses) = TaskEnd
call_to_end Group = GroupEnd
call_to_end _ = Stop

-- the call that asks for the next piece of a share
abbrev pub call_to_continue : BlockConstruct → Call
call_to_continue (Loop desc) = LoopNext
call_to_continue (Sections end_kind) = SectionsNext
call_to_continue _ = Stop

-- the call by which the executor of a `copy` puts its number, as one word
abbrev pub call_to_put : BlockConstruct → Call
call_to_put (Copy number) = SingleCopyEnd (cast_unsigned w64 number ∷ [])
call_to_put _ = Stop

-- the call on a construct that is begun
abbrev pub call_on : Stage → BlockConstruct → Call
call_on Continuing construct = call_to_continue construct
call_on Putting construct = call_to_put construct
call_on (Ending groups) construct = call_to_end construct
call_on (Releasing exit) construct = call_to_end construct
call_on _ construct = Stop

abbrev pub call_inside : Stage → Option Statement → Call
call_inside stage (Some (Begin construct)) = call_on stage construct
call_inside stage _ = Stop

-- the call that begins a construct of so many sections, in an iteration of this value, if it is neither a task nor a region
abbrev pub call_to_begin : ℕ → ℤ → BlockConstruct → Call
call_to_begin count value (Loop desc) = LoopStart desc
call_to_begin count value (Sections end_kind) = SectionsStart count end_kind
call_to_begin count value Single = SingleStart
call_to_begin count value (Copy number) = SingleCopyStart
call_to_begin count value Ordered = OrderedStart value
call_to_begin count value (Critical name) = CriticalStart name
call_to_begin count value Group = GroupStart
call_to_begin count value _ = Stop

-- the task of the line with this number, with these clauses, in an iteration of this value
abbrev pub task_of : ℕ → ℤ → TaskClauses → TaskDesc
task_of number value clauses = record { code = number; arg = cast_unsigned w64 value; undeferred = clauses.undeferred; final_task = clauses.final_task; deps = clauses.deps }

-- what begins a construct, on the line with this number, or is the act of a statement
abbrev pub act_of_statement : ℕ → ℤ → ℕ → Statement → ScriptAct
act_of_statement count value number (Begin (Parallel members)) = ParallelAct members
act_of_statement count value number (Begin (Task clauses)) = Do (TaskCreate (task_of number value clauses))
act_of_statement count value number (Begin construct) = Do (call_to_begin count value construct)
act_of_statement count value number Taskwait = Do (TaskwaitCall [])
act_of_statement count value number Barrier = Do BarrierCall
act_of_statement count value number (Cancel kind) = Do (CancelCall kind true)
act_of_statement count value number (Point kind) = Do (PointCall kind)
act_of_statement count value number _ = Do Stop

abbrev pub act_of_line : ℕ → ℤ → Option ScriptLine → ScriptAct
act_of_line count value (Some line) = act_of_statement count value line.number line.statement
act_of_line count value None = Do Stop

-- how many sections the construct at this line has
abbrev pub sections_at : Script → ℕ → ℕ
sections_at script line = min (blocks_inside 0 (drop (line + 1) script.lines.items)) (2 ^ 32 - 1)

-- what a member does at this call of the construct or statement at this line, in an iteration of this value
abbrev pub act_at : Script → ℕ → ℤ → Stage → ScriptAct
act_at script line value Starting = act_of_line (sections_at script line) value (slice_get script.lines.items line)
act_at script line value EndingRegion = Do RegionEnd
act_at script line value (EndingGroup groups) = Do GroupEnd
act_at script line value stage = Do (call_inside stage (statement_at script line))

-- only a task with items takes memory
abbrev pub CreatesWithItems : Option Statement → Type 0
CreatesWithItems (Some (Begin (Task clauses))) = clauses.deps ≢ []
CreatesWithItems _ = ⊥
