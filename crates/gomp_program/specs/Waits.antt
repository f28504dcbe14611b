-- Which calls may be answered to wait, and what then comes. (own)
use Rattle.std.specs.Prelude.{Bool, true, false, Option, Some}
use Rattle.gomp_types.specs.declared.loop_desc.EndKind.{EndKind}
use Rattle.gomp_types.specs.declared.loop_desc.EndKind.TheVariants.{Nowait}
use Rattle.gomp_region.specs.declared.statement.BlockConstruct.{BlockConstruct}
use Rattle.gomp_region.specs.declared.statement.BlockConstruct.TheVariants.{Loop, Sections, Single, Copy, Ordered, Critical, Task, Group}
use Rattle.gomp_region.specs.declared.statement.Statement.{Statement}
use Rattle.gomp_region.specs.declared.statement.Statement.TheVariants.{Begin, Taskwait, Barrier}
use Rattle.gomp_program.specs.declared.frame.Stage.{Stage}
use Rattle.gomp_program.specs.declared.frame.Stage.TheVariants.{Starting, Continuing, Ending, EndingGroup, EndingRegion}
use Rattle.gomp_program.specs.declared.replies.Sequel.{Sequel}
use Rattle.gomp_program.specs.declared.replies.Sequel.TheVariants.{SameCall, Stopping}
use Rattle.gomp_program.specs.declared.waiting.WaitsFor.{WaitsFor}
use Rattle.gomp_program.specs.declared.waiting.WaitsFor.TheVariants.{ForNothing, ForName, ForTurn, ForTasks, ForAll}

-- for what the call that begins a construct may wait
abbrev pub waits_to_begin : BlockConstruct → WaitsFor
waits_to_begin (Loop desc) = ForTurn
waits_to_begin (Sections end_kind) = ForTurn
waits_to_begin Single = ForTurn
waits_to_begin (Copy number) = ForTurn
waits_to_begin Ordered = ForTurn
waits_to_begin (Critical name) = ForName
waits_to_begin (Task clauses) = ForTasks
waits_to_begin _ = ForNothing

-- the same of the only call of a statement
abbrev pub waits_at_start : Statement → WaitsFor
waits_at_start (Begin construct) = waits_to_begin construct
waits_at_start Taskwait = ForTasks
waits_at_start Barrier = ForAll
waits_at_start _ = ForNothing

-- of the call that asks for the share's next piece: an ordered loop hands its piece on first
abbrev pub waits_if_ordered : Bool → WaitsFor
waits_if_ordered true = ForTurn
waits_if_ordered false = ForNothing

abbrev pub waits_to_continue : BlockConstruct → WaitsFor
waits_to_continue (Loop desc) = waits_if_ordered desc.ordered
waits_to_continue _ = ForNothing

-- of the call that ends a construct
abbrev pub waits_at_end_kind : EndKind → WaitsFor
waits_at_end_kind Nowait = ForNothing
waits_at_end_kind _ = ForAll

abbrev pub waits_to_end : BlockConstruct → WaitsFor
waits_to_end (Loop desc) = waits_at_end_kind desc.end_kind
waits_to_end (Sections end_kind) = waits_at_end_kind end_kind
waits_to_end Single = ForAll
waits_to_end (Copy number) = ForAll
waits_to_end Group = ForTasks
waits_to_end _ = ForNothing

-- of the call at which a member stands
abbrev pub waiting_at : Stage → Option Statement → WaitsFor
waiting_at EndingRegion _ = ForTasks
waiting_at (EndingGroup groups) _ = ForTasks
waiting_at Starting (Some statement) = waits_at_start statement
waiting_at Continuing (Some (Begin construct)) = waits_to_continue construct
waiting_at (Ending groups) (Some (Begin construct)) = waits_to_end construct
waiting_at _ _ = ForNothing

-- behind a reply to wait the call is asked about again; one that cannot wait is answered by a stop
abbrev pub wait_sequel : WaitsFor → Sequel
wait_sequel ForNothing = Stopping
wait_sequel _ = SameCall
