-- Which replies a call has, whatever blocks its member is in: behind each of them the member goes on. (own)
use Rattle.std.specs.Prelude.{nat_lt, Bool, true, false, [], ◌∷◌, Option, Some}
use Rattle.std.proofs.Common.{zero}
use Rattle.gomp_types.specs.declared.loop_desc.EndKind.{EndKind}
use Rattle.gomp_types.specs.declared.loop_desc.EndKind.TheVariants.{Wait, Nowait, Cancellable}
use Rattle.gomp_types.specs.declared.reply.Reply.{Reply}
use Rattle.gomp_types.specs.declared.reply.Reply.TheVariants.{Chunk, NoChunk, Section as SectionReply, Executor, Copied, Finished, Passed, Created, Dropped, Cancelling, Run}
use Rattle.gomp_region.specs.declared.statement.BlockConstruct.{BlockConstruct}
use Rattle.gomp_region.specs.declared.statement.BlockConstruct.TheVariants.{Loop, Sections, Single, Copy, Ordered, Critical, Task, Group, Parallel}
use Rattle.gomp_region.specs.declared.statement.Statement.{Statement}
use Rattle.gomp_region.specs.declared.statement.Statement.TheVariants.{Begin, Taskwait, Barrier, Cancel, Point}
use Rattle.gomp_program.specs.declared.frame.Stage.{Stage}
use Rattle.gomp_program.specs.declared.frame.Stage.TheVariants.{Unasked, Starting, Continuing, Putting, Ending, EndingGroup, Releasing}
use Rattle.gomp_program.specs.declared.replies.Sequel.{Sequel}
use Rattle.gomp_program.specs.declared.replies.Sequel.TheVariants.{Statements, ItsCall}

-- a chunk of the loop, or that none is left
abbrev pub is_chunk : Reply → Bool
is_chunk (Chunk first count) = nat_lt 0 count
is_chunk NoChunk = true
is_chunk _ = false

-- that no section is left
abbrev pub is_no_section : Reply → Bool
is_no_section (SectionReply zero) = true
is_no_section _ = false

-- a piece of a share
abbrev pub is_piece : BlockConstruct → Reply → Bool
is_piece (Loop desc) reply = is_chunk reply
is_piece (Sections end_kind) reply = is_no_section reply
is_piece _ _ = false

-- the replies to the call that begins a construct
abbrev pub begins_by : BlockConstruct → Reply → Bool
begins_by (Loop desc) reply = is_chunk reply
begins_by (Sections end_kind) reply = is_no_section reply
begins_by Single (Executor executes) = true
begins_by (Copy number) (Executor true) = true
begins_by (Copy number) (Copied (word ∷ [])) = true
begins_by Ordered Finished = true
begins_by (Critical name) Finished = true
begins_by Group Finished = true
begins_by (Task clauses) (Created task) = true
begins_by (Task clauses) Dropped = true
begins_by (Task clauses) (Run task code arg true) = true
begins_by (Parallel members) Finished = true
begins_by _ _ = false

-- the replies to the call of a statement
abbrev pub starts_by : Statement → Reply → Bool
starts_by (Begin construct) reply = begins_by construct reply
starts_by Taskwait Passed = true
starts_by Barrier Passed = true
starts_by (Cancel kind) (Cancelling false) = true
starts_by (Point kind) (Cancelling false) = true
starts_by _ _ = false

-- the replies to the call that ends a construct
abbrev pub ends_by_kind : EndKind → Reply → Bool
ends_by_kind Nowait Finished = true
ends_by_kind Wait Passed = true
ends_by_kind Cancellable Passed = true
ends_by_kind _ _ = false

abbrev pub ends_by : BlockConstruct → Reply → Bool
ends_by (Loop desc) reply = ends_by_kind desc.end_kind reply
ends_by (Sections end_kind) reply = ends_by_kind end_kind reply
ends_by Single Passed = true
ends_by (Copy number) Passed = true
ends_by Group Passed = true
ends_by Ordered Finished = true
ends_by (Critical name) Finished = true
ends_by _ _ = false

-- the replies to the call at which a member stands
abbrev pub is_answer : Stage → Option Statement → Reply → Bool
is_answer Unasked _ Finished = true
is_answer Starting (Some statement) reply = starts_by statement reply
is_answer Continuing (Some (Begin construct)) reply = is_piece construct reply
is_answer Putting _ Finished = true
is_answer (Ending groups) (Some (Begin construct)) reply = ends_by construct reply
is_answer (EndingGroup groups) _ Passed = true
is_answer (Releasing exit) _ Finished = true
is_answer _ _ _ = false

-- the member goes on: it executes statements, or makes the call at which it now stands
abbrev pub GoesOn : Sequel → Type 0
GoesOn Statements = Unit {0}
GoesOn ItsCall = Unit {0}
GoesOn _ = ⊥
