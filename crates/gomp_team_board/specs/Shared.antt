-- Of which operations and replies members on threads that share a board notify one another. (own)
use Rattle.std.specs.Prelude.{ℕ, Bool, true, false}
use Rattle.gomp_types.specs.declared.limits.Limits.{Limits}
use Rattle.gomp_types.specs.declared.refusal.Refusal.TheVariants.{Mismatch}
use Rattle.gomp_types.specs.declared.reply.Reply.{Reply}
use Rattle.gomp_types.specs.declared.reply.Reply.TheVariants.{Finished, Passed, Created, Cancelling, TaskDone, Stopped, Refused}
use Rattle.gomp_board.specs.declared.op.Op.{Op}
use Rattle.gomp_board.specs.declared.op.Op.TheVariants.{Create, EndTask, Arrive, Put, Cancel, Break}

-- what is kept beside a board that goes under a lock, as it was then: how many members its team has, and its limits
pub record SharedBoardView : Type 0 where
  pub members : ℕ
  pub limits : Limits

-- whether an operation and its reply wake the members that sleep: it broke the team, created a task that others may execute, ended one, arrived last at a barrier, put words, or cancelled the region or a group
abbrev pub wakes : Op → Reply → Bool
wakes op (Refused Mismatch) = true
wakes (Create desc) (Created task) = true
wakes (EndTask leaving) (TaskDone task waiting) = true
wakes (Arrive tag leaving) Passed = true
wakes (Put share words) Finished = true
wakes (Cancel named true allowed) (Cancelling true) = true
wakes (Break place back) Stopped = true
wakes op reply = false
