-- Which reply an answer of the board is. (own)
use Rattle.std.specs.Prelude.{ℕ, Bool}
use Rattle.gomp_types.specs.declared.refusal.Refusal.TheVariants.{NoMemory as WantOfMemory}
use Rattle.gomp_types.specs.declared.reply.Reply.{Reply}
use Rattle.gomp_types.specs.declared.reply.Reply.TheVariants as reply
use Rattle.gomp_board.specs.declared.answer.Kind.{Kind}
use Rattle.gomp_board.specs.declared.answer.Kind.TheVariants.{Finished, Passed, Cancelled, Wait, Dropped, Stopped, NoMemory, Created, Cancelling, Run, TaskDone}
use Rattle.gomp_board.specs.declared.answer.Outcome.{Outcome}

-- the reply of a kind with these fields
abbrev pub reply_with : Kind → Bool → ℕ → ℕ → ℕ → Reply
reply_with Finished flag task code arg = reply.Finished
reply_with Passed flag task code arg = reply.Passed
reply_with Cancelled flag task code arg = reply.Cancelled
reply_with Wait flag task code arg = reply.Wait
reply_with Dropped flag task code arg = reply.Dropped
reply_with Stopped flag task code arg = reply.Stopped
reply_with NoMemory flag task code arg = reply.Refused WantOfMemory
reply_with Created flag task code arg = reply.Created task
reply_with Cancelling flag task code arg = reply.Cancelling flag
reply_with Run flag task code arg = reply.Run task code arg flag
reply_with TaskDone flag task code arg = reply.TaskDone task flag

abbrev pub reply_of_answer : Outcome → Reply
reply_of_answer outcome = reply_with outcome.kind outcome.flag outcome.task outcome.code outcome.arg
