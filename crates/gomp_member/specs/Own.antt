-- What a member of a team knows of itself, and how a call and its reply move it. (own; OpenMP API 5.2, chapters 12, 15 and 16)
use Rattle.std.specs.Prelude.{ℕ, ◌+◌, ◌-◌, ◌||◌, ◌&&◌, not, is_some, Bool, true, false, List, [], ◌∷◌, Option, Some}
use Rattle.gomp_types.specs.declared.call.Call.{Call}
use Rattle.gomp_types.specs.declared.call.Call.TheVariants.{CriticalStart, CriticalEnd, RegionEnd}
use Rattle.gomp_types.specs.declared.cancel.CancelKind.TheVariants.{Loop, Sections}
use Rattle.gomp_types.specs.declared.reply.Reply.{Reply}
use Rattle.gomp_types.specs.declared.reply.Reply.TheVariants.{Finished, Passed, Run, TaskDone, Refused, Cancelling, Chunk, NoChunk, Section}
use Rattle.gomp_types.specs.declared.task.Task.{Task}
use Rattle.gomp_types.specs.declared.task.Task.TheVariants.{Implicit, Explicit}
use Rattle.gomp_types.specs.declared.task.Owner.{Owner}
use Rattle.gomp_types.specs.Limits.{shown_number}
use Rattle.gomp_types.specs.Resumes.{call_meant}
use Rattle.gomp_types.specs.declared.cancel.CancelKind.{CancelKind}
use Rattle.gomp_locks.specs.Holders.{task_number}
use Rattle.gomp_model.specs.Past.{Waits, no_waits}
use Rattle.gomp_model.specs.Calls.{row_of}
use Rattle.gomp_model.specs.Team.{waits_after}
use Rattle.gomp_dispatch.specs.declared.leaving.Leaving.{Leaving}
use Rattle.gomp_dispatch.specs.Leaves.{leaves_nothing, leaving_after, named_by}

-- what a member knows of itself
pub record OwnView : Type 0 where
  -- its team's number among the teams that share names and locks
  pub team : ℕ
  -- its own number in its team
  pub number : ℕ
  -- whether it has passed the region's end
  pub ended : Bool
  -- its calls that are not answered whole
  pub waits : Waits
  -- the explicit tasks that it has started and not ended, the innermost first
  pub tasks : List ℕ
  -- whether it leaves the region, or its task, since it has seen that that is cancelled
  pub leaving : Leaving
  -- whether it leaves its loop or sections construct likewise
  pub leaves_share : Bool
  -- how many critical names its tasks have entered and not left (one of 2^64 or more stays at the last number)
  pub names : ℕ

-- a member of which nothing was asked
abbrev pub new_member : ℕ → ℕ → OwnView
new_member team number = record { team = team; number = number; ended = false; waits = no_waits; tasks = []; leaving = leaves_nothing; leaves_share = false; names = 0 }

-- the task that it executes: the innermost of these, else its implicit one
abbrev pub innermost_task : ℕ → List ℕ → Task
innermost_task m [] = Implicit m
innermost_task m (task ∷ tasks) = Explicit task

-- that of a member
abbrev pub own_task : OwnView → Task
own_task own = innermost_task own.number own.tasks

-- whether a task is the one by which its member is in its region
abbrev pub is_own_task : Task → Bool
is_own_task (Implicit m) = true
is_own_task (Explicit task) = false

-- whether a member executes that: it has started no other that it has not ended
abbrev pub executes_implicit : OwnView → Bool
executes_implicit own = is_own_task (own_task own)

-- whether nothing that a member knows refuses it a call on the work-shares: it has not passed the region's end, none of its calls waits, it executes its implicit task, and leaves nothing
abbrev pub is_free : OwnView → Bool
is_free own = not own.ended && (not (is_some own.waits.open_call) && (executes_implicit own && not (own.leaving.region || (own.leaves_share || own.leaving.task))))

-- as whom it holds names and locks
abbrev pub own_owner : OwnView → Owner
own_owner own = record { team = own.team; member = own.number; task = task_number (own_task own) }

-- the call that a call of the member means: a resume means the one that waits
abbrev pub own_meant : OwnView → Call → Call
own_meant own call = call_meant call own.waits.open_call

-- After a call and its reply

-- it passes the region's end
abbrev pub passes_end : Call → Reply → Bool
passes_end RegionEnd Passed = true
passes_end call reply = false

-- without the first of these
abbrev pub without_first : List ℕ → List ℕ
without_first [] = []
without_first (task ∷ tasks) = tasks

-- it starts a task, or ends the innermost one
abbrev pub tasks_after : Reply → List ℕ → List ℕ
tasks_after (Run task code arg own) tasks = task ∷ tasks
tasks_after (TaskDone task waiting) tasks = without_first tasks
tasks_after reply tasks = tasks

-- whether a construct names a loop or sections
abbrev pub names_share : Option CancelKind → Bool
names_share (Some Loop) = true
names_share (Some Sections) = true
names_share _ = false

-- whether it leaves its share: it has left it by an end that is not refused, and it leaves it from the answer on that the share is cancelled
abbrev pub leaves_share_after : Reply → Call → Bool → Bool
leaves_share_after (Refused refusal) call leaves = leaves
leaves_share_after (Cancelling true) call leaves = leaves || names_share (named_by call)
leaves_share_after reply call leaves = leaves && not (row_of call).drains

-- how many critical names it is in: it enters one, or leaves one
abbrev pub names_after : Reply → Call → ℕ → ℕ
names_after Finished (CriticalStart name) names = shown_number (names + 1)
names_after Finished (CriticalEnd name) names = names - 1
names_after reply call names = names

-- what it has left and leaves, and how many names it is in, after the reply to a call that it made, or to the one that its resume repeats
abbrev pub left_after : Reply → Call → OwnView → OwnView
left_after reply call own = record own {
  ended = own.ended || passes_end (own_meant own call) reply;
  leaving = leaving_after reply (own_meant own call) own.leaving;
  leaves_share = leaves_share_after reply (own_meant own call) own.leaves_share;
  names = names_after reply (own_meant own call) own.names;
}

-- whether the reply is one to a call for the next piece of a loop or of sections: that, or that none is left
abbrev pub is_next_reply : Reply → Bool
is_next_reply (Chunk first count) = true
is_next_reply NoChunk = true
is_next_reply (Section number) = true
is_next_reply reply = false

-- the member with these waits, and these tasks
abbrev pub with_waits : Waits → OwnView → OwnView
with_waits waits own = record own { waits = waits }

abbrev pub with_tasks : List ℕ → OwnView → OwnView
with_tasks tasks own = record own { tasks = tasks }

-- the call that waits, or none
abbrev pub with_open : Option Call → OwnView → OwnView
with_open call own = record own { waits = record own.waits { open_call = call } }

-- the member after the reply to a call that it made, or to the one that its resume repeats
abbrev pub own_after : Reply → Call → OwnView → OwnView
own_after reply call own = record own {
  ended = own.ended || passes_end (own_meant own call) reply;
  waits = waits_after reply call own.waits;
  tasks = tasks_after reply own.tasks;
  leaving = leaving_after reply (own_meant own call) own.leaving;
  leaves_share = leaves_share_after reply (own_meant own call) own.leaves_share;
  names = names_after reply (own_meant own call) own.names;
}
