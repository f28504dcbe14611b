-- What a member leaves since it has seen that it is cancelled, a share aside, and how a call is made. (own; OpenMP API 5.2, section 16.1)
use Rattle.std.specs.Prelude.{ℕ, ◌≡◌, true, false, List, Option, Some, None}
use Rattle.gomp_types.specs.declared.call.Call.{Call}
use Rattle.gomp_types.specs.declared.call.Call.TheVariants.{Cancel, Point}
use Rattle.gomp_types.specs.declared.cancel.CancelKind.{CancelKind}
use Rattle.gomp_types.specs.declared.cancel.CancelKind.TheVariants.{Parallel, Taskgroup}
use Rattle.gomp_events.specs.declared.event.Event.{Event}
use Rattle.gomp_types.specs.declared.reply.Reply.{Reply}
use Rattle.gomp_types.specs.declared.reply.Reply.TheVariants.{Cancelled, Cancelling, Run, TaskDone}
use Rattle.gomp_events.specs.Cancels.{leaves_region, leaves_task}
use Rattle.gomp_model.specs.Past.{Past}
use Rattle.gomp_dispatch.specs.declared.leaving.Leaving.{Leaving}
use Rattle.gomp_dispatch.specs.declared.leaving.Manner.{Manner}

-- the flags say what the events do: whether the member leaves the region, and whether the task that it executes
pub record LeavesAs (leaving : Leaving) (m : ℕ) (h : List Event) : Type 0 where
  pub region : leaves_region m h ≡ leaving.region
  pub task : leaves_task m h ≡ leaving.task

-- a call is made so: its member leaves what the events say, and the team allows cancellation or not
pub record IsMadeSo (manner : Manner) (m : ℕ) (p : Past) : Type 0 where
  pub leaves : LeavesAs manner.leaving m p.events
  pub allowed : p.terms.cancellation ≡ manner.allowed

-- a member that leaves nothing
abbrev pub leaves_nothing : Leaving
leaves_nothing = record { region = false; task = false }

-- what a construct names, if the call is one
abbrev pub named_by : Call → Option CancelKind
named_by (Cancel kind clause) = Some kind
named_by (Point kind) = Some kind
named_by _ = None

-- what the member sees by a reply that is cancelled
abbrev pub cancel_seen_by : Reply → Call → Option CancelKind
cancel_seen_by Cancelled call = Some Parallel
cancel_seen_by (Cancelling true) call = named_by call
cancel_seen_by _ call = None

-- what it leaves once it has seen that
abbrev pub leaving_seen : Option CancelKind → Leaving → Leaving
leaving_seen (Some Parallel) leaving = record leaving { region = true }
leaving_seen (Some Taskgroup) leaving = record leaving { task = true }
leaving_seen _ leaving = leaving

-- what it leaves after a reply to a call; it leaves no task that it has just started, nor one to which it comes back
abbrev pub leaving_after : Reply → Call → Leaving → Leaving
leaving_after (Run task code arg own) call leaving = record leaving { task = false }
leaving_after (TaskDone task waiting) call leaving = record leaving { task = false }
leaving_after reply call leaving = leaving_seen (cancel_seen_by reply call) leaving
