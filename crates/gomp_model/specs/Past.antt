-- All that a definition may read of what was before a step. (own)
use Rattle.std.specs.Prelude.{ℕ, Bool, List, [], Option, None}
use Rattle.gomp_types.specs.declared.call.Call.{Call}
use Rattle.gomp_types.specs.declared.limits.Limits.{Limits}
use Rattle.gomp_types.specs.declared.lock.LockKind.{LockKind}
use Rattle.gomp_events.specs.declared.event.Event.{Event}

-- what a team is made with; a limit above the standard one counts as that; whether the control variable `cancel-var` allows cancellation (OpenMP API 5.2, section 2.1)
pub record Terms : Type 0 where
  pub members : ℕ
  pub limits : Limits
  pub cancellation : Bool

-- the calls of a member that are not answered whole
pub record Waits : Type 0 where
  -- the call whose answer was to wait, if one is open
  pub open_call : Option Call
  -- the calls at which the member started the tasks that it has not ended, the innermost first: each waits again when its task has ended; a creation at which its own undeferred task was started is none of them
  pub beneath : List Call

-- none
abbrev pub no_waits : Waits
no_waits = record { open_call = None; beneath = [] }

-- what was before a step
pub record Past : Type 0 where
  -- what the team was made with
  pub terms : Terms
  -- all that happened, the newest first
  pub events : List Event
  -- the calls of each member that are not answered whole
  pub waits : ℕ → Waits
  -- for so many events room was asked for
  pub room : ℕ
  -- the locks that were made, by their numbers; None in the place of one that was destroyed
  pub locks : List (Option LockKind)
