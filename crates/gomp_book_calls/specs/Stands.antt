-- When a lock book is as the past of a team leaves it. (own)
use Rattle.std.specs.Prelude.{ℕ, ◌≡◌, ◌≢◌, ◌≤◌, Bool, true, List, Option, Some, None, IsSome, ⊤, length, slice_get, option_map}
use Rattle.gomp_types.specs.declared.call.Call.{Call}
use Rattle.gomp_types.specs.declared.key.Key.TheVariants.{Critical}
use Rattle.gomp_types.specs.declared.lock.LockKind.{LockKind}
use Rattle.gomp_types.specs.declared.refusal.Refusal.{Refusal}
use Rattle.gomp_types.specs.declared.task.Task.{Task}
use Rattle.gomp_types.specs.declared.refusal.Refusal.TheVariants.{NoMemory}
use Rattle.gomp_types.specs.declared.reply.Reply.{Reply}
use Rattle.gomp_types.specs.declared.reply.Reply.TheVariants.{Wait, Stopped, Refused}
use Rattle.gomp_events.specs.declared.event.Event.{Event}
use Rattle.gomp_events.specs.Tasks.{executed_task}
use Rattle.gomp_events.specs.Laws.{Always}
use Rattle.gomp_locks.specs.declared.lock.Lock.{Lock}
use Rattle.gomp_locks.specs.Book.{BookView, name_at, name_owner}
use Rattle.gomp_locks.specs.Holders.{key_of, holder, holding_owner}
use Rattle.gomp_locks.specs.HoldRules.{HoldRule}
use Rattle.gomp_model.specs.Past.{Past}
use Rattle.gomp_model.specs.Row.{Row, MayGive, past_given}
use Rattle.gomp_model.specs.Admits.{BookAdmits}
use Rattle.gomp_model.specs.Calls.{row_of}
use Rattle.gomp_model.specs.CriticalNames.{was_name_held}

-- the lock that stands in a place, held as these events say
abbrev pub lock_held : ℕ → List Event → Option LockKind → Option Lock
lock_held number h place = option_map (λ (kind : LockKind). record { kind = kind; held = holder (key_of kind number) h }) place

-- a book is as a past leaves it: each name has its owner, and each lock is there and held so
pub record BookStands (book : BookView) (p : Past) : Type 0 where
  pub names : (name : List ℕ) → name_owner name book ≡ holding_owner (holder (Critical name) p.events)
  pub locks : (number : ℕ) → slice_get book.locks number ≡ option_map (lock_held number p.events) (slice_get p.locks number)
  -- nobody holds a lock that was not made
  pub unmade : (kind : LockKind) (number : ℕ) → length p.locks ≤ number → holder (key_of kind number) p.events ≡ None
  -- and it knows each name that was started
  pub started : (name : List ℕ) → was_name_held name p.events ≡ true → IsSome (name_at name book)

-- a call that waits for a name waits for one that the book knows
abbrev pub IsKnown : BookView → Option Call → Type 0
IsKnown book None = ⊤
IsKnown book (Some call) = (name : List ℕ) → (row_of call).holds ≡ Some (Critical name) → IsSome (name_at name book)

-- a call by its row, and whether it is repeated
pub record Asked : Type 1 where
  pub row : Row
  pub repeated : Bool

-- a reply to a call on names and locks that the book admits, made by this task of the member
pub record BookReply (asked : Asked) (book after : BookView) (m : ℕ) (task : Task) (reply : Reply) : Type 0 where
  -- in each such past for which the book stands, in which the member executes this task, and whose events keep the rule of names and locks, it is one that the row has, and the book then stands for what comes of it
  pub serves : (p : Past) → BookStands book p → executed_task m p.events ≡ task → Always HoldRule p.events → BookAdmits asked.row asked.repeated m p → MayGive asked.row asked.repeated m p reply × BookStands after (past_given asked.row asked.repeated m p reply)
  -- it refuses for want of memory alone, a call that is made for the first time, on a name that was not started before; the book stays
  pub refusal : (refusal : Refusal) → reply ≡ Refused refusal → refusal ≡ NoMemory
  pub once : asked.repeated ≡ true → reply ≢ Refused NoMemory
  pub memory : reply ≡ Refused NoMemory → (name : List ℕ) → asked.row.holds ≡ Some (Critical name) → name_at name book ≡ None
  pub lacks : reply ≡ Refused NoMemory → after ≡ book
  pub stops : reply ≢ Stopped
  -- a wait changes nothing, and is for a name that the book knows
  pub kept : reply ≡ Wait → after ≡ book
  pub waits : reply ≡ Wait → (name : List ℕ) → asked.row.holds ≡ Some (Critical name) → IsSome (name_at name after)
  -- a name that is known stays known
  pub names : (name : List ℕ) → IsSome (name_at name book) → IsSome (name_at name after)
