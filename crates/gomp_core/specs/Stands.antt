-- When a team stands for a record. (own)
use Rattle.std.specs.Prelude.{ℕ, ◌≡◌, ◌≢◌, ◌⊎◌, false, List, [], ◌∷◌, Option, Some, None, length, option_and_then, slice_get}
use Rattle.gomp_types.specs.declared.call.Call.{Call}
use Rattle.gomp_types.specs.declared.call.Call.TheVariants.{Barrier, RegionEnd, Resume}
use Rattle.gomp_types.specs.declared.call.Step.{Step}
use Rattle.gomp_types.specs.declared.limits.Limits.{Limits}
use Rattle.gomp_types.specs.declared.refusal.Place.{Place}
use Rattle.gomp_types.specs.declared.refusal.Refusal.{Refusal}
use Rattle.gomp_types.specs.declared.refusal.Refusal.TheVariants.{Mismatch, NoMemory}
use Rattle.gomp_types.specs.declared.reply.Reply.{Reply}
use Rattle.gomp_types.specs.declared.reply.Reply.TheVariants.{Wait, Refused}
use Rattle.gomp_events.specs.declared.event.Event.{Event}
use Rattle.gomp_types.specs.Limits.{standard, capped_limits, IsTeamSize}
use Rattle.gomp_events.specs.TaskCalls.{first_room}
use Rattle.gomp_locks.specs.Book.{BookView}
use Rattle.gomp_model.specs.Past.{Terms, Waits, no_waits, Past}
use Rattle.gomp_model.specs.Calls.{row_of}
use Rattle.gomp_types.specs.Resumes.{call_meant, is_resume}
use Rattle.gomp_types.specs.Least.{least}
use Rattle.gomp_locks.specs.Holders.{asker, holds_critical}
use Rattle.gomp_model.specs.Team.{Record, row_at, member_tests, refusal_of, past_of, Caused}
use Rattle.gomp_icv.specs.Variables.{Variables}
use Rattle.gomp_board.specs.declared.op.Op.TheVariants.{Break}
use Rattle.gomp_board.specs.Boards.{BoardView, IsSame, Performs}
use Rattle.gomp_dispatch.specs.declared.leaving.Leaving.{Leaving}
use Rattle.gomp_dispatch.specs.Answers.{ServersStand, IsDrained, KeepsStart}
use Rattle.gomp_dispatch.specs.Leaves.{LeavesAs}
use Rattle.gomp_book_calls.specs.Stands.{BookStands, IsKnown}

-- what a team keeps
pub record TeamView (S : Type 0) : Type 0 where
  pub icv : Variables
  -- the limits, the barriers, the tasks and groups, the words of singles, and whether it is broken
  pub board : BoardView
  -- of each member the calls that are not answered whole
  pub waits : List Waits
  -- of each member what it leaves since it has seen that it is cancelled, a share aside
  pub leaving : List Leaving
  -- the critical names and locks
  pub book : BookView
  pub shares : S

-- its size
abbrev pub members_of : {S : Type 0} → TeamView S → ℕ
members_of team = length team.waits

-- the call of a member that its resume would repeat: none of a member that the team does not have
abbrev pub open_call_of : {S : Type 0} → TeamView S → ℕ → Option Call
open_call_of team m = option_and_then (λ waits. waits.open_call) (slice_get team.waits m)

-- what the team was made with
abbrev pub terms_of : {S : Type 0} → TeamView S → Terms
terms_of team = record { members = members_of team; limits = team.board.limits; cancellation = team.icv.cancellation }

-- what a team of this size is made with, by these limits and control variables
abbrev pub terms_by : ℕ → Limits → Variables → Terms
terms_by count limits icv = record { members = count; limits = limits; cancellation = icv.cancellation }

-- what was before the team's next step
abbrev pub past : {S : Type 0} → TeamView S → Record → Past
past team before = past_of (terms_of team) before

-- a team is as the record leaves it
pub record Stands {S : Type 0} (stands : S → List Event → Type 0) (members : S → ℕ) (team : TeamView S) (before : Record) : Type 0 where
  -- every reply of the record has its cause
  pub caused : Caused (terms_of team) before
  -- the shares and the board stand for the record's past
  pub parts_are : ServersStand stands team.shares team.board (past team before)
  -- the book of names and locks does, and knows each name that a call waits for
  pub book_are : BookStands team.book (past team before)
  pub names_known : (m : ℕ) → IsKnown team.book ((past team before).waits m).open_call
  -- of each member the calls that are not answered whole are kept
  pub wait : (m : ℕ) (waits : Waits) → slice_get team.waits m ≡ Some waits → (past team before).waits m ≡ waits
  -- and what it leaves
  pub leave : (m : ℕ) (leaving : Leaving) → slice_get team.leaving m ≡ Some leaving → LeavesAs leaving m (past team before).events
  pub leaving_size : length team.leaving ≡ members_of team
  -- the board keeps the room of each start that waits
  pub waiting_kept : (m : ℕ) (call : Call) → ((past team before).waits m).open_call ≡ Some call → KeepsStart (row_of call) m team.board
  -- it has 1 to 64 members
  pub size : IsTeamSize (members_of team)
  -- no limit is above the standard one
  pub limits_are : capped_limits team.board.limits ≡ team.board.limits
  -- one place for each member in the shares
  pub shares_size : members team.shares ≡ members_of team

-- after each record for which the team stands no test refuses the step
abbrev pub IsUnrefused : {S : Type 0} → (S → List Event → Type 0) → (S → ℕ) → TeamView S → Step → Type 0
IsUnrefused stands members team step = (before : Record) → Stands stands members team before → refusal_of (past team before) step ≡ None

-- no test refuses the member that is made whatever it calls; it waits nowhere, and the task that it executes holds no critical name
pub record IsFree (m : ℕ) (p : Past) : Type 0 where
  pub member : least (member_tests p.terms.members m p.events) ≡ None
  pub quiet : (p.waits m).open_call ≡ None
  pub nameless : holds_critical (asker m p.events) p.events ≡ false

-- a call at which a member waits outside of every share
abbrev pub WaitsOutside : Option Call → Type 0
WaitsOutside waiting = (waiting ≡ Some Barrier) ⊎ (waiting ≡ Some RegionEnd)

-- a member that ends its share by this step was answered before that nothing is left of it, or the share is cancelled
abbrev pub EndsDrained : {S : Type 0} → (S → List Event → Type 0) → TeamView S → Record → Step → Type 0
EndsDrained stands team before step = IsDrained (is_resume step.call) (row_at (past team before) step) stands team.shares step.member

-- a member's mismatch breaks the team on the board
abbrev pub BreaksBoard : BoardView → BoardView → Type 0
BreaksBoard board after = (m : ℕ) × (place : Place) × Performs (Break place 0) m board after (Refused Mismatch)

-- what a step leaves of a team as it was
pub record Keeps {S : Type 0} (team after : TeamView S) (call : Call) (reply : Reply) : Type 0 where
  -- what it was made with
  pub members : members_of after ≡ members_of team
  pub icv : after.icv ≡ team.icv
  pub limits : after.board.limits ≡ team.board.limits
  -- all of it, if the step is refused, neither for want of memory nor so that the team breaks
  pub refused : (refusal : Refusal) → reply ≡ Refused refusal → refusal ≢ Mismatch → refusal ≢ NoMemory → after ≡ team
  -- all but the memory that its board has, if memory is wanting
  pub lacks : reply ≡ Refused NoMemory → (after ≡ record team { board = after.board }) × IsSame team.board after.board
  -- all but the break on its board, if the step breaks it
  pub broken : reply ≡ Refused Mismatch → (after ≡ record team { board = after.board }) × BreaksBoard team.board after.board
  -- and all of it, if a resume waits on
  pub waits : reply ≡ Wait → call ≡ Resume → after ≡ team

-- what a team of this many members is made with, by these control variables, if no limits are given
abbrev pub standard_terms : ℕ → Variables → Terms
standard_terms count icv = terms_by count standard icv

-- a record after which a team that is made with this book stands: nothing happened, nobody waits, the room is a new team's, and the locks are the book's
pub record Begins (terms : Terms) (book : BookView) (before : Record) : Type 0 where
  pub caused : Caused terms before
  pub quiet : (past_of terms before).events ≡ []
  pub nobody : (m : ℕ) → (past_of terms before).waits m ≡ no_waits
  pub room : (past_of terms before).room ≡ first_room terms.members
  pub book_are : BookStands book (past_of terms before)

-- what of a member is not answered whole once a task is started at this call, or at the one that it repeats
abbrev pub suspended_at : Call → Waits → Waits
suspended_at call waits = record { open_call = None; beneath = call_meant call waits.open_call ∷ waits.beneath }
