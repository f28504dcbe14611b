-- What each member leaves after a reply is what the events after it say: the member whose call it is, and every other.
use Rattle.std.proofs.Common.{◌≡◌, ℕ, Bool, Option, Some, None, refl, ◌∙◌, inl, inr}
use Rattle.std.specs.Prelude.{◌⊎◌}
use Rattle.gomp_types.specs.declared.call.Server.{Server}
use Rattle.gomp_dispatch.proofs.Refused.{no_kind_of_book}
use Rattle.gomp_types.specs.Servers.{served_by}
use Rattle.gomp_types.specs.declared.call.Server.TheVariants.{Book}
use Rattle.std.specs.Prelude.{◌≢◌}
use Rattle.gomp_types.specs.declared.call.Call.{Call}
use Rattle.gomp_types.specs.declared.call.Call.TheVariants as calls
use Rattle.gomp_types.specs.declared.key.Key.TheVariants.{Critical}
use Rattle.gomp_types.specs.declared.lock.Held.{Held}
use Rattle.gomp_types.specs.declared.lock.LockKind.TheVariants.{Simple, Nest}
use Rattle.gomp_types.specs.declared.reply.Reply.{Reply}
use Rattle.gomp_types.specs.declared.reply.Reply.TheVariants.{Run, TaskDone, Cancelled, Cancelling, Refused}
use Rattle.gomp_types.specs.declared.task.Owner.{Owner}
use Rattle.gomp_locks.specs.CriticalNames.{EntersCritical}
use Rattle.gomp_locks.specs.Holders.{asker, holder, holding_owner, found_lock}
use Rattle.gomp_locks.specs.Locks.{SetsLock, TestsLock, SetsNest, TestsNest, UnsetsNest}
use Rattle.gomp_model.specs.Past.{Past}
use Rattle.gomp_model.specs.Row.{MayGive, past_given}
use Rattle.gomp_model.specs.Calls.{row_of}
use Rattle.gomp_laws.proofs.Calls.{row_is_sound}
use Rattle.gomp_laws.proofs.Leaving.{others_leave_the_same, quiet_reply_leaves_the_same, starter_leaves_no_task, ender_leaves_no_task, member_answered_cancelled_leaves_the_region}
use Rattle.gomp_dispatch.specs.declared.leaving.Leaving.{Leaving}
use Rattle.gomp_dispatch.specs.Leaves.{LeavesAs, leaving_after}
use Rattle.gomp_dispatch.proofs.LeavesAfter.{leaves_after}

-- No call on a name or a lock is answered that what it names is cancelled

enters_untold : (own : Option Owner) (told : Bool) → EntersCritical own (Cancelling told) → ⊥
enters_untold None told may = may
enters_untold (Some other) told may = may

sets_untold : (found : Option (Option Held)) (told : Bool) → SetsLock found (Cancelling told) → ⊥
sets_untold None told may = may
sets_untold (Some None) told may = may
sets_untold (Some (Some held)) told may = may

tests_untold : (found : Option (Option Held)) (told : Bool) → TestsLock found (Cancelling told) → ⊥
tests_untold None told may = may
tests_untold (Some held) told may = may

sets_nest_untold : (owner : Owner) (found : Option (Option Held)) (told : Bool) → SetsNest owner found (Cancelling told) → ⊥
sets_nest_untold owner None told may = may
sets_nest_untold owner (Some held) told may = may

tests_nest_untold : (owner : Owner) (found : Option (Option Held)) (told : Bool) → TestsNest owner found (Cancelling told) → ⊥
tests_nest_untold owner None told may = may
tests_nest_untold owner (Some held) told may = may

unsets_nest_untold : (owner : Owner) (found : Option (Option Held)) (told : Bool) → UnsetsNest owner found (Cancelling told) → ⊥
unsets_nest_untold owner None told may = may
unsets_nest_untold owner (Some held) told may = may

book_untold : (call : Call) (m : ℕ) (p : Past) (told : Bool) → served_by call ≡ Book → (row_of call).may_reply m p (Cancelling told) → ⊥
book_untold (calls.CriticalStart name) m p told asks may = enters_untold (holding_owner (holder (Critical name) p.events)) told may
book_untold (calls.CriticalEnd name) m p told asks may = cc
book_untold calls.LockInit m p told asks may = may
book_untold calls.NestInit m p told asks may = may
book_untold (calls.LockDestroy number) m p told asks may = cc
book_untold (calls.Set number) m p told asks may = sets_untold (found_lock Simple number p.locks p.events) told may
book_untold (calls.Test number) m p told asks may = tests_untold (found_lock Simple number p.locks p.events) told may
book_untold (calls.Unset number) m p told asks may = cc
book_untold (calls.SetNest number) m p told asks may = sets_nest_untold (asker m p.events) (found_lock Nest number p.locks p.events) told may
book_untold (calls.TestNest number) m p told asks may = tests_nest_untold (asker m p.events) (found_lock Nest number p.locks p.events) told may
book_untold (calls.UnsetNest number) m p told asks may = unsets_nest_untold (asker m p.events) (found_lock Nest number p.locks p.events) told may
book_untold (calls.Cancel kind clause) m p told asks may = no_kind_of_book kind asks
book_untold (calls.Point kind) m p told asks may = no_kind_of_book kind asks
book_untold _ m p told asks may = absurd (cc)

-- The member whose call it is

book_call_leaves : (call : Call) (repeated : Bool) (m : ℕ) (p : Past) (reply : Reply) (leaving : Leaving) → served_by call ≡ Book → MayGive (row_of call) repeated m p reply → LeavesAs leaving m p.events →
    LeavesAs (leaving_after reply call leaving) m (past_given (row_of call) repeated m p reply).events
book_call_leaves call repeated m p (Refused refusal) leaving asks may as_before = as_before
book_call_leaves call repeated m p (Run task code arg own) leaving asks may as_before =
    let none = starter_leaves_no_task (row_of call) (row_is_sound call) repeated m p task code arg own may in record { region = none.0 ∙ as_before.region; task = none.1 }
book_call_leaves call repeated m p (TaskDone task waiting) leaving asks may as_before =
    let none = ender_leaves_no_task (row_of call) (row_is_sound call) repeated m p task waiting may in record { region = none.0 ∙ as_before.region; task = none.1 }
book_call_leaves call repeated m p Cancelled leaving asks may as_before =
    let told = member_answered_cancelled_leaves_the_region (row_of call) (row_is_sound call) repeated m p may in record { region = told.0; task = told.1 ∙ as_before.task }
book_call_leaves call repeated m p (Cancelling told) leaving asks may as_before = absurd (book_untold call m _ told asks may)
book_call_leaves call repeated m p reply leaving asks may as_before =
    let same = quiet_reply_leaves_the_same (row_of call) (row_is_sound call) repeated m m p reply refl refl refl in record { region = same.region ∙ as_before.region; task = same.task ∙ as_before.task }

parts_leave : (call : Call) (repeated : Bool) (m : ℕ) (p : Past) (reply : Reply) (leaving : Leaving) → served_by call ≢ Book → MayGive (row_of call) repeated m p reply → LeavesAs leaving m p.events →
    LeavesAs (leaving_after reply call leaving) m (past_given (row_of call) repeated m p reply).events
parts_leave call repeated m p (Refused refusal) leaving aside may as_before = as_before
parts_leave call repeated m p reply leaving aside may as_before = leaves_after call repeated m p reply leaving aside may as_before

by_book_or_not : (server : Server) → (server ≡ Book) ⊎ (server ≢ Book)
by_book_or_not Book = inl refl
by_book_or_not _ = inr (λ is. absurd (cc))

pub member_leaves : (call : Call) (repeated : Bool) (m : ℕ) (p : Past) (reply : Reply) (leaving : Leaving) → MayGive (row_of call) repeated m p reply → LeavesAs leaving m p.events →
    LeavesAs (leaving_after reply call leaving) m (past_given (row_of call) repeated m p reply).events
member_leaves call repeated m p reply leaving may as_before =
    elim (by_book_or_not (served_by call)) [
      | inl asks ↦ book_call_leaves call repeated m p reply leaving asks may as_before
      | inr aside ↦ parts_leave call repeated m p reply leaving aside may as_before
    ]

-- The others

pub others_leave : (call : Call) (repeated : Bool) (m k : ℕ) (p : Past) (reply : Reply) (leaving : Leaving) → m ≢ k → LeavesAs leaving k p.events → LeavesAs leaving k (past_given (row_of call) repeated m p reply).events
others_leave call repeated m k p (Refused refusal) leaving other as_before = as_before
others_leave call repeated m k p reply leaving other as_before =
    let same = others_leave_the_same (row_of call) (row_is_sound call) repeated m k p reply other in record { region = same.region ∙ as_before.region; task = same.task ∙ as_before.task }
