-- No call on a name or a lock is answered that what it names is cancelled.
use Rattle.std.proofs.Common.{◌≡◌, ℕ, Bool, Option, Some, None}
use Rattle.gomp_types.specs.declared.call.Call.{Call}
use Rattle.gomp_types.specs.declared.call.Call.TheVariants as calls
use Rattle.gomp_types.specs.declared.call.Server.TheVariants.{Book}
use Rattle.gomp_types.specs.declared.key.Key.TheVariants.{Critical}
use Rattle.gomp_types.specs.declared.lock.Held.{Held}
use Rattle.gomp_types.specs.declared.lock.LockKind.TheVariants.{Simple, Nest}
use Rattle.gomp_types.specs.declared.reply.Reply.TheVariants.{Cancelling}
use Rattle.gomp_types.specs.declared.task.Owner.{Owner}
use Rattle.gomp_types.specs.Servers.{served_by}
use Rattle.gomp_locks.specs.CriticalNames.{EntersCritical}
use Rattle.gomp_locks.specs.Holders.{asker, holder, holding_owner, found_lock}
use Rattle.gomp_locks.specs.Locks.{SetsLock, TestsLock, SetsNest, TestsNest, UnsetsNest}
use Rattle.gomp_model.specs.Past.{Past}
use Rattle.gomp_model.specs.Calls.{row_of}
use Rattle.gomp_dispatch.proofs.Refused.{no_kind_of_book}

entry_tells_of_none : (own : Option Owner) (told : Bool) → EntersCritical own (Cancelling told) → ⊥
entry_tells_of_none None told may = may
entry_tells_of_none (Some other) told may = may

set_tells_of_none : (found : Option (Option Held)) (told : Bool) → SetsLock found (Cancelling told) → ⊥
set_tells_of_none None told may = may
set_tells_of_none (Some None) told may = may
set_tells_of_none (Some (Some held)) told may = may

test_tells_of_none : (found : Option (Option Held)) (told : Bool) → TestsLock found (Cancelling told) → ⊥
test_tells_of_none None told may = may
test_tells_of_none (Some held) told may = may

nest_set_tells_of_none : (owner : Owner) (found : Option (Option Held)) (told : Bool) → SetsNest owner found (Cancelling told) → ⊥
nest_set_tells_of_none owner None told may = may
nest_set_tells_of_none owner (Some held) told may = may

nest_test_tells_of_none : (owner : Owner) (found : Option (Option Held)) (told : Bool) → TestsNest owner found (Cancelling told) → ⊥
nest_test_tells_of_none owner None told may = may
nest_test_tells_of_none owner (Some held) told may = may

nest_unset_tells_of_none : (owner : Owner) (found : Option (Option Held)) (told : Bool) → UnsetsNest owner found (Cancelling told) → ⊥
nest_unset_tells_of_none owner None told may = may
nest_unset_tells_of_none owner (Some held) told may = may

pub book_tells_of_no_cancellation : (call : Call) (m : ℕ) (p : Past) (told : Bool) → served_by call ≡ Book → (row_of call).may_reply m p (Cancelling told) → ⊥
book_tells_of_no_cancellation (calls.CriticalStart name) m p told asks may = entry_tells_of_none (holding_owner (holder (Critical name) p.events)) told may
book_tells_of_no_cancellation (calls.CriticalEnd name) m p told asks may = cc
book_tells_of_no_cancellation calls.LockInit m p told asks may = may
book_tells_of_no_cancellation calls.NestInit m p told asks may = may
book_tells_of_no_cancellation (calls.LockDestroy number) m p told asks may = cc
book_tells_of_no_cancellation (calls.Set number) m p told asks may = set_tells_of_none (found_lock Simple number p.locks p.events) told may
book_tells_of_no_cancellation (calls.Test number) m p told asks may = test_tells_of_none (found_lock Simple number p.locks p.events) told may
book_tells_of_no_cancellation (calls.Unset number) m p told asks may = cc
book_tells_of_no_cancellation (calls.SetNest number) m p told asks may = nest_set_tells_of_none (asker m p.events) (found_lock Nest number p.locks p.events) told may
book_tells_of_no_cancellation (calls.TestNest number) m p told asks may = nest_test_tells_of_none (asker m p.events) (found_lock Nest number p.locks p.events) told may
book_tells_of_no_cancellation (calls.UnsetNest number) m p told asks may = nest_unset_tells_of_none (asker m p.events) (found_lock Nest number p.locks p.events) told may
book_tells_of_no_cancellation (calls.Cancel kind clause) m p told asks may = no_kind_of_book kind asks
book_tells_of_no_cancellation (calls.Point kind) m p told asks may = no_kind_of_book kind asks
book_tells_of_no_cancellation _ m p told asks may = absurd (cc)
