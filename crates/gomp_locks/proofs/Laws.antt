-- The laws of critical names and locks: the page to read first. They speak of one call by one owner, its reply, and the book
-- before and after it (BookCalls); the last section speaks of the events of a team. OpenMP API 5.2, sections 15.2 and 18.9.
use Rattle.std.proofs.Common.{◌≡◌, ◌≤◌, ℕ, ◌+◌, ◌<◌, true, false, List, [], ◌∷◌, Option, Some, None, length}
use Rattle.std.specs.Prelude.{slice_get, bytes_eq, nat_lt, IsTrue, ◌↔◌, ◌⊎◌}
use Rattle.std.proofs.lemmas.List.{length_push}
use Rattle.std.specs.Option.{option_flatten}
use Rattle.std.specs.Ordering.{nat_cmp}
use Rattle.std.specs.Cmp.Lexicographic.{slice_cmp}
use Rattle.std.specs.List.Sorted.{IsStrictlySortedBy}
use Rattle.std.specs.Map.{lookup, keys_of}
use Rattle.gomp_types.specs.declared.task.Task.{Task}
use Rattle.gomp_types.specs.declared.task.Task.TheVariants.{Implicit}
use Rattle.gomp_types.specs.declared.task.Owner.{Owner}
use Rattle.gomp_types.specs.declared.lock.LockKind.{LockKind}
use Rattle.gomp_types.specs.declared.lock.TheConstants.{MAX_COUNT}
use Rattle.gomp_types.specs.declared.lock.Held.{Held}
use Rattle.gomp_types.specs.declared.key.Key.{Key}
use Rattle.gomp_types.specs.declared.key.Key.TheVariants.{Critical}
use Rattle.gomp_events.specs.declared.event.Event.{Event}
use Rattle.gomp_events.specs.declared.event.Event.TheVariants.{Hold, Free, Pass}
use Rattle.gomp_types.specs.declared.reply.Reply.{Reply}
use Rattle.gomp_types.specs.declared.reply.Reply.TheVariants.{Lock as LockMade, Count}
use Rattle.gomp_events.specs.Events.{at_barrier}
use Rattle.gomp_events.specs.Tasks.{contains, task_stack, in_task}
use Rattle.gomp_events.specs.Laws.{Always}
use Rattle.gomp_types.specs.Owners.{same_owner}
use Rattle.gomp_events.proofs.Always.{always_so}
use Rattle.gomp_locks.specs.declared.lock.Lock.{Lock}
use Rattle.gomp_locks.specs.Book.{BookView, name_owner, owned_by, names_held, open_holds, held_by}
use Rattle.gomp_locks.specs.Locks.{times_held, SetsNest, WaitsNest}
use Rattle.gomp_locks.specs.Holders.{owner_of, asker, holder, holds_critical}
use Rattle.gomp_locks.specs.HoldRules.{MayFree, HoldRule}
use Rattle.gomp_locks.specs.NameRules.{NameRule}
use Rattle.gomp_locks.specs.HoldLaws.{holds_left, AtEachMoment, OneOwner, HeldOnce, FreesItsOwn, PassesFree}
use Rattle.gomp_locks.specs.BookCalls.{BookCall, CallAnswered, after_call, holds_gained, holds_lost, make_lock}
use Rattle.gomp_locks.specs.Order.{IsInOrder}
use Rattle.gomp_locks.proofs.CallLemmas.{barred_stays, no_fewer_locks, another_owners_name}
use Rattle.gomp_locks.proofs.CountLemmas.{some_are_held}
use Rattle.gomp_locks.proofs.HoldsKeep.{held_by_another_stays_held, held_by_another_stays_freed, name_is_held, critical_name_held, holds_left_is_count, one_owner_holds, held_once_holds, frees_its_own}
use Rattle.gomp_locks.proofs.NamesKeep.{asker_within, name_owner_not_ended, name_owner_at_barrier, passes_free_holds}
use Rattle.gomp_locks.proofs.NestLemmas.{waits_as_set, waited_sets_once}
use Rattle.gomp_locks.proofs.OpenHolds.{holds_move}
use Rattle.gomp_locks.proofs.OrderLemmas.{new_in_order, call_keeps_order}
use Rattle.gomp_locks.proofs.OwnerLemmas.{one_that_is_held}

-- What another owner holds

-- a critical name that an owner holds stays its name, whatever another owner calls
pub held_name_stays : (owner other : Owner) (name : List ℕ) (call : BookCall) (reply : Reply) (book : BookView) → same_owner other owner ≡ false → CallAnswered owner call book reply →
    name_owner name book ≡ Some other → name_owner name (after_call owner call reply book) ≡ Some other
held_name_stays = another_owners_name

-- a lock that an owner holds stays as it is, its kind, its owner and its count, whatever another owner calls
pub held_lock_stays : (owner : Owner) (number : ℕ) (lock : Lock) (held : Held) (call : BookCall) (reply : Reply) (book : BookView) → lock.held ≡ Some held → same_owner held.owner owner ≡ false → CallAnswered owner call book reply →
    slice_get book.locks number ≡ Some (Some lock) → slice_get (after_call owner call reply book).locks number ≡ Some (Some lock)
held_lock_stays owner number lock held call reply book is other answered at = barred_stays owner number (Some lock) call reply book (held, is, other) answered at

-- The numbers of locks

-- a lock that was destroyed is not there again, whatever anybody calls
pub destroyed_lock_stays : (owner : Owner) (number : ℕ) (call : BookCall) (reply : Reply) (book : BookView) → CallAnswered owner call book reply →
    slice_get book.locks number ≡ Some None → slice_get (after_call owner call reply book).locks number ≡ Some None
destroyed_lock_stays owner number call reply book answered at = barred_stays owner number None call reply book tt answered at

-- a lock's number is that of the places there are
pub number_of_made_lock : (owner : Owner) (kind : LockKind) (number : ℕ) (book : BookView) → CallAnswered owner (make_lock kind) book (LockMade number) → number ≡ length book.locks
number_of_made_lock owner kind number book answered = answered.1

-- with it there is one place more, and no call makes them fewer: so numbers rise
pub made_lock_is_one_more : (owner : Owner) (kind : LockKind) (number : ℕ) (book : BookView) → length (after_call owner (make_lock kind) (LockMade number) book).locks ≡ length book.locks + 1
made_lock_is_one_more owner kind number book = length_push book.locks (Some (record { kind = kind; held = None }))

pub numbers_never_fall : (owner : Owner) (call : BookCall) (reply : Reply) (book : BookView) → length book.locks ≤ length (after_call owner call reply book).locks
numbers_never_fall = no_fewer_locks

-- Open holds: how many names and locks are held, a nestable lock as often as it is set

-- a call adds one hold or ends one, as its reply says, or none: the start of a name and the setting of a lock add one, also one
-- that is tested and got and one more of a nestable lock; their ends, and each unsetting, end one (holds_gained, holds_lost)
pub holds_move_by_reply : (owner : Owner) (call : BookCall) (reply : Reply) (book : BookView) → IsInOrder book → CallAnswered owner call book reply →
    open_holds (after_call owner call reply book) + holds_lost call reply ≡ open_holds book + holds_gained call reply
holds_move_by_reply = holds_move

-- the book is in order from the first call on
pub new_book_is_in_order : IsInOrder (record { names = []; locks = [] })
new_book_is_in_order = new_in_order

pub calls_keep_order : (owner : Owner) (call : BookCall) (reply : Reply) (book : BookView) → IsInOrder book → IsInOrder (after_call owner call reply book)
calls_keep_order = call_keeps_order

-- Waits that go on

-- a task that waits for a nestable lock and does not hold it sets it once, when nobody holds it
pub waiting_task_sets_a_free_lock : (owner : Owner) (count : ℕ) (held : Option Held) → held_by owner held ≡ false → WaitsNest owner (Some held) (Count count) → (held ≡ None) × (count ≡ 1)
waiting_task_sets_a_free_lock = waited_sets_once

-- and it is answered as a task that asks for the lock for the first time, below the limit of counts
pub waiting_task_is_answered_as_a_new_one : (owner : Owner) (held : Option Held) (reply : Reply) → nat_lt (times_held owner held) MAX_COUNT ≡ true → SetsNest owner (Some held) reply → WaitsNest owner (Some held) reply
waiting_task_is_answered_as_a_new_one = waits_as_set

-- How many names an owner holds

-- an owner holds some names exactly if there is a name that it holds
pub holder_of_names_holds_one : (owner : Owner) (names : List (List ℕ × Option Owner)) → IsStrictlySortedBy (slice_cmp nat_cmp) (keys_of names) →
    (0 < names_held owner names) ↔ ((name : List ℕ) × (owned_by owner (option_flatten (lookup (bytes_eq name) names)) ≡ true))
holder_of_names_holds_one owner names sorted = (one_that_is_held owner names sorted, (λ held. some_are_held owner held.0 names sorted held.1))

-- By events: what happened in a team says who holds what (specs/Holders.antt), if each hold and each release keeps the rule
-- (specs/HoldRules.antt)

-- a critical name, a simple lock and a nestable lock have one owner at each moment
pub one_owner_at_each_moment : (h : List Event) → Always HoldRule h → AtEachMoment OneOwner h
one_owner_at_each_moment = one_owner_holds

-- a critical name and a simple lock are held at most once at each moment
pub held_once_at_each_moment : (h : List Event) → Always HoldRule h → AtEachMoment HeldOnce h
held_once_at_each_moment = held_once_holds

-- each release is by the owner of an open hold
pub each_frees_its_own : (h : List Event) → Always HoldRule h → Always FreesItsOwn h
each_frees_its_own = always_so HoldRule FreesItsOwn frees_its_own

-- an owner holds a critical name exactly if it is the holder of one
pub holder_of_names_by_events : (owner : Owner) (h : List Event) → Always HoldRule h → IsTrue (holds_critical owner h) ↔ ((name : List ℕ) × (held_by owner (holder (Critical name) h) ≡ true))
holder_of_names_by_events owner h all = (critical_name_held owner h all, (λ held. name_is_held owner held.0 h all held.1))

-- an owner has as many open holds of a name or a lock as it is held by it
pub open_holds_by_events : (owner : Owner) (key : Key) (h : List Event) → Always HoldRule h → holds_left owner key h ≡ times_held owner (holder key h)
open_holds_by_events = holds_left_is_count

-- whether an owner holds it does not change by a hold or a release of another, also of another task of its member
pub held_stays_as_another_holds : (key other : Key) (owner : Owner) (m : ℕ) (task : Task) (h : List Event) → same_owner (owner_of m task) owner ≡ false → held_by owner (holder key (Hold other m task ∷ h)) ≡ held_by owner (holder key h)
held_stays_as_another_holds key other = held_by_another_stays_held other key

pub held_stays_as_another_frees : (key other : Key) (owner : Owner) (m : ℕ) (task : Task) (h : List Event) → MayFree other m task h → same_owner (owner_of m task) owner ≡ false → held_by owner (holder key (Free other m task ∷ h)) ≡ held_by owner (holder key h)
held_stays_as_another_frees key other = held_by_another_stays_freed other key

-- With the rule of critical names too (specs/NameRules.antt)

-- a member that executes an explicit task is another owner than its implicit task
pub explicit_task_asks_for_itself : (m : ℕ) (h : List Event) → in_task m h ≡ true → Always NameRule h → same_owner (asker m h) (owner_of m (Implicit m)) ≡ false
explicit_task_asks_for_itself = asker_within

-- who holds a critical name is its member's implicit task, or one that the member has started and not ended
pub holder_of_name_has_not_ended : (name : List ℕ) (held : Held) (h : List Event) → Always HoldRule h → Always NameRule h → holder (Critical name) h ≡ Some held → (held.owner.task ≡ 0) ⊎ (contains held.owner.task (task_stack held.owner.member h) ≡ true)
holder_of_name_has_not_ended = name_owner_not_ended

-- and while that member waits at a barrier one of the latter
pub holder_of_name_at_barrier : (name : List ℕ) (held : Held) (h : List Event) → Always HoldRule h → Always NameRule h → at_barrier held.owner.member h ≡ true → holder (Critical name) h ≡ Some held → contains held.owner.task (task_stack held.owner.member h) ≡ true
holder_of_name_at_barrier = name_owner_at_barrier

-- so a member that executes none of them as it waits holds no critical name in any of its tasks, and may pass
pub passes_without_names : (barrier m : ℕ) (earlier : List Event) → in_task m earlier ≡ false → at_barrier m earlier ≡ true → Always HoldRule earlier → Always NameRule earlier → PassesFree (Pass barrier m) earlier
passes_without_names = passes_free_holds
