-- What no call does to a book, of any owner, name, lock, call, reply and book; and what no events do that keep the rules of holds and of names.
use Rattle.std.proofs.Common.{◌≡◌, ◌<◌, ℕ, ◌+◌, true, false, List, [], ◌∷◌, ◌++◌, Option, Some, None, length, arith, inl, inr}
use Rattle.std.specs.Prelude.{slice_get, nat_lt, IsTrue}
use Rattle.gomp_types.specs.declared.task.Owner.{Owner}
use Rattle.gomp_types.specs.declared.task.Task.{Task}
use Rattle.gomp_types.specs.declared.task.Task.TheVariants.{Implicit}
use Rattle.gomp_types.specs.declared.lock.LockKind.{LockKind}
use Rattle.gomp_types.specs.declared.lock.TheConstants.{MAX_COUNT}
use Rattle.gomp_types.specs.declared.lock.Held.{Held}
use Rattle.gomp_types.specs.declared.key.Key.{Key}
use Rattle.gomp_types.specs.declared.key.Key.TheVariants.{Critical}
use Rattle.gomp_events.specs.declared.event.Event.{Event}
use Rattle.gomp_events.specs.declared.event.Event.TheVariants.{Hold, Free, Pass}
use Rattle.gomp_types.specs.declared.reply.Reply.{Reply}
use Rattle.gomp_types.specs.declared.reply.Reply.TheVariants.{Lock as LockMade, Count}
use Rattle.gomp_events.specs.Events.{at_barrier}
use Rattle.gomp_events.specs.Tasks.{contains, task_stack, in_task}
use Rattle.gomp_events.specs.Laws.{Always}
use Rattle.gomp_types.specs.Owners.{same_owner}
use Rattle.gomp_types.proofs.Booleans.{not_both}
use Rattle.gomp_locks.specs.declared.lock.Lock.{Lock}
use Rattle.gomp_locks.specs.Book.{BookView, name_owner, open_holds, held_by}
use Rattle.gomp_locks.specs.Locks.{times_held, SetsNest, WaitsNest}
use Rattle.gomp_locks.specs.Holders.{is_nestable, owner_of, asker, holder, holds_critical}
use Rattle.gomp_locks.specs.HoldRules.{MayFree, HoldRule}
use Rattle.gomp_locks.specs.NameRules.{NameRule}
use Rattle.gomp_locks.specs.HoldLaws.{holds_left, PassesFree}
use Rattle.gomp_locks.specs.BookCalls.{BookCall, CallAnswered, after_call, holds_gained, holds_lost, make_lock}
use Rattle.gomp_locks.specs.Order.{IsInOrder}
use Rattle.gomp_locks.proofs.Laws.{held_name_stays, held_lock_stays, destroyed_lock_stays, number_of_made_lock, made_lock_is_one_more, numbers_never_fall, holds_move_by_reply, new_book_is_in_order, calls_keep_order, waiting_task_sets_a_free_lock, waiting_task_is_answered_as_a_new_one, one_owner_at_each_moment, held_once_at_each_moment, each_frees_its_own, holder_of_names_by_events, open_holds_by_events, held_stays_as_another_holds, held_stays_as_another_frees, explicit_task_asks_for_itself, holder_of_name_has_not_ended, holder_of_name_at_barrier, passes_without_names}
use Rattle.gomp_locks.proofs.Refutations.{never_two_owners, never_held_more_than_once, never_freed_without_an_open_hold}

-- A book

-- no critical name that an owner holds has another owner, or none, by a call of somebody else
pub never_name_lost_to_another : (owner other : Owner) (name : List ℕ) (call : BookCall) (reply : Reply) (book : BookView) → same_owner other owner ≡ false → CallAnswered owner call book reply →
    name_owner name book ≡ Some other → (name_owner name (after_call owner call reply book) ≡ Some other → ⊥) → ⊥
never_name_lost_to_another owner other name call reply book apart answered holds lost = lost (held_name_stays owner other name call reply book apart answered holds)

-- nor is a lock that an owner holds otherwise
pub never_lock_lost_to_another : (owner : Owner) (number : ℕ) (lock : Lock) (held : Held) (call : BookCall) (reply : Reply) (book : BookView) → lock.held ≡ Some held → same_owner held.owner owner ≡ false → CallAnswered owner call book reply →
    slice_get book.locks number ≡ Some (Some lock) → (slice_get (after_call owner call reply book).locks number ≡ Some (Some lock) → ⊥) → ⊥
never_lock_lost_to_another owner number lock held call reply book is apart answered there lost = lost (held_lock_stays owner number lock held call reply book is apart answered there)

-- no lock that was destroyed is there again
pub never_there_once_destroyed : (owner : Owner) (number : ℕ) (lock : Lock) (call : BookCall) (reply : Reply) (book : BookView) → CallAnswered owner call book reply → slice_get book.locks number ≡ Some None →
    slice_get (after_call owner call reply book).locks number ≡ Some (Some lock) → ⊥
never_there_once_destroyed owner number lock call reply book answered gone again = let stays = destroyed_lock_stays owner number call reply book answered gone in absurd (cc)

-- no number is that of two locks
pub never_number_given_twice : (owner : Owner) (kind : LockKind) (number : ℕ) (book : BookView) → number < length book.locks → CallAnswered owner (make_lock kind) book (LockMade number) → ⊥
never_number_given_twice owner kind number book below answered = let next = number_of_made_lock owner kind number book answered in absurd (omega (arith, below, next))

-- and none is left out
pub never_number_left_out : (owner : Owner) (kind : LockKind) (number : ℕ) (book : BookView) → (number ≡ length book.locks → ⊥) → CallAnswered owner (make_lock kind) book (LockMade number) → ⊥
never_number_left_out owner kind number book other answered = other (number_of_made_lock owner kind number book answered)

pub never_made_without_a_place : (owner : Owner) (kind : LockKind) (number : ℕ) (book : BookView) → (length (after_call owner (make_lock kind) (LockMade number) book).locks ≡ length book.locks + 1 → ⊥) → ⊥
never_made_without_a_place owner kind number book none = none (made_lock_is_one_more owner kind number book)

pub never_fewer_places : (owner : Owner) (call : BookCall) (reply : Reply) (book : BookView) → length (after_call owner call reply book).locks < length book.locks → ⊥
never_fewer_places owner call reply book fewer = let least = numbers_never_fall owner call reply book in absurd (omega (arith, fewer, least))

-- no reply adds or ends another number of holds than it says
pub never_other_open_holds : (owner : Owner) (call : BookCall) (reply : Reply) (book : BookView) → IsInOrder book → CallAnswered owner call book reply →
    (open_holds (after_call owner call reply book) + holds_lost call reply ≡ open_holds book + holds_gained call reply → ⊥) → ⊥
never_other_open_holds owner call reply book order answered wrong = wrong (holds_move_by_reply owner call reply book order answered)

-- no new book is out of order
pub never_out_of_order_when_new : (IsInOrder (record { names = []; locks = [] }) → ⊥) → ⊥
never_out_of_order_when_new broken = broken new_book_is_in_order

-- no call brings the book out of order
pub never_out_of_order_by_a_call : (owner : Owner) (call : BookCall) (reply : Reply) (book : BookView) → IsInOrder book → (IsInOrder (after_call owner call reply book) → ⊥) → ⊥
never_out_of_order_by_a_call owner call reply book order broken = broken (calls_keep_order owner call reply book order)

-- no task that waited for a nestable lock, and does not hold it, sets one that is held
pub never_a_held_lock_set_after_a_wait : (owner : Owner) (count : ℕ) (held : Option Held) → held_by owner held ≡ false → (held ≡ None → ⊥) → WaitsNest owner (Some held) (Count count) → ⊥
never_a_held_lock_set_after_a_wait owner count held apart taken waited = taken (waiting_task_sets_a_free_lock owner count held apart waited).0

-- nor sets it more than once
pub never_set_twice_after_a_wait : (owner : Owner) (count : ℕ) (held : Option Held) → held_by owner held ≡ false → (count ≡ 1 → ⊥) → WaitsNest owner (Some held) (Count count) → ⊥
never_set_twice_after_a_wait owner count held apart more waited = more (waiting_task_sets_a_free_lock owner count held apart waited).1

-- nor is it answered otherwise than one that asks for the first time, below the limit
pub never_answered_otherwise_after_a_wait : (owner : Owner) (held : Option Held) (reply : Reply) → nat_lt (times_held owner held) MAX_COUNT ≡ true → SetsNest owner (Some held) reply → (WaitsNest owner (Some held) reply → ⊥) → ⊥
never_answered_otherwise_after_a_wait owner held reply room sets other = other (waiting_task_is_answered_as_a_new_one owner held reply room sets)

-- Events that keep the rules

-- no two owners hold one key at any moment
pub never_two_owners_by_rule : (key : Key) (one other : Owner) (later h : List Event) → 0 < holds_left one key h → 0 < holds_left other key h → (one ≡ other → ⊥) → Always HoldRule (later ++ h) → ⊥
never_two_owners_by_rule key one other later h first second differ all = never_two_owners key one other later h first second differ (one_owner_at_each_moment (later ++ h) all)

-- no owner holds what is no nestable lock twice at any moment
pub never_held_twice_by_rule : (key : Key) (owner : Owner) (later h : List Event) → is_nestable key ≡ false → 1 < holds_left owner key h → Always HoldRule (later ++ h) → ⊥
never_held_twice_by_rule key owner later h single more all = never_held_more_than_once key owner later h single more (held_once_at_each_moment (later ++ h) all)

-- nobody frees that of which it has no open hold
pub never_freed_unheld_by_rule : (key : Key) (m : ℕ) (task : Task) (later h : List Event) → holds_left (owner_of m task) key h ≡ 0 → Always HoldRule (later ++ Free key m task ∷ h) → ⊥
never_freed_unheld_by_rule key m task later h none all = never_freed_without_an_open_hold key m task later h none (each_frees_its_own (later ++ Free key m task ∷ h) all)

-- no owner holds a critical name and is the holder of none
pub never_holder_of_no_name : (owner : Owner) (h : List Event) → IsTrue (holds_critical owner h) → ((name : List ℕ) → held_by owner (holder (Critical name) h) ≡ true → ⊥) → Always HoldRule h → ⊥
never_holder_of_no_name owner h holds none all = let held = (holder_of_names_by_events owner h all).0 holds in none held.0 held.1

-- nor is it the holder of one and holds none
pub never_holds_none_as_holder : (owner : Owner) (name : List ℕ) (h : List Event) → held_by owner (holder (Critical name) h) ≡ true → (IsTrue (holds_critical owner h) → ⊥) → Always HoldRule h → ⊥
never_holds_none_as_holder owner name h held none all = none ((holder_of_names_by_events owner h all).1 (name, held))

-- no owner has another number of open holds than it holds
pub never_other_holds_left : (owner : Owner) (key : Key) (h : List Event) → (holds_left owner key h ≡ times_held owner (holder key h) → ⊥) → Always HoldRule h → ⊥
never_other_holds_left owner key h wrong all = wrong (open_holds_by_events owner key h all)

-- no hold of somebody else changes whether an owner holds a key
pub never_changed_by_anothers_hold : (key other : Key) (owner : Owner) (m : ℕ) (task : Task) (h : List Event) → same_owner (owner_of m task) owner ≡ false →
    (held_by owner (holder key (Hold other m task ∷ h)) ≡ held_by owner (holder key h) → ⊥) → ⊥
never_changed_by_anothers_hold key other owner m task h apart changed = changed (held_stays_as_another_holds key other owner m task h apart)

-- nor does a release of somebody else
pub never_changed_by_anothers_release : (key other : Key) (owner : Owner) (m : ℕ) (task : Task) (h : List Event) → MayFree other m task h → same_owner (owner_of m task) owner ≡ false →
    (held_by owner (holder key (Free other m task ∷ h)) ≡ held_by owner (holder key h) → ⊥) → ⊥
never_changed_by_anothers_release key other owner m task h may apart changed = changed (held_stays_as_another_frees key other owner m task h may apart)

-- no member asks as its implicit task while it executes an explicit one
pub never_asks_as_its_implicit_task : (m : ℕ) (h : List Event) → in_task m h ≡ true → same_owner (asker m h) (owner_of m (Implicit m)) ≡ true → Always NameRule h → ⊥
never_asks_as_its_implicit_task m h inside same names = not_both (same_owner (asker m h) (owner_of m (Implicit m))) same (explicit_task_asks_for_itself m h inside names)

-- no explicit task holds a critical name before its member started it, or after it has ended
pub never_name_held_by_an_ended_task : (name : List ℕ) (held : Held) (h : List Event) → (held.owner.task ≡ 0 → ⊥) → contains held.owner.task (task_stack held.owner.member h) ≡ false →
    holder (Critical name) h ≡ Some held → Always HoldRule h → Always NameRule h → ⊥
never_name_held_by_an_ended_task name held h explicit ended is holds names = elim (holder_of_name_has_not_ended name held h holds names is) [
  | inl implicit ↦ explicit implicit
  | inr runs ↦ not_both (contains held.owner.task (task_stack held.owner.member h)) runs ended
]

-- and while a member waits at a barrier no other task of it holds one, nor does its implicit task
pub never_name_held_at_a_barrier_outside : (name : List ℕ) (held : Held) (h : List Event) → at_barrier held.owner.member h ≡ true → contains held.owner.task (task_stack held.owner.member h) ≡ false →
    holder (Critical name) h ≡ Some held → Always HoldRule h → Always NameRule h → ⊥
never_name_held_at_a_barrier_outside name held h waits ended is holds names =
    not_both (contains held.owner.task (task_stack held.owner.member h)) (holder_of_name_at_barrier name held h holds names waits is) ended

-- no member that waits at a barrier, in no task, is kept from passing by a name
pub never_kept_at_a_barrier_by_a_name : (barrier m : ℕ) (earlier : List Event) → in_task m earlier ≡ false → at_barrier m earlier ≡ true → Always HoldRule earlier → Always NameRule earlier → (PassesFree (Pass barrier m) earlier → ⊥) → ⊥
never_kept_at_a_barrier_by_a_name barrier m earlier outside waits holds names kept = kept (passes_without_names barrier m earlier outside waits holds names)
