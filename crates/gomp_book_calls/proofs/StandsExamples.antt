-- Which book stands for which past, which replies may be given and what they leave, computed: for each clause what it alone refuses. (own)
use Rattle.std.proofs.Common.{◌≡◌, ◌==◌, ℕ, Bool, true, false, List, [], ◌∷◌, Option, Some, None, suc, zero, refl, ap, sym, subst, arith, inl, inr}
use Rattle.std.specs.Prelude.{◌≤◌, slice_get, option_map, bytes_eq, IsSome}
use Rattle.std.specs.Option.{option_flatten}
use Rattle.std.proofs.lemmas.Bool.{cases_Bool}
use Rattle.std.proofs.lemmas.Bool.Decides.{nat_tests}
use Rattle.gomp_types.specs.declared.task.Owner.{Owner}
use Rattle.gomp_types.specs.declared.call.Call.TheVariants.{CriticalStart, Set}
use Rattle.gomp_types.specs.declared.key.Key.TheVariants.{Critical, Lock, NestLock}
use Rattle.gomp_events.specs.declared.event.Event.{Event}
use Rattle.gomp_events.specs.declared.event.Event.TheVariants.{Hold, Free, Start}
use Rattle.gomp_types.specs.declared.task.Task.TheVariants.{Implicit, Explicit}
use Rattle.gomp_events.specs.Laws.{Always}
use Rattle.gomp_events.specs.Tasks.{executed_task}
use Rattle.gomp_types.specs.declared.lock.LockKind.{LockKind}
use Rattle.gomp_types.specs.declared.lock.LockKind.TheVariants.{Simple, Nest}
use Rattle.gomp_types.specs.declared.refusal.Refusal.TheVariants.{NoMemory, AlreadyHeld}
use Rattle.gomp_types.specs.declared.reply.Reply.TheVariants.{Finished, Wait, Lock as LockMade, Stopped, Refused}
use Rattle.gomp_types.specs.declared.reply.Reply.{Reply}
use Rattle.gomp_locks.specs.declared.lock.Lock.{Lock as LockKept}
use Rattle.gomp_locks.specs.Book.{BookView, name_at, name_owner, with_name, same_lock_kind, holds_of_lock}
use Rattle.gomp_locks.specs.Holders.{asker, key_of, holder, holding_owner}
use Rattle.gomp_locks.specs.HoldRules.{HoldRule}
use Rattle.gomp_locks.proofs.OwnerLemmas.{one_name}
use Rattle.gomp_locks.proofs.BookExamples.{zero_owner, other_owner, task_owner}
use Rattle.gomp_locks.proofs.HolderExamples.{short_name, other_name, hold_by, held_so, after_events}
use Rattle.gomp_model.specs.Past.{Past, no_waits}
use Rattle.gomp_model.specs.CriticalNames.{was_name_held, critical_start_row, critical_end_row}
use Rattle.gomp_model.specs.Locks.{init_row, set_row, destroy_row}
use Rattle.gomp_model.specs.Row.{MayGive, past_given}
use Rattle.gomp_model.specs.Admits.{BookAdmits}
use Rattle.gomp_book_calls.specs.Stands.{lock_held, BookStands, IsKnown, BookReply}

-- member 0 holds the name 'a', and member 1 has set nestable lock 1 twice
abbrev in_use : List Event
in_use = after_events (hold_by 0 (Critical short_name) ∷ hold_by 1 (NestLock 1) ∷ hold_by 1 (NestLock 1) ∷ [])

-- the past of a team of two with these events and locks
abbrev past_so : List Event → List (Option LockKind) → Past
past_so h kinds = record {
  terms = record { members = 2; limits = record { shares = 131064; tasks = 1048576; events = 16777216 }; cancellation = false };
  events = h;
  waits = λ m. no_waits;
  room = 5;
  locks = kinds;
}

-- lock 0 is simple, lock 1 nestable, and lock 2 was destroyed
abbrev past_in_use : Past
past_in_use = past_so in_use (Some Simple ∷ Some Nest ∷ None ∷ [])

-- the book that is so
abbrev book_in_use : BookView
book_in_use = record {
  names = (short_name, Some zero_owner) ∷ [];
  locks = Some (record { kind = Simple; held = None }) ∷ Some (record { kind = Nest; held = held_so other_owner 2 }) ∷ None ∷ [];
}

-- a lock of a place as these events hold it: free, set twice, destroyed
pub locks_as_held :
    (lock_held 0 in_use (Some Simple) ≡ Some (record { kind = Simple; held = None })) × (lock_held 1 in_use (Some Nest) ≡ Some (record { kind = Nest; held = held_so other_owner 2 }))
    × (lock_held 1 in_use (Some Simple) ≡ Some (record { kind = Simple; held = None })) × (lock_held 1 in_use None ≡ None)
locks_as_held = (refl, refl, refl, refl)

-- the number of the member that owns a name
abbrev member_of_owner : Option Owner → ℕ
member_of_owner None = 0
member_of_owner (Some owner) = owner.member

-- whether a nestable lock stands in a place, and how often a lock there is held
abbrev is_nest_lock : Option (Option LockKept) → Bool
is_nest_lock (Some (Some lock)) = same_lock_kind lock.kind Nest
is_nest_lock _ = false

abbrev held_count : Option (Option LockKept) → ℕ
held_count place = holds_of_lock (option_flatten place)

-- The names of a book that stands have their owners

pub owned_by_another : BookStands (record book_in_use { names = (short_name, Some other_owner) ∷ [] }) past_in_use → ⊥
owned_by_another stands = absurd (let owner : 1 ≡ 0 = ap member_of_owner (stands.names short_name) in omega (arith, owner))

pub held_name_free : BookStands (record book_in_use { names = (short_name, None) ∷ [] }) past_in_use → ⊥
held_name_free stands = absurd (let owner = stands.names short_name in cc)

pub other_name_held : BookStands (record book_in_use { names = (short_name, Some zero_owner) ∷ (other_name, Some zero_owner) ∷ [] }) past_in_use → ⊥
other_name_held stands = absurd (let owner = stands.names other_name in cc)

-- Its locks are there, each of its kind and held so

abbrev with_locks : List (Option LockKept) → BookView
with_locks locks = record book_in_use { locks = locks }

pub lock_is_missing : BookStands (with_locks (Some (record { kind = Simple; held = None }) ∷ Some (record { kind = Nest; held = held_so other_owner 2 }) ∷ [])) past_in_use → ⊥
lock_is_missing stands = absurd (let lock = stands.locks 2 in cc)

pub lock_is_destroyed : BookStands (with_locks (None ∷ Some (record { kind = Nest; held = held_so other_owner 2 }) ∷ None ∷ [])) past_in_use → ⊥
lock_is_destroyed stands = absurd (let lock = stands.locks 0 in cc)

pub lock_too_many : BookStands (with_locks (Some (record { kind = Simple; held = None }) ∷ Some (record { kind = Nest; held = held_so other_owner 2 }) ∷ None ∷ None ∷ [])) past_in_use → ⊥
lock_too_many stands = absurd (let lock = stands.locks 3 in cc)

pub lock_of_wrong_kind : BookStands (with_locks (Some (record { kind = Nest; held = None }) ∷ Some (record { kind = Nest; held = held_so other_owner 2 }) ∷ None ∷ [])) past_in_use → ⊥
lock_of_wrong_kind stands = absurd (let kind : true ≡ false = ap is_nest_lock (stands.locks 0) in cc)

pub count_off_by_one : BookStands (with_locks (Some (record { kind = Simple; held = None }) ∷ Some (record { kind = Nest; held = held_so other_owner 1 }) ∷ None ∷ [])) past_in_use → ⊥
count_off_by_one stands = absurd (let count : 1 ≡ 2 = ap held_count (stands.locks 1) in omega (arith, count))

-- Nobody holds a lock that was not made

pub held_lock_unmade : BookStands (record { names = []; locks = [] }) (past_so (after_events (hold_by 0 (Lock 3) ∷ [])) []) → ⊥
held_lock_unmade stands = absurd (let none = stands.unmade Simple 3 (omega arith) in cc)

pub held_nest_unmade : BookStands (record { names = []; locks = Some (record { kind = Simple; held = None }) ∷ [] }) (past_so (after_events (hold_by 0 (NestLock 1) ∷ [])) (Some Simple ∷ [])) → ⊥
held_nest_unmade stands = absurd (let none = stands.unmade Nest 1 (omega arith) in cc)

-- It knows each name that was started, also one that nobody holds any more

pub started_name_unknown : BookStands (record { names = []; locks = [] }) (past_so (after_events (hold_by 0 (Critical short_name) ∷ Free (Critical short_name) 0 (Implicit 0) ∷ [])) []) → ⊥
started_name_unknown stands = absurd (let known = stands.started short_name refl in cc)

-- All this holds of the book that is so

-- the one name that was started is known
started_is_known : (name : List ℕ) → was_name_held name in_use ≡ true → IsSome (name_at name book_in_use)
started_is_known name is = elim (cases_Bool (bytes_eq short_name name)) [
  | inl same ↦ rw (← one_name short_name name same) refl
  | inr apart ↦ absurd (let never = rw apart at is in cc)
]

-- 'a' has its owner, and no other name has one
is_one_name : (name : List ℕ) → name_owner name book_in_use ≡ holding_owner (holder (Critical name) in_use)
is_one_name name = elim (cases_Bool (bytes_eq name short_name)) [
  | inl e ↦ rw (one_name name short_name e) refl
  | inr e ↦ elim (cases_Bool (bytes_eq short_name name)) [
    | inl other ↦ absurd (let no : true ≡ false = subst (λ (n : List ℕ). bytes_eq n short_name ≡ false) (sym (one_name short_name name other)) e in cc)
    | inr other ↦ rw (e, other) refl
  ]
]

places_in_use : (number : ℕ) → slice_get book_in_use.locks number ≡ option_map (lock_held number in_use) (slice_get past_in_use.locks number)
places_in_use zero = refl
places_in_use (suc zero) = refl
places_in_use (suc (suc zero)) = refl
places_in_use (suc (suc (suc number))) = refl

unmade_in_use : (kind : LockKind) (number : ℕ) → 3 ≤ number → holder (key_of kind number) in_use ≡ None
unmade_in_use Simple number more = refl
unmade_in_use Nest number more = let other : (1 == number) ≡ false = grind (arith, nat_tests, more) in rw other refl

pub book_stands_in_use : BookStands book_in_use past_in_use
book_stands_in_use = record { names = is_one_name; locks = places_in_use; unmade = unmade_in_use; started = started_is_known }

-- What a call that waits waits for is known

pub nothing_to_know : IsKnown book_in_use None × IsKnown book_in_use (Some (Set 7))
nothing_to_know = (tt, λ name same. absurd (cc))

pub unknown_name : IsKnown book_in_use (Some (CriticalStart other_name)) → ⊥
unknown_name known = absurd (let is = known other_name refl in cc)

-- Want of memory is a reply where a call may find none, and there alone

pub held_call_may_lack_memory : MayGive (critical_start_row other_name) false 1 past_in_use (Refused NoMemory) × MayGive (init_row Nest) false 1 past_in_use (Refused NoMemory)
held_call_may_lack_memory = (refl, refl)

pub held_call_never_lacks_memory : MayGive (set_row 0) false 1 past_in_use (Refused NoMemory) → ⊥
held_call_never_lacks_memory may = absurd (cc)

-- another reply is one that the row has: a held name is waited for, and no free one is
pub replies_of_rows :
    MayGive (critical_start_row short_name) false 1 past_in_use Wait × MayGive (critical_start_row other_name) false 1 past_in_use Finished
    × (MayGive (critical_start_row short_name) false 1 past_in_use Finished → ⊥) × (MayGive (set_row 0) false 1 past_in_use (Refused AlreadyHeld) → ⊥)
replies_of_rows = (tt, tt, λ may. may, λ may. may)

-- A refusal leaves the past, and another reply its events and locks

pub past_left_by_refusal : past_given (critical_start_row other_name) false 1 past_in_use (Refused NoMemory) ≡ past_in_use
past_left_by_refusal = refl

pub lock_set_after_call : past_given (set_row 0) false 1 past_in_use Finished ≡ record past_in_use { events = hold_by 1 (Lock 0) ∷ in_use }
lock_set_after_call = refl

pub lock_made_after_call : past_given (init_row Nest) false 1 past_in_use (LockMade 3) ≡ record past_in_use { locks = Some Simple ∷ Some Nest ∷ None ∷ Some Nest ∷ [] }
lock_made_after_call = refl

pub lock_gone_after_call : past_given (destroy_row 0) false 1 past_in_use Finished ≡ record past_in_use { locks = None ∷ Some Nest ∷ None ∷ [] }
lock_gone_after_call = refl

-- A member with two tasks: its implicit task holds the name 'a', and task 1, which it executes now, has set lock 0

abbrev two_tasks : List Event
two_tasks = after_events (hold_by 0 (Critical short_name) ∷ Start 1 0 ∷ Hold (Lock 0) 0 (Explicit 1) ∷ [])

abbrev past_of_two_tasks : Past
past_of_two_tasks = past_so two_tasks (Some Simple ∷ [])

abbrev book_of_two_tasks : BookView
book_of_two_tasks = record { names = (short_name, Some zero_owner) ∷ []; locks = Some (record { kind = Simple; held = held_so task_owner 1 }) ∷ [] }

-- task 1 asks
pub asked_by_task_one : (executed_task 0 two_tasks ≡ Explicit 1) × (asker 0 two_tasks ≡ task_owner)
asked_by_task_one = (refl, refl)

-- the number of the task that owns a name, or that holds a lock
abbrev task_of_owner : Option Owner → ℕ
task_of_owner None = 0
task_of_owner (Some owner) = owner.task

abbrev task_of_lock : Option (Option LockKept) → ℕ
task_of_lock (Some (Some lock)) = task_of_owner (holding_owner lock.held)
task_of_lock _ = 0

pub name_of_the_other_task : BookStands (record book_of_two_tasks { names = (short_name, Some task_owner) ∷ [] }) past_of_two_tasks → ⊥
name_of_the_other_task stands = absurd (let task : 1 ≡ 0 = ap task_of_owner (stands.names short_name) in omega (arith, task))

pub lock_of_the_other_task : BookStands (record book_of_two_tasks { locks = Some (record { kind = Simple; held = held_so zero_owner 1 }) ∷ [] }) past_of_two_tasks → ⊥
lock_of_the_other_task stands = absurd (let task : 0 ≡ 1 = ap task_of_lock (stands.locks 0) in omega (arith, task))

-- the book as it is
names_of_two_tasks : (name : List ℕ) → name_owner name book_of_two_tasks ≡ holding_owner (holder (Critical name) two_tasks)
names_of_two_tasks name = elim (cases_Bool (bytes_eq name short_name)) [
  | inl e ↦ rw (one_name name short_name e) refl
  | inr e ↦ elim (cases_Bool (bytes_eq short_name name)) [
    | inl other ↦ absurd (let no : true ≡ false = subst (λ (n : List ℕ). bytes_eq n short_name ≡ false) (sym (one_name short_name name other)) e in cc)
    | inr other ↦ rw (e, other) refl
  ]
]

locks_of_two_tasks : (number : ℕ) → slice_get book_of_two_tasks.locks number ≡ option_map (lock_held number two_tasks) (slice_get past_of_two_tasks.locks number)
locks_of_two_tasks zero = refl
locks_of_two_tasks (suc number) = refl

unmade_of_two_tasks : (kind : LockKind) (number : ℕ) → 1 ≤ number → holder (key_of kind number) two_tasks ≡ None
unmade_of_two_tasks Simple number more = let other : (0 == number) ≡ false = grind (arith, nat_tests, more) in rw other refl
unmade_of_two_tasks Nest number more = refl

started_of_two_tasks : (name : List ℕ) → was_name_held name two_tasks ≡ true → IsSome (name_at name book_of_two_tasks)
started_of_two_tasks name is = elim (cases_Bool (bytes_eq short_name name)) [
  | inl same ↦ rw (← one_name short_name name same) refl
  | inr apart ↦ absurd (let never = rw apart at is in cc)
]

pub book_of_two_tasks_stands : BookStands book_of_two_tasks past_of_two_tasks
book_of_two_tasks_stands = record { names = names_of_two_tasks; locks = locks_of_two_tasks; unmade = unmade_of_two_tasks; started = started_of_two_tasks }

-- When the book admits a call: for each line what it alone refuses

-- task 1 may start the name 'b'
pub other_name_is_admitted : BookAdmits (critical_start_row other_name) false 0 past_of_two_tasks
other_name_is_admitted = record { holds = refl; lasting = λ again. absurd (cc); waits = λ again. absurd (cc) }

-- and what happened keeps the rule
pub two_tasks_keep_rule : Always HoldRule two_tasks
two_tasks_keep_rule = (record { current = refl; free = refl }, (tt, (record { current = refl; free = refl }, tt)))

-- it may not set its lock again
pub own_lock_is_not_admitted : BookAdmits (set_row 0) false 0 past_of_two_tasks → ⊥
own_lock_is_not_admitted is = absurd (let never = is.holds in cc)

-- nor does it wait for it
pub own_lock_is_not_waited_for : BookAdmits (set_row 0) true 0 past_of_two_tasks → ⊥
own_lock_is_not_waited_for is = absurd (let never : true ≡ false = is.lasting refl (Lock 0) refl in cc)

-- an end of a name is not repeated, since it never waits
pub end_is_not_repeated : BookAdmits (critical_end_row other_name) true 0 past_of_two_tasks → ⊥
end_is_not_repeated is =
    let (q, reply, goes, may) = is.waits refl in
    absurd (let never : false ≡ true = rw may at goes in cc)

-- the rule is broken by a name with two owners, and by a hold of a task that is not executed
pub rule_is_broken :
    (Always HoldRule (after_events (hold_by 0 (Critical short_name) ∷ hold_by 1 (Critical short_name) ∷ [])) → ⊥)
    × (Always HoldRule (after_events (Start 1 0 ∷ hold_by 0 (Critical short_name) ∷ [])) → ⊥)
rule_is_broken = (λ rule. absurd (let never = rule.0.free in cc), λ rule. absurd (let never = rule.0.current in cc))

-- A reply and what it leaves: for each line what it alone refuses

abbrev EntersName : BookView → BookView → List ℕ → Bool → Reply → Type 0
EntersName book after name repeated reply = BookReply (record { row = critical_start_row name; repeated = repeated }) book after 0 (Explicit 1) reply

-- the name then has the task that asked as its owner, not the implicit one, and not none
pub entered_by_the_other_task : EntersName book_of_two_tasks (with_name other_name (Some zero_owner) book_of_two_tasks) other_name false Finished → ⊥
entered_by_the_other_task reply = absurd (let task : 0 ≡ 1 = ap task_of_owner ((reply.serves past_of_two_tasks book_of_two_tasks_stands refl two_tasks_keep_rule other_name_is_admitted).1.names other_name) in omega (arith, task))

pub entered_by_nobody : EntersName book_of_two_tasks book_of_two_tasks other_name false Finished → ⊥
entered_by_nobody reply = absurd (let task : 0 ≡ 1 = ap task_of_owner ((reply.serves past_of_two_tasks book_of_two_tasks_stands refl two_tasks_keep_rule other_name_is_admitted).1.names other_name) in omega (arith, task))

-- a name that is free is not waited for
pub free_name_waited_for : EntersName book_of_two_tasks book_of_two_tasks other_name false Wait → ⊥
free_name_waited_for reply = (reply.serves past_of_two_tasks book_of_two_tasks_stands refl two_tasks_keep_rule other_name_is_admitted).0

-- the answer refuses nothing but for want of memory
pub refused_when_answered : EntersName book_of_two_tasks book_of_two_tasks other_name false (Refused AlreadyHeld) → ⊥
refused_when_answered reply = absurd (let never = reply.refusal AlreadyHeld refl in cc)

-- which no repeated call is, nor the start of a known name, and which leaves the book
pub want_when_repeated : EntersName book_of_two_tasks book_of_two_tasks other_name true (Refused NoMemory) → ⊥
want_when_repeated reply = reply.once refl refl

pub want_at_a_known_name : EntersName book_of_two_tasks book_of_two_tasks short_name false (Refused NoMemory) → ⊥
want_at_a_known_name reply = absurd (let never = reply.memory refl short_name refl in cc)

pub want_that_forgets : EntersName book_of_two_tasks (record book_of_two_tasks { names = [] }) other_name false (Refused NoMemory) → ⊥
want_that_forgets reply = absurd (let never = ap (λ (book : BookView). book.names) (reply.lacks refl) in cc)

-- it stops no team
pub stopped_by_a_name : EntersName book_of_two_tasks book_of_two_tasks other_name false Stopped → ⊥
stopped_by_a_name reply = reply.stops refl

-- a wait changes nothing, and is for a known name
pub wait_that_frees : EntersName book_of_two_tasks (with_name short_name None book_of_two_tasks) short_name true Wait → ⊥
wait_that_frees reply = absurd (let never = ap (λ (book : BookView). name_at short_name book) (reply.kept refl) in cc)

-- a known name stays known
pub name_that_is_forgotten : EntersName book_of_two_tasks (record book_of_two_tasks { names = (other_name, Some task_owner) ∷ [] }) other_name false Finished → ⊥
name_that_is_forgotten reply = absurd (let never = reply.names short_name refl in cc)
