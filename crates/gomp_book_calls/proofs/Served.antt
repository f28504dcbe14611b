-- The replies of a lock book are those that the rows of the calls on names and locks have.
use Rattle.std.proofs.Common.{◌≡◌, ◌<◌, ◌∙◌, ◌+◌, ◌-◌, ◌==◌, ℕ, Bool, true, false, List, [], ◌∷◌, Option, Some, None, refl, ap, sym, subst, length, arith, slice_get, inl, inr}
use Rattle.std.specs.Prelude.{is_some, not, nat_le, nat_lt, ◌&&◌, IsSome, ◌⊎◌}
use Rattle.std.specs.Option.{option_flatten}
use Rattle.std.proofs.lemmas.Bool.{cases_Bool}
use Rattle.std.proofs.lemmas.Bool.Decides.{nat_tests}
use Rattle.gomp_events.specs.declared.event.Event.{Event}
use Rattle.gomp_events.specs.declared.event.Event.TheVariants.{Hold, Free}
use Rattle.gomp_types.specs.declared.key.Key.{Key}
use Rattle.gomp_types.specs.declared.key.Key.TheVariants.{Critical, Lock as LockKey, NestLock}
use Rattle.gomp_types.specs.declared.lock.Held.{Held}
use Rattle.gomp_types.specs.declared.lock.LockKind.{LockKind}
use Rattle.gomp_types.specs.declared.lock.LockKind.TheVariants.{Simple, Nest}
use Rattle.gomp_types.specs.declared.lock.TheConstants.{MAX_COUNT, MAX_LOCKS}
use Rattle.gomp_types.specs.declared.refusal.Refusal.TheVariants.{NoMemory}
use Rattle.gomp_types.specs.declared.reply.Reply.{Reply}
use Rattle.gomp_types.specs.declared.reply.Reply.TheVariants.{Finished, Wait, Lock as LockMade, Got, Count, Refused}
use Rattle.gomp_types.specs.declared.task.Owner.{Owner}
use Rattle.gomp_types.specs.declared.task.Task.{Task}
use Rattle.gomp_events.specs.Laws.{Always}
use Rattle.gomp_types.specs.Owners.{same_owner}
use Rattle.gomp_events.specs.Tasks.{executed_task}
use Rattle.gomp_locks.specs.Book.{BookView, AnswersOrLacks, name_at, name_owner, lock_at, held_by, held_times, owned_by}
use Rattle.gomp_locks.specs.CriticalNames.{EntersCritical, after_critical_start, after_critical_end}
use Rattle.gomp_locks.specs.Locks.{MakesLock, after_init, after_destroy, SetsLock, after_set, TestsLock, after_test, after_unset, times_held, held_by_another, SetsNest, after_set_nest, TestsNest, after_test_nest, UnsetsNest, after_unset_nest}
use Rattle.gomp_locks.specs.Holders.{is_nestable, key_of, owner_of, asker, holder, holding_owner, held_once_more, held_once_less, held_if_kind, found_lock}
use Rattle.gomp_locks.specs.HoldRules.{HoldRule}
use Rattle.gomp_locks.proofs.HoldLemmas.{set_free, got_free}
use Rattle.gomp_locks.proofs.HoldsKeep.{held_once_of_single, unheld_counts_none}
use Rattle.gomp_locks.proofs.NameLemmas.{one_owner}
use Rattle.gomp_locks.proofs.OwnerLemmas.{same_name}
use Rattle.gomp_model.specs.Past.{Past}
use Rattle.gomp_model.specs.Row.{Row, asks_memory, goes_on, MayGive, past_given}
use Rattle.gomp_model.specs.Admits.{BookAdmits}
use Rattle.gomp_model.proofs.Admitted.{missing_fails, by_team_fails}
use Rattle.gomp_model.specs.CriticalNames.{was_name_held, critical_start_row, critical_end_row}
use Rattle.gomp_model.specs.Locks.{init_row, destroy_row, set_row, test_row, unset_row, set_nest_row, test_nest_row, unset_nest_row}
use Rattle.gomp_book_calls.specs.Stands.{BookStands, BookReply}
use Rattle.gomp_book_calls.proofs.BookLemmas.{lock_found_in_past, as_many_locks, kind_is_there, held_there, hold_changes, free_changes, hold_starts, free_starts, lock_hold_starts_none, key_of_itself, known_stays, stands_with_room, name_written, lock_written, lock_removed, lock_made}

-- Replies

-- whether a reply neither refuses, nor waits, nor stops the team
abbrev pub is_settled : Reply → Bool
is_settled Finished = true
is_settled (Got free) = true
is_settled (Count count) = true
is_settled (LockMade number) = true
is_settled _ = false

abbrev ServesPast : BookView → Row → Bool → ℕ → Past → Reply → Type 0
ServesPast after row repeated m p reply = MayGive row repeated m p reply × BookStands after (past_given row repeated m p reply)

abbrev Serves : BookView → BookView → Row → Bool → ℕ → Task → Reply → Type 0
Serves book after row repeated m task reply = (p : Past) → BookStands book p → executed_task m p.events ≡ task → Always HoldRule p.events → BookAdmits row repeated m p → ServesPast after row repeated m p reply

-- such a reply
settled_reply : (book after : BookView) (row : Row) (repeated : Bool) (m : ℕ) (task : Task) (reply : Reply) → is_settled reply ≡ true → Serves book after row repeated m task reply → ((name : List ℕ) → IsSome (name_at name book) → IsSome (name_at name after)) → BookReply (record { row = row; repeated = repeated }) book after m task reply
settled_reply book after row repeated m task reply is serves names = record {
  serves = serves;
  refusal = λ refusal e. absurd (let never = rw e at is in cc);
  once = λ again e. let never = rw e at is in cc;
  memory = λ e. absurd (let never = rw e at is in cc);
  lacks = λ e. absurd (let never = rw e at is in cc);
  stops = λ e. let never = rw e at is in cc;
  kept = λ e. absurd (let never = rw e at is in cc);
  waits = λ e. absurd (let never = rw e at is in cc);
  names = names;
}

-- a wait
waiting_reply : (book : BookView) (row : Row) (repeated : Bool) (m : ℕ) (task : Task) → Serves book book row repeated m task Wait → ((name : List ℕ) → row.holds ≡ Some (Critical name) → IsSome (name_at name book)) → BookReply (record { row = row; repeated = repeated }) book book m task Wait
waiting_reply book row repeated m task serves known = record {
  serves = serves;
  refusal = λ refusal e. absurd (cc);
  once = λ again e. cc;
  memory = λ e. absurd (cc);
  lacks = λ e. absurd (cc);
  stops = λ e. cc;
  kept = λ e. refl;
  waits = λ e. known;
  names = λ name is. is;
}

-- want of memory
lacking_reply : (book : BookView) (row : Row) (repeated : Bool) (m : ℕ) (task : Task) → ((p : Past) → BookStands book p → asks_memory row m p ≡ true) → (repeated ≡ true → ⊥) → ((name : List ℕ) → row.holds ≡ Some (Critical name) → name_at name book ≡ None) → BookReply (record { row = row; repeated = repeated }) book book m task (Refused NoMemory)
lacking_reply book row repeated m task memory first new = record {
  serves = λ p st asks rule free. (memory p st, st);
  refusal = λ refusal e. cc;
  once = λ again e. first again;
  memory = λ e. new;
  lacks = λ e. refl;
  stops = λ e. cc;
  kept = λ e. absurd (cc);
  waits = λ e. absurd (cc);
  names = λ name is. is;
}

-- What the tests have shown

is_there : (kind : LockKind) (number : ℕ) (p : Past) → not (is_some (found_lock kind number p.locks p.events)) ≡ false → slice_get p.locks number ≡ Some (Some kind)
is_there kind number p e = kind_is_there kind (slice_get p.locks number) (holder (key_of kind number) p.events) e

found_there : (kind : LockKind) (number : ℕ) (p : Past) → slice_get p.locks number ≡ Some (Some kind) → found_lock kind number p.locks p.events ≡ Some (holder (key_of kind number) p.events)
found_there kind number p at = ap (λ (place : Option (Option LockKind)). held_if_kind kind place (holder (key_of kind number) p.events)) at ∙ held_there kind (holder (key_of kind number) p.events)

-- a call is not one that may go on, so it is not repeated
never_repeated : {P : Type 0} (row : Row) (m : ℕ) (p : Past) → BookAdmits row true m p → ((q : Past) (reply : Reply) → row.may_reply m q reply → goes_on reply ≡ false) → P
never_repeated row m p free ends =
    let (q, reply, goes, may) = free.waits refl in
    let over : false ≡ true = sym (ends q reply may) ∙ goes in absurd (cc)

-- one that is done at once is not
held_at_once : (reply : Reply) → reply ≡ Finished → goes_on reply ≡ false
held_at_once reply e = ap goes_on e

-- a reply tells nothing of the room
in_room : {after : BookView} {p : Past} → BookStands after p → (room : ℕ) → BookStands after (record p { room = room })
in_room {after} {p} st room = stands_with_room after p room st

-- Holders

no_holder : (found : Option Held) → holding_owner found ≡ None → found ≡ None
no_holder None e = refl
no_holder (Some held) e = absurd (cc)

one_inside : (a b : Option Held) → ◌≡◌ {A = Option (Option Held)} (Some a) (Some b) → a ≡ b
one_inside a b e = cc

-- what an owner holds is held by it
held_of : (owner : Owner) (found : Option Held) → held_by owner found ≡ true → (held : Held) × (found ≡ Some held) × (held.owner ≡ owner)
held_of owner None e = absurd (cc)
held_of owner (Some held) e = (held, refl, one_owner held.owner owner e)

owner_of_a_name_holds : (owner : Owner) (found : Option Held) → not (owned_by owner (holding_owner found)) ≡ false → held_by owner found ≡ true
owner_of_a_name_holds owner None e = absurd (cc)
owner_of_a_name_holds owner (Some held) e = by_test (same_owner held.owner owner) e
  where
    by_test : (b : Bool) → not b ≡ false → b ≡ true
    by_test true e = refl
    by_test false e = absurd (cc)

found_holds : (owner : Owner) (found : Option Held) → (true && not (held_by owner found)) ≡ false → held_by owner found ≡ true
found_holds owner found e = by_test (held_by owner found) e
  where
    by_test : (b : Bool) → (true && not b) ≡ false → b ≡ true
    by_test true e = refl
    by_test false e = absurd (cc)

-- a name or a simple lock that is freed is free
freed_single : (key : Key) (owner : Owner) (h : List Event) → is_nestable key ≡ false → Always HoldRule h → held_by owner (holder key h) ≡ true → held_once_less (holder key h) ≡ None
freed_single key owner h single rule holds =
    let held = held_of owner (holder key h) holds in
    let once = held_once_of_single key held.0 h single rule held.1 in
    ap held_once_less held.1 ∙ (rw once refl)

-- a nestable lock that is set once more
nest_more : (owner : Owner) (held : Option Held) → held_by_another owner held ≡ false → held_once_more owner held ≡ held_times owner (times_held owner held + 1)
nest_more owner None e = refl
nest_more owner (Some held) e = by_test (same_owner held.owner owner) refl e
  where
    above : (one : Owner) (n : ℕ) → ◌≡◌ {A = Option Held} (Some (record { owner = one; count = n + 1 })) (held_times one (n + 1))
    above one n = let some : ((n + 1) == 0) ≡ false = grind (arith, nat_tests) in rw some refl

    set_more : (held : Held) (owner : Owner) → held.owner ≡ owner → ◌≡◌ {A = Option Held} (Some (record held { count = held.count + 1 })) (held_times owner (held.count + 1))
    set_more held owner same = rw (← same) (above held.owner held.count)

    by_test : (b : Bool) → same_owner held.owner owner ≡ b → held_by_another owner (Some held) ≡ false → held_once_more owner (Some held) ≡ held_times owner (times_held owner (Some held) + 1)
    by_test true e other = rw e (set_more held owner (one_owner held.owner owner e))
    by_test false e other = absurd (let never = rw e at other in cc)

-- and one that is unset once
nest_less : (owner : Owner) (count : ℕ) (held : Option Held) → count + 1 ≡ times_held owner held → held_once_less held ≡ held_times owner count
nest_less owner count None e = absurd (omega (arith, e))
nest_less owner count (Some held) e = by_test (same_owner held.owner owner) refl e
  where
    by_test : (b : Bool) → same_owner held.owner owner ≡ b → count + 1 ≡ times_held owner (Some held) → held_once_less (Some held) ≡ held_times owner count
    by_test true e more =
        let all : count + 1 ≡ held.count = rw e at more in
        let less : held.count - 1 ≡ count = omega (arith, all) in
        rw (less, one_owner held.owner owner e) refl
    by_test false e more = absurd (let none : count + 1 ≡ 0 = rw e at more in omega (arith, none))

-- Critical names

enters_only : (found : Option Owner) (reply : Reply) → EntersCritical found reply → ((reply ≡ Finished) × (found ≡ None)) ⊎ ((reply ≡ Wait) × IsSome found)
enters_only None Finished may = inl (refl, refl)
enters_only (Some other) Wait may = inr (refl, refl)
enters_only None Wait may = absurd may
enters_only (Some other) Finished may = absurd may
enters_only None _ may = absurd may
enters_only (Some other) _ may = absurd may

known_by_owner : (found : Option (Option Owner)) → IsSome (option_flatten found) → IsSome found
known_by_owner None is = is
known_by_owner (Some owner) is = refl

same_critical : (name other : List ℕ) → ◌≡◌ {A = Option Key} (Some (Critical name)) (Some (Critical other)) → name ≡ other
same_critical name other e = cc

name_is_entered : (name : List ℕ) (repeated : Bool) (m : ℕ) (task : Task) (book : BookView) → name_owner name book ≡ None → BookReply (record { row = critical_start_row name; repeated = repeated }) book (after_critical_start (owner_of m task) name Finished book) m task Finished
name_is_entered name repeated m task book free =
    settled_reply book (after_critical_start (owner_of m task) name Finished book) (critical_start_row name) repeated m task Finished refl
    (λ p st asks rule is. subst (λ (t : Task). ServesPast (after_critical_start (owner_of m t) name Finished book) (critical_start_row name) repeated m p Finished) asks (entered p st))
    (λ other known. known_stays name other (Some (owner_of m task)) book known)
  where
    entered : (p : Past) → BookStands book p → ServesPast (after_critical_start (asker m p.events) name Finished book) (critical_start_row name) repeated m p Finished
    entered p st =
        let none : holder (Critical name) p.events ≡ None = no_holder (holder (Critical name) p.events) (sym (st.names name) ∙ free) in
        let task = executed_task m p.events in (
          rw none tt,
          in_room (name_written name (Some (asker m p.events)) book p (Hold (Critical name) m task ∷ p.events) st (rw (same_name name, none) refl) (hold_changes (Critical name) m task p.events) (hold_starts name m task p.events)) _,
        )

entry_of_a_name_waits : (name : List ℕ) (repeated : Bool) (m : ℕ) (task : Task) (book : BookView) → EntersCritical (name_owner name book) Wait → IsSome (name_owner name book) → BookReply (record { row = critical_start_row name; repeated = repeated }) book book m task Wait
entry_of_a_name_waits name repeated m task book may some =
    waiting_reply book (critical_start_row name) repeated m task
    (λ p st asks rule is. (subst (λ (found : Option Owner). EntersCritical found Wait) (st.names name) may, in_room st _))
    (λ other same. subst (λ (n : List ℕ). IsSome (name_at n book)) (same_critical name other same) (known_by_owner (name_at name book) some))

-- a name that the book does not know was not started, so its first start takes memory
new_name_takes_memory : (name : List ℕ) (m : ℕ) (book : BookView) (p : Past) → BookStands book p → name_at name book ≡ None → asks_memory (critical_start_row name) m p ≡ true
new_name_takes_memory name m book p st none = elim (cases_Bool (was_name_held name p.events)) [
  | inl is ↦ absurd (let known = rw none at (st.started name is) in cc)
  | inr e ↦ rw e refl
]

pub served_by_start : (name : List ℕ) (repeated : Bool) (m : ℕ) (task : Task) (book : BookView) (reply : Reply) → (repeated ≡ true → IsSome (name_at name book)) → AnswersOrLacks [] (EntersCritical (name_owner name book)) reply → (reply ≡ Refused NoMemory → name_at name book ≡ None) →
    BookReply (record { row = critical_start_row name; repeated = repeated }) book (after_critical_start (owner_of m task) name reply book) m task reply
served_by_start name repeated m task book (Refused NoMemory) known answer lacks =
    lacking_reply book (critical_start_row name) repeated m task (λ p st. new_name_takes_memory name m book p st (lacks refl)) (λ again. let is = rw (lacks refl) at (known again) in cc) (λ other same. subst (λ (n : List ℕ). name_at n book ≡ None) (same_critical name other same) (lacks refl))
served_by_start name repeated m task book (Refused _) known answer lacks = absurd (cc)
served_by_start name repeated m task book reply known answer lacks =
    elim (enters_only (name_owner name book) reply answer.1) [
      | inl e ↦ subst (λ (r : Reply). BookReply (record { row = critical_start_row name; repeated = repeated }) book (after_critical_start (owner_of m task) name r book) m task r) (sym e.0) (name_is_entered name repeated m task book e.1)
      | inr e ↦ subst (λ (r : Reply). BookReply (record { row = critical_start_row name; repeated = repeated }) book (after_critical_start (owner_of m task) name r book) m task r) (sym e.0)
          (entry_of_a_name_waits name repeated m task book (subst (λ (r : Reply). EntersCritical (name_owner name book) r) e.0 answer.1) e.1)
    ]

end_serves : (name : List ℕ) (repeated : Bool) (m : ℕ) (task : Task) (book : BookView) → Serves book (after_critical_end name Finished book) (critical_end_row name) repeated m task Finished
end_serves name true m task book = λ p st asks rule is. never_repeated (critical_end_row name) m p is (λ q reply may. held_at_once reply may)
end_serves name false m task book = λ p st asks rule is.
    let holds = owner_of_a_name_holds (asker m p.events) (holder (Critical name) p.events) (by_team_fails is refl).1.0 in
    let free : holder (Critical name) (Free (Critical name) m (executed_task m p.events) ∷ p.events) ≡ None = rw (same_name name, freed_single (Critical name) (asker m p.events) p.events refl rule holds) refl in (
      refl,
      in_room (name_written name None book p (Free (Critical name) m (executed_task m p.events) ∷ p.events) st (ap holding_owner free) (free_changes (Critical name) m (executed_task m p.events) p.events) (free_starts name m (executed_task m p.events) p.events)) _,
    )

pub served_by_end : (name : List ℕ) (repeated : Bool) (m : ℕ) (task : Task) (book : BookView) (reply : Reply) → reply ≡ Finished → BookReply (record { row = critical_end_row name; repeated = repeated }) book (after_critical_end name reply book) m task reply
served_by_end name repeated m task book reply e =
    subst (λ (r : Reply). BookReply (record { row = critical_end_row name; repeated = repeated }) book (after_critical_end name r book) m task r) (sym e)
    (settled_reply book (after_critical_end name Finished book) (critical_end_row name) repeated m task Finished refl (end_serves name repeated m task book) (λ other known. known_stays name other None book known))

-- Making and destroying

makes_only : (made : ℕ) (reply : Reply) → MakesLock made reply → reply ≡ LockMade made
makes_only made (LockMade number) may = ap LockMade may
makes_only made _ may = absurd may

lock_ends : (made : ℕ) (reply : Reply) → MakesLock made reply → goes_on reply ≡ false
lock_ends made reply may = ap goes_on (makes_only made reply may)

pub made_room : (kind : LockKind) (repeated : Bool) (m : ℕ) (p : Past) → BookAdmits (init_row kind) repeated m p → length p.locks < MAX_LOCKS
made_room kind true m p is = never_repeated (init_row kind) m p is (λ q reply may. lock_ends (length q.locks) reply may)
made_room kind false m p is = let few = (by_team_fails is refl).0 in grind (arith, nat_tests, few)

init_serves : (kind : LockKind) (repeated : Bool) (m : ℕ) (task : Task) (book : BookView) → Serves book (after_init kind (LockMade (length book.locks)) book) (init_row kind) repeated m task (LockMade (length book.locks))
init_serves kind repeated m task book = λ p st asks rule is. (as_many_locks book p st, in_room (lock_made kind book p st) _)

pub served_by_init : (kind : LockKind) (repeated : Bool) (m : ℕ) (task : Task) (book : BookView) (reply : Reply) → (p : Past) → BookAdmits (init_row kind) repeated m p → AnswersOrLacks [] (MakesLock (length book.locks)) reply → BookReply (record { row = init_row kind; repeated = repeated }) book (after_init kind reply book) m task reply
served_by_init kind repeated m task book (Refused NoMemory) p is answer =
    lacking_reply book (init_row kind) repeated m task (λ p st. refl) (λ again. never_repeated (init_row kind) m p (subst (λ (b : Bool). BookAdmits (init_row kind) b m p) again is) (λ q reply may. lock_ends (length q.locks) reply may)) (λ name same. absurd (cc))
served_by_init kind repeated m task book (Refused _) p is answer = absurd (cc)
served_by_init kind repeated m task book reply p is answer =
    subst (λ (r : Reply). BookReply (record { row = init_row kind; repeated = repeated }) book (after_init kind r book) m task r) (sym (makes_only (length book.locks) reply answer.1))
    (settled_reply book (after_init kind (LockMade (length book.locks)) book) (init_row kind) repeated m task (LockMade (length book.locks)) refl (init_serves kind repeated m task book) (λ name known. known))

pub served_by_destroy : (number : ℕ) (repeated : Bool) (m : ℕ) (task : Task) (book : BookView) (reply : Reply) → reply ≡ Finished → BookReply (record { row = destroy_row number; repeated = repeated }) book (after_destroy number reply book) m task reply
served_by_destroy number repeated m task book reply e =
    subst (λ (r : Reply). BookReply (record { row = destroy_row number; repeated = repeated }) book (after_destroy number r book) m task r) (sym e)
    (settled_reply book (after_destroy number Finished book) (destroy_row number) repeated m task Finished refl (λ p st asks rule is. (refl, in_room (lock_removed number book p st) _)) (λ name known. known))

-- Simple locks

sets_only : (found : Option (Option Held)) (reply : Reply) → SetsLock found reply → (reply ≡ Finished) ⊎ (reply ≡ Wait)
sets_only (Some None) Finished may = inl refl
sets_only (Some (Some held)) Wait may = inr refl
sets_only None _ may = absurd may
sets_only (Some None) _ may = absurd may
sets_only (Some (Some held)) _ may = absurd may

-- a lock that nobody holds is set
set_stands : (number : ℕ) (m : ℕ) (book : BookView) (p : Past) → BookStands book p → slice_get p.locks number ≡ Some (Some Simple) → found_lock Simple number p.locks p.events ≡ Some None →
    BookStands (after_set (asker m p.events) number Finished book) (record p { events = Hold (LockKey number) m (executed_task m p.events) ∷ p.events })
set_stands number m book p st at found =
    let none : holder (LockKey number) p.events ≡ None = one_inside (holder (LockKey number) p.events) None (sym (found_there Simple number p at) ∙ found) in
    let task = executed_task m p.events in
    lock_written Simple number (held_times (asker m p.events) 1) book p (Hold (LockKey number) m task ∷ p.events) st at (rw (key_of_itself Simple number, none) refl) (hold_changes (LockKey number) m task p.events) (lock_hold_starts_none Simple number m task p.events)

set_serves : (number : ℕ) (repeated : Bool) (m : ℕ) (task : Task) (book : BookView) → SetsLock (lock_at Simple number book) Finished → Serves book (after_set (owner_of m task) number Finished book) (set_row number) repeated m task Finished
set_serves number repeated m task book may = λ p st asks rule is.
    let at = is_there Simple number p (missing_fails is).0 in
    let here = subst (λ (found : Option (Option Held)). SetsLock found Finished) (lock_found_in_past Simple number book p st) may in
    let served : ServesPast (after_set (asker m p.events) number Finished book) (set_row number) repeated m p Finished = (here, in_room (set_stands number m book p st at (set_free (found_lock Simple number p.locks p.events) here)) _) in
    subst (λ (t : Task). ServesPast (after_set (owner_of m t) number Finished book) (set_row number) repeated m p Finished) asks served

pub served_by_set : (number : ℕ) (repeated : Bool) (m : ℕ) (task : Task) (book : BookView) (reply : Reply) → SetsLock (lock_at Simple number book) reply → BookReply (record { row = set_row number; repeated = repeated }) book (after_set (owner_of m task) number reply book) m task reply
served_by_set number repeated m task book reply may =
    elim (sets_only (lock_at Simple number book) reply may) [
      | inl e ↦ subst (λ (r : Reply). BookReply (record { row = set_row number; repeated = repeated }) book (after_set (owner_of m task) number r book) m task r) (sym e)
          (settled_reply book (after_set (owner_of m task) number Finished book) (set_row number) repeated m task Finished refl (set_serves number repeated m task book (subst (λ (r : Reply). SetsLock (lock_at Simple number book) r) e may)) (λ name known. known))
      | inr e ↦ subst (λ (r : Reply). BookReply (record { row = set_row number; repeated = repeated }) book (after_set (owner_of m task) number r book) m task r) (sym e)
          (waiting_reply book (set_row number) repeated m task
          (λ p st asks rule is. (subst (λ (found : Option (Option Held)). SetsLock found Wait) (lock_found_in_past Simple number book p st) (subst (λ (r : Reply). SetsLock (lock_at Simple number book) r) e may), in_room st _)) (λ name same. absurd (cc)))
    ]

gets_only : (found : Option (Option Held)) (reply : Reply) → TestsLock found reply → (free : Bool) × (reply ≡ Got free)
gets_only (Some held) (Got free) may = (free, refl)
gets_only (Some held) _ may = absurd may
gets_only None _ may = absurd may

test_serves : (number : ℕ) (repeated : Bool) (m : ℕ) (task : Task) (book : BookView) (free : Bool) → TestsLock (lock_at Simple number book) (Got free) → Serves book (after_test (owner_of m task) number (Got free) book) (test_row number) repeated m task (Got free)
test_serves number repeated m task book true may = λ p st asks rule is.
    let at = is_there Simple number p (missing_fails is).0 in
    let here = subst (λ (found : Option (Option Held)). TestsLock found (Got true)) (lock_found_in_past Simple number book p st) may in
    let served : ServesPast (after_test (asker m p.events) number (Got true) book) (test_row number) repeated m p (Got true) = (here, in_room (set_stands number m book p st at (got_free (found_lock Simple number p.locks p.events) here)) _) in
    subst (λ (t : Task). ServesPast (after_test (owner_of m t) number (Got true) book) (test_row number) repeated m p (Got true)) asks served
test_serves number repeated m task book false may = λ p st asks rule is. (subst (λ (found : Option (Option Held)). TestsLock found (Got false)) (lock_found_in_past Simple number book p st) may, in_room st _)

tested_names : (number : ℕ) (owner : Owner) (book : BookView) (free : Bool) (name : List ℕ) → IsSome (name_at name book) → IsSome (name_at name (after_test owner number (Got free) book))
tested_names number owner book true name known = known
tested_names number owner book false name known = known

pub served_by_test : (number : ℕ) (repeated : Bool) (m : ℕ) (task : Task) (book : BookView) (reply : Reply) → TestsLock (lock_at Simple number book) reply → BookReply (record { row = test_row number; repeated = repeated }) book (after_test (owner_of m task) number reply book) m task reply
served_by_test number repeated m task book reply may =
    let (free, e) = gets_only (lock_at Simple number book) reply may in
    subst (λ (r : Reply). BookReply (record { row = test_row number; repeated = repeated }) book (after_test (owner_of m task) number r book) m task r) (sym e)
    (settled_reply book (after_test (owner_of m task) number (Got free) book) (test_row number) repeated m task (Got free) refl (test_serves number repeated m task book free (subst (λ (r : Reply). TestsLock (lock_at Simple number book) r) e may)) (tested_names number (owner_of m task) book free))

unset_serves : (number : ℕ) (repeated : Bool) (m : ℕ) (task : Task) (book : BookView) → Serves book (after_unset number Finished book) (unset_row number) repeated m task Finished
unset_serves number true m task book = λ p st asks rule is. never_repeated (unset_row number) m p is (λ q reply may. held_at_once reply may)
unset_serves number false m task book = λ p st asks rule is.
    let at = is_there Simple number p (missing_fails is).0 in
    let executed = executed_task m p.events in
    let holds = found_holds (asker m p.events) (holder (LockKey number) p.events) (rw (found_there Simple number p at) at ((by_team_fails is refl).0)) in
    let free : holder (LockKey number) (Free (LockKey number) m executed ∷ p.events) ≡ None = rw (key_of_itself Simple number, freed_single (LockKey number) (asker m p.events) p.events refl rule holds) refl in
    (refl, in_room (lock_written Simple number None book p (Free (LockKey number) m executed ∷ p.events) st at free (free_changes (LockKey number) m executed p.events) (λ name is. is)) _)

pub served_by_unset : (number : ℕ) (repeated : Bool) (m : ℕ) (task : Task) (book : BookView) (reply : Reply) → reply ≡ Finished → BookReply (record { row = unset_row number; repeated = repeated }) book (after_unset number reply book) m task reply
served_by_unset number repeated m task book reply e =
    subst (λ (r : Reply). BookReply (record { row = unset_row number; repeated = repeated }) book (after_unset number r book) m task r) (sym e)
    (settled_reply book (after_unset number Finished book) (unset_row number) repeated m task Finished refl (unset_serves number repeated m task book) (λ name known. known))

-- Nestable locks

nests_only : (owner : Owner) (found : Option (Option Held)) (reply : Reply) → SetsNest owner found reply → ((count : ℕ) × (reply ≡ Count count)) ⊎ (reply ≡ Wait)
nests_only owner (Some held) (Count count) may = inl (count, refl)
nests_only owner (Some held) Wait may = inr refl
nests_only owner (Some held) _ may = absurd may
nests_only owner None _ may = absurd may

-- a nestable lock that no other task holds is set once more
nest_stands : (number count : ℕ) (m : ℕ) (book : BookView) (p : Past) → BookStands book p → slice_get p.locks number ≡ Some (Some Nest) → held_by_another (asker m p.events) (holder (NestLock number) p.events) ≡ false → count ≡ times_held (asker m p.events) (holder (NestLock number) p.events) + 1 →
    BookStands (after_set_nest (asker m p.events) number (Count count) book) (record p { events = Hold (NestLock number) m (executed_task m p.events) ∷ p.events })
nest_stands number count m book p st at alone is =
    let task = executed_task m p.events in
    lock_written Nest number (held_times (asker m p.events) count) book p (Hold (NestLock number) m task ∷ p.events) st at
    (rw (key_of_itself Nest number) (nest_more (asker m p.events) (holder (NestLock number) p.events) alone ∙ ap (held_times (asker m p.events)) (sym is))) (hold_changes (NestLock number) m task p.events) (lock_hold_starts_none Nest number m task p.events)

counted_on : (count n : ℕ) → count ≡ n + 1 → nat_lt 0 count ≡ true
counted_on count n e = grind (arith, nat_tests, e)

set_nest_serves : (number : ℕ) (repeated : Bool) (m : ℕ) (task : Task) (count : ℕ) (book : BookView) → SetsNest (owner_of m task) (lock_at Nest number book) (Count count) → Serves book (after_set_nest (owner_of m task) number (Count count) book) (set_nest_row number) repeated m task (Count count)
set_nest_serves number repeated m task count book may = λ p st asks rule is.
    let at = is_there Nest number p (missing_fails is).0 in
    let asked = subst (λ (t : Task). SetsNest (owner_of m t) (lock_at Nest number book) (Count count)) (sym asks) may in
    let here = subst (λ (found : Option (Option Held)). SetsNest (asker m p.events) found (Count count)) (lock_found_in_past Nest number book p st) asked in
    let told = subst (λ (found : Option (Option Held)). SetsNest (asker m p.events) found (Count count)) (found_there Nest number p at) here in
    let more = counted_on count (times_held (asker m p.events) (holder (NestLock number) p.events)) told.1 in
    let stands = nest_stands number count m book p st at told.0 told.1 in
    let served : ServesPast (after_set_nest (asker m p.events) number (Count count) book) (set_nest_row number) repeated m p (Count count) = (here, rw more (in_room stands _)) in
    subst (λ (t : Task). ServesPast (after_set_nest (owner_of m t) number (Count count) book) (set_nest_row number) repeated m p (Count count)) asks served

pub served_by_set_nest : (number : ℕ) (repeated : Bool) (m : ℕ) (task : Task) (book : BookView) (reply : Reply) → SetsNest (owner_of m task) (lock_at Nest number book) reply → BookReply (record { row = set_nest_row number; repeated = repeated }) book (after_set_nest (owner_of m task) number reply book) m task reply
served_by_set_nest number repeated m task book reply may =
    elim (nests_only (owner_of m task) (lock_at Nest number book) reply may) [
      | inl e ↦ subst (λ (r : Reply). BookReply (record { row = set_nest_row number; repeated = repeated }) book (after_set_nest (owner_of m task) number r book) m task r) (sym e.1)
          (settled_reply book (after_set_nest (owner_of m task) number (Count e.0) book) (set_nest_row number) repeated m task (Count e.0) refl
          (set_nest_serves number repeated m task e.0 book (subst (λ (r : Reply). SetsNest (owner_of m task) (lock_at Nest number book) r) e.1 may)) (λ name known. known))
      | inr e ↦ subst (λ (r : Reply). BookReply (record { row = set_nest_row number; repeated = repeated }) book (after_set_nest (owner_of m task) number r book) m task r) (sym e)
          (waiting_reply book (set_nest_row number) repeated m task
          (λ p st asks rule is. (waits_for_lock p st asks (subst (λ (r : Reply). SetsNest (owner_of m task) (lock_at Nest number book) r) e may), in_room st _)) (λ name same. absurd (cc)))
    ]
  where
    waits_for_lock : (p : Past) → BookStands book p → executed_task m p.events ≡ task → SetsNest (owner_of m task) (lock_at Nest number book) Wait → SetsNest (asker m p.events) (found_lock Nest number p.locks p.events) Wait
    waits_for_lock p st asks may =
        let asked = subst (λ (t : Task). SetsNest (owner_of m t) (lock_at Nest number book) Wait) (sym asks) may in
        subst (λ (found : Option (Option Held)). SetsNest (asker m p.events) found Wait) (lock_found_in_past Nest number book p st) asked

tests_nest_only : (owner : Owner) (found : Option (Option Held)) (reply : Reply) → TestsNest owner found reply → (count : ℕ) × (reply ≡ Count count)
tests_nest_only owner (Some held) (Count count) may = (count, refl)
tests_nest_only owner (Some held) _ may = absurd may
tests_nest_only owner None _ may = absurd may

test_nest_serves : (number : ℕ) (repeated : Bool) (m : ℕ) (task : Task) (count : ℕ) (book : BookView) → TestsNest (owner_of m task) (lock_at Nest number book) (Count count) → Serves book (after_test_nest (owner_of m task) number (Count count) book) (test_nest_row number) repeated m task (Count count)
test_nest_serves number repeated m task count book may = λ p st asks rule is.
    let at = is_there Nest number p (missing_fails is).0 in
    let asked = subst (λ (t : Task). TestsNest (owner_of m t) (lock_at Nest number book) (Count count)) (sym asks) may in
    let here = subst (λ (found : Option (Option Held)). TestsNest (asker m p.events) found (Count count)) (lock_found_in_past Nest number book p st) asked in
    let told = subst (λ (found : Option (Option Held)). TestsNest (asker m p.events) found (Count count)) (found_there Nest number p at) here in
    let served : ServesPast (after_test_nest (asker m p.events) number (Count count) book) (test_nest_row number) repeated m p (Count count) = (here, tested p st at told) in
    subst (λ (t : Task). ServesPast (after_test_nest (owner_of m t) number (Count count) book) (test_nest_row number) repeated m p (Count count)) asks served
  where
    tested : (p : Past) → BookStands book p → slice_get p.locks number ≡ Some (Some Nest) → TestsNest (asker m p.events) (Some (holder (NestLock number) p.events)) (Count count) →
        BookStands (after_test_nest (asker m p.events) number (Count count) book) (past_given (test_nest_row number) repeated m p (Count count))
    tested p st at told = elim (cases_Bool (held_by_another (asker m p.events) (holder (NestLock number) p.events))) [
      | inl other ↦ let none : count ≡ 0 = rw other at told in rw none (in_room st _)
      | inr alone ↦
          let more : count ≡ times_held (asker m p.events) (holder (NestLock number) p.events) + 1 = rw alone at told in
          let some : (count == 0) ≡ false = grind (arith, nat_tests, more) in
          let stands = nest_stands number count m book p st at alone more in
          rw (some, counted_on count (times_held (asker m p.events) (holder (NestLock number) p.events)) more) (in_room (rw some at stands) _)
    ]

test_nest_names : (number : ℕ) (owner : Owner) (count : ℕ) (book : BookView) (name : List ℕ) → IsSome (name_at name book) → IsSome (name_at name (after_test_nest owner number (Count count) book))
test_nest_names number owner count book name known = elim (cases_Bool (count == 0)) [ inl e ↦ rw e known | inr e ↦ rw e known ]

pub served_by_test_nest : (number : ℕ) (repeated : Bool) (m : ℕ) (task : Task) (book : BookView) (reply : Reply) → TestsNest (owner_of m task) (lock_at Nest number book) reply → BookReply (record { row = test_nest_row number; repeated = repeated }) book (after_test_nest (owner_of m task) number reply book) m task reply
served_by_test_nest number repeated m task book reply may =
    let (count, e) = tests_nest_only (owner_of m task) (lock_at Nest number book) reply may in
    subst (λ (r : Reply). BookReply (record { row = test_nest_row number; repeated = repeated }) book (after_test_nest (owner_of m task) number r book) m task r) (sym e)
    (settled_reply book (after_test_nest (owner_of m task) number (Count count) book) (test_nest_row number) repeated m task (Count count) refl
    (test_nest_serves number repeated m task count book (subst (λ (r : Reply). TestsNest (owner_of m task) (lock_at Nest number book) r) e may)) (test_nest_names number (owner_of m task) count book))

-- Nestable locks may be set once more

few_counted : (owner : Owner) (found : Option (Option Held)) → nat_le MAX_COUNT (times_held owner (option_flatten found)) ≡ false → times_held owner (option_flatten found) < MAX_COUNT
few_counted owner found few = grind (arith, nat_tests, few)

-- in the past that the book stands for, so in the book
room_in_book : (number : ℕ) (m : ℕ) (task : Task) (book : BookView) (p : Past) → BookStands book p → executed_task m p.events ≡ task → times_held (asker m p.events) (option_flatten (found_lock Nest number p.locks p.events)) < MAX_COUNT →
    times_held (owner_of m task) (option_flatten (lock_at Nest number book)) < MAX_COUNT
room_in_book number m task book p st asks few =
    subst (λ (t : Task). times_held (owner_of m t) (option_flatten (lock_at Nest number book)) < MAX_COUNT) asks
    (subst (λ (found : Option (Option Held)). times_held (asker m p.events) (option_flatten found) < MAX_COUNT) (sym (lock_found_in_past Nest number book p st)) few)

pub set_nest_room : (number : ℕ) (repeated : Bool) (m : ℕ) (task : Task) (book : BookView) (p : Past) → BookStands book p → executed_task m p.events ≡ task → BookAdmits (set_nest_row number) repeated m p →
    times_held (owner_of m task) (option_flatten (lock_at Nest number book)) < MAX_COUNT
set_nest_room number true m task book p st asks is =
    let at = is_there Nest number p (missing_fails is).0 in
    let none : times_held (asker m p.events) (option_flatten (found_lock Nest number p.locks p.events)) ≡ 0 = rw (found_there Nest number p at) (unheld_counts_none (asker m p.events) (holder (NestLock number) p.events) (is.lasting refl (NestLock number) refl)) in
    room_in_book number m task book p st asks (omega (arith, none))
set_nest_room number false m task book p st asks is = room_in_book number m task book p st asks (few_counted (asker m p.events) (found_lock Nest number p.locks p.events) (by_team_fails is refl).0)

count_ends : (owner : Owner) (found : Option (Option Held)) (reply : Reply) → TestsNest owner found reply → goes_on reply ≡ false
count_ends owner found reply may = ap goes_on (tests_nest_only owner found reply may).1

pub test_nest_room : (number : ℕ) (repeated : Bool) (m : ℕ) (task : Task) (book : BookView) (p : Past) → BookStands book p → executed_task m p.events ≡ task → BookAdmits (test_nest_row number) repeated m p →
    times_held (owner_of m task) (option_flatten (lock_at Nest number book)) < MAX_COUNT
test_nest_room number true m task book p st asks is = never_repeated (test_nest_row number) m p is (λ q reply may. count_ends (asker m q.events) (found_lock Nest number q.locks q.events) reply may)
test_nest_room number false m task book p st asks is = room_in_book number m task book p st asks (few_counted (asker m p.events) (found_lock Nest number p.locks p.events) (by_team_fails is refl).0)

unsets_nest_only : (owner : Owner) (found : Option (Option Held)) (reply : Reply) → UnsetsNest owner found reply → (count : ℕ) × (reply ≡ Count count)
unsets_nest_only owner (Some held) (Count count) may = (count, refl)
unsets_nest_only owner (Some held) _ may = absurd may
unsets_nest_only owner None _ may = absurd may

unset_nest_serves : (number : ℕ) (repeated : Bool) (m : ℕ) (task : Task) (count : ℕ) (book : BookView) → UnsetsNest (owner_of m task) (lock_at Nest number book) (Count count) → Serves book (after_unset_nest (owner_of m task) number (Count count) book) (unset_nest_row number) repeated m task (Count count)
unset_nest_serves number repeated m task count book may = λ p st asks rule is.
    let at = is_there Nest number p (missing_fails is).0 in
    let asked = subst (λ (t : Task). UnsetsNest (owner_of m t) (lock_at Nest number book) (Count count)) (sym asks) may in
    let here = subst (λ (found : Option (Option Held)). UnsetsNest (asker m p.events) found (Count count)) (lock_found_in_past Nest number book p st) asked in
    let told = subst (λ (found : Option (Option Held)). UnsetsNest (asker m p.events) found (Count count)) (found_there Nest number p at) here in
    let executed = executed_task m p.events in
    let less : holder (NestLock number) (Free (NestLock number) m executed ∷ p.events) ≡ held_times (asker m p.events) count = rw (key_of_itself Nest number) (nest_less (asker m p.events) count (holder (NestLock number) p.events) told) in
    let stands = lock_written Nest number (held_times (asker m p.events) count) book p (Free (NestLock number) m executed ∷ p.events) st at less (free_changes (NestLock number) m executed p.events) (λ name is. is) in
    let served : ServesPast (after_unset_nest (asker m p.events) number (Count count) book) (unset_nest_row number) repeated m p (Count count) = (here, in_room stands _) in
    subst (λ (t : Task). ServesPast (after_unset_nest (owner_of m t) number (Count count) book) (unset_nest_row number) repeated m p (Count count)) asks served

pub served_by_unset_nest : (number : ℕ) (repeated : Bool) (m : ℕ) (task : Task) (book : BookView) (reply : Reply) → UnsetsNest (owner_of m task) (lock_at Nest number book) reply → BookReply (record { row = unset_nest_row number; repeated = repeated }) book (after_unset_nest (owner_of m task) number reply book) m task reply
served_by_unset_nest number repeated m task book reply may =
    let (count, e) = unsets_nest_only (owner_of m task) (lock_at Nest number book) reply may in
    subst (λ (r : Reply). BookReply (record { row = unset_nest_row number; repeated = repeated }) book (after_unset_nest (owner_of m task) number r book) m task r) (sym e)
    (settled_reply book (after_unset_nest (owner_of m task) number (Count count) book) (unset_nest_row number) repeated m task (Count count) refl
    (unset_nest_serves number repeated m task count book (subst (λ (r : Reply). UnsetsNest (owner_of m task) (lock_at Nest number book) r) e may)) (λ name known. known))
