-- What the laws and the rules of critical names and locks forbid, of any key, member, task, owner and list of events.
use Rattle.std.proofs.Common.{◌≡◌, ℕ, ◌+◌, ◌-◌, ◌<◌, ◌≤◌, Bool, true, false, List, [], ◌∷◌, ◌++◌, Option, Some, None, refl, ap, arith, ◌⊎◌, inl, inr}
use Rattle.std.specs.Prelude.{if◌then◌else◌, ◌&&◌, ◌==◌, not, nat_le, is_some, bytes_eq}
use Rattle.std.proofs.lemmas.Bool.Decides.{nat_tests}
use Rattle.gomp_types.specs.declared.task.Task.{Task}
use Rattle.gomp_types.specs.declared.task.Task.TheVariants.{Implicit, Explicit}
use Rattle.gomp_types.specs.declared.task.Owner.{Owner}
use Rattle.gomp_types.specs.declared.lock.Held.{Held}
use Rattle.gomp_types.specs.declared.lock.TheConstants.{MAX_COUNT}
use Rattle.gomp_types.specs.declared.key.Key.{Key}
use Rattle.gomp_types.specs.declared.key.Key.TheVariants.{Critical, Lock, NestLock}
use Rattle.gomp_events.specs.declared.event.Tag.{Tag}
use Rattle.gomp_events.specs.declared.event.Event.{Event}
use Rattle.gomp_events.specs.declared.event.Event.TheVariants.{Hold, Free, Arrive, Pass, Start, Done}
use Rattle.gomp_events.specs.Laws.{Always, Happened}
use Rattle.gomp_events.specs.Events.{at_barrier}
use Rattle.gomp_types.specs.Owners.{same_owner}
use Rattle.gomp_events.specs.Tasks.{executed_task}
use Rattle.gomp_types.proofs.Booleans.{and_left, and_right, same_number, some_with_one_more}
use Rattle.gomp_locks.specs.Book.{held_by, held_times}
use Rattle.gomp_locks.specs.Locks.{times_held}
use Rattle.gomp_locks.specs.Holders.{same_key, is_nestable, owner_of, held_once_more, held_once_less, holder, without_name, held_names, are_some, holds_critical}
use Rattle.gomp_locks.specs.HoldLaws.{holds_left, AtEachMoment, OneOwner, HeldOnce, FreesItsOwn, PassesFree}
use Rattle.gomp_locks.specs.HoldRules.{HoldRule}
use Rattle.gomp_locks.specs.NameRules.{NameRule}
use Rattle.gomp_locks.proofs.NameLemmas.{one_owner}
use Rattle.gomp_locks.proofs.OwnerLemmas.{one_name, same_name}
use Rattle.gomp_locks.proofs.HoldsKeep.{one_key}
use Rattle.gomp_locks.proofs.AnswerRefutations.{own_holder, other_holder}

-- Where a law looks

-- a law of each event holds of an event that others follow
always_there : (Law : Event → List Event → Type 0) (event : Event) (later h : List Event) → Always Law (later ++ event ∷ h) → Law event h
always_there Law event [] h all = all.0
always_there Law event (first ∷ later) h all = always_there Law event later h all.1

-- what breaks a law at one moment breaks it for good
pub never_broken_before : (Law : List Event → Type 0) (later h : List Event) → (Law h → ⊥) → AtEachMoment Law (later ++ h) → ⊥
never_broken_before Law [] [] broken all = broken all
never_broken_before Law [] (event ∷ h) broken all = broken all.0
never_broken_before Law (first ∷ later) h broken all = never_broken_before Law later h broken all.1

-- Open holds, by what happened

pub own_key : (key : Key) → same_key key key ≡ true
own_key (Critical name) = same_name name
own_key (Lock number) = same_number number
own_key (NestLock number) = same_number number

none_less_is_none : (b : Bool) (n : ℕ) → n ≡ 0 → (if b then n - 1 else n) ≡ 0
none_less_is_none true n none = omega arith
none_less_is_none false n none = none

-- a hold is one more of its owner's
held_again : (key : Key) (m : ℕ) (task : Task) (h : List Event) → holds_left (owner_of m task) key (Hold key m task ∷ h) ≡ holds_left (owner_of m task) key h + 1
held_again key m task h = rw (own_key key, own_holder (owner_of m task)) refl

-- what was held, and nobody freed, is held
open_until_freed : (key : Key) (m : ℕ) (task : Task) (h : List Event) → Happened (Hold key m task) h → ((n : ℕ) (other : Task) → Happened (Free key n other) h → ⊥) → 0 < holds_left (owner_of m task) key h
open_until_freed key m task [] held kept = absurd held
open_until_freed key m task (event ∷ h) (inl e) kept = rw e (let again = held_again key m task h in omega (arith, again))
open_until_freed key m task (event ∷ h) (inr held) kept = step event (open_until_freed key m task h held (λ n other freed. kept n other (inr freed))) (λ n other is. kept n other (inl is))
  where
    step : (event : Event) → 0 < holds_left (owner_of m task) key h → ((n : ℕ) (other : Task) → event ≡ Free key n other → ⊥) → 0 < holds_left (owner_of m task) key (event ∷ h)
    step (Hold other n own) some kept = some_with_one_more (same_key other key && same_owner (owner_of n own) (owner_of m task)) (holds_left (owner_of m task) key h) some
    step (Free other n own) some kept = by_key (same_key other key) refl
      where
        by_key : (b : Bool) → same_key other key ≡ b → 0 < holds_left (owner_of m task) key (Free other n own ∷ h)
        by_key true e = absurd (kept n own (ap (λ (k : Key). Free k n own) (one_key other key e)))
        by_key false e = rw e some
    step _ some kept = some

-- an owner that held nothing has no open hold
none_if_never_held : (key : Key) (owner : Owner) (h : List Event) → ((n : ℕ) (other : Task) → Happened (Hold key n other) h → owner_of n other ≡ owner → ⊥) → holds_left owner key h ≡ 0
none_if_never_held key owner [] never = refl
none_if_never_held key owner (event ∷ h) never = step event (none_if_never_held key owner h (λ n other held. never n other (inr held))) (λ n other is. never n other (inl is))
  where
    step : (event : Event) → holds_left owner key h ≡ 0 → ((n : ℕ) (other : Task) → event ≡ Hold key n other → owner_of n other ≡ owner → ⊥) → holds_left owner key (event ∷ h) ≡ 0
    step (Hold other n own) none apart = by_both (same_key other key && same_owner (owner_of n own) owner) refl
      where
        by_both : (b : Bool) → (same_key other key && same_owner (owner_of n own) owner) ≡ b → holds_left owner key (Hold other n own ∷ h) ≡ 0
        by_both true e =
            let key_is = one_key other key (and_left (same_key other key) (same_owner (owner_of n own) owner) e) in
            let owner_is = one_owner (owner_of n own) owner (and_right (same_key other key) (same_owner (owner_of n own) owner) e) in
            absurd (apart n own (ap (λ (k : Key). Hold k n own) key_is) owner_is)
        by_both false e = rw e none
    step (Free other n own) none apart = none_less_is_none (same_key other key && same_owner (owner_of n own) owner) (holds_left owner key h) none
    step _ none apart = none

-- One owner

-- nothing has two owners
pub never_two_owners : (key : Key) (one other : Owner) (later h : List Event) → 0 < holds_left one key h → 0 < holds_left other key h → (one ≡ other → ⊥) → AtEachMoment OneOwner (later ++ h) → ⊥
never_two_owners key one other later h first second differ law = never_broken_before OneOwner later h (λ single. differ (single key one other first second)) law

-- so no two members hold it
pub never_held_by_two_members : (key : Key) (m n : ℕ) (task other : Task) (later h : List Event) → Happened (Hold key m task) h → Happened (Hold key n other) h → ((k : ℕ) (own : Task) → Happened (Free key k own) h → ⊥) →
    (m ≡ n → ⊥) → AtEachMoment OneOwner (later ++ h) → ⊥
never_held_by_two_members key m n task other later h first second kept differ law =
    never_two_owners key (owner_of m task) (owner_of n other) later h (open_until_freed key m task h first kept) (open_until_freed key n other h second kept) (λ same. differ (ap (λ (x : Owner). x.member) same)) law

-- nor two tasks of a member
pub never_held_by_two_tasks : (key : Key) (m s t : ℕ) (later h : List Event) → Happened (Hold key m (Explicit s)) h → Happened (Hold key m (Explicit t)) h → ((k : ℕ) (own : Task) → Happened (Free key k own) h → ⊥) →
    (s ≡ t → ⊥) → AtEachMoment OneOwner (later ++ h) → ⊥
never_held_by_two_tasks key m s t later h first second kept differ law =
    never_two_owners key (owner_of m (Explicit s)) (owner_of m (Explicit t)) later h (open_until_freed key m (Explicit s) h first kept) (open_until_freed key m (Explicit t) h second kept) (λ same. differ (ap (λ (x : Owner). x.task) same)) law

-- nor a task beside the implicit one of its member
pub never_held_beside_the_implicit_task : (key : Key) (m n t : ℕ) (later h : List Event) → Happened (Hold key m (Implicit n)) h → Happened (Hold key m (Explicit t)) h → ((k : ℕ) (own : Task) → Happened (Free key k own) h → ⊥) →
    0 < t → AtEachMoment OneOwner (later ++ h) → ⊥
never_held_beside_the_implicit_task key m n t later h first second kept some law =
    never_two_owners key (owner_of m (Implicit n)) (owner_of m (Explicit t)) later h (open_until_freed key m (Implicit n) h first kept) (open_until_freed key m (Explicit t) h second kept)
    (λ same. let zero : 0 ≡ t = ap (λ (x : Owner). x.task) same in omega (arith, zero, some)) law

-- Held once

-- what is no nestable lock is not held twice
pub never_held_more_than_once : (key : Key) (owner : Owner) (later h : List Event) → is_nestable key ≡ false → 1 < holds_left owner key h → AtEachMoment HeldOnce (later ++ h) → ⊥
never_held_more_than_once key owner later h single more law = never_broken_before HeldOnce later h (λ once. let most = once key owner single in omega (arith, most, more)) law

twice_open : (key : Key) (m : ℕ) (task : Task) (h : List Event) → Happened (Hold key m task) h → ((k : ℕ) (own : Task) → Happened (Free key k own) h → ⊥) → 1 < holds_left (owner_of m task) key (Hold key m task ∷ h)
twice_open key m task h held kept = let some = open_until_freed key m task h held kept in let again = held_again key m task h in omega (arith, some, again)

-- a critical name is not
pub never_name_held_twice : (name : List ℕ) (m : ℕ) (task : Task) (later h : List Event) → Happened (Hold (Critical name) m task) h → ((k : ℕ) (own : Task) → Happened (Free (Critical name) k own) h → ⊥) →
    AtEachMoment HeldOnce (later ++ Hold (Critical name) m task ∷ h) → ⊥
never_name_held_twice name m task later h held kept law =
    never_held_more_than_once (Critical name) (owner_of m task) later (Hold (Critical name) m task ∷ h) refl (twice_open (Critical name) m task h held kept) law

-- nor is a simple lock
pub never_lock_held_twice : (number m : ℕ) (task : Task) (later h : List Event) → Happened (Hold (Lock number) m task) h → ((k : ℕ) (own : Task) → Happened (Free (Lock number) k own) h → ⊥) →
    AtEachMoment HeldOnce (later ++ Hold (Lock number) m task ∷ h) → ⊥
never_lock_held_twice number m task later h held kept law =
    never_held_more_than_once (Lock number) (owner_of m task) later (Hold (Lock number) m task ∷ h) refl (twice_open (Lock number) m task h held kept) law

-- Releases

-- nobody frees that of which it has no open hold
pub never_freed_without_an_open_hold : (key : Key) (m : ℕ) (task : Task) (later h : List Event) → holds_left (owner_of m task) key h ≡ 0 → Always FreesItsOwn (later ++ Free key m task ∷ h) → ⊥
never_freed_without_an_open_hold key m task later h none law = let some = always_there FreesItsOwn (Free key m task) later h law in omega (arith, some, none)

-- so nobody frees what it did not hold
pub never_freed_unheld : (key : Key) (m : ℕ) (task : Task) (later h : List Event) → ((n : ℕ) (other : Task) → Happened (Hold key n other) h → owner_of n other ≡ owner_of m task → ⊥) → Always FreesItsOwn (later ++ Free key m task ∷ h) → ⊥
never_freed_unheld key m task later h never law = never_freed_without_an_open_hold key m task later h (none_if_never_held key (owner_of m task) h never) law

-- so no member frees what another alone held
pub never_freed_by_another_member : (key : Key) (m n : ℕ) (task other : Task) (later h : List Event) → (m ≡ n → ⊥) → ((k : ℕ) (own : Task) → Happened (Hold key k own) h → ⊥) → Always FreesItsOwn (later ++ Free key m task ∷ Hold key n other ∷ h) → ⊥
never_freed_by_another_member key m n task other later h differ never law = never_freed_unheld key m task later (Hold key n other ∷ h) first law
  where
    first : (k : ℕ) (own : Task) → Happened (Hold key k own) (Hold key n other ∷ h) → owner_of k own ≡ owner_of m task → ⊥
    first k own (inl e) same = let who : n ≡ k = cc in let member : k ≡ m = ap (λ (x : Owner). x.member) same in differ (cc)
    first k own (inr held) same = never k own held

-- nor one task of a member what another alone held
pub never_freed_by_another_task : (key : Key) (m s t : ℕ) (later h : List Event) → (s ≡ t → ⊥) → ((k : ℕ) (own : Task) → Happened (Hold key k own) h → ⊥) → Always FreesItsOwn (later ++ Free key m (Explicit s) ∷ Hold key m (Explicit t) ∷ h) → ⊥
never_freed_by_another_task key m s t later h differ never law = never_freed_unheld key m (Explicit s) later (Hold key m (Explicit t) ∷ h) first law
  where
    first : (k : ℕ) (own : Task) → Happened (Hold key k own) (Hold key m (Explicit t) ∷ h) → owner_of k own ≡ owner_of m (Explicit s) → ⊥
    first k (Implicit x) (inl e) same = absurd (cc)
    first k (Explicit x) (inl e) same = let which : t ≡ x = cc in let task : x ≡ s = ap (λ (x : Owner). x.task) same in differ (cc)
    first k own (inr held) same = never k own held

-- nor is one hold freed twice
pub never_freed_twice : (key : Key) (m : ℕ) (task : Task) (later h : List Event) → ((k : ℕ) (own : Task) → Happened (Hold key k own) h → ⊥) → Always FreesItsOwn (later ++ Free key m task ∷ Free key m task ∷ Hold key m task ∷ h) → ⊥
never_freed_twice key m task later h never law =
    let some : 0 < holds_left (owner_of m task) key (Free key m task ∷ Hold key m task ∷ h) = always_there FreesItsOwn (Free key m task) later (Free key m task ∷ Hold key m task ∷ h) law in
    let none = none_if_never_held key (owner_of m task) h (λ n other held same. never n other held) in
    let less : holds_left (owner_of m task) key (Free key m task ∷ Hold key m task ∷ h) ≡ holds_left (owner_of m task) key h + 1 - 1 = rw (own_key key, own_holder (owner_of m task)) (refl {a = holds_left (owner_of m task) key h + 1 - 1}) in
    omega (arith, some, none, less)

-- Passes

-- no member passes a barrier with a critical name that one of its tasks holds
pub never_passed_with_a_name : (barrier m : ℕ) (name : List ℕ) (task : Task) (later h : List Event) → Happened (Hold (Critical name) m task) h → ((k : ℕ) (own : Task) → Happened (Free (Critical name) k own) h → ⊥) →
    Always PassesFree (later ++ Pass barrier m ∷ h) → ⊥
never_passed_with_a_name barrier m name task later h held kept law =
    let none = always_there PassesFree (Pass barrier m) later h law name (owner_of m task) refl in
    let some = open_until_freed (Critical name) m task h held kept in omega (arith, some, none)

-- The rule of holds

-- what was held, and nobody freed, somebody holds
held_until_freed : (key : Key) (m : ℕ) (task : Task) (h : List Event) → Happened (Hold key m task) h → ((n : ℕ) (other : Task) → Happened (Free key n other) h → ⊥) → is_some (holder key h) ≡ true
held_until_freed key m task [] held kept = absurd held
held_until_freed key m task (event ∷ h) (inl e) kept = rw (e, own_key key) (some_once_more (owner_of m task) (holder key h))
  where
    some_once_more : (owner : Owner) (found : Option Held) → is_some (held_once_more owner found) ≡ true
    some_once_more owner None = refl
    some_once_more owner (Some held) = refl
held_until_freed key m task (event ∷ h) (inr held) kept = step event (held_until_freed key m task h held (λ n other freed. kept n other (inr freed))) (λ n other is. kept n other (inl is))
  where
    once_more : (b : Bool) (owner : Owner) (found : Option Held) → is_some found ≡ true → is_some (if b then held_once_more owner found else found) ≡ true
    once_more true owner None some = absurd (cc)
    once_more true owner (Some held) some = refl
    once_more false owner found some = some

    step : (event : Event) → is_some (holder key h) ≡ true → ((n : ℕ) (other : Task) → event ≡ Free key n other → ⊥) → is_some (holder key (event ∷ h)) ≡ true
    step (Hold other n own) some kept = once_more (same_key other key) (owner_of n own) (holder key h) some
    step (Free other n own) some kept = by_key (same_key other key) refl
      where
        by_key : (b : Bool) → same_key other key ≡ b → is_some (holder key (Free other n own ∷ h)) ≡ true
        by_key true e = absurd (kept n own (ap (λ (k : Key). Free k n own) (one_key other key e)))
        by_key false e = rw e some
    step _ some kept = some

-- an owner that held nothing holds nothing
holds_none_if_never : (key : Key) (owner : Owner) (h : List Event) → ((n : ℕ) (other : Task) → Happened (Hold key n other) h → owner_of n other ≡ owner → ⊥) → held_by owner (holder key h) ≡ false
holds_none_if_never key owner [] never = refl
holds_none_if_never key owner (event ∷ h) never = step event (holds_none_if_never key owner h (λ n other held. never n other (inr held))) (λ n other is. never n other (inl is))
  where
    more : (one : Owner) (found : Option Held) → same_owner one owner ≡ false → held_by owner found ≡ false → held_by owner (held_once_more one found) ≡ false
    more one None apart none = apart
    more one (Some held) apart none = none

    less_times : (one : Owner) (count : ℕ) → same_owner one owner ≡ false → held_by owner (held_times one count) ≡ false
    less_times one count apart = by_count (count == 0)
      where
        by_count : (b : Bool) → held_by owner (if b then None else Some (record { owner = one; count = count })) ≡ false
        by_count true = refl
        by_count false = apart

    less : (b : Bool) (found : Option Held) → held_by owner found ≡ false → held_by owner (if b then held_once_less found else found) ≡ false
    less true None none = refl
    less true (Some held) none = less_times held.owner (held.count - 1) none
    less false found none = none

    step : (event : Event) → held_by owner (holder key h) ≡ false → ((n : ℕ) (other : Task) → event ≡ Hold key n other → owner_of n other ≡ owner → ⊥) → held_by owner (holder key (event ∷ h)) ≡ false
    step (Hold other n own) none apart = by_both (same_key other key) (same_owner (owner_of n own) owner) refl refl
      where
        by_both : (a b : Bool) → same_key other key ≡ a → same_owner (owner_of n own) owner ≡ b → held_by owner (holder key (Hold other n own ∷ h)) ≡ false
        by_both true true e f = absurd (apart n own (ap (λ (k : Key). Hold k n own) (one_key other key e)) (one_owner (owner_of n own) owner f))
        by_both true false e f = rw e (more (owner_of n own) (holder key h) f none)
        by_both false b e f = rw e none
    step (Free other n own) none apart = less (same_key other key) (holder key h) none
    step _ none apart = none

-- what nobody held nobody holds
no_holder_if_never : (key : Key) (h : List Event) → ((n : ℕ) (other : Task) → Happened (Hold key n other) h → ⊥) → holder key h ≡ None
no_holder_if_never key [] never = refl
no_holder_if_never key (event ∷ h) never = step event (no_holder_if_never key h (λ n other held. never n other (inr held))) (λ n other is. never n other (inl is))
  where
    less : (b : Bool) (found : Option Held) → found ≡ None → (if b then held_once_less found else found) ≡ None
    less true found none = rw none refl
    less false found none = none

    step : (event : Event) → holder key h ≡ None → ((n : ℕ) (other : Task) → event ≡ Hold key n other → ⊥) → holder key (event ∷ h) ≡ None
    step (Hold other n own) none apart = by_key (same_key other key) refl
      where
        by_key : (b : Bool) → same_key other key ≡ b → holder key (Hold other n own ∷ h) ≡ None
        by_key true e = absurd (apart n own (ap (λ (k : Key). Hold k n own) (one_key other key e)))
        by_key false e = rw e none
    step (Free other n own) none apart = less (same_key other key) (holder key h) none
    step _ none apart = none

-- no task holds but the one that its member executes
pub never_held_in_another_task : (key : Key) (m : ℕ) (task : Task) (later h : List Event) → (task ≡ executed_task m h → ⊥) → Always HoldRule (later ++ Hold key m task ∷ h) → ⊥
never_held_in_another_task key m task later h apart law = apart (always_there HoldRule (Hold key m task) later h law).current

-- a critical name that somebody holds is not entered, by whomever
pub never_name_entered_while_held : (name : List ℕ) (m n : ℕ) (task other : Task) (later h : List Event) → Happened (Hold (Critical name) n other) h → ((k : ℕ) (own : Task) → Happened (Free (Critical name) k own) h → ⊥) →
    Always HoldRule (later ++ Hold (Critical name) m task ∷ h) → ⊥
never_name_entered_while_held name m n task other later h held kept law =
    let free : not (is_some (holder (Critical name) h)) ≡ true = (always_there HoldRule (Hold (Critical name) m task) later h law).free in
    let some = held_until_freed (Critical name) n other h held kept in
    let never : false ≡ true = rw some at free in absurd (cc)

-- nor is a simple lock set
pub never_lock_set_while_held : (number m n : ℕ) (task other : Task) (later h : List Event) → Happened (Hold (Lock number) n other) h → ((k : ℕ) (own : Task) → Happened (Free (Lock number) k own) h → ⊥) →
    Always HoldRule (later ++ Hold (Lock number) m task ∷ h) → ⊥
never_lock_set_while_held number m n task other later h held kept law =
    let free : not (is_some (holder (Lock number) h)) ≡ true = (always_there HoldRule (Hold (Lock number) m task) later h law).free in
    let some = held_until_freed (Lock number) n other h held kept in
    let never : false ≡ true = rw some at free in absurd (cc)

-- nor a nestable lock by a task that never set it
pub never_nest_set_while_held_by_another : (number m n : ℕ) (task other : Task) (later h : List Event) → Happened (Hold (NestLock number) n other) h → ((k : ℕ) (own : Task) → Happened (Free (NestLock number) k own) h → ⊥) →
    ((k : ℕ) (own : Task) → Happened (Hold (NestLock number) k own) h → owner_of k own ≡ owner_of m task → ⊥) → Always HoldRule (later ++ Hold (NestLock number) m task ∷ h) → ⊥
never_nest_set_while_held_by_another number m n task other later h held kept apart law =
    let free = (always_there HoldRule (Hold (NestLock number) m task) later h law).free in
    let some = held_until_freed (NestLock number) n other h held kept in
    let none = holds_none_if_never (NestLock number) (owner_of m task) h apart in
    let never : false ≡ true = rw (some, none) at free in absurd (cc)

-- nor one that was freed less often than it was set
pub never_nest_set_while_left_once : (number m n : ℕ) (task other : Task) (later h : List Event) → ((k : ℕ) (own : Task) → Happened (Hold (NestLock number) k own) h → ⊥) → (owner_of n other ≡ owner_of m task → ⊥) →
    Always HoldRule (later ++ Hold (NestLock number) m task ∷ Free (NestLock number) n other ∷ Hold (NestLock number) n other ∷ Hold (NestLock number) n other ∷ h) → ⊥
never_nest_set_while_left_once number m n task other later h never apart law =
    let free = (always_there HoldRule (Hold (NestLock number) m task) later (Free (NestLock number) n other ∷ Hold (NestLock number) n other ∷ Hold (NestLock number) n other ∷ h) law).free in
    let none = no_holder_if_never (NestLock number) h never in
    let differ = other_holder (owner_of n other) (owner_of m task) apart in
    let wrong : false ≡ true = rw (own_key (NestLock number), none, differ) at free in absurd (cc)

-- nor more often than can be counted
pub never_nest_set_above_the_count : (number m : ℕ) (task : Task) (held : Held) (later h : List Event) → holder (NestLock number) h ≡ Some held → held.owner ≡ owner_of m task → MAX_COUNT ≤ held.count → Always HoldRule (later ++ Hold (NestLock number) m task ∷ h) → ⊥
never_nest_set_above_the_count number m task held later h found owner many law =
    let free = (always_there HoldRule (Hold (NestLock number) m task) later h law).free in
    let room : not (nat_le MAX_COUNT (times_held (owner_of m task) (holder (NestLock number) h))) ≡ true = and_right _ (not (nat_le MAX_COUNT (times_held (owner_of m task) (holder (NestLock number) h)))) free in
    let own : same_owner held.owner (owner_of m task) ≡ true = rw owner (own_holder (owner_of m task)) in
    let full : nat_le MAX_COUNT held.count ≡ true = grind (arith, nat_tests, many) in
    let never : false ≡ true = rw (found, own, full) at room in absurd (cc)

-- no task frees but the one that its member executes
pub never_freed_in_another_task : (key : Key) (m : ℕ) (task : Task) (later h : List Event) → (task ≡ executed_task m h → ⊥) → Always HoldRule (later ++ Free key m task ∷ h) → ⊥
never_freed_in_another_task key m task later h apart law = apart (always_there HoldRule (Free key m task) later h law).current

-- and none what it never held
pub never_freed_by_no_holder : (key : Key) (m : ℕ) (task : Task) (later h : List Event) → ((n : ℕ) (other : Task) → Happened (Hold key n other) h → owner_of n other ≡ owner_of m task → ⊥) → Always HoldRule (later ++ Free key m task ∷ h) → ⊥
never_freed_by_no_holder key m task later h never law =
    let held = (always_there HoldRule (Free key m task) later h law).held in
    let none = holds_none_if_never key (owner_of m task) h never in
    let wrong : false ≡ true = rw none at held in absurd (cc)

-- nor what it has freed as often as it held it
pub never_freed_again_by_its_holder : (key : Key) (m : ℕ) (task : Task) (later h : List Event) → ((k : ℕ) (own : Task) → Happened (Hold key k own) h → ⊥) → Always HoldRule (later ++ Free key m task ∷ Free key m task ∷ Hold key m task ∷ h) → ⊥
never_freed_again_by_its_holder key m task later h never law =
    let held = (always_there HoldRule (Free key m task) later (Free key m task ∷ Hold key m task ∷ h) law).held in
    let none = no_holder_if_never key h never in
    let wrong : false ≡ true = rw (own_key key, none) at held in absurd (cc)

-- The rule of critical names at barriers and in tasks

-- the name is among these
abbrev IsAmong : List ℕ → List (List ℕ) → Type 0
IsAmong name [] = ⊥
IsAmong name (other ∷ names) = (other ≡ name) ⊎ IsAmong name names

among_are_some : (name : List ℕ) (names : List (List ℕ)) → IsAmong name names → are_some names ≡ true
among_are_some name [] among = absurd among
among_are_some name (other ∷ names) among = refl

among_others : (name one : List ℕ) (names : List (List ℕ)) → (one ≡ name → ⊥) → IsAmong name names → IsAmong name (without_name one names)
among_others name one [] apart among = absurd among
among_others name one (other ∷ names) apart among = by_name (bytes_eq other one) refl among (λ there. among_others name one names apart there)
  where
    by_name : (b : Bool) → bytes_eq other one ≡ b → (other ≡ name) ⊎ IsAmong name names → (IsAmong name names → IsAmong name (without_name one names)) → IsAmong name (without_name one (other ∷ names))
    by_name true e (inl here) rest = absurd (apart (let same = one_name other one e in cc))
    by_name true e (inr there) rest = rw e (rest there)
    by_name false e (inl here) rest = rw e (inl here)
    by_name false e (inr there) rest = rw e (inr (rest there))

-- a critical name that an owner held, and nobody freed, is among those that it holds
among_until_freed : (name : List ℕ) (m : ℕ) (task : Task) (h : List Event) → Happened (Hold (Critical name) m task) h → ((n : ℕ) (other : Task) → Happened (Free (Critical name) n other) h → ⊥) → IsAmong name (held_names (owner_of m task) h)
among_until_freed name m task [] held kept = absurd held
among_until_freed name m task (event ∷ h) (inl e) kept = rw (e, own_holder (owner_of m task)) (inl refl)
among_until_freed name m task (event ∷ h) (inr held) kept = step event (among_until_freed name m task h held (λ n other freed. kept n other (inr freed))) (λ n other is. kept n other (inl is))
  where
    more : (b : Bool) (one : List ℕ) (names : List (List ℕ)) → IsAmong name names → IsAmong name (if b then one ∷ names else names)
    more true one names among = inr among
    more false one names among = among

    less : (b : Bool) (one : List ℕ) (names : List (List ℕ)) → (one ≡ name → ⊥) → IsAmong name names → IsAmong name (if b then without_name one names else names)
    less true one names apart among = among_others name one names apart among
    less false one names apart among = among

    step : (event : Event) → IsAmong name (held_names (owner_of m task) h) → ((n : ℕ) (other : Task) → event ≡ Free (Critical name) n other → ⊥) → IsAmong name (held_names (owner_of m task) (event ∷ h))
    step (Hold (Critical one) n own) among kept = more (same_owner (owner_of n own) (owner_of m task)) one (held_names (owner_of m task) h) among
    step (Free (Critical one) n own) among kept =
        less (same_owner (owner_of n own) (owner_of m task)) one (held_names (owner_of m task) h) (λ same. kept n own (ap (λ (x : List ℕ). Free (Critical x) n own) same)) among
    step _ among kept = among

critical_until_freed : (name : List ℕ) (m : ℕ) (task : Task) (h : List Event) → Happened (Hold (Critical name) m task) h → ((n : ℕ) (other : Task) → Happened (Free (Critical name) n other) h → ⊥) → holds_critical (owner_of m task) h ≡ true
critical_until_freed name m task h held kept = among_are_some name (held_names (owner_of m task) h) (among_until_freed name m task h held kept)

-- no member arrives at a barrier in a task
pub never_arrived_in_a_task : (barrier m t : ℕ) (tag : Tag) (later h : List Event) → executed_task m h ≡ Explicit t → Always NameRule (later ++ Arrive barrier m tag ∷ h) → ⊥
never_arrived_in_a_task barrier m t tag later h inside law =
    let outside = (always_there NameRule (Arrive barrier m tag) later h law).outside in
    let wrong : true ≡ false = rw inside at outside in absurd (cc)

-- nor with a critical name that the task that it executes holds
pub never_arrived_with_a_name : (barrier m : ℕ) (tag : Tag) (name : List ℕ) (later h : List Event) → Happened (Hold (Critical name) m (executed_task m h)) h → ((k : ℕ) (own : Task) → Happened (Free (Critical name) k own) h → ⊥) →
    Always NameRule (later ++ Arrive barrier m tag ∷ h) → ⊥
never_arrived_with_a_name barrier m tag name later h held kept law =
    let free = (always_there NameRule (Arrive barrier m tag) later h law).free in
    let some = critical_until_freed name m (executed_task m h) h held kept in
    let wrong : true ≡ false = rw some at free in absurd (cc)

-- no task ends with a critical name that it holds
pub never_ended_with_a_name : (t m : ℕ) (name : List ℕ) (later h : List Event) → Happened (Hold (Critical name) m (executed_task m h)) h → ((k : ℕ) (own : Task) → Happened (Free (Critical name) k own) h → ⊥) →
    Always NameRule (later ++ Done t m ∷ h) → ⊥
never_ended_with_a_name t m name later h held kept law =
    let left = (always_there NameRule (Done t m) later h law).left in
    let some = critical_until_freed name m (executed_task m h) h held kept in
    let wrong : true ≡ false = rw some at left in absurd (cc)

-- no implicit task holds anything while its member waits at a barrier
pub never_held_at_a_barrier : (key : Key) (m n : ℕ) (task : Task) (later h : List Event) → executed_task m h ≡ Implicit n → at_barrier m h ≡ true → Always NameRule (later ++ Hold key m task ∷ h) → ⊥
never_held_at_a_barrier key m n task later h outside waits law =
    let away = (always_there NameRule (Hold key m task) later h law).away (rw outside refl) in
    let wrong : true ≡ false = rw waits at away in absurd (cc)

-- no explicit task has the number of an implicit one
pub never_started_with_the_number_zero : (m : ℕ) (later h : List Event) → Always NameRule (later ++ Start 0 m ∷ h) → ⊥
never_started_with_the_number_zero m later h law = let number = (always_there NameRule (Start 0 m) later h law).number in omega (arith, number)
