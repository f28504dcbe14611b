-- What the rule of names and locks keeps: who holds what, by what happened, and the laws of the holds.
use Rattle.std.proofs.Common.{◌≡◌, ℕ, ◌+◌, ◌-◌, ◌<◌, ◌≤◌, Bool, true, false, List, [], ◌∷◌, Option, Some, None, refl, ap, sym, ◌∙◌, arith}
use Rattle.std.specs.Prelude.{if◌then◌else◌, ◌||◌, ◌==◌, not, bytes_eq}
use Rattle.gomp_types.specs.declared.task.Task.{Task}
use Rattle.gomp_types.specs.declared.task.Owner.{Owner}
use Rattle.gomp_types.specs.declared.lock.Held.{Held}
use Rattle.gomp_types.specs.declared.key.Key.{Key}
use Rattle.gomp_types.specs.declared.key.Key.TheVariants.{Critical, Lock, NestLock}
use Rattle.gomp_events.specs.declared.event.Event.{Event}
use Rattle.gomp_events.specs.declared.event.Event.TheVariants.{Hold, Free, Start, Done}
use Rattle.gomp_events.specs.Events.{member_of}
use Rattle.gomp_events.specs.Laws.{Always}
use Rattle.gomp_types.specs.Owners.{same_owner}
use Rattle.gomp_types.proofs.Booleans.{is_equal, and_left, not_both, unequal_numbers}
use Rattle.gomp_locks.specs.Book.{held_by, held_times}
use Rattle.gomp_locks.specs.Locks.{times_held}
use Rattle.gomp_locks.specs.Holders.{same_key, is_nestable, owner_of, asker, held_once_more, held_once_less, holder, without_name, held_names, are_some, holds_critical}
use Rattle.gomp_locks.specs.HoldRules.{can_hold, MayHold, MayFree, HoldRule}
use Rattle.gomp_locks.specs.HoldLaws.{holds_left, AtEachMoment, OneOwner, HeldOnce, FreesItsOwn}
use Rattle.gomp_locks.proofs.NameLemmas.{one_owner}
use Rattle.gomp_locks.proofs.OwnerLemmas.{one_name, same_name}

-- Keys

-- keys that are equal are one
pub one_key : (one other : Key) → same_key one other ≡ true → one ≡ other
one_key (Critical name) (Critical other) e = ap Critical (one_name name other e)
one_key (Lock number) (Lock other) e = ap Lock (is_equal number other e)
one_key (NestLock number) (NestLock other) e = ap NestLock (is_equal number other e)
one_key _ _ e = absurd (cc)

-- What a hold and a release find

-- nobody holds it, or it is a nestable lock of the same owner
abbrev IsHoldable : Key → Owner → Option Held → Type 0
IsHoldable key owner None = Unit {0}
IsHoldable key owner (Some held) = (held.owner ≡ owner) × (is_nestable key ≡ true)

not_twice : (b : Bool) → not (not b) ≡ true → b ≡ true
not_twice true e = refl
not_twice false e = absurd (cc)

found_by_hold : (key : Key) (owner : Owner) (found : Option Held) → can_hold key owner found ≡ true → IsHoldable key owner found
found_by_hold key owner None may = tt
found_by_hold (Critical name) owner (Some held) may = absurd (cc)
found_by_hold (Lock number) owner (Some held) may = absurd (cc)
found_by_hold (NestLock number) owner (Some held) may = (one_owner held.owner owner (not_twice (same_owner held.owner owner) (and_left (not (not (same_owner held.owner owner))) _ may)), refl)

-- the owner holds it
abbrev IsHeldBy : Owner → Option Held → Type 0
IsHeldBy owner None = ⊥
IsHeldBy owner (Some held) = held.owner ≡ owner

found_by_free : (owner : Owner) (found : Option Held) → held_by owner found ≡ true → IsHeldBy owner found
found_by_free owner None may = absurd (cc)
found_by_free owner (Some held) may = one_owner held.owner owner may

-- the same of the key that is asked for
pub hold_of_key : (key other : Key) (m : ℕ) (task : Task) (h : List Event) → same_key other key ≡ true → MayHold other m task h → can_hold key (owner_of m task) (holder key h) ≡ true
hold_of_key key other m task h same may = rw (one_key other key same) at may.free

free_of_key : (key other : Key) (m : ℕ) (task : Task) (h : List Event) → same_key other key ≡ true → MayFree other m task h → held_by (owner_of m task) (holder key h) ≡ true
free_of_key key other m task h same may = rw (one_key other key same) at may.held

-- Whether an owner holds it, after an event of another

-- a hold keeps the owner, if there is one
held_more_by_another : (one owner : Owner) (found : Option Held) → same_owner one owner ≡ false → held_by owner (held_once_more one found) ≡ held_by owner found
held_more_by_another one owner None other = other
held_more_by_another one owner (Some held) other = refl

-- what one owner holds no other does
another_holds : (one owner : Owner) (found : Option Held) → held_by one found ≡ true → same_owner one owner ≡ false → held_by owner found ≡ false
another_holds one owner None may other = refl
another_holds one owner (Some held) may other = ap (λ (x : Owner). same_owner x owner) (found_by_free one (Some held) may) ∙ other

held_less_by_another : (one owner : Owner) (found : Option Held) → held_by one found ≡ true → same_owner one owner ≡ false → held_by owner (held_once_less found) ≡ held_by owner found
held_less_by_another one owner None may other = refl
held_less_by_another one owner (Some held) may other = by_count (held.count - 1 == 0) refl
  where
    apart : same_owner held.owner owner ≡ false
    apart = another_holds one owner (Some held) may other

    by_count : (b : Bool) → (held.count - 1 == 0) ≡ b → held_by owner (held_times held.owner (held.count - 1)) ≡ same_owner held.owner owner
    by_count true e = rw (e, apart) refl
    by_count false e = rw e refl

-- whether an owner holds it does not change by a hold of another
pub held_by_another_stays_held : (key x : Key) (owner : Owner) (n : ℕ) (task : Task) (h : List Event) → same_owner (owner_of n task) owner ≡ false → held_by owner (holder x (Hold key n task ∷ h)) ≡ held_by owner (holder x h)
held_by_another_stays_held key x owner n task h other = by_key (same_key key x) refl
  where
    by_key : (b : Bool) → same_key key x ≡ b → held_by owner (holder x (Hold key n task ∷ h)) ≡ held_by owner (holder x h)
    by_key true e = rw e (held_more_by_another (owner_of n task) owner (holder x h) other)
    by_key false e = rw e refl

-- nor by a release
pub held_by_another_stays_freed : (key x : Key) (owner : Owner) (n : ℕ) (task : Task) (h : List Event) → MayFree key n task h → same_owner (owner_of n task) owner ≡ false → held_by owner (holder x (Free key n task ∷ h)) ≡ held_by owner (holder x h)
held_by_another_stays_freed key x owner n task h may other = by_key (same_key key x) refl
  where
    by_key : (b : Bool) → same_key key x ≡ b → held_by owner (holder x (Free key n task ∷ h)) ≡ held_by owner (holder x h)
    by_key true e = rw e (held_less_by_another (owner_of n task) owner (holder x h) (free_of_key x key n task h e may) other)
    by_key false e = rw e refl

-- both leave the names of another owner
pub names_of_another_stay_held : (key : Key) (owner : Owner) (n : ℕ) (task : Task) (h : List Event) → same_owner (owner_of n task) owner ≡ false → held_names owner (Hold key n task ∷ h) ≡ held_names owner h
names_of_another_stay_held (Critical name) owner n task h other = rw other refl
names_of_another_stay_held (Lock number) owner n task h other = refl
names_of_another_stay_held (NestLock number) owner n task h other = refl

pub names_of_another_stay_freed : (key : Key) (owner : Owner) (n : ℕ) (task : Task) (h : List Event) → same_owner (owner_of n task) owner ≡ false → held_names owner (Free key n task ∷ h) ≡ held_names owner h
names_of_another_stay_freed (Critical name) owner n task h other = rw other refl
names_of_another_stay_freed (Lock number) owner n task h other = refl
names_of_another_stay_freed (NestLock number) owner n task h other = refl

-- the tasks of another member are other owners
pub owner_of_another_member : (n k : ℕ) (task own : Task) → (n == k) ≡ false → same_owner (owner_of n task) (owner_of k own) ≡ false
owner_of_another_member n k task own other = rw other refl

-- Who asks

-- whether the event changes the task that the member executes: it starts one or ends one
abbrev pub changes_task : ℕ → Event → Bool
changes_task k (Start task m) = m == k
changes_task k (Done task m) = m == k
changes_task k _ = false

-- no other event changes who asks
pub asker_stays : (k : ℕ) (event : Event) (h : List Event) → changes_task k event ≡ false → asker k (event ∷ h) ≡ asker k h
asker_stays k (Start task m) h other = rw other refl
asker_stays k (Done task m) h other = rw other refl
asker_stays k _ h other = refl

-- nor does an event of another member
pub asker_of_another_stays : (k : ℕ) (event : Event) (h : List Event) → (member_of event == k) ≡ false → asker k (event ∷ h) ≡ asker k h
asker_of_another_stays k (Start task m) h other = rw other refl
asker_of_another_stays k (Done task m) h other = rw other refl
asker_of_another_stays k _ h other = refl

-- How something is held

-- at least once, and once if it is no nestable lock
abbrev IsProper : Key → Option Held → Type 0
IsProper key None = Unit {0}
IsProper key (Some held) = (1 ≤ held.count) × (is_nestable key ≡ false → held.count ≡ 1)

proper_more : (key : Key) (owner : Owner) (found : Option Held) → can_hold key owner found ≡ true → IsProper key found → IsProper key (held_once_more owner found)
proper_more key owner None may is = (omega arith, λ single. refl)
proper_more key owner (Some held) may is = (omega arith, λ single. absurd (not_both (is_nestable key) (found_by_hold key owner (Some held) may).1 single))

proper_less : (key : Key) (found : Option Held) → IsProper key found → IsProper key (held_once_less found)
proper_less key None is = tt
proper_less key (Some held) is = by_count (held.count - 1 == 0) refl
  where
    by_count : (b : Bool) → (held.count - 1 == 0) ≡ b → IsProper key (held_times held.owner (held.count - 1))
    by_count true e = rw e tt
    by_count false e =
        let some = unequal_numbers (held.count - 1) 0 e in
        let once : is_nestable key ≡ false → held.count - 1 ≡ 1 = λ single. absurd (let one = is.1 single in omega (arith, one, some)) in
        let least : 1 ≤ held.count - 1 = omega (arith, some) in rw e (least, once)

proper_holder : (key : Key) (h : List Event) → Always HoldRule h → IsProper key (holder key h)
proper_holder key [] all = tt
proper_holder key (Hold other m task ∷ earlier) all = by_key (same_key other key) refl (proper_holder key earlier all.1)
  where
    by_key : (b : Bool) → same_key other key ≡ b → IsProper key (holder key earlier) → IsProper key (holder key (Hold other m task ∷ earlier))
    by_key true e is = rw e (proper_more key (owner_of m task) (holder key earlier) (hold_of_key key other m task earlier e all.0) is)
    by_key false e is = rw e is
proper_holder key (Free other m task ∷ earlier) all = by_key (same_key other key) refl (proper_holder key earlier all.1)
  where
    by_key : (b : Bool) → same_key other key ≡ b → IsProper key (holder key earlier) → IsProper key (holder key (Free other m task ∷ earlier))
    by_key true e is = rw e (proper_less key (holder key earlier) is)
    by_key false e is = rw e is
proper_holder key (_ ∷ earlier) all = proper_holder key earlier all.1

-- what is held is held at least once
pub held_at_least_once : (key : Key) (held : Held) (h : List Event) → Always HoldRule h → holder key h ≡ Some held → 1 ≤ held.count
held_at_least_once key held h all is = let proper = rw is at (proper_holder key h all) in proper.0

-- and once, if it is no nestable lock
pub held_once_of_single : (key : Key) (held : Held) (h : List Event) → is_nestable key ≡ false → Always HoldRule h → holder key h ≡ Some held → held.count ≡ 1
held_once_of_single key held h single all is = let proper = rw is at (proper_holder key h all) in proper.1 single

-- Open holds

-- so often an owner holds what is held so
count_of_times : (owner other : Owner) (count : ℕ) → times_held owner (held_times other count) ≡ (if same_owner other owner then count else 0)
count_of_times owner other count = by_count (count == 0) refl (same_owner other owner) refl
  where
    by_count : (b : Bool) → (count == 0) ≡ b → (s : Bool) → same_owner other owner ≡ s → times_held owner (held_times other count) ≡ (if same_owner other owner then count else 0)
    by_count true e true s = rw (e, s) (sym (is_equal count 0 e))
    by_count true e false s = rw (e, s) refl
    by_count false e s same = rw e refl

-- one hold more of what may be held
holds_left_more : (key : Key) (owner one : Owner) (left : ℕ) (found : Option Held) → can_hold key one found ≡ true → left ≡ times_held owner found →
    (if same_owner one owner then left + 1 else left) ≡ times_held owner (held_once_more one found)
holds_left_more key owner one left None may is = by_owner (same_owner one owner) refl
  where
    by_owner : (b : Bool) → same_owner one owner ≡ b → (if same_owner one owner then left + 1 else left) ≡ times_held owner (held_once_more one None)
    by_owner true e = rw (e, is) refl
    by_owner false e = rw (e, is) refl
holds_left_more key owner one left (Some held) may is = by_owner (same_owner one owner) refl
  where
    same : (same_owner held.owner owner) ≡ same_owner one owner
    same = ap (λ (other : Owner). same_owner other owner) (found_by_hold key one (Some held) may).0

    by_owner : (b : Bool) → same_owner one owner ≡ b → (if same_owner one owner then left + 1 else left) ≡ times_held owner (held_once_more one (Some held))
    by_owner true e = let count : left ≡ held.count = rw (same, e) at is in rw (same, e, count) refl
    by_owner false e = let none : left ≡ 0 = rw (same, e) at is in rw (same, e, none) refl

-- one hold less of what is held
holds_left_less : (owner one : Owner) (left : ℕ) (found : Option Held) → held_by one found ≡ true → left ≡ times_held owner found →
    (if same_owner one owner then left - 1 else left) ≡ times_held owner (held_once_less found)
holds_left_less owner one left None may is = absurd (cc)
holds_left_less owner one left (Some held) may is = by_owner (same_owner one owner) refl ∙ sym (count_of_times owner held.owner (held.count - 1))
  where
    same : (same_owner held.owner owner) ≡ same_owner one owner
    same = ap (λ (other : Owner). same_owner other owner) (found_by_free one (Some held) may)

    by_owner : (b : Bool) → same_owner one owner ≡ b → (if same_owner one owner then left - 1 else left) ≡ (if same_owner held.owner owner then held.count - 1 else 0)
    by_owner true e = let count : left ≡ held.count = rw (same, e) at is in rw (same, e, count) refl
    by_owner false e = let none : left ≡ 0 = rw (same, e) at is in rw (same, e, none) refl

-- an owner has as many open holds as it is held by it
pub holds_left_is_count : (owner : Owner) (key : Key) (h : List Event) → Always HoldRule h → holds_left owner key h ≡ times_held owner (holder key h)
holds_left_is_count owner key [] all = refl
holds_left_is_count owner key (Hold other m task ∷ earlier) all = by_key (same_key other key) refl (holds_left_is_count owner key earlier all.1)
  where
    by_key : (b : Bool) → same_key other key ≡ b → holds_left owner key earlier ≡ times_held owner (holder key earlier) → holds_left owner key (Hold other m task ∷ earlier) ≡ times_held owner (holder key (Hold other m task ∷ earlier))
    by_key true e is = rw e (holds_left_more key owner (owner_of m task) (holds_left owner key earlier) (holder key earlier) (hold_of_key key other m task earlier e all.0) is)
    by_key false e is = rw e is
holds_left_is_count owner key (Free other m task ∷ earlier) all = by_key (same_key other key) refl (holds_left_is_count owner key earlier all.1)
  where
    by_key : (b : Bool) → same_key other key ≡ b → holds_left owner key earlier ≡ times_held owner (holder key earlier) → holds_left owner key (Free other m task ∷ earlier) ≡ times_held owner (holder key (Free other m task ∷ earlier))
    by_key true e is = rw e (holds_left_less owner (owner_of m task) (holds_left owner key earlier) (holder key earlier) (free_of_key key other m task earlier e all.0) is)
    by_key false e is = rw e is
holds_left_is_count owner key (_ ∷ earlier) all = holds_left_is_count owner key earlier all.1

-- Names that are held

-- whether a name is among these
abbrev is_among : List ℕ → List (List ℕ) → Bool
is_among name [] = false
is_among name (other ∷ names) = bytes_eq other name || is_among name names

among_some : (name : List ℕ) (names : List (List ℕ)) → is_among name names ≡ true → are_some names ≡ true
among_some name [] among = absurd (cc)
among_some name (other ∷ names) among = refl

-- a name is not among those without it
among_without_it : (name other : List ℕ) (names : List (List ℕ)) → bytes_eq other name ≡ true → is_among name (without_name other names) ≡ false
among_without_it name other [] same = refl
among_without_it name other (one ∷ names) same = by_name (bytes_eq one other) refl (among_without_it name other names same)
  where
    by_name : (b : Bool) → bytes_eq one other ≡ b → is_among name (without_name other names) ≡ false → is_among name (without_name other (one ∷ names)) ≡ false
    by_name true e later = rw e later
    by_name false e later = let apart : bytes_eq one name ≡ false = ap (λ (n : List ℕ). bytes_eq one n) (sym (one_name other name same)) ∙ e in rw (e, apart) later

-- and without another name they are as many
among_without_another : (name other : List ℕ) (names : List (List ℕ)) → bytes_eq other name ≡ false → is_among name (without_name other names) ≡ is_among name names
among_without_another name other [] differ = refl
among_without_another name other (one ∷ names) differ = by_name (bytes_eq one other) refl (among_without_another name other names differ)
  where
    by_name : (b : Bool) → bytes_eq one other ≡ b → is_among name (without_name other names) ≡ is_among name names → is_among name (without_name other (one ∷ names)) ≡ is_among name (one ∷ names)
    by_name true e later = let apart : bytes_eq one name ≡ false = ap (λ (n : List ℕ). bytes_eq n name) (one_name one other e) ∙ differ in rw (e, apart) later
    by_name false e later = rw (e, later) refl

-- a name that may be held nobody holds
pub free_name : (owner : Owner) (name : List ℕ) (found : Option Held) → can_hold (Critical name) owner found ≡ true → found ≡ None
free_name owner name None may = refl
free_name owner name (Some held) may = absurd (cc)

-- one that is held is held once, so nobody holds it after its release
left_name : (owner : Owner) (name : List ℕ) (found : Option Held) → held_by owner found ≡ true → IsProper (Critical name) found → held_once_less found ≡ None
left_name owner name None may is = refl
left_name owner name (Some held) may is = let once : held.count ≡ 1 = is.1 refl in rw once refl

-- the names that an owner holds are those whose holder it is
among_held : (owner : Owner) (name : List ℕ) (h : List Event) → Always HoldRule h → is_among name (held_names owner h) ≡ held_by owner (holder (Critical name) h)
among_held owner name [] all = refl
among_held owner name (Hold (Critical other) m task ∷ earlier) all = by_name (bytes_eq other name) refl (same_owner (owner_of m task) owner) refl (among_held owner name earlier all.1)
  where
    by_name : (n : Bool) → bytes_eq other name ≡ n → (o : Bool) → same_owner (owner_of m task) owner ≡ o → is_among name (held_names owner earlier) ≡ held_by owner (holder (Critical name) earlier) →
        is_among name (held_names owner (Hold (Critical other) m task ∷ earlier)) ≡ held_by owner (holder (Critical name) (Hold (Critical other) m task ∷ earlier))
    by_name true n true o later = let none = free_name (owner_of m task) name (holder (Critical name) earlier) (hold_of_key (Critical name) (Critical other) m task earlier n all.0) in rw (n, none, o, n) refl
    by_name true n false o later = let none = free_name (owner_of m task) name (holder (Critical name) earlier) (hold_of_key (Critical name) (Critical other) m task earlier n all.0) in rw (n, none, o) (rw none at later)
    by_name false n true o later = rw (n, o, n) later
    by_name false n false o later = rw (n, o) later
among_held owner name (Free (Critical other) m task ∷ earlier) all = by_name (bytes_eq other name) refl (same_owner (owner_of m task) owner) refl (among_held owner name earlier all.1)
  where
    was : bytes_eq other name ≡ true → held_by (owner_of m task) (holder (Critical name) earlier) ≡ true
    was n = free_of_key (Critical name) (Critical other) m task earlier n all.0

    gone : bytes_eq other name ≡ true → held_once_less (holder (Critical name) earlier) ≡ None
    gone n = left_name (owner_of m task) name (holder (Critical name) earlier) (was n) (proper_holder (Critical name) earlier all.1)

    by_owner : bytes_eq other name ≡ true → (o : Bool) → same_owner (owner_of m task) owner ≡ o → is_among name (held_names owner earlier) ≡ held_by owner (holder (Critical name) earlier) → is_among name (held_names owner (Free (Critical other) m task ∷ earlier)) ≡ false
    by_owner n true o later = rw o (among_without_it name other (held_names owner earlier) n)
    by_owner n false o later = rw o (later ∙ another_holds (owner_of m task) owner (holder (Critical name) earlier) (was n) o)

    by_name : (n : Bool) → bytes_eq other name ≡ n → (o : Bool) → same_owner (owner_of m task) owner ≡ o → is_among name (held_names owner earlier) ≡ held_by owner (holder (Critical name) earlier) →
        is_among name (held_names owner (Free (Critical other) m task ∷ earlier)) ≡ held_by owner (holder (Critical name) (Free (Critical other) m task ∷ earlier))
    by_name true n o same later = rw (n, gone n) (by_owner n o same later)
    by_name false n true o later = rw (n, o, among_without_another name other (held_names owner earlier) n) later
    by_name false n false o later = rw (n, o) later
among_held owner name (_ ∷ earlier) all = among_held owner name earlier all.1

-- an owner of a name holds a name
pub name_is_held : (owner : Owner) (name : List ℕ) (h : List Event) → Always HoldRule h → held_by owner (holder (Critical name) h) ≡ true → holds_critical owner h ≡ true
name_is_held owner name h all held = among_some name (held_names owner h) (among_held owner name h all ∙ held)

first_among : (names : List (List ℕ)) → are_some names ≡ true → (name : List ℕ) × (is_among name names ≡ true)
first_among [] some = absurd (cc)
first_among (name ∷ names) some = (name, rw (same_name name) refl)

-- and one that holds a name is the owner of one
pub critical_name_held : (owner : Owner) (h : List Event) → Always HoldRule h → holds_critical owner h ≡ true → (name : List ℕ) × (held_by owner (holder (Critical name) h) ≡ true)
critical_name_held owner h all some = let one = first_among (held_names owner h) some in (one.0, sym (among_held owner one.0 h all) ∙ one.1)

-- The laws

-- who holds it some times is its owner
counted_owner : (owner : Owner) (found : Option Held) → 0 < times_held owner found → IsHeldBy owner found
counted_owner owner None some = absurd (omega (arith, some))
counted_owner owner (Some held) some = by_owner (same_owner held.owner owner) refl
  where
    by_owner : (b : Bool) → same_owner held.owner owner ≡ b → held.owner ≡ owner
    by_owner true e = one_owner held.owner owner e
    by_owner false e = absurd (let none : 0 < 0 = rw e at some in omega (arith, none))

one_of_both : (one other : Owner) (found : Option Held) → IsHeldBy one found → IsHeldBy other found → one ≡ other
one_of_both one other None first second = absurd first
one_of_both one other (Some held) first second = sym first ∙ second

-- at any moment
one_owner_now : (h : List Event) → Always HoldRule h → OneOwner h
one_owner_now h all key one other first second =
    let is_one = counted_owner one (holder key h) (rw (holds_left_is_count one key h all) at first) in
    let is_other = counted_owner other (holder key h) (rw (holds_left_is_count other key h all) at second) in
    one_of_both one other (holder key h) is_one is_other

counted_once : (key : Key) (owner : Owner) (found : Option Held) → is_nestable key ≡ false → IsProper key found → times_held owner found ≤ 1
counted_once key owner None single is = omega arith
counted_once key owner (Some held) single is = by_owner (same_owner held.owner owner) refl
  where
    by_owner : (b : Bool) → same_owner held.owner owner ≡ b → times_held owner (Some held) ≤ 1
    by_owner true e = let once = is.1 single in rw (e, once) (omega arith)
    by_owner false e = rw e (omega arith)

-- at any moment
held_once_now : (h : List Event) → Always HoldRule h → HeldOnce h
held_once_now h all key owner single = rw (holds_left_is_count owner key h all) (counted_once key owner (holder key h) single (proper_holder key h all))

-- what the rule gives now it gave after each event
at_each_moment : (Law : List Event → Type 0) → ((h : List Event) → Always HoldRule h → Law h) → (h : List Event) → Always HoldRule h → AtEachMoment Law h
at_each_moment Law now [] all = now [] all
at_each_moment Law now (event ∷ earlier) all = (now (event ∷ earlier) all, at_each_moment Law now earlier all.1)

-- all open holds of a name or a lock have one owner
pub one_owner_holds : (h : List Event) → Always HoldRule h → AtEachMoment OneOwner h
one_owner_holds h all = at_each_moment OneOwner one_owner_now h all

-- what is no nestable lock is held at most once
pub held_once_holds : (h : List Event) → Always HoldRule h → AtEachMoment HeldOnce h
held_once_holds h all = at_each_moment HeldOnce held_once_now h all

-- the owner of what is held holds it some times
owner_counted : (key : Key) (owner : Owner) (found : Option Held) → held_by owner found ≡ true → IsProper key found → 0 < times_held owner found
owner_counted key owner None held is = absurd (cc)
owner_counted key owner (Some one) held is = let some = is.0 in rw held (omega (arith, some))

-- who frees it has an open hold of it
pub frees_its_own : (event : Event) (earlier : List Event) → HoldRule event earlier → Always HoldRule earlier → FreesItsOwn event earlier
frees_its_own (Free key m task) earlier may all =
    rw (holds_left_is_count (owner_of m task) key earlier all) (owner_counted key (owner_of m task) (holder key earlier) may.held (proper_holder key earlier all))
frees_its_own _ earlier may all = tt

-- an owner that does not hold a thing holds it no times
pub unheld_counts_none : (owner : Owner) (found : Option Held) → held_by owner found ≡ false → times_held owner found ≡ 0
unheld_counts_none owner None unheld = refl
unheld_counts_none owner (Some held) unheld = rw unheld refl
