-- What a book finds of a name or a lock, and what a call leaves of the one that it is on and of all others: of any owner, name, number, kind, count and book.
use Rattle.std.proofs.Common.{◌≡◌, ◌≢◌, ◌∙◌, ℕ, true, false, List, [], ◌∷◌, ◌++◌, Option, Some, None, refl, ap, sym, length, slice_get, ◌⊎◌, inl, inr}
use Rattle.std.specs.Prelude.{bytes_eq}
use Rattle.std.specs.Option.{option_flatten}
use Rattle.std.specs.Ordering.{nat_cmp, is_eq}
use Rattle.std.specs.declared.cmp.Ordering.{Ordering}
use Rattle.std.specs.declared.cmp.Ordering.TheVariants.{Less, Equal, Greater}
use Rattle.std.specs.Cmp.Lexicographic.{slice_cmp}
use Rattle.std.specs.Map.{lookup}
use Rattle.std.specs.BTreeMap.{insert_entry}
use Rattle.std.proofs.lemmas.Map.Text.{is_eq-slice_cmp}
use Rattle.std.proofs.lemmas.Option.{slice_get_within}
use Rattle.gomp_types.specs.declared.task.Owner.{Owner}
use Rattle.gomp_types.specs.declared.task.Task.TheVariants.{Implicit, Explicit}
use Rattle.gomp_events.specs.declared.event.Event.{Event}
use Rattle.gomp_types.specs.declared.key.Key.TheVariants.{Lock, NestLock}
use Rattle.gomp_types.specs.declared.lock.LockKind.{LockKind}
use Rattle.gomp_types.specs.declared.lock.LockKind.TheVariants.{Simple, Nest}
use Rattle.gomp_types.specs.declared.lock.Held.{Held}
use Rattle.gomp_types.specs.declared.reply.Reply.TheVariants.{Finished, Lock as LockMade, Got, Count}
use Rattle.gomp_types.proofs.Booleans.{same_number, other_number}
use Rattle.gomp_types.proofs.Lists.{slice_get-set_same, slice_get-set_other}
use Rattle.gomp_locks.specs.declared.lock.Lock.{Lock as BookLock}
use Rattle.gomp_locks.specs.Book.{BookView, name_owner, lock_at, any_lock_at, unset_lock}
use Rattle.gomp_locks.specs.CriticalNames.{after_critical_start, after_critical_end}
use Rattle.gomp_locks.specs.Holders.{key_of, owner_of, holder, holding_owner, own_part, found_lock, found_any_lock}
use Rattle.gomp_locks.specs.Locks.{after_init, after_destroy, after_set, after_test, after_unset, after_set_nest, after_test_nest, after_unset_nest}
use Rattle.gomp_locks.proofs.OwnerLemmas.{same_name, another_name}

-- What is found

-- a lock is found by its number and its kind, whatever its number is, and by its number alone
pub lock_of_its_kind_is_found : (kind : LockKind) (number : ℕ) (held : Option Held) (book : BookView) → slice_get book.locks number ≡ Some (Some (record { kind = kind; held = held })) → (lock_at kind number book ≡ Some held) × (any_lock_at number book ≡ Some held)
lock_of_its_kind_is_found Simple number held book there = rw there (refl, refl)
lock_of_its_kind_is_found Nest number held book there = rw there (refl, refl)

-- by another kind it is not
pub lock_of_another_kind_is_not_found : (kind other : LockKind) (number : ℕ) (held : Option Held) (book : BookView) → kind ≢ other → slice_get book.locks number ≡ Some (Some (record { kind = other; held = held })) → lock_at kind number book ≡ None
lock_of_another_kind_is_not_found Simple Simple number held book differ there = absurd (differ refl)
lock_of_another_kind_is_not_found Simple Nest number held book differ there = rw there refl
lock_of_another_kind_is_not_found Nest Simple number held book differ there = rw there refl
lock_of_another_kind_is_not_found Nest Nest number held book differ there = absurd (differ refl)

-- nor is one that was destroyed, or never made
pub gone_lock_is_not_found : (kind : LockKind) (number : ℕ) (book : BookView) → slice_get book.locks number ≡ Some None → (lock_at kind number book ≡ None) × (any_lock_at number book ≡ None)
gone_lock_is_not_found kind number book gone = rw gone (refl, refl)

pub unmade_lock_is_not_found : (kind : LockKind) (number : ℕ) (book : BookView) → slice_get book.locks number ≡ None → (lock_at kind number book ≡ None) × (any_lock_at number book ≡ None)
unmade_lock_is_not_found kind number book never = rw never (refl, refl)

-- by what happened a lock that stands is found as its holds and releases say
pub standing_lock_is_found : (kind : LockKind) (number : ℕ) (locks : List (Option LockKind)) (h : List Event) → slice_get locks number ≡ Some (Some kind) → (found_lock kind number locks h ≡ Some (holder (key_of kind number) h)) × (found_any_lock number locks h ≡ Some (holder (key_of kind number) h))
standing_lock_is_found Simple number locks h there = rw there (refl, refl)
standing_lock_is_found Nest number locks h there = rw there (refl, refl)

pub lock_standing_as_another_is_not_found : (kind other : LockKind) (number : ℕ) (locks : List (Option LockKind)) (h : List Event) → kind ≢ other → slice_get locks number ≡ Some (Some other) → found_lock kind number locks h ≡ None
lock_standing_as_another_is_not_found Simple Simple number locks h differ there = absurd (differ refl)
lock_standing_as_another_is_not_found Simple Nest number locks h differ there = rw there refl
lock_standing_as_another_is_not_found Nest Simple number locks h differ there = rw there refl
lock_standing_as_another_is_not_found Nest Nest number locks h differ there = absurd (differ refl)

pub lock_that_stands_no_more_is_not_found : (kind : LockKind) (number : ℕ) (locks : List (Option LockKind)) (h : List Event) → (slice_get locks number ≡ Some None) ⊎ (slice_get locks number ≡ None) → (found_lock kind number locks h ≡ None) × (found_any_lock number locks h ≡ None)
lock_that_stands_no_more_is_not_found kind number locks h (inl gone) = rw gone (refl, refl)
lock_that_stands_no_more_is_not_found kind number locks h (inr never) = rw never (refl, refl)

-- a lock's key has its number, and an owner the number of its task
pub keys_have_the_number : (number : ℕ) → (key_of Simple number ≡ Lock number) × (key_of Nest number ≡ NestLock number)
keys_have_the_number number = (refl, refl)

pub owners_have_the_number : (m n t : ℕ) → (owner_of m (Explicit t) ≡ record { team = 0; member = m; task = t }) × (owner_of m (Implicit n) ≡ record { team = 0; member = m; task = 0 })
owners_have_the_number m n t = (refl, refl)

-- who holds it is the owner alone
pub holder_is_its_owner : (held : Held) → (holding_owner (Some held) ≡ Some held.owner) × (holding_owner None ≡ None)
holder_is_its_owner held = (refl, refl)

-- a member sees of what is held its own part, whole, and nothing of another's
pub own_part_is_whole : (m : ℕ) (held : Held) → held.owner.member ≡ m → own_part m (Some held) ≡ Some held
own_part_is_whole m held own = rw (own, same_number m) refl

pub no_part_of_anothers : (m : ℕ) (held : Held) → held.owner.member ≢ m → own_part m (Some held) ≡ None
no_part_of_anothers m held apart = rw (other_number held.owner.member m apart) refl

-- Names

pub put_name_is_found : {X : Type 0} (name : List ℕ) (value : X) (names : List (List ℕ × X)) → lookup (bytes_eq name) (insert_entry (slice_cmp nat_cmp) names name value) ≡ Some value
put_name_is_found name value [] = rw (same_name name) refl
put_name_is_found name value (entry ∷ names) = by_order (slice_cmp nat_cmp name entry.0) refl (put_name_is_found name value names)
  where
    by_order : (o : Ordering) → slice_cmp nat_cmp name entry.0 ≡ o → lookup (bytes_eq name) (insert_entry (slice_cmp nat_cmp) names name value) ≡ Some value → lookup (bytes_eq name) (insert_entry (slice_cmp nat_cmp) (entry ∷ names) name value) ≡ Some value
    by_order Less e later = rw (e, same_name name) refl
    by_order Equal e later = let same : bytes_eq name entry.0 ≡ true = sym (is_eq-slice_cmp name entry.0) ∙ ap is_eq e in rw (e, same) refl
    by_order Greater e later = let apart : bytes_eq name entry.0 ≡ false = sym (is_eq-slice_cmp name entry.0) ∙ ap is_eq e in rw (e, apart) later

-- who enters a name owns it, whatever its team, member and task are
pub entered_name_is_its_owners : (owner : Owner) (name : List ℕ) (book : BookView) → name_owner name (after_critical_start owner name Finished book) ≡ Some owner
entered_name_is_its_owners owner name book = ap (λ (o : Option (Option Owner)). option_flatten o) (put_name_is_found name (Some owner) book.names)

-- who ends it leaves it to nobody
pub ended_name_is_nobodys : (name : List ℕ) (book : BookView) → name_owner name (after_critical_end name Finished book) ≡ None
ended_name_is_nobodys name book = ap (λ (o : Option (Option Owner)). option_flatten o) (put_name_is_found {X = Option Owner} name None book.names)

-- every other name stays as it was, and so do all locks
pub other_names_stay_as_they_were :
    (owner : Owner) (name other : List ℕ) (book : BookView) → bytes_eq other name ≡ false →
    (name_owner other (after_critical_start owner name Finished book) ≡ name_owner other book) × (name_owner other (after_critical_end name Finished book) ≡ name_owner other book)
other_names_stay_as_they_were owner name other book differ =
    (ap (λ (o : Option (Option Owner)). option_flatten o) (another_name name other (Some owner) book.names differ), ap (λ (o : Option (Option Owner)). option_flatten o) (another_name {X = Option Owner} name other None book.names differ))

pub locks_stay_at_names :
    (owner : Owner) (name : List ℕ) (book : BookView) → ((after_critical_start owner name Finished book).locks ≡ book.locks) × ((after_critical_end name Finished book).locks ≡ book.locks)
locks_stay_at_names owner name book = (refl, refl)

-- Locks

-- a new lock is there, of its kind, and free
pub made_lock_is_free : (kind : LockKind) (book : BookView) → slice_get (after_init kind (LockMade (length book.locks)) book).locks (length book.locks) ≡ Some (Some (record { kind = kind; held = None }))
made_lock_is_free kind book = behind book.locks
  where
    behind : (locks : List (Option BookLock)) → slice_get (locks ++ Some (record { kind = kind; held = None }) ∷ []) (length locks) ≡ Some (Some (record { kind = kind; held = None }))
    behind [] = refl
    behind (place ∷ locks) = behind locks

-- one that is destroyed is gone
pub destroyed_lock_is_gone : (number : ℕ) (place : Option BookLock) (book : BookView) → slice_get book.locks number ≡ Some place → slice_get (after_destroy number Finished book).locks number ≡ Some None
destroyed_lock_is_gone number place book there = slice_get-set_same book.locks number None (slice_get_within book.locks number place there)

-- one that is set, or tested and got, is held by who asked, once
pub set_lock_is_its_owners :
    (owner : Owner) (number : ℕ) (place : Option BookLock) (book : BookView) → slice_get book.locks number ≡ Some place →
    (slice_get (after_set owner number Finished book).locks number ≡ Some (Some (record { kind = Simple; held = Some (record { owner = owner; count = 1 }) })))
    × (slice_get (after_test owner number (Got true) book).locks number ≡ Some (Some (record { kind = Simple; held = Some (record { owner = owner; count = 1 }) })))
set_lock_is_its_owners owner number place book there =
    let within = slice_get_within book.locks number place there in (slice_get-set_same book.locks number _ within, slice_get-set_same book.locks number _ within)

-- one that is unset is free
pub unset_lock_is_free : (number : ℕ) (place : Option BookLock) (book : BookView) → slice_get book.locks number ≡ Some place → slice_get (after_unset number Finished book).locks number ≡ Some (Some (record { kind = Simple; held = None }))
unset_lock_is_free number place book there = slice_get-set_same book.locks number _ (slice_get_within book.locks number place there)

-- a nestable one is held by who asked, as often as it was told
pub counted_lock_is_its_owners :
    (owner : Owner) (number count : ℕ) (place : Option BookLock) (book : BookView) → slice_get book.locks number ≡ Some place → count ≢ 0 →
    (slice_get (after_set_nest owner number (Count count) book).locks number ≡ Some (Some (record { kind = Nest; held = Some (record { owner = owner; count = count }) })))
    × (slice_get (after_test_nest owner number (Count count) book).locks number ≡ Some (Some (record { kind = Nest; held = Some (record { owner = owner; count = count }) })))
    × (slice_get (after_unset_nest owner number (Count count) book).locks number ≡ Some (Some (record { kind = Nest; held = Some (record { owner = owner; count = count }) })))
counted_lock_is_its_owners owner number count place book there some =
    let within = slice_get_within book.locks number place there in
    rw (other_number count 0 some) (slice_get-set_same book.locks number _ within, slice_get-set_same book.locks number _ within, slice_get-set_same book.locks number _ within)

-- free once its count is 0, and left by a test that is told 0
pub counted_out_lock_is_free : (owner : Owner) (number : ℕ) (place : Option BookLock) (book : BookView) → slice_get book.locks number ≡ Some place → slice_get (after_unset_nest owner number (Count 0) book).locks number ≡ Some (Some (record { kind = Nest; held = None }))
counted_out_lock_is_free owner number place book there = slice_get-set_same book.locks number _ (slice_get_within book.locks number place there)

pub failed_tests_leave_the_book : (owner : Owner) (number : ℕ) (book : BookView) → (after_test owner number (Got false) book ≡ book) × (after_test_nest owner number (Count 0) book ≡ book)
failed_tests_leave_the_book owner number book = (refl, refl)

-- every other lock stays as it was, whoever holds it
pub other_locks_stay_as_they_were :
    (owner : Owner) (number other count : ℕ) (book : BookView) → other ≢ number → count ≢ 0 →
    (slice_get (after_destroy number Finished book).locks other ≡ slice_get book.locks other)
    × (slice_get (after_set owner number Finished book).locks other ≡ slice_get book.locks other)
    × (slice_get (after_test owner number (Got true) book).locks other ≡ slice_get book.locks other)
    × (slice_get (after_unset number Finished book).locks other ≡ slice_get book.locks other)
    × (slice_get (after_set_nest owner number (Count count) book).locks other ≡ slice_get book.locks other)
    × (slice_get (after_test_nest owner number (Count count) book).locks other ≡ slice_get book.locks other)
    × (slice_get (after_unset_nest owner number (Count count) book).locks other ≡ slice_get book.locks other)
other_locks_stay_as_they_were owner number other count book differ some =
    rw (other_number count 0 some) (
      slice_get-set_other book.locks number other None differ,
      slice_get-set_other book.locks number other _ differ,
      slice_get-set_other book.locks number other _ differ,
      slice_get-set_other book.locks number other _ differ,
      slice_get-set_other book.locks number other _ differ,
      slice_get-set_other book.locks number other _ differ,
      slice_get-set_other book.locks number other _ differ,
    )

-- and so do all names
pub names_stay_at_locks :
    (owner : Owner) (kind : LockKind) (number count : ℕ) (book : BookView) → count ≢ 0 →
    ((after_init kind (LockMade number) book).names ≡ book.names) × ((after_destroy number Finished book).names ≡ book.names) × ((after_set owner number Finished book).names ≡ book.names)
    × ((after_test owner number (Got true) book).names ≡ book.names) × ((after_unset number Finished book).names ≡ book.names) × ((after_set_nest owner number (Count count) book).names ≡ book.names)
    × ((after_test_nest owner number (Count count) book).names ≡ book.names) × ((after_unset_nest owner number (Count count) book).names ≡ book.names)
names_stay_at_locks owner kind number count book some = rw (other_number count 0 some) (refl, refl, refl, refl, refl, refl, refl, refl)

-- a lock without its holds keeps its kind
pub lock_without_holds_keeps_its_kind : (kind : LockKind) (held : Option Held) → unset_lock (record { kind = kind; held = held }) ≡ record { kind = kind; held = None }
lock_without_holds_keeps_its_kind kind held = refl
