-- What holds of each book that calls make of a new one.
use Rattle.std.proofs.Common.{◌≡◌, ℕ, suc, zero, Bool, true, false, List, [], ◌∷◌, ◌++◌, Option, Some, None, refl, ap, sym, ◌∙◌, ◌⊎◌, inl, inr}
use Rattle.std.specs.Prelude.{slice_get, slice_set, ◌==◌}
use Rattle.std.specs.Ordering.{nat_cmp, ordering_reverse}
use Rattle.std.specs.declared.cmp.Ordering.{Ordering}
use Rattle.std.specs.declared.cmp.Ordering.TheVariants.{Less, Equal, Greater}
use Rattle.std.specs.Cmp.{IsTotalOrder}
use Rattle.std.specs.Cmp.Lexicographic.{slice_cmp, nat_list_cmp_total}
use Rattle.std.specs.List.{AllByRecursion}
use Rattle.std.specs.List.Sorted.{IsStrictlySortedBy}
use Rattle.std.specs.Map.{keys_of}
use Rattle.std.specs.BTreeMap.{insert_entry}
use Rattle.std.proofs.lemmas.List.Elements.{All-from_recursion, recursion_from_All}
use Rattle.std.proofs.lemmas.Map.Keys.{sorted_head, sorted_tail}
use Rattle.std.proofs.lemmas.Map.Views.{All-keys-insert_entry}
use Rattle.gomp_types.specs.declared.task.Owner.{Owner}
use Rattle.gomp_types.specs.declared.lock.LockKind.{LockKind}
use Rattle.gomp_types.specs.declared.lock.LockKind.TheVariants.{Simple, Nest}
use Rattle.gomp_types.specs.declared.lock.Held.{Held}
use Rattle.gomp_types.specs.declared.reply.Reply.{Reply}
use Rattle.gomp_types.specs.declared.reply.Reply.TheVariants.{Finished, Lock as LockMade, Got, Count}
use Rattle.gomp_locks.specs.declared.lock.Lock.{Lock}
use Rattle.gomp_locks.specs.Book.{BookView, held_of_kind, held_times}
use Rattle.gomp_locks.specs.Locks.{after_test_nest}
use Rattle.gomp_locks.specs.BookCalls.{BookCall, after_call, start_critical, end_critical, make_lock, destroy_lock, set_lock, test_lock, unset_lock, set_nest_lock, test_nest_lock, unset_nest_lock, await_critical, await_lock, await_nest_lock}
use Rattle.gomp_locks.specs.Order.{IsSimpleOnce, IsInOrder}

-- Names

below_all : {K : Type 0} {R : K → K → Ordering} → IsTotalOrder R → (k x : K) → R k x ≡ Less → (ks : List K) → AllByRecursion (λ y. R x y ≡ Less) ks → AllByRecursion (λ y. R k y ≡ Less) ks
below_all o k x less [] all = tt
below_all o k x less (y ∷ ks) all = (o.trans k x y less all.0, below_all o k x less ks all.1)

in_front : {K : Type 0} (R : K → K → Ordering) (k : K) (ks : List K) → AllByRecursion (λ y. R k y ≡ Less) ks → IsStrictlySortedBy R ks → IsStrictlySortedBy R (k ∷ ks)
unfolding IsStrictlySortedBy
in_front R k ks all sorted = (all, sorted)

alone_in_order : {K : Type 0} (R : K → K → Ordering) (k : K) → IsStrictlySortedBy R (k ∷ [])
unfolding IsStrictlySortedBy
alone_in_order R k = (tt, tt)

pub none_in_order : {K : Type 0} (R : K → K → Ordering) → IsStrictlySortedBy R []
unfolding IsStrictlySortedBy
none_in_order R = tt

-- entries stay in order when one is put
pub put_in_order : {K X : Type 0} (R : K → K → Ordering) → IsTotalOrder R → (k : K) (v : X) (entries : List (K × X)) → IsStrictlySortedBy R (keys_of entries) → IsStrictlySortedBy R (keys_of (insert_entry R entries k v))
put_in_order R o k v [] sorted = alone_in_order R k
put_in_order R o k v (entry ∷ entries) sorted = by_order (R k entry.0) refl (put_in_order R o k v entries (sorted_tail R entry.0 (keys_of entries) sorted))
  where
    by_order : (r : Ordering) → R k entry.0 ≡ r → IsStrictlySortedBy R (keys_of (insert_entry R entries k v)) → IsStrictlySortedBy R (keys_of (insert_entry R (entry ∷ entries) k v))
    by_order Less e later = rw e (in_front R k (keys_of (entry ∷ entries)) (e, below_all o k entry.0 e (keys_of entries) (sorted_head R entry.0 (keys_of entries) sorted)) sorted)
    by_order Equal e later = rw e sorted
    by_order Greater e later =
        let below : R entry.0 k ≡ Less = o.antisymm entry.0 k ∙ ap ordering_reverse e in
        rw e (in_front R entry.0 (keys_of (insert_entry R entries k v)) (recursion_from_All (λ y. R entry.0 y ≡ Less) _ (All-keys-insert_entry R k v (λ y. R entry.0 y ≡ Less) entries (All-from_recursion (λ y. R entry.0 y ≡ Less) _ (sorted_head R entry.0 (keys_of entries) sorted)) below)) later)

-- Simple locks

abbrev AreSimple : List (Option Lock) → Type 0
AreSimple locks = (number : ℕ) (place : Option Lock) → slice_get locks number ≡ Some place → IsSimpleOnce place

-- what is read after a write is what was written or what was there
read_after : {X : Type 0} (xs : List X) (i j : ℕ) (y x : X) → slice_get (slice_set xs i y) j ≡ Some x → (y ≡ x) ⊎ (slice_get xs j ≡ Some x)
read_after [] i j y x at = inr at
read_after (z ∷ xs) zero zero y x at = inl (let same : y ≡ x = cc in same)
read_after (z ∷ xs) zero (suc j) y x at = inr at
read_after (z ∷ xs) (suc i) zero y x at = inr at
read_after (z ∷ xs) (suc i) (suc j) y x at = read_after xs i j y x at

read_behind : {X : Type 0} (xs : List X) (j : ℕ) (y x : X) → slice_get (xs ++ y ∷ []) j ≡ Some x → (y ≡ x) ⊎ (slice_get xs j ≡ Some x)
read_behind [] zero y x at = inl (let same : y ≡ x = cc in same)
read_behind [] (suc j) y x at = absurd (cc)
read_behind (z ∷ xs) zero y x at = inr at
read_behind (z ∷ xs) (suc j) y x at = read_behind xs j y x at

once_free : (kind : LockKind) → IsSimpleOnce (Some (record { kind = kind; held = None }))
once_free Simple held at = absurd (cc)
once_free Nest held at = absurd (cc)

once_set : (owner : Owner) → IsSimpleOnce (Some (record { kind = Simple; held = Some (record { owner = owner; count = 1 }) }))
once_set owner held at = let same : record { owner = owner; count = 1 } ≡ held = cc in ap (λ (h : Held). h.count) (sym same)

once_nest : (held : Option Held) → IsSimpleOnce (Some (record { kind = Nest; held = held }))
once_nest other held at = absurd (cc)

once_none : IsSimpleOnce None
once_none held at = absurd (cc)

simple_written : (locks : List (Option Lock)) (n : ℕ) (place : Option Lock) → IsSimpleOnce place → AreSimple locks → AreSimple (slice_set locks n place)
simple_written locks n place once are = λ number other at. elim (read_after locks n number place other at) [
  | inl same ↦ (λ held found. once held (ap (λ (x : Option Lock). held_of_kind Simple (Some x)) same ∙ found))
  | inr there ↦ are number other there
]

simple_behind : (locks : List (Option Lock)) (place : Option Lock) → IsSimpleOnce place → AreSimple locks → AreSimple (locks ++ place ∷ [])
simple_behind locks place once are = λ number other at. elim (read_behind locks number place other at) [
  | inl same ↦ (λ held found. once held (ap (λ (x : Option Lock). held_of_kind Simple (Some x)) same ∙ found))
  | inr there ↦ are number other there
]

-- a new book is in order
pub new_in_order : IsInOrder (record { names = []; locks = [] })
new_in_order = record { names = none_in_order (slice_cmp nat_cmp); simple = λ number place at. absurd (cc) }

-- each call keeps a book in order
pub call_keeps_order : (owner : Owner) (call : BookCall) (reply : Reply) (book : BookView) → IsInOrder book → IsInOrder (after_call owner call reply book)
call_keeps_order owner (start_critical name) Finished book order = record { names = put_in_order (slice_cmp nat_cmp) nat_list_cmp_total name (Some owner) book.names order.names; simple = order.simple }
call_keeps_order owner (start_critical name) _ book order = order
call_keeps_order owner (end_critical name) Finished book order = record { names = put_in_order (slice_cmp nat_cmp) nat_list_cmp_total name None book.names order.names; simple = order.simple }
call_keeps_order owner (end_critical name) _ book order = order
call_keeps_order owner (make_lock kind) (LockMade made) book order = record { names = order.names; simple = simple_behind book.locks _ (once_free kind) order.simple }
call_keeps_order owner (make_lock kind) _ book order = order
call_keeps_order owner (destroy_lock n) Finished book order = record { names = order.names; simple = simple_written book.locks n None once_none order.simple }
call_keeps_order owner (destroy_lock n) _ book order = order
call_keeps_order owner (set_lock n) Finished book order = record { names = order.names; simple = simple_written book.locks n _ (once_set owner) order.simple }
call_keeps_order owner (set_lock n) _ book order = order
call_keeps_order owner (test_lock n) (Got true) book order = record { names = order.names; simple = simple_written book.locks n _ (once_set owner) order.simple }
call_keeps_order owner (test_lock n) (Got false) book order = order
call_keeps_order owner (test_lock n) _ book order = order
call_keeps_order owner (unset_lock n) Finished book order = record { names = order.names; simple = simple_written book.locks n _ (once_free Simple) order.simple }
call_keeps_order owner (unset_lock n) _ book order = order
call_keeps_order owner (set_nest_lock n) (Count count) book order = record { names = order.names; simple = simple_written book.locks n _ (once_nest (held_times owner count)) order.simple }
call_keeps_order owner (set_nest_lock n) _ book order = order
call_keeps_order owner (test_nest_lock n) (Count count) book order = by_test (count == 0) refl
  where
    by_test : (b : Bool) → (count == 0) ≡ b → IsInOrder (after_test_nest owner n (Count count) book)
    by_test true e = rw e order
    by_test false e = rw e (record { names = order.names; simple = simple_written book.locks n (Some (record { kind = Nest; held = Some (record { owner = owner; count = count }) })) (once_nest (Some (record { owner = owner; count = count }))) order.simple })
call_keeps_order owner (test_nest_lock n) _ book order = order
call_keeps_order owner (unset_nest_lock n) (Count count) book order = record { names = order.names; simple = simple_written book.locks n _ (once_nest (held_times owner count)) order.simple }
call_keeps_order owner (unset_nest_lock n) _ book order = order
call_keeps_order owner (await_critical name) Finished book order = record { names = put_in_order (slice_cmp nat_cmp) nat_list_cmp_total name (Some owner) book.names order.names; simple = order.simple }
call_keeps_order owner (await_critical name) _ book order = order
call_keeps_order owner (await_lock n) Finished book order = record { names = order.names; simple = simple_written book.locks n _ (once_set owner) order.simple }
call_keeps_order owner (await_lock n) _ book order = order
call_keeps_order owner (await_nest_lock n) (Count count) book order = record { names = order.names; simple = simple_written book.locks n _ (once_nest (held_times owner count)) order.simple }
call_keeps_order owner (await_nest_lock n) _ book order = order
