-- What each call leaves of the locks of a book, by the call and its reply.
use Rattle.std.proofs.Common.{◌≡◌, ◌≤◌, ℕ, Bool, true, false, List, [], ◌∷◌, Option, Some, None, refl, ap, sym, ◌∙◌, arith, length}
use Rattle.std.specs.Prelude.{slice_get, slice_set, ◌==◌, bytes_eq}
use Rattle.std.specs.Option.{option_flatten}
use Rattle.std.proofs.lemmas.List.{length-set, length_push}
use Rattle.gomp_types.specs.declared.task.Owner.{Owner}
use Rattle.gomp_types.specs.declared.reply.Reply.{Reply}
use Rattle.gomp_types.specs.declared.reply.Reply.TheVariants.{Finished, Lock as LockMade, Got, Count}
use Rattle.gomp_types.specs.declared.lock.LockKind.TheVariants.{Simple, Nest}
use Rattle.gomp_types.proofs.Booleans.{unequal_numbers}
use Rattle.gomp_locks.specs.declared.lock.Lock.{Lock}
use Rattle.gomp_types.specs.Owners.{same_owner}
use Rattle.gomp_types.specs.Least.{least}
use Rattle.gomp_types.specs.declared.refusal.Refusal.TheVariants.{NameTooLong, NotHolder}
use Rattle.gomp_locks.specs.Book.{BookView, name_owner, lock_at, with_name}
use Rattle.gomp_locks.specs.CriticalNames.{is_too_long, EntersCritical, critical_end_tests}
use Rattle.gomp_locks.specs.Locks.{after_test_nest}
use Rattle.gomp_locks.specs.BookCalls.{BookCall, CallAnswered, after_call, start_critical, end_critical, make_lock, destroy_lock, set_lock, test_lock, unset_lock, set_nest_lock, test_nest_lock, unset_nest_lock, await_critical, await_lock, await_nest_lock}
use Rattle.gomp_locks.proofs.NestLemmas.{waited_sets}
use Rattle.gomp_locks.proofs.OwnerLemmas.{one_name, another_name}
use Rattle.gomp_locks.proofs.PlaceLemmas.{set_elsewhere, push_elsewhere, IsBarred, barred_set, barred_got, barred_unset, barred_set_nest, barred_got_nest, barred_unset_nest, barred_destroyed}

-- a barred place stays as it is
pub barred_stays : (owner : Owner) (number : ℕ) (x : Option Lock) (call : BookCall) (reply : Reply) (book : BookView) → IsBarred owner x → CallAnswered owner call book reply → slice_get book.locks number ≡ Some x →
    slice_get (after_call owner call reply book).locks number ≡ Some x
barred_stays owner number x (start_critical name) Finished book barred answered at = at
barred_stays owner number x (start_critical name) _ book barred answered at = at
barred_stays owner number x (end_critical name) Finished book barred answered at = at
barred_stays owner number x (end_critical name) _ book barred answered at = at
barred_stays owner number x (make_lock kind) (LockMade made) book barred answered at = push_elsewhere book.locks number x _ at
barred_stays owner number x (make_lock kind) _ book barred answered at = at
barred_stays owner number x (destroy_lock n) Finished book barred answered at = set_elsewhere book.locks n number None (λ same. barred_destroyed owner x (slice_get book.locks n) (ap (λ (i : ℕ). slice_get book.locks i) same ∙ at) barred answered.0) ∙ at
barred_stays owner number x (destroy_lock n) _ book barred answered at = at
barred_stays owner number x (set_lock n) Finished book barred answered at = set_elsewhere book.locks n number _ (λ same. barred_set owner x (slice_get book.locks n) (ap (λ (i : ℕ). slice_get book.locks i) same ∙ at) barred answered.1) ∙ at
barred_stays owner number x (set_lock n) _ book barred answered at = at
barred_stays owner number x (test_lock n) (Got true) book barred answered at = set_elsewhere book.locks n number _ (λ same. barred_got owner x (slice_get book.locks n) (ap (λ (i : ℕ). slice_get book.locks i) same ∙ at) barred answered.1) ∙ at
barred_stays owner number x (test_lock n) (Got false) book barred answered at = at
barred_stays owner number x (test_lock n) _ book barred answered at = at
barred_stays owner number x (unset_lock n) Finished book barred answered at = set_elsewhere book.locks n number _ (λ same. barred_unset owner Simple x (slice_get book.locks n) (ap (λ (i : ℕ). slice_get book.locks i) same ∙ at) barred answered.0) ∙ at
barred_stays owner number x (unset_lock n) _ book barred answered at = at
barred_stays owner number x (set_nest_lock n) (Count count) book barred answered at = set_elsewhere book.locks n number _ (λ same. barred_set_nest owner count x (slice_get book.locks n) (ap (λ (i : ℕ). slice_get book.locks i) same ∙ at) barred answered.1) ∙ at
barred_stays owner number x (set_nest_lock n) _ book barred answered at = at
barred_stays owner number x (test_nest_lock n) (Count count) book barred answered at = by_test (count == 0) refl
  where
    by_test : (b : Bool) → (count == 0) ≡ b → slice_get (after_test_nest owner n (Count count) book).locks number ≡ Some x
    by_test true e = rw e at
    by_test false e = rw e (set_elsewhere book.locks n number _ (λ same. unequal_numbers count 0 e (barred_got_nest owner count x (slice_get book.locks n) (ap (λ (i : ℕ). slice_get book.locks i) same ∙ at) barred answered.1)) ∙ at)
barred_stays owner number x (test_nest_lock n) _ book barred answered at = at
barred_stays owner number x (unset_nest_lock n) (Count count) book barred answered at = set_elsewhere book.locks n number _ (λ same. barred_unset_nest owner count x (slice_get book.locks n) (ap (λ (i : ℕ). slice_get book.locks i) same ∙ at) barred answered.1) ∙ at
barred_stays owner number x (unset_nest_lock n) _ book barred answered at = at
barred_stays owner number x (await_critical name) Finished book barred answered at = at
barred_stays owner number x (await_critical name) _ book barred answered at = at
barred_stays owner number x (await_lock n) Finished book barred answered at = set_elsewhere book.locks n number _ (λ same. barred_set owner x (slice_get book.locks n) (ap (λ (i : ℕ). slice_get book.locks i) same ∙ at) barred answered.1) ∙ at
barred_stays owner number x (await_lock n) _ book barred answered at = at
barred_stays owner number x (await_nest_lock n) (Count count) book barred answered at = set_elsewhere book.locks n number _ (λ same. barred_set_nest owner count x (slice_get book.locks n) (ap (λ (i : ℕ). slice_get book.locks i) same ∙ at) barred (waited_sets owner count (lock_at Nest n book) answered.1)) ∙ at
barred_stays owner number x (await_nest_lock n) _ book barred answered at = at

-- a place that is written or not leaves as many places
set_as_many : {X : Type 0} (xs : List X) (i : ℕ) (y : X) → length xs ≤ length (slice_set xs i y)
set_as_many xs i y = let same = length-set xs i y in omega (arith, same)

-- no call makes the list of locks shorter
pub no_fewer_locks : (owner : Owner) (call : BookCall) (reply : Reply) (book : BookView) → length book.locks ≤ length (after_call owner call reply book).locks
no_fewer_locks owner (start_critical name) Finished book = omega arith
no_fewer_locks owner (start_critical name) _ book = omega arith
no_fewer_locks owner (end_critical name) Finished book = omega arith
no_fewer_locks owner (end_critical name) _ book = omega arith
no_fewer_locks owner (make_lock kind) (LockMade made) book = let more = length_push book.locks (Some (record { kind = kind; held = None })) in omega (arith, more)
no_fewer_locks owner (make_lock kind) _ book = omega arith
no_fewer_locks owner (destroy_lock n) Finished book = set_as_many book.locks n None
no_fewer_locks owner (destroy_lock n) _ book = omega arith
no_fewer_locks owner (set_lock n) Finished book = set_as_many book.locks n _
no_fewer_locks owner (set_lock n) _ book = omega arith
no_fewer_locks owner (test_lock n) (Got true) book = set_as_many book.locks n _
no_fewer_locks owner (test_lock n) (Got false) book = omega arith
no_fewer_locks owner (test_lock n) _ book = omega arith
no_fewer_locks owner (unset_lock n) Finished book = set_as_many book.locks n _
no_fewer_locks owner (unset_lock n) _ book = omega arith
no_fewer_locks owner (set_nest_lock n) (Count count) book = set_as_many book.locks n _
no_fewer_locks owner (set_nest_lock n) _ book = omega arith
no_fewer_locks owner (test_nest_lock n) (Count count) book = by_test (count == 0) refl
  where
    by_test : (b : Bool) → (count == 0) ≡ b → length book.locks ≤ length (after_test_nest owner n (Count count) book).locks
    by_test true e = rw e (omega arith)
    by_test false e = rw e (set_as_many book.locks n _)
no_fewer_locks owner (test_nest_lock n) _ book = omega arith
no_fewer_locks owner (unset_nest_lock n) (Count count) book = set_as_many book.locks n _
no_fewer_locks owner (unset_nest_lock n) _ book = omega arith
no_fewer_locks owner (await_critical name) Finished book = omega arith
no_fewer_locks owner (await_critical name) _ book = omega arith
no_fewer_locks owner (await_lock n) Finished book = set_as_many book.locks n _
no_fewer_locks owner (await_lock n) _ book = omega arith
no_fewer_locks owner (await_nest_lock n) (Count count) book = set_as_many book.locks n _
no_fewer_locks owner (await_nest_lock n) _ book = omega arith

-- a name that was written has another owner only if nobody else held it
written_name : (owner other : Owner) (name written : List ℕ) (value : Option Owner) (book : BookView) → (name_owner written book ≡ Some other → ⊥) → name_owner name book ≡ Some other → name_owner name (with_name written value book) ≡ Some other
written_name owner other name written value book never at = by_name (bytes_eq name written) refl
  where
    by_name : (b : Bool) → bytes_eq name written ≡ b → name_owner name (with_name written value book) ≡ Some other
    by_name true e = absurd (never (ap (λ (n : List ℕ). name_owner n book) (sym (one_name name written e)) ∙ at))
    by_name false e = ap (λ (o : Option (Option Owner)). option_flatten o) (another_name written name value book.names e) ∙ at

entered_free : (other : Owner) (found : Option Owner) → EntersCritical found Finished → found ≡ Some other → ⊥
entered_free other None w e = absurd (cc)
entered_free other (Some owner) w e = w

ended_own : (owner other : Owner) (name : List ℕ) (found : Option Owner) → same_owner other owner ≡ false → least (critical_end_tests owner name found) ≡ None → found ≡ Some other → ⊥
ended_own owner other name found differ none e = by_length (is_too_long name) (let owned = rw e at none in rw differ at owned)
  where
    by_length : (b : Bool) → least ((b, NameTooLong) ∷ (true, NotHolder) ∷ []) ≡ None → ⊥
    by_length true w = absurd (cc)
    by_length false w = absurd (cc)

-- a name that an owner holds stays its name, whatever another owner calls
pub another_owners_name : (owner other : Owner) (name : List ℕ) (call : BookCall) (reply : Reply) (book : BookView) → same_owner other owner ≡ false → CallAnswered owner call book reply →
    name_owner name book ≡ Some other → name_owner name (after_call owner call reply book) ≡ Some other
another_owners_name owner other name (start_critical written) Finished book differ answered at = written_name owner other name written (Some owner) book (λ e. entered_free other (name_owner written book) answered.1 e) at
another_owners_name owner other name (start_critical written) _ book differ answered at = at
another_owners_name owner other name (end_critical written) Finished book differ answered at = written_name owner other name written None book (λ e. ended_own owner other written (name_owner written book) differ answered.0 e) at
another_owners_name owner other name (end_critical written) _ book differ answered at = at
another_owners_name owner other name (make_lock kind) (LockMade made) book differ answered at = at
another_owners_name owner other name (make_lock kind) _ book differ answered at = at
another_owners_name owner other name (destroy_lock n) Finished book differ answered at = at
another_owners_name owner other name (destroy_lock n) _ book differ answered at = at
another_owners_name owner other name (set_lock n) Finished book differ answered at = at
another_owners_name owner other name (set_lock n) _ book differ answered at = at
another_owners_name owner other name (test_lock n) (Got true) book differ answered at = at
another_owners_name owner other name (test_lock n) (Got false) book differ answered at = at
another_owners_name owner other name (test_lock n) _ book differ answered at = at
another_owners_name owner other name (unset_lock n) Finished book differ answered at = at
another_owners_name owner other name (unset_lock n) _ book differ answered at = at
another_owners_name owner other name (set_nest_lock n) (Count count) book differ answered at = at
another_owners_name owner other name (set_nest_lock n) _ book differ answered at = at
another_owners_name owner other name (test_nest_lock n) (Count count) book differ answered at = by_test (count == 0) refl
  where
    by_test : (b : Bool) → (count == 0) ≡ b → name_owner name (after_test_nest owner n (Count count) book) ≡ Some other
    by_test true e = rw e at
    by_test false e = rw e at
another_owners_name owner other name (test_nest_lock n) _ book differ answered at = at
another_owners_name owner other name (unset_nest_lock n) (Count count) book differ answered at = at
another_owners_name owner other name (unset_nest_lock n) _ book differ answered at = at
another_owners_name owner other name (await_critical written) Finished book differ answered at = written_name owner other name written (Some owner) book (λ e. entered_free other (name_owner written book) answered.1 e) at
another_owners_name owner other name (await_critical written) _ book differ answered at = at
another_owners_name owner other name (await_lock n) Finished book differ answered at = at
another_owners_name owner other name (await_lock n) _ book differ answered at = at
another_owners_name owner other name (await_nest_lock n) (Count count) book differ answered at = at
another_owners_name owner other name (await_nest_lock n) _ book differ answered at = at
