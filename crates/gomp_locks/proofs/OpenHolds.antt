-- The open holds of a book after each call.
use Rattle.std.proofs.Common.{◌≡◌, ℕ, ◌+◌, Bool, true, false, List, [], ◌∷◌, Option, Some, None, refl, ap, sym, ◌∙◌, arith}
use Rattle.std.specs.Prelude.{slice_get, slice_set, ◌==◌, nat_lt, if◌then◌else◌}
use Rattle.std.specs.List.{sum_by}
use Rattle.std.proofs.lemmas.List.Sums.{sum_by_push}
use Rattle.std.proofs.lemmas.Bool.Decides.{nat_tests}
use Rattle.gomp_types.specs.declared.task.Owner.{Owner}
use Rattle.gomp_types.specs.declared.lock.LockKind.{LockKind}
use Rattle.gomp_types.specs.declared.lock.LockKind.TheVariants.{Simple, Nest}
use Rattle.gomp_types.specs.declared.lock.Held.{Held}
use Rattle.gomp_types.specs.declared.refusal.Refusal.TheVariants.{NameTooLong, NotHolder}
use Rattle.gomp_types.specs.declared.reply.Reply.{Reply}
use Rattle.gomp_types.specs.declared.reply.Reply.TheVariants.{Finished, Lock as LockMade, Got, Count}
use Rattle.gomp_types.specs.Least.{least}
use Rattle.gomp_types.proofs.Booleans.{is_equal, unequal_numbers}
use Rattle.gomp_locks.specs.declared.lock.Lock.{Lock}
use Rattle.gomp_locks.specs.Book.{BookView, name_owner, lock_at, held_of_kind, held_times, holds_of_name, holds_of_held, holds_of_lock, open_holds}
use Rattle.gomp_locks.specs.CriticalNames.{is_too_long, EntersCritical, after_critical_start, critical_end_tests}
use Rattle.gomp_locks.specs.Locks.{SetsLock, after_set, SetsNest, after_set_nest, after_test_nest}
use Rattle.gomp_locks.specs.BookCalls.{BookCall, CallAnswered, after_call, holds_gained, holds_lost, start_critical, end_critical, make_lock, destroy_lock, set_lock, test_lock, unset_lock, set_nest_lock, test_nest_lock, unset_nest_lock, await_critical, await_lock, await_nest_lock}
use Rattle.gomp_locks.specs.Order.{IsInOrder}
use Rattle.gomp_locks.proofs.CountLemmas.{holds_after}
use Rattle.gomp_locks.proofs.NestLemmas.{waited_sets}
use Rattle.gomp_locks.proofs.HoldLemmas.{place_holds, found_lock, holds_times, set_free, got_free, unset_held, set_nest_more, got_nest_more, unset_nest_less, destroyed_free}

entered_none : (found : Option Owner) → EntersCritical found Finished → holds_of_name found ≡ 0
entered_none None w = refl
entered_none (Some owner) w = absurd w

ended_some : (owner : Owner) (name : List ℕ) (found : Option Owner) → least (critical_end_tests owner name found) ≡ None → holds_of_name found ≡ 1
ended_some owner name (Some other) w = refl
ended_some owner name None w = by_length (is_too_long name) w
  where
    by_length : (b : Bool) → least ((b, NameTooLong) ∷ (true, NotHolder) ∷ []) ≡ None → holds_of_name None ≡ 1
    by_length true w = absurd (cc)
    by_length false w = absurd (cc)

-- a free place of this kind that is held now
taken_place : (kind : LockKind) (owner : Owner) (count : ℕ) (held : Option Held) (n : ℕ) (book : BookView) → lock_at kind n book ≡ Some held → count ≡ holds_of_held held + 1 →
    sum_by holds_of_lock (slice_set book.locks n (Some (record { kind = kind; held = held_times owner count }))) ≡ sum_by holds_of_lock book.locks + 1
taken_place kind owner count held n book at more =
    let found = found_lock kind (slice_get book.locks n) held at in
    let sums : sum_by holds_of_lock (slice_set book.locks n (Some (record { kind = kind; held = held_times owner count }))) + holds_of_lock found.0 ≡ sum_by holds_of_lock book.locks + holds_of_held (held_times owner count) = place_holds book.locks n found.0 (Some (record { kind = kind; held = held_times owner count })) found.1 in
    let before = found.2 in let times = holds_times owner count in omega (arith, sums, before, times, more)

-- What a call does moves them, whichever tests it made before: so does one that waited, and goes on

-- a name that is entered is one hold more
pub entered_name_is_held : (owner : Owner) (name : List ℕ) (book : BookView) → IsInOrder book → EntersCritical (name_owner name book) Finished → open_holds (after_critical_start owner name Finished book) ≡ open_holds book + 1
entered_name_is_held owner name book order enters = let sums = holds_after name (Some owner) book.names order.names in let none = entered_none (name_owner name book) enters in omega (arith, sums, none)

-- so is a simple lock that is set
pub set_lock_is_held : (owner : Owner) (number : ℕ) (book : BookView) → SetsLock (lock_at Simple number book) Finished → open_holds (after_set owner number Finished book) ≡ open_holds book + 1
set_lock_is_held owner number book sets = let sums = taken_place Simple owner 1 None number book (set_free (lock_at Simple number book) sets) refl in omega (arith, sums)

-- and a nestable one that is set once more
pub counted_lock_is_held : (owner : Owner) (number count : ℕ) (book : BookView) → SetsNest owner (lock_at Nest number book) (Count count) → open_holds (after_set_nest owner number (Count count) book) ≡ open_holds book + 1
counted_lock_is_held owner number count book sets = let more = set_nest_more owner count (lock_at Nest number book) sets in let sums = taken_place Nest owner count more.0 number book more.1 more.2 in omega (arith, sums)

-- how each call moves the open holds
pub holds_move : (owner : Owner) (call : BookCall) (reply : Reply) (book : BookView) → IsInOrder book → CallAnswered owner call book reply → open_holds (after_call owner call reply book) + holds_lost call reply ≡ open_holds book + holds_gained call reply
holds_move owner (start_critical name) Finished book order answered = let more = entered_name_is_held owner name book order answered.1 in omega (arith, more)
holds_move owner (start_critical name) _ book order answered = refl
holds_move owner (end_critical name) Finished book order answered = let sums = holds_after name None book.names order.names in let some = ended_some owner name (name_owner name book) answered.0 in omega (arith, sums, some)
holds_move owner (end_critical name) _ book order answered = refl
holds_move owner (make_lock kind) (LockMade made) book order answered = let sums = sum_by_push holds_of_lock book.locks (Some (record { kind = kind; held = None })) in omega (arith, sums)
holds_move owner (make_lock kind) _ book order answered = refl
holds_move owner (destroy_lock n) Finished book order answered = let free = destroyed_free (slice_get book.locks n) answered.0 in let sums = place_holds book.locks n free.0 None free.1 in let none = free.2 in omega (arith, sums, none)
holds_move owner (destroy_lock n) _ book order answered = refl
holds_move owner (set_lock n) Finished book order answered = let more = set_lock_is_held owner n book answered.1 in omega (arith, more)
holds_move owner (set_lock n) _ book order answered = refl
holds_move owner (test_lock n) (Got true) book order answered = let sums = taken_place Simple owner 1 None n book (got_free (lock_at Simple n book) answered.1) refl in omega (arith, sums)
holds_move owner (test_lock n) (Got false) book order answered = refl
holds_move owner (test_lock n) _ book order answered = refl
holds_move owner (unset_lock n) Finished book order answered =
    let held = unset_held owner (lock_at Simple n book) answered.0 in
    let found = found_lock Simple (slice_get book.locks n) (Some held.0) held.1 in
    let once : held.0.count ≡ 1 = order.simple n found.0 found.1 held.0 (ap (λ (f : Option (Option Lock)). held_of_kind Simple f) (sym found.1) ∙ held.1) in
    let sums = place_holds book.locks n found.0 (Some (record { kind = Simple; held = None })) found.1 in let before = found.2 in omega (arith, sums, before, once)
holds_move owner (unset_lock n) _ book order answered = refl
holds_move owner (set_nest_lock n) (Count count) book order answered = let more = counted_lock_is_held owner n count book answered.1 in omega (arith, more)
holds_move owner (set_nest_lock n) _ book order answered = refl
holds_move owner (test_nest_lock n) (Count count) book order answered = by_test (count == 0) refl
  where
    by_test : (b : Bool) → (count == 0) ≡ b → open_holds (after_test_nest owner n (Count count) book) + 0 ≡ open_holds book + (if nat_lt 0 count then 1 else 0)
    by_test true e = let none = is_equal count 0 e in let less : nat_lt 0 count ≡ false = grind (arith, nat_tests, none) in rw (e, less) refl
    by_test false e =
        let some = unequal_numbers count 0 e in let less : nat_lt 0 count ≡ true = grind (arith, nat_tests, some) in
        let more = got_nest_more owner count (lock_at Nest n book) e answered.1 in let sums = taken_place Nest owner count more.0 n book more.1 more.2 in let sum = rw e at sums in rw (e, less) (omega (arith, sum))
holds_move owner (test_nest_lock n) _ book order answered = refl
holds_move owner (unset_nest_lock n) (Count count) book order answered =
    let less = unset_nest_less owner count (lock_at Nest n book) answered.1 in
    let found = found_lock Nest (slice_get book.locks n) less.0 less.1 in
    let sums : sum_by holds_of_lock (slice_set book.locks n (Some (record { kind = Nest; held = held_times owner count }))) + holds_of_lock found.0 ≡ sum_by holds_of_lock book.locks + holds_of_held (held_times owner count) = place_holds book.locks n found.0 (Some (record { kind = Nest; held = held_times owner count })) found.1 in
    let before = found.2 in let times = holds_times owner count in let one = less.2 in omega (arith, sums, before, times, one)
holds_move owner (unset_nest_lock n) _ book order answered = refl
holds_move owner (await_critical name) Finished book order answered = let more = entered_name_is_held owner name book order answered.1 in omega (arith, more)
holds_move owner (await_critical name) _ book order answered = refl
holds_move owner (await_lock n) Finished book order answered = let more = set_lock_is_held owner n book answered.1 in omega (arith, more)
holds_move owner (await_lock n) _ book order answered = refl
holds_move owner (await_nest_lock n) (Count count) book order answered = let more = counted_lock_is_held owner n count book (waited_sets owner count (lock_at Nest n book) answered.1) in omega (arith, more)
holds_move owner (await_nest_lock n) _ book order answered = refl
