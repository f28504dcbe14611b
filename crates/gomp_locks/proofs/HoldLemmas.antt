-- How many holds a call adds or ends.
use Rattle.std.proofs.Common.{◌≡◌, ℕ, ◌+◌, Bool, true, false, List, Option, Some, None, refl, ap, sym, ◌∙◌, arith}
use Rattle.std.specs.Prelude.{slice_get, slice_set, ◌==◌, if◌then◌else◌}
use Rattle.std.specs.List.{sum_by}
use Rattle.std.proofs.lemmas.List.Sums.{sum_by-set}
use Rattle.std.proofs.lemmas.Option.{slice_get_within, get_or_from_slice_get}
use Rattle.gomp_types.specs.declared.task.Owner.{Owner}
use Rattle.gomp_types.specs.declared.lock.LockKind.{LockKind}
use Rattle.gomp_types.specs.declared.lock.Held.{Held}
use Rattle.gomp_types.specs.declared.reply.Reply.TheVariants.{Finished, Got, Count}
use Rattle.gomp_types.specs.Owners.{same_owner}
use Rattle.gomp_types.specs.Least.{least}
use Rattle.gomp_types.proofs.Booleans.{is_equal, unequal_numbers}
use Rattle.gomp_locks.specs.declared.lock.Lock.{Lock}
use Rattle.gomp_locks.specs.Book.{same_lock_kind, held_of_kind, held_of_any_kind, held_times, holds_of_held, holds_of_lock}
use Rattle.gomp_locks.specs.Locks.{destroy_tests, SetsLock, TestsLock, unset_tests, SetsNest, TestsNest, UnsetsNest, held_by_another, times_held}

-- a place with another lock in it
pub place_holds : (locks : List (Option Lock)) (i : ℕ) (x y : Option Lock) → slice_get locks i ≡ Some x → sum_by holds_of_lock (slice_set locks i y) + holds_of_lock x ≡ sum_by holds_of_lock locks + holds_of_lock y
place_holds locks i x y at =
    ap (λ (z : Option Lock). sum_by holds_of_lock (slice_set locks i y) + holds_of_lock z) (sym (get_or_from_slice_get locks i x x at)) ∙ sum_by-set holds_of_lock locks i y x (slice_get_within locks i x at)

-- the lock in which a call found this
pub found_lock : (kind : LockKind) (found : Option (Option Lock)) (held : Option Held) → held_of_kind kind found ≡ Some held → (x : Option Lock) × (found ≡ Some x) × (holds_of_lock x ≡ holds_of_held held)
found_lock kind None held at = absurd (cc)
found_lock kind (Some None) held at = absurd (cc)
found_lock kind (Some (Some lock)) held at = (Some lock, refl, by_kind (same_lock_kind lock.kind kind) at)
  where
    by_kind : (b : Bool) → ◌≡◌ {A = Option (Option Held)} (if b then Some lock.held else None) (Some held) → holds_of_held lock.held ≡ holds_of_held held
    by_kind true e = let same : lock.held ≡ held = cc in ap holds_of_held same
    by_kind false e = absurd (cc)

-- so many times held are so many holds
pub holds_times : (owner : Owner) (count : ℕ) → holds_of_held (held_times owner count) ≡ count
holds_times owner count = by_test (count == 0) refl
  where
    by_test : (b : Bool) → (count == 0) ≡ b → holds_of_held (held_times owner count) ≡ count
    by_test true e = rw e (sym (is_equal count 0 e))
    by_test false e = rw e refl

-- a simple lock that is set was free
pub set_free : (found : Option (Option Held)) → SetsLock found Finished → found ≡ Some None
set_free None w = absurd w
set_free (Some None) w = refl
set_free (Some (Some held)) w = absurd w

pub got_free : (found : Option (Option Held)) → TestsLock found (Got true) → found ≡ Some None
got_free None w = absurd w
got_free (Some None) w = refl
got_free (Some (Some held)) w = absurd (cc)

-- what is unset is held
pub unset_held : (owner : Owner) (found : Option (Option Held)) → least (unset_tests owner found) ≡ None → (held : Held) × (found ≡ Some (Some held))
unset_held owner None w = absurd (cc)
unset_held owner (Some None) w = absurd (cc)
unset_held owner (Some (Some held)) w = (held, refl)

-- a nestable lock that is set is held once less before
pub count_of_free : (owner : Owner) (held : Option Held) → held_by_another owner held ≡ false → times_held owner held ≡ holds_of_held held
count_of_free owner None w = refl
count_of_free owner (Some held) w = by_owner (same_owner held.owner owner) refl w
  where
    by_owner : (b : Bool) → same_owner held.owner owner ≡ b → held_by_another owner (Some held) ≡ false → times_held owner (Some held) ≡ holds_of_held (Some held)
    by_owner true e w = rw e refl
    by_owner false e w = absurd (let never = rw e at w in cc)

pub set_nest_more : (owner : Owner) (count : ℕ) (found : Option (Option Held)) → SetsNest owner found (Count count) → (held : Option Held) × (found ≡ Some held) × (count ≡ holds_of_held held + 1)
set_nest_more owner count None w = absurd w
set_nest_more owner count (Some held) w = (held, refl, let same = count_of_free owner held w.0 in let more = w.1 in omega (arith, same, more))

pub got_nest_more : (owner : Owner) (count : ℕ) (found : Option (Option Held)) → (count == 0) ≡ false → TestsNest owner found (Count count) → (held : Option Held) × (found ≡ Some held) × (count ≡ holds_of_held held + 1)
got_nest_more owner count None some w = absurd w
got_nest_more owner count (Some held) some w = (held, refl, by_test (held_by_another owner held) refl w)
  where
    by_test : (b : Bool) → held_by_another owner held ≡ b → count ≡ (if held_by_another owner held then 0 else times_held owner held + 1) → count ≡ holds_of_held held + 1
    by_test true e w = absurd (unequal_numbers count 0 some (rw e at w))
    by_test false e w = let same = count_of_free owner held e in let more : count ≡ times_held owner held + 1 = rw e at w in omega (arith, same, more)

pub unset_nest_less : (owner : Owner) (count : ℕ) (found : Option (Option Held)) → UnsetsNest owner found (Count count) → (held : Option Held) × (found ≡ Some held) × (count + 1 ≡ holds_of_held held)
unset_nest_less owner count None w = absurd w
unset_nest_less owner count (Some held) w = (held, refl, by_held held w)
  where
    by_held : (held : Option Held) → count + 1 ≡ times_held owner held → count + 1 ≡ holds_of_held held
    by_held None w = absurd (omega (arith, w))
    by_held (Some held) w = by_owner (same_owner held.owner owner) w
      where
        by_owner : (b : Bool) → count + 1 ≡ (if b then held.count else 0) → count + 1 ≡ held.count
        by_owner true w = w
        by_owner false w = absurd (omega (arith, w))

-- a lock that is destroyed is held by nobody
pub destroyed_free : (found : Option (Option Lock)) → least (destroy_tests (held_of_any_kind found)) ≡ None → (x : Option Lock) × (found ≡ Some x) × (holds_of_lock x ≡ 0)
destroyed_free None w = absurd (cc)
destroyed_free (Some None) w = absurd (cc)
destroyed_free (Some (Some lock)) w = (Some lock, refl, by_held lock.held w)
  where
    by_held : (held : Option Held) → least (destroy_tests (Some held)) ≡ None → holds_of_held held ≡ 0
    by_held None w = refl
    by_held (Some held) w = absurd (cc)
