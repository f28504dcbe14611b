-- The places of locks: what a call writes there, and which of them it may not write.
use Rattle.std.proofs.Common.{◌≡◌, ℕ, ◌+◌, suc, zero, Bool, true, false, List, [], ◌∷◌, ◌++◌, Option, Some, None, refl, ap, ◌∙◌, arith}
use Rattle.std.specs.Prelude.{slice_get, slice_set, if◌then◌else◌, is_some}
use Rattle.gomp_types.specs.declared.task.Owner.{Owner}
use Rattle.gomp_types.specs.declared.lock.LockKind.{LockKind}
use Rattle.gomp_types.specs.declared.lock.LockKind.TheVariants.{Simple, Nest}
use Rattle.gomp_types.specs.declared.lock.Held.{Held}
use Rattle.gomp_types.specs.declared.reply.Reply.TheVariants.{Finished, Got, Count}
use Rattle.gomp_types.specs.Owners.{same_owner}
use Rattle.gomp_types.specs.Least.{least}
use Rattle.gomp_locks.specs.declared.lock.Lock.{Lock}
use Rattle.gomp_locks.specs.Book.{same_lock_kind, held_of_kind, held_of_any_kind, held_by}
use Rattle.gomp_locks.specs.Locks.{destroy_tests, SetsLock, TestsLock, unset_tests, SetsNest, TestsNest, UnsetsNest}

-- a place that is not written stays
pub set_elsewhere : {X : Type 0} (xs : List X) (i j : ℕ) (y : X) → (i ≡ j → ⊥) → slice_get (slice_set xs i y) j ≡ slice_get xs j
set_elsewhere [] i j y other = refl
set_elsewhere (x ∷ xs) zero zero y other = absurd (other refl)
set_elsewhere (x ∷ xs) zero (suc j) y other = refl
set_elsewhere (x ∷ xs) (suc i) zero y other = refl
set_elsewhere (x ∷ xs) (suc i) (suc j) y other = set_elsewhere xs i j y (λ e. other (ap suc e))

-- so does each place when one more is put behind
pub push_elsewhere : {X : Type 0} (xs : List X) (j : ℕ) (x y : X) → slice_get xs j ≡ Some x → slice_get (xs ++ y ∷ []) j ≡ Some x
push_elsewhere [] j x y at = absurd (cc)
push_elsewhere (z ∷ xs) zero x y at = at
push_elsewhere (z ∷ xs) (suc j) x y at = push_elsewhere xs j x y at

-- what no call by this owner may write: the place of a lock that was destroyed, or that another owner holds
abbrev pub IsBarred : Owner → Option Lock → Type 0
IsBarred owner None = Unit {0}
IsBarred owner (Some lock) = (held : Held) × (lock.held ≡ Some held) × (same_owner held.owner owner ≡ false)

-- it is held, and not by this owner
pub barred_held : (owner : Owner) (lock : Lock) → IsBarred owner (Some lock) → (is_some lock.held ≡ true) × (held_by owner lock.held ≡ false)
barred_held owner lock barred = (ap is_some barred.1, ap (held_by owner) barred.1 ∙ barred.2)

-- so none of the calls that would write it is answered so: whatever kind of lock is looked for
not_set : (k : LockKind) (h : Option Held) → is_some h ≡ true → SetsLock (if same_lock_kind k Simple then Some h else None) Finished → ⊥
not_set Simple None some w = absurd (cc)
not_set Simple (Some held) some w = w
not_set Nest h some w = w

not_got : (k : LockKind) (h : Option Held) → is_some h ≡ true → TestsLock (if same_lock_kind k Simple then Some h else None) (Got true) → ⊥
not_got Simple None some w = absurd (cc)
not_got Simple (Some held) some w = absurd (cc)
not_got Nest h some w = w

not_unset : (owner : Owner) (kind k : LockKind) (h : Option Held) → is_some h ≡ true → held_by owner h ≡ false → least (unset_tests owner (if same_lock_kind k kind then Some h else None)) ≡ None → ⊥
not_unset owner kind k h some other w = by_kind (same_lock_kind k kind) h some other w
  where
    by_kind : (b : Bool) (h : Option Held) → is_some h ≡ true → held_by owner h ≡ false → least (unset_tests owner (if b then Some h else None)) ≡ None → ⊥
    by_kind false h some other w = absurd (cc)
    by_kind true None some other w = absurd (cc)
    by_kind true (Some held) some other w = absurd (let never = rw other at w in cc)

not_set_nest : (owner : Owner) (count : ℕ) (k : LockKind) (h : Option Held) → is_some h ≡ true → held_by owner h ≡ false → SetsNest owner (if same_lock_kind k Nest then Some h else None) (Count count) → ⊥
not_set_nest owner count Nest None some other w = absurd (cc)
not_set_nest owner count Nest (Some held) some other w = absurd (let never = rw other at w.0 in cc)
not_set_nest owner count Simple h some other w = w

not_got_nest : (owner : Owner) (count : ℕ) (k : LockKind) (h : Option Held) → is_some h ≡ true → held_by owner h ≡ false → TestsNest owner (if same_lock_kind k Nest then Some h else None) (Count count) → count ≡ 0
not_got_nest owner count Nest None some other w = absurd (cc)
not_got_nest owner count Nest (Some held) some other w = rw other at w
not_got_nest owner count Simple h some other w = absurd w

not_unset_nest : (owner : Owner) (count : ℕ) (k : LockKind) (h : Option Held) → is_some h ≡ true → held_by owner h ≡ false → UnsetsNest owner (if same_lock_kind k Nest then Some h else None) (Count count) → ⊥
not_unset_nest owner count Nest None some other w = absurd (cc)
not_unset_nest owner count Nest (Some held) some other w = absurd (let none : count + 1 ≡ 0 = rw other at w in omega (arith, none))
not_unset_nest owner count Simple h some other w = w

not_destroyed : (h : Option Held) → is_some h ≡ true → least (destroy_tests (Some h)) ≡ None → ⊥
not_destroyed None some w = absurd (cc)
not_destroyed (Some held) some w = absurd (cc)

-- what a call finds at a barred place shows that it does not write it
pub barred_set : (owner : Owner) (x : Option Lock) (found : Option (Option Lock)) → found ≡ Some x → IsBarred owner x → SetsLock (held_of_kind Simple found) Finished → ⊥
barred_set owner None found at barred w = rw at at w
barred_set owner (Some lock) found at barred w = not_set lock.kind lock.held (barred_held owner lock barred).0 (rw at at w)

pub barred_got : (owner : Owner) (x : Option Lock) (found : Option (Option Lock)) → found ≡ Some x → IsBarred owner x → TestsLock (held_of_kind Simple found) (Got true) → ⊥
barred_got owner None found at barred w = rw at at w
barred_got owner (Some lock) found at barred w = not_got lock.kind lock.held (barred_held owner lock barred).0 (rw at at w)

pub barred_unset : (owner : Owner) (kind : LockKind) (x : Option Lock) (found : Option (Option Lock)) → found ≡ Some x → IsBarred owner x → least (unset_tests owner (held_of_kind kind found)) ≡ None → ⊥
barred_unset owner kind None found at barred w = absurd (let never = rw at at w in cc)
barred_unset owner kind (Some lock) found at barred w = let held = barred_held owner lock barred in not_unset owner kind lock.kind lock.held held.0 held.1 (rw at at w)

pub barred_set_nest : (owner : Owner) (count : ℕ) (x : Option Lock) (found : Option (Option Lock)) → found ≡ Some x → IsBarred owner x → SetsNest owner (held_of_kind Nest found) (Count count) → ⊥
barred_set_nest owner count None found at barred w = rw at at w
barred_set_nest owner count (Some lock) found at barred w = let held = barred_held owner lock barred in not_set_nest owner count lock.kind lock.held held.0 held.1 (rw at at w)

pub barred_got_nest : (owner : Owner) (count : ℕ) (x : Option Lock) (found : Option (Option Lock)) → found ≡ Some x → IsBarred owner x → TestsNest owner (held_of_kind Nest found) (Count count) → count ≡ 0
barred_got_nest owner count None found at barred w = absurd (rw at at w)
barred_got_nest owner count (Some lock) found at barred w = let held = barred_held owner lock barred in not_got_nest owner count lock.kind lock.held held.0 held.1 (rw at at w)

pub barred_unset_nest : (owner : Owner) (count : ℕ) (x : Option Lock) (found : Option (Option Lock)) → found ≡ Some x → IsBarred owner x → UnsetsNest owner (held_of_kind Nest found) (Count count) → ⊥
barred_unset_nest owner count None found at barred w = rw at at w
barred_unset_nest owner count (Some lock) found at barred w = let held = barred_held owner lock barred in not_unset_nest owner count lock.kind lock.held held.0 held.1 (rw at at w)

pub barred_destroyed : (owner : Owner) (x : Option Lock) (found : Option (Option Lock)) → found ≡ Some x → IsBarred owner x → least (destroy_tests (held_of_any_kind found)) ≡ None → ⊥
barred_destroyed owner None found at barred w = absurd (let never = rw at at w in cc)
barred_destroyed owner (Some lock) found at barred w = not_destroyed lock.held (barred_held owner lock barred).0 (rw at at w)
