-- The rows of the lock routines.
use Rattle.std.proofs.Common.{◌≡◌, ℕ, ◌+◌, ◌-◌, ◌≤◌, Bool, true, false, List, ◌++◌, Option, Some, None, refl, ap, sym, ◌∙◌, subst, arith, inl, inr}
use Rattle.std.specs.Prelude.{not, nat_lt, nat_le, is_some, if◌then◌else◌, length, slice_get}
use Rattle.std.specs.Option.{option_flatten}
use Rattle.std.proofs.lemmas.Bool.{cases_Bool}
use Rattle.std.proofs.lemmas.Bool.Decides.{nat_tests}
use Rattle.gomp_events.specs.declared.event.Event.{Event}
use Rattle.gomp_types.specs.declared.key.Key.TheVariants.{Lock, NestLock}
use Rattle.gomp_types.specs.declared.lock.Held.{Held}
use Rattle.gomp_types.specs.declared.lock.TheConstants.{MAX_COUNT}
use Rattle.gomp_types.specs.declared.lock.LockKind.{LockKind}
use Rattle.gomp_types.specs.declared.lock.LockKind.TheVariants.{Simple, Nest}
use Rattle.gomp_types.specs.declared.reply.Reply.{Reply}
use Rattle.gomp_types.specs.declared.reply.Reply.TheVariants.{Finished, Wait, Lock as LockMade, Got, Count}
use Rattle.gomp_types.specs.declared.task.Owner.{Owner}
use Rattle.gomp_types.specs.Owners.{same_owner}
use Rattle.gomp_types.proofs.Booleans.{not_false}
use Rattle.gomp_types.proofs.LeastTests.{AllFail}
use Rattle.gomp_locks.specs.Book.{held_by}
use Rattle.gomp_locks.specs.Locks.{MakesLock, set_by_other_tests, times_held, count_tests, held_by_another, SetsLock, TestsLock, SetsNest, TestsNest, UnsetsNest}
use Rattle.gomp_locks.specs.Holders.{asker, holder, found_lock}
use Rattle.gomp_locks.specs.HoldRules.{can_hold}
use Rattle.gomp_model.specs.CriticalNames.{is_held, reply_frees, held_once}
use Rattle.gomp_model.specs.Locks.{init_row, destroy_row, set_row, test_row, unset_row, set_nest_row, test_nest_row, unset_nest_row}
use Rattle.gomp_model.proofs.Admitted.{missing_fails, by_team_fails}
use Rattle.gomp_locks.proofs.HoldsKeep.{held_at_least_once, unheld_counts_none}
use Rattle.gomp_laws.proofs.Sound.{IsSound}
use Rattle.gomp_laws.proofs.HeldRows.{IsBookReply, finished_is_one, asked_first, held_row, held_inside, held_given, freed_given, hold_keeps, free_keeps, another_counts_none, found_as_held, lock_is_found, held_counts_more, unheld_counts_same, freed_counts_less, held_row_sound}

-- Making and destroying

one_made : (made : ℕ) (a b : Reply) → MakesLock made a → MakesLock made b → a ≡ b
one_made made (LockMade one) (LockMade other) x y = ap LockMade (x ∙ sym y)
one_made made (LockMade one) _ x y = absurd y
one_made made _ b x y = absurd x

pub init_sound : (kind : LockKind) → IsSound (init_row kind)
init_sound kind = record {
  decided = λ m p a b x y. inl (one_made (length p.locks) a b x y);
  accepts = λ m p refusal x. x;
  answered = λ repeated m p ready all. (LockMade (length p.locks), refl);
  counts = λ repeated m p first count ready all may. absurd may;
  begins_own = λ m p. tt;
  gives_own = λ m p reply. tt;
  begins_keep = λ m p ready all. all;
  gives_keep = λ repeated m p reply ready may all. all;
  still = λ stays m p. absurd (cc);
  placed = λ stays m h. refl;
  outside = λ arrives m p fail. absurd (cc);
  tells = λ arrives m p reply may. absurd (cc);
  one_pass = λ arrives m p. absurd (cc);
  arrives_there = λ arrives m p. absurd (cc);
  waits_quietly = λ arrives m p. absurd (cc);
  lasts = λ repeated m p ready all may. absurd may;
  waits_for = λ key m p at may. absurd may;
  tells_count = λ key repeated m count p at ready all may. absurd may;
  runs = λ m p task code arg own may. absurd may;
  ends = λ m p task waiting may. absurd may;
  created = λ repeated m p task ready may. absurd may;
  cancelled = λ m p may. absurd (may);
  dropped = λ repeated m p ready all may. absurd (may);
  allowed = λ cancels m p. absurd (cc);
  no_memory = λ m p. (refl, refl, refl, refl, λ repeated. refl);
  words_keep = λ puts repeated m p reply ready may all. absurd (cc);
}

pub destroy_sound : (number : ℕ) → IsSound (destroy_row number)
destroy_sound number = record {
  decided = λ m p a b x y. inl (x ∙ sym y);
  accepts = λ m p refusal x. cc;
  answered = λ repeated m p ready all. (Finished, refl);
  counts = λ repeated m p first count ready all may. absurd (cc);
  begins_own = λ m p. tt;
  gives_own = λ m p reply. tt;
  begins_keep = λ m p ready all. all;
  gives_keep = λ repeated m p reply ready may all. all;
  still = λ stays m p. absurd (cc);
  placed = λ stays m h. refl;
  outside = λ arrives m p fail. absurd (cc);
  tells = λ arrives m p reply may. absurd (cc);
  one_pass = λ arrives m p. absurd (cc);
  arrives_there = λ arrives m p. absurd (cc);
  waits_quietly = λ arrives m p. absurd (cc);
  lasts = λ repeated m p ready all may. absurd (cc);
  waits_for = λ key m p at may. absurd (cc);
  tells_count = λ key repeated m count p at ready all may. absurd (cc);
  runs = λ m p task code arg own may. absurd (cc);
  ends = λ m p task waiting may. absurd (cc);
  created = λ repeated m p task ready may. absurd (cc);
  cancelled = λ m p may. absurd (cc);
  dropped = λ repeated m p ready all may. absurd (cc);
  allowed = λ cancels m p. absurd (cc);
  no_memory = λ m p. (refl, refl, refl, refl, λ repeated. refl);
  words_keep = λ puts repeated m p reply ready may all. absurd (cc);
}

-- Simple locks

one_set : (found : Option (Option Held)) (a b : Reply) → SetsLock found a → SetsLock found b → a ≡ b
one_set None a b x y = absurd x
one_set (Some None) Finished Finished x y = refl
one_set (Some None) Finished _ x y = absurd y
one_set (Some None) _ b x y = absurd x
one_set (Some (Some held)) Wait Wait x y = refl
one_set (Some (Some held)) Wait _ x y = absurd y
one_set (Some (Some held)) _ b x y = absurd x

set_by_book : (found : Option (Option Held)) (reply : Reply) → SetsLock found reply → IsBookReply reply
set_by_book None reply may = absurd may
set_by_book (Some None) Finished may = tt
set_by_book (Some None) _ may = absurd may
set_by_book (Some (Some held)) Wait may = tt
set_by_book (Some (Some held)) _ may = absurd may

some_set : (held : Option Held) → (reply : Reply) × SetsLock (Some held) reply
some_set None = (Finished, tt)
some_set (Some held) = (Wait, tt)

-- a lock that is set is free
set_is_free : (held : Option Held) (reply : Reply) → SetsLock (Some held) reply → is_held reply ≡ true → not (is_some held) ≡ true
set_is_free None reply may is = refl
set_is_free (Some held) Wait may is = absurd (cc)
set_is_free (Some held) _ may is = absurd may

-- one that is waited for is held
set_waits : (found : Option (Option Held)) → SetsLock found Wait → (held : Held) × (found ≡ Some (Some held))
set_waits None may = absurd may
set_waits (Some None) may = absurd may
set_waits (Some (Some held)) may = (held, refl)

set_counts_none : {P : Type 0} (found : Option (Option Held)) (count : ℕ) → SetsLock found (Count count) → P
set_counts_none None count may = absurd may
set_counts_none (Some None) count may = absurd may
set_counts_none (Some (Some held)) count may = absurd may

pub set_sound : (number : ℕ) → IsSound (set_row number)
set_sound number = held_row_sound (Lock number) (set_row number) (record {
  decided = λ m p a b x y. one_set (found_lock Simple number p.locks p.events) a b x y;
  by_book = λ m p reply may. set_by_book (found_lock Simple number p.locks p.events) reply may;
  answered = λ repeated m p ready all.
      let found = lock_is_found Simple number p (missing_fails ready.admitted.book) in
      subst (λ (f : Option (Option Held)). (reply : Reply) × SetsLock f reply) (sym found) (some_set (holder (Lock number) p.events));
  given = λ m p reply. held_given (Lock number) m reply p.events;
  keep = λ repeated m p reply ready may all.
      let found = lock_is_found Simple number p (missing_fails ready.admitted.book) in
      let sets = subst (λ (f : Option (Option Held)). SetsLock f reply) found may in
      hold_keeps p.terms.members m (Lock number) (is_held reply) p.events ready.member (ready.away refl (held_inside (held_row (Lock number) (set_row number)) repeated m p (Lock number) ready refl refl)) (set_is_free (holder (Lock number) p.events) reply sets) all;
  apart = λ repeated m p ready may.
      let found = lock_is_found Simple number p (missing_fails ready.admitted.book) in
      elim (cases_Bool repeated) [
        | inl e ↦ ready.admitted.book.lasting e (Lock number) refl
        | inr e ↦ ap (λ (f : Option (Option Held)). held_by (asker m p.events) (option_flatten f)) (sym found) ∙ (by_team_fails ready.admitted.book e).0
      ];
  bound = λ m p may. refl;
  waits_for = λ m p may.
      let waits = set_waits (found_lock Simple number p.locks p.events) may in
      (waits.0, found_as_held Simple (slice_get p.locks number) (holder (Lock number) p.events) (Some waits.0) waits.1);
  tells_count = λ repeated m count p ready may. set_counts_none (found_lock Simple number p.locks p.events) count may;
  no_memory = λ m p. (refl, refl);
})

one_test : (found : Option (Option Held)) (a b : Reply) → TestsLock found a → TestsLock found b → a ≡ b
one_test None a b x y = absurd x
one_test (Some held) (Got one) (Got other) x y = ap Got (x ∙ sym y)
one_test (Some held) (Got one) _ x y = absurd y
one_test (Some held) _ b x y = absurd x

test_by_book : (found : Option (Option Held)) (reply : Reply) → TestsLock found reply → IsBookReply reply
test_by_book None reply may = absurd may
test_by_book (Some held) (Got free) may = tt
test_by_book (Some held) _ may = absurd may

-- a lock that a test sets is free
test_is_free : (held : Option Held) (reply : Reply) → TestsLock (Some held) reply → is_held reply ≡ true → not (is_some held) ≡ true
test_is_free held (Got free) may is = sym may ∙ is
test_is_free held _ may is = absurd may

-- a test never waits, and tells no count
test_waits : {P : Type 0} (found : Option (Option Held)) → TestsLock found Wait → P
test_waits None may = absurd may
test_waits (Some held) may = absurd may

test_counts_none : {P : Type 0} (found : Option (Option Held)) (count : ℕ) → TestsLock found (Count count) → P
test_counts_none None count may = absurd may
test_counts_none (Some held) count may = absurd may

pub test_sound : (number : ℕ) → IsSound (test_row number)
test_sound number = held_row_sound (Lock number) (test_row number) (record {
  decided = λ m p a b x y. one_test (found_lock Simple number p.locks p.events) a b x y;
  by_book = λ m p reply may. test_by_book (found_lock Simple number p.locks p.events) reply may;
  answered = λ repeated m p ready all.
      let found = lock_is_found Simple number p (missing_fails ready.admitted.book) in
      (Got (not (is_some (holder (Lock number) p.events))), subst (λ (f : Option (Option Held)). TestsLock f (Got (not (is_some (holder (Lock number) p.events))))) (sym found) refl);
  given = λ m p reply. held_given (Lock number) m reply p.events;
  keep = λ repeated m p reply ready may all.
      let found = lock_is_found Simple number p (missing_fails ready.admitted.book) in
      let tests = subst (λ (f : Option (Option Held)). TestsLock f reply) found may in
      hold_keeps p.terms.members m (Lock number) (is_held reply) p.events ready.member (ready.away refl (held_inside (held_row (Lock number) (test_row number)) repeated m p (Lock number) ready refl refl)) (test_is_free (holder (Lock number) p.events) reply tests) all;
  apart = λ repeated m p ready may. test_waits (found_lock Simple number p.locks p.events) may;
  bound = λ m p may. refl;
  waits_for = λ m p may. test_waits (found_lock Simple number p.locks p.events) may;
  tells_count = λ repeated m count p ready may. test_counts_none (found_lock Simple number p.locks p.events) count may;
  no_memory = λ m p. (refl, refl);
})

-- a lock whose release is not refused is held by the task that asks
unset_by_holder : (owner : Owner) (held : Option Held) (found : Option (Option Held)) → found ≡ Some held → AllFail (set_by_other_tests owner found) → held_by owner held ≡ true
unset_by_holder owner held found at fail = not_false (held_by owner held) (subst (λ (f : Option (Option Held)). AllFail (set_by_other_tests owner f)) at fail).0

pub unset_sound : (number : ℕ) → IsSound (unset_row number)
unset_sound number = held_row_sound (Lock number) (unset_row number) (record {
  decided = λ m p a b x y. x ∙ sym y;
  by_book = λ m p reply may. finished_is_one reply may;
  answered = λ repeated m p ready all. (Finished, refl);
  given = λ m p reply. freed_given (Lock number) m reply p.events;
  keep = λ repeated m p reply ready may all.
      let found = lock_is_found Simple number p (missing_fails ready.admitted.book) in
      let fail = asked_first (unset_row number) repeated m p (λ q given may. finished_is_one given may) (λ q waits. cc) ready in
      free_keeps p.terms.members m (Lock number) (reply_frees reply) p.events (unset_by_holder (asker m p.events) (holder (Lock number) p.events) (found_lock Simple number p.locks p.events) found fail) all;
  apart = λ repeated m p ready may. absurd (cc);
  bound = λ m p may. absurd (cc);
  waits_for = λ m p may. absurd (cc);
  tells_count = λ repeated m count p ready may. absurd (cc);
  no_memory = λ m p. (refl, refl);
})

-- Nestable locks

-- a lock that no other task holds may be held once more, below the greatest count
nest_can_hold : (number : ℕ) (owner : Owner) (held : Option Held) → held_by_another owner held ≡ false → nat_le MAX_COUNT (times_held owner held) ≡ false → can_hold (NestLock number) owner held ≡ true
nest_can_hold number owner held free below = rw (free, below) refl

count_is_below : (owner : Owner) (held : Option Held) (found : Option (Option Held)) → found ≡ Some held → AllFail (count_tests owner found) → nat_le MAX_COUNT (times_held owner held) ≡ false
count_is_below owner held found at fail = (subst (λ (f : Option (Option Held)). AllFail (count_tests owner f)) at fail).0

-- one more than a number is more than none
more_than_none : (n count : ℕ) → count ≡ n + 1 → nat_lt 0 count ≡ true
more_than_none n count e = grind (arith, nat_tests, e)

-- what another task holds the one that asks does not
another_holds_it : (owner : Owner) (held : Option Held) → held_by_another owner held ≡ true → held_by owner held ≡ false
another_holds_it owner None differ = refl
another_holds_it owner (Some held) differ = by_owner (same_owner held.owner owner) differ
  where
    by_owner : (b : Bool) → not b ≡ true → b ≡ false
    by_owner true w = absurd (cc)
    by_owner false w = refl

-- so often it is held then
counts_once_more : (number m count : ℕ) (h : List Event) → held_by_another (asker m h) (holder (NestLock number) h) ≡ false → count ≡ times_held (asker m h) (holder (NestLock number) h) + 1 →
    count ≡ times_held (asker m h) (holder (NestLock number) (held_once (is_held (Count count)) (NestLock number) m h ++ h))
counts_once_more number m count h free more =
    more ∙ sym (held_counts_more m (NestLock number) (nat_lt 0 count) h (more_than_none (times_held (asker m h) (holder (NestLock number) h)) count more) free)

one_nest_set : (owner : Owner) (found : Option (Option Held)) (a b : Reply) → SetsNest owner found a → SetsNest owner found b → a ≡ b
one_nest_set owner None a b x y = absurd x
one_nest_set owner (Some held) (Count one) (Count other) x y = ap Count (x.1 ∙ sym y.1)
one_nest_set owner (Some held) (Count one) Wait x y = absurd (let free = x.0 in cc)
one_nest_set owner (Some held) (Count one) _ x y = absurd y
one_nest_set owner (Some held) Wait (Count other) x y = absurd (let free = y.0 in cc)
one_nest_set owner (Some held) Wait Wait x y = refl
one_nest_set owner (Some held) Wait _ x y = absurd y
one_nest_set owner (Some held) _ b x y = absurd x

nest_set_by_book : (owner : Owner) (found : Option (Option Held)) (reply : Reply) → SetsNest owner found reply → IsBookReply reply
nest_set_by_book owner None reply may = absurd may
nest_set_by_book owner (Some held) (Count count) may = tt
nest_set_by_book owner (Some held) Wait may = tt
nest_set_by_book owner (Some held) _ may = absurd may

some_nest_set : (owner : Owner) (held : Option Held) → (reply : Reply) × SetsNest owner (Some held) reply
some_nest_set owner held =
    elim (cases_Bool (held_by_another owner held)) [
      | inl other ↦ (Wait, other)
      | inr free ↦ (Count (times_held owner held + 1), (free, refl))
    ]

nest_set_may : (number : ℕ) (owner : Owner) (held : Option Held) (reply : Reply) → nat_le MAX_COUNT (times_held owner held) ≡ false → SetsNest owner (Some held) reply → is_held reply ≡ true → can_hold (NestLock number) owner held ≡ true
nest_set_may number owner held (Count count) below may is = nest_can_hold number owner held may.0 below
nest_set_may number owner held Wait below may is = absurd (cc)
nest_set_may number owner held _ below may is = absurd may

nest_set_waits : (owner : Owner) (found : Option (Option Held)) → SetsNest owner found Wait → (held : Held) × (found ≡ Some (Some held))
nest_set_waits owner None may = absurd may
nest_set_waits owner (Some None) may = absurd (cc)
nest_set_waits owner (Some (Some held)) may = (held, refl)

pub set_nest_sound : (number : ℕ) → IsSound (set_nest_row number)
set_nest_sound number = held_row_sound (NestLock number) (set_nest_row number) (record {
  decided = λ m p a b x y. one_nest_set (asker m p.events) (found_lock Nest number p.locks p.events) a b x y;
  by_book = λ m p reply may. nest_set_by_book (asker m p.events) (found_lock Nest number p.locks p.events) reply may;
  answered = λ repeated m p ready all.
      subst (λ (f : Option (Option Held)). (reply : Reply) × SetsNest (asker m p.events) f reply) (sym (lock_is_found Nest number p (missing_fails ready.admitted.book))) (some_nest_set (asker m p.events) (holder (NestLock number) p.events));
  given = λ m p reply. held_given (NestLock number) m reply p.events;
  keep = λ repeated m p reply ready may all.
      let found = lock_is_found Nest number p (missing_fails ready.admitted.book) in
      let sets = subst (λ (f : Option (Option Held)). SetsNest (asker m p.events) f reply) found may in
      let below : nat_le MAX_COUNT (times_held (asker m p.events) (holder (NestLock number) p.events)) ≡ false =
      elim (cases_Bool repeated) [
        | inl e ↦ rw (unheld_counts_none (asker m p.events) (holder (NestLock number) p.events) (ready.admitted.book.lasting e (NestLock number) refl)) refl
        | inr e ↦ count_is_below (asker m p.events) (holder (NestLock number) p.events) (found_lock Nest number p.locks p.events) found (by_team_fails ready.admitted.book e)
      ] in
      hold_keeps p.terms.members m (NestLock number) (is_held reply) p.events ready.member (ready.away refl (held_inside (held_row (NestLock number) (set_nest_row number)) repeated m p (NestLock number) ready refl refl)) (nest_set_may number (asker m p.events) (holder (NestLock number) p.events) reply below sets) all;
  apart = λ repeated m p ready may.
      let differ = subst (λ (f : Option (Option Held)). SetsNest (asker m p.events) f Wait) (lock_is_found Nest number p (missing_fails ready.admitted.book)) may in
      another_holds_it (asker m p.events) (holder (NestLock number) p.events) differ;
  bound = λ m p may. refl;
  waits_for = λ m p may.
      let waits = nest_set_waits (asker m p.events) (found_lock Nest number p.locks p.events) may in
      (waits.0, found_as_held Nest (slice_get p.locks number) (holder (NestLock number) p.events) (Some waits.0) waits.1);
  tells_count = λ repeated m count p ready may.
      let sets = subst (λ (f : Option (Option Held)). SetsNest (asker m p.events) f (Count count)) (lock_is_found Nest number p (missing_fails ready.admitted.book)) may in
      counts_once_more number m count p.events sets.0 sets.1;
  no_memory = λ m p. (refl, refl);
})

one_nest_test : (owner : Owner) (found : Option (Option Held)) (a b : Reply) → TestsNest owner found a → TestsNest owner found b → a ≡ b
one_nest_test owner None a b x y = absurd x
one_nest_test owner (Some held) (Count one) (Count other) x y = ap Count (x ∙ sym y)
one_nest_test owner (Some held) (Count one) _ x y = absurd y
one_nest_test owner (Some held) _ b x y = absurd x

nest_test_by_book : (owner : Owner) (found : Option (Option Held)) (reply : Reply) → TestsNest owner found reply → IsBookReply reply
nest_test_by_book owner None reply may = absurd may
nest_test_by_book owner (Some held) (Count count) may = tt
nest_test_by_book owner (Some held) _ may = absurd may

nest_test_waits : {P : Type 0} (owner : Owner) (found : Option (Option Held)) → TestsNest owner found Wait → P
nest_test_waits owner None may = absurd may
nest_test_waits owner (Some held) may = absurd may

nest_test_may : (number : ℕ) (owner : Owner) (held : Option Held) (reply : Reply) → nat_le MAX_COUNT (times_held owner held) ≡ false → TestsNest owner (Some held) reply → is_held reply ≡ true → can_hold (NestLock number) owner held ≡ true
nest_test_may number owner held (Count count) below may is =
    elim (cases_Bool (held_by_another owner held)) [
      | inl other ↦ absurd (let none : count ≡ 0 = rw other at may in let never : nat_lt 0 0 ≡ true = rw none at is in cc)
      | inr free ↦ nest_can_hold number owner held free below
    ]
nest_test_may number owner held _ below may is = absurd may

nest_test_counts : (number m count : ℕ) (h : List Event) → TestsNest (asker m h) (Some (holder (NestLock number) h)) (Count count) → count ≡ times_held (asker m h) (holder (NestLock number) (held_once (is_held (Count count)) (NestLock number) m h ++ h))
nest_test_counts number m count h may =
    elim (cases_Bool (held_by_another (asker m h) (holder (NestLock number) h))) [
      | inl other ↦
          let none : count ≡ 0 = rw other at may in
          none ∙ sym (another_counts_none (asker m h) (holder (NestLock number) h) other) ∙ sym (unheld_counts_same m (NestLock number) (nat_lt 0 count) h (ap (λ (n : ℕ). nat_lt 0 n) none))
      | inr free ↦ counts_once_more number m count h free (rw free at may)
    ]

pub test_nest_sound : (number : ℕ) → IsSound (test_nest_row number)
test_nest_sound number = held_row_sound (NestLock number) (test_nest_row number) (record {
  decided = λ m p a b x y. one_nest_test (asker m p.events) (found_lock Nest number p.locks p.events) a b x y;
  by_book = λ m p reply may. nest_test_by_book (asker m p.events) (found_lock Nest number p.locks p.events) reply may;
  answered = λ repeated m p ready all.
      let owner = asker m p.events in
      let held = holder (NestLock number) p.events in
      subst (λ (f : Option (Option Held)). (reply : Reply) × TestsNest owner f reply) (sym (lock_is_found Nest number p (missing_fails ready.admitted.book))) (Count (if held_by_another owner held then 0 else times_held owner held + 1), refl);
  given = λ m p reply. held_given (NestLock number) m reply p.events;
  keep = λ repeated m p reply ready may all.
      let found = lock_is_found Nest number p (missing_fails ready.admitted.book) in
      let tests = subst (λ (f : Option (Option Held)). TestsNest (asker m p.events) f reply) found may in
      let fail = asked_first (test_nest_row number) repeated m p (λ q given may. nest_test_by_book (asker m q.events) (found_lock Nest number q.locks q.events) given may) (λ q waits. nest_test_waits (asker m q.events) (found_lock Nest number q.locks q.events) waits) ready in
      let below = count_is_below (asker m p.events) (holder (NestLock number) p.events) (found_lock Nest number p.locks p.events) found fail in
      hold_keeps p.terms.members m (NestLock number) (is_held reply) p.events ready.member (ready.away refl (held_inside (held_row (NestLock number) (test_nest_row number)) repeated m p (NestLock number) ready refl refl)) (nest_test_may number (asker m p.events) (holder (NestLock number) p.events) reply below tests) all;
  apart = λ repeated m p ready may. nest_test_waits (asker m p.events) (found_lock Nest number p.locks p.events) may;
  bound = λ m p may. refl;
  waits_for = λ m p may. nest_test_waits (asker m p.events) (found_lock Nest number p.locks p.events) may;
  tells_count = λ repeated m count p ready may.
      nest_test_counts number m count p.events (subst (λ (f : Option (Option Held)). TestsNest (asker m p.events) f (Count count)) (lock_is_found Nest number p (missing_fails ready.admitted.book)) may);
  no_memory = λ m p. (refl, refl);
})

one_nest_unset : (owner : Owner) (found : Option (Option Held)) (a b : Reply) → UnsetsNest owner found a → UnsetsNest owner found b → a ≡ b
one_nest_unset owner None a b x y = absurd x
one_nest_unset owner (Some held) (Count one) (Count other) x y = ap Count (omega (arith, x, y))
one_nest_unset owner (Some held) (Count one) _ x y = absurd y
one_nest_unset owner (Some held) _ b x y = absurd x

nest_unset_by_book : (owner : Owner) (found : Option (Option Held)) (reply : Reply) → UnsetsNest owner found reply → IsBookReply reply
nest_unset_by_book owner None reply may = absurd may
nest_unset_by_book owner (Some held) (Count count) may = tt
nest_unset_by_book owner (Some held) _ may = absurd may

nest_unset_waits : {P : Type 0} (owner : Owner) (found : Option (Option Held)) → UnsetsNest owner found Wait → P
nest_unset_waits owner None may = absurd may
nest_unset_waits owner (Some held) may = absurd may

some_nest_unset : (owner : Owner) (held : Option Held) → held_by owner held ≡ true → ((one : Held) → held ≡ Some one → 1 ≤ one.count) → (reply : Reply) × UnsetsNest owner (Some held) reply
some_nest_unset owner None owned once = absurd (cc)
some_nest_unset owner (Some held) owned once = (Count (held.count - 1), rw owned (let least = once held refl in omega (arith, least)))

pub unset_nest_sound : (number : ℕ) → IsSound (unset_nest_row number)
unset_nest_sound number = held_row_sound (NestLock number) (unset_nest_row number) (record {
  decided = λ m p a b x y. one_nest_unset (asker m p.events) (found_lock Nest number p.locks p.events) a b x y;
  by_book = λ m p reply may. nest_unset_by_book (asker m p.events) (found_lock Nest number p.locks p.events) reply may;
  answered = λ repeated m p ready all.
      let found = lock_is_found Nest number p (missing_fails ready.admitted.book) in
      let fail = asked_first (unset_nest_row number) repeated m p (λ q given may. nest_unset_by_book (asker m q.events) (found_lock Nest number q.locks q.events) given may) (λ q waits. nest_unset_waits (asker m q.events) (found_lock Nest number q.locks q.events) waits) ready in
      let owned = unset_by_holder (asker m p.events) (holder (NestLock number) p.events) (found_lock Nest number p.locks p.events) found fail in
      subst (λ (f : Option (Option Held)). (reply : Reply) × UnsetsNest (asker m p.events) f reply) (sym found)
      (some_nest_unset (asker m p.events) (holder (NestLock number) p.events) owned (λ one at. held_at_least_once (NestLock number) one p.events all at));
  given = λ m p reply. freed_given (NestLock number) m reply p.events;
  keep = λ repeated m p reply ready may all.
      let found = lock_is_found Nest number p (missing_fails ready.admitted.book) in
      let fail = asked_first (unset_nest_row number) repeated m p (λ q given may. nest_unset_by_book (asker m q.events) (found_lock Nest number q.locks q.events) given may) (λ q waits. nest_unset_waits (asker m q.events) (found_lock Nest number q.locks q.events) waits) ready in
      free_keeps p.terms.members m (NestLock number) (reply_frees reply) p.events (unset_by_holder (asker m p.events) (holder (NestLock number) p.events) (found_lock Nest number p.locks p.events) found fail) all;
  apart = λ repeated m p ready may. nest_unset_waits (asker m p.events) (found_lock Nest number p.locks p.events) may;
  bound = λ m p may. nest_unset_waits (asker m p.events) (found_lock Nest number p.locks p.events) may;
  waits_for = λ m p may. nest_unset_waits (asker m p.events) (found_lock Nest number p.locks p.events) may;
  tells_count = λ repeated m count p ready may.
      freed_counts_less m (NestLock number) count p.events (subst (λ (f : Option (Option Held)). UnsetsNest (asker m p.events) f (Count count)) (lock_is_found Nest number p (missing_fails ready.admitted.book)) may);
  no_memory = λ m p. (refl, refl);
})
