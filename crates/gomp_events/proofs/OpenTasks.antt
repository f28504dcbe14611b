-- How many tasks are open, and what such a count tells of each: a board keeps these counts.
use Rattle.std.proofs.Common.{◌≡◌, ◌≢◌, ℕ, ◌+◌, ◌<◌, ◌≤◌, Bool, true, false, List, ◌∷◌, refl, ap, sym, arith, suc, zero, inl, inr}
use Rattle.std.specs.Prelude.{◌&&◌, ◌||◌, ◌==◌, nat_lt, nat_le, not, if◌then◌else◌}
use Rattle.std.proofs.lemmas.Bool.{cases_Bool, cases_lt}
use Rattle.std.proofs.lemmas.Bool.Decides.{nat_tests, eqb_tells}
use Rattle.gomp_types.specs.declared.task.Task.{Task}
use Rattle.gomp_types.specs.declared.task.TaskDesc.{TaskDesc}
use Rattle.gomp_events.specs.declared.event.Event.{Event}
use Rattle.gomp_events.specs.declared.event.Event.TheVariants.{Create, Done, Discard}
use Rattle.gomp_events.specs.Tasks.{tasks_created, is_created, is_complete, all_complete, how_many, open_tasks}
use Rattle.gomp_types.proofs.Booleans.{and_left, and_right, and_false, every_tells, every_by, same_number, other_number, implied_by, not_both}

-- tests that agree on each task count alike
pub how_many_same : (n : ℕ) (p q : ℕ → Bool) → ((t : ℕ) → 0 < t → t ≤ n → p t ≡ q t) → how_many n p ≡ how_many n q
how_many_same zero p q same = refl
how_many_same (suc k) p q same = rw (same (suc k) (omega arith) (omega arith), how_many_same k p q (λ t low high. same t low (omega arith))) refl

-- if nothing is counted, no task passes the test
pub none_counted : (n : ℕ) (p : ℕ → Bool) → how_many n p ≡ 0 → (t : ℕ) → 0 < t → t ≤ n → p t ≡ false
none_counted zero p e t low high = absurd (omega arith)
none_counted (suc k) p e t low high =
    elim (cases_Bool (p (suc k))) [
      | inl is ↦ absurd (let one : how_many k p + 1 ≡ 0 = rw is at e in omega (arith, one))
      | inr isnt ↦
          let rest : how_many k p ≡ 0 = rw isnt at e in
          elim (cases_lt t (suc k)) [
            | inl below ↦ none_counted k p rest t low (omega arith)
            | inr past ↦ let last : t ≡ suc k = omega arith in rw last isnt
          ]
    ]

-- and the other way round
pub counts_none : (n : ℕ) (p : ℕ → Bool) → ((t : ℕ) → 0 < t → t ≤ n → p t ≡ false) → how_many n p ≡ 0
counts_none zero p each = refl
counts_none (suc k) p each = rw (each (suc k) (omega arith) (omega arith)) (counts_none k p (λ t low high. each t low (omega arith)))

pub one_more : (b : Bool) (m n : ℕ) → m ≡ n + 1 → (if b then m + 1 else m) ≡ (if b then n + 1 else n) + 1
one_more true m n e = ap (λ k. k + 1) e
one_more false m n e = e

-- if one task alone passes only the first of two tests, that counts one more
pub one_less : (n x : ℕ) (p q : ℕ → Bool) → 0 < x → x ≤ n → p x ≡ true → q x ≡ false → ((t : ℕ) → t ≢ x → p t ≡ q t) → how_many n p ≡ how_many n q + 1
one_less zero x p q low high is isnt same = absurd (omega arith)
one_less (suc k) x p q low high is isnt same =
    elim (cases_lt x (suc k)) [
      | inl below ↦
          let here : p (suc k) ≡ q (suc k) = same (suc k) (λ e. omega (arith, e, below)) in
          rw here (one_more (q (suc k)) (how_many k p) (how_many k q) (one_less k x p q low (omega arith) is isnt same))
      | inr past ↦
          let last : suc k ≡ x = omega (arith, past, high) in
          let in_p : p (suc k) ≡ true = rw last is in
          let in_q : q (suc k) ≡ false = rw last isnt in
          let rest : how_many k p ≡ how_many k q = how_many_same k p q (λ t lower higher. same t (λ e. omega (arith, e, last, higher))) in
          rw (in_p, in_q) (ap (λ n. n + 1) rest)
    ]

-- the number of a task that was created
pub created_low : (t : ℕ) (h : List Event) → is_created t h ≡ true → 0 < t
created_low t h e = let low = and_left (nat_lt 0 t) (nat_le t (tasks_created h)) e in grind (arith, nat_tests, low)

pub created_high : (t : ℕ) (h : List Event) → is_created t h ≡ true → t ≤ tasks_created h
created_high t h e = let high = and_right (nat_lt 0 t) (nat_le t (tasks_created h)) e in grind (arith, nat_tests, high)

-- when a task is done, a count that has it falls by one
pub open_done : (test : ℕ → Bool) (t m : ℕ) (h : List Event) → is_created t h ≡ true → test t ≡ true → is_complete t h ≡ false →
    open_tasks test h ≡ open_tasks test (Done t m ∷ h) + 1
open_done test t m h made counted incomplete =
    one_less (tasks_created h) t (λ u. test u && not (is_complete u h)) (λ u. test u && not (t == u || is_complete u h)) (created_low t h made) (created_high t h made)
    (rw (counted, incomplete) refl) (rw (same_number t) (and_false (test t) false refl)) (λ u differ. rw (other_number t u (λ e. differ (sym e))) refl)

-- so is it if a task is discarded
pub open_discard : (test : ℕ → Bool) (t m : ℕ) (h : List Event) → is_created t h ≡ true → test t ≡ true → is_complete t h ≡ false →
    open_tasks test h ≡ open_tasks test (Discard t m ∷ h) + 1
open_discard test t m h made counted incomplete =
    one_less (tasks_created h) t (λ u. test u && not (is_complete u h)) (λ u. test u && not (t == u || is_complete u h)) (created_low t h made) (created_high t h made)
    (rw (counted, incomplete) refl) (rw (same_number t) (and_false (test t) false refl)) (λ u differ. rw (other_number t u (λ e. differ (sym e))) refl)

pub open_discard_other : (test : ℕ → Bool) (t m : ℕ) (h : List Event) → test t ≡ false → open_tasks test h ≡ open_tasks test (Discard t m ∷ h)
open_discard_other test t m h not_counted =
    how_many_same (tasks_created h) (λ u. test u && not (is_complete u h)) (λ u. test u && not (t == u || is_complete u h)) (λ u low high.
    elim (eqb_tells t u) [
      | inl e ↦ rw (← e.1, not_counted) refl
      | inr e ↦ rw e.0 refl
    ])

-- and a count that does not have it stays
pub open_done_other : (test : ℕ → Bool) (t m : ℕ) (h : List Event) → test t ≡ false → open_tasks test h ≡ open_tasks test (Done t m ∷ h)
open_done_other test t m h not_counted =
    how_many_same (tasks_created h) (λ u. test u && not (is_complete u h)) (λ u. test u && not (t == u || is_complete u h)) (λ u low high.
    elim (eqb_tells t u) [
      | inl e ↦ rw (← e.1, not_counted) refl
      | inr e ↦ rw e.0 refl
    ])

-- a new task is counted if the test holds of it
pub open_created : (old new : ℕ → Bool) (m : ℕ) (p : Task) (desc : TaskDesc) (h : List Event) → is_complete (suc (tasks_created h)) h ≡ false → ((t : ℕ) → t ≤ tasks_created h → new t ≡ old t) →
    open_tasks new (Create (suc (tasks_created h)) m p desc ∷ h) ≡ (if new (suc (tasks_created h)) then open_tasks old h + 1 else open_tasks old h)
open_created old new m p desc h incomplete same =
    let rest : how_many (tasks_created h) (λ u. new u && not (is_complete u h)) ≡ how_many (tasks_created h) (λ u. old u && not (is_complete u h)) =
    how_many_same (tasks_created h) _ _ (λ t low high. rw (same t high) refl) in
    elim (cases_Bool (new (suc (tasks_created h)))) [
      | inl e ↦ rw (e, incomplete) (ap (λ n. n + 1) rest)
      | inr e ↦ rw e rest
    ]

each_complete : (test : ℕ → Bool) (h : List Event) (t : ℕ) → all_complete test h ≡ true → 0 < t → t ≤ tasks_created h → (not (test t) || is_complete t h) ≡ true
each_complete test h zero all low high = absurd (omega arith)
each_complete test h (suc k) all low high = every_tells (tasks_created h) (λ j. not (test (suc j)) || is_complete (suc j) h) k all (omega arith)

-- a task that passes the test is complete, if all that pass it are
pub complete_at : (test : ℕ → Bool) (h : List Event) (t : ℕ) → all_complete test h ≡ true → is_created t h ≡ true → test t ≡ true → is_complete t h ≡ true
complete_at test h t all made is = implied_by (test t) (is_complete t h) (each_complete test h t all (created_low t h made) (created_high t h made)) is

-- if all that pass the test are complete, none of them is open
pub closed_all : (test : ℕ → Bool) (h : List Event) → all_complete test h ≡ true → open_tasks test h ≡ 0
closed_all test h all =
    counts_none (tasks_created h) (λ u. test u && not (is_complete u h)) (λ t low high. by (test t) (is_complete t h) (each_complete test h t all low high))
  where
    by : (b c : Bool) → (not b || c) ≡ true → (b && not c) ≡ false
    by true true e = refl
    by true false e = absurd (cc)
    by false c e = refl

-- and the other way round
pub all_closed : (test : ℕ → Bool) (h : List Event) → open_tasks test h ≡ 0 → all_complete test h ≡ true
all_closed test h none =
    every_by (tasks_created h) (λ k. not (test (suc k)) || is_complete (suc k) h) (λ k lt. by (test (suc k)) (is_complete (suc k) h) (none_counted (tasks_created h) (λ u. test u && not (is_complete u h)) none (suc k) (omega arith) (omega arith)))
  where
    by : (b c : Bool) → (b && not c) ≡ false → (not b || c) ≡ true
    by true true e = refl
    by true false e = absurd (cc)
    by false c e = refl

pub how_many_most : (n : ℕ) (test : ℕ → Bool) → how_many n test ≤ n
how_many_most zero test = omega arith
how_many_most (suc k) test =
    elim (cases_Bool (test (suc k))) [
      | inl e ↦ rw e (let most = how_many_most k test in omega (arith, most))
      | inr e ↦ rw e (let most = how_many_most k test in omega (arith, most))
    ]

-- a count is zero exactly if all are complete
pub none_open_is_complete : (test : ℕ → Bool) (h : List Event) → (open_tasks test h == 0) ≡ all_complete test h
none_open_is_complete test h =
    elim (cases_Bool (all_complete test h)) [
      | inl all ↦ rw (closed_all test h all, all) refl
      | inr some ↦
          let differ : open_tasks test h ≢ 0 = λ none. not_both (all_complete test h) (all_closed test h none) some in
          rw (other_number (open_tasks test h) 0 differ, some) refl
    ]
