-- Which tasks are ready, by examples: for each line of the definition what it alone refuses.
use Rattle.std.proofs.Common.{◌≡◌, ℕ, ◌<◌, ◌≤◌, true, false, List, [], ◌∷◌, refl, arith, inl, inr, ◌⊎◌}
use Rattle.std.specs.Prelude.{◌||◌, ◌==◌}
use Rattle.std.proofs.lemmas.Bool.{cases_lt}
use Rattle.gomp_types.specs.declared.depend.DepKind.TheVariants.{DepOut}
use Rattle.gomp_types.specs.declared.task.Task.TheVariants.{Implicit, Explicit}
use Rattle.gomp_events.specs.declared.event.Event.{Event}
use Rattle.gomp_events.specs.declared.event.Event.TheVariants.{Create, Start, Done, Discard, Break}
use Rattle.gomp_types.specs.declared.refusal.Place.TheVariants.{Stopped}
use Rattle.gomp_events.specs.Tasks.{contains}
use Rattle.gomp_events.specs.TaskExamples.{job_with, item, at_once}
use Rattle.gomp_types.proofs.Booleans.{is_equal, or_tells, same_number}
use Rattle.gomp_events.proofs.OpenTasks.{created_low, created_high}
use Rattle.gomp_scheduler.specs.Passed.{LooksInVain, task_at_level}
use Rattle.gomp_scheduler.specs.ReadyTasks.{is_listed, was_discarded, AreReady}
use Rattle.gomp_scheduler.proofs.ReadyKeeps.{none_ready, listed_tells, started_ready, aside_ready}

-- the first member of a team of two creates a task, and the second another
abbrev one_created : List Event
one_created = Create 1 0 (Implicit 0) (job_with 7 9 []) ∷ []

abbrev two_created : List Event
two_created = Create 2 1 (Implicit 1) (job_with 5 0 []) ∷ one_created

-- the first member starts the first task, and ends it
abbrev one_started : List Event
one_started = Start 1 0 ∷ two_created

-- the first member creates two tasks that write to one address, so that the second waits for the first
abbrev one_held : List Event
one_held = Create 2 0 (Implicit 0) (job_with 8 0 (item DepOut 64 ∷ [])) ∷ Create 1 0 (Implicit 0) (job_with 7 0 (item DepOut 64 ∷ [])) ∷ []

-- and the first is ended
abbrev one_freed : List Event
one_freed = Done 1 0 ∷ Start 1 0 ∷ one_held

-- Which lists are those of the ready tasks

one_or_two : (t : ℕ) → 0 < t → t ≤ 2 → (t ≡ 1) ⊎ (t ≡ 2)
one_or_two t low high = elim (cases_lt t 2) [ inl below ↦ inl (omega (arith, low, below)) | inr past ↦ inr (omega (arith, high, past)) ]

-- one task alone
only_one : (a : ℕ) (h : List Event) → ((t : ℕ) → is_listed t h ≡ true → t ≡ a) → (is_listed a h || was_discarded a h) ≡ true → AreReady (a ∷ []) h
only_one a h others itself = record { listed = λ t is. rw (others t is, same_number a) refl; ready = by; once = (refl, tt) }
  where
    by : (t : ℕ) → contains t (a ∷ []) ≡ true → (is_listed t h || was_discarded t h) ≡ true
    by t there = elim (or_tells (a == t) false there) [ inl same ↦ let e = is_equal a t same in rw (← e) itself | inr never ↦ absurd (cc) ]

two_listed : (t : ℕ) → is_listed t two_created ≡ true → (t ≡ 1) ⊎ (t ≡ 2)
two_listed t is = let made = (listed_tells t two_created is).created in one_or_two t (created_low t two_created made) (created_high t two_created made)

-- no task is ready at the beginning
pub none_at_first : AreReady [] []
none_at_first = none_ready

-- then those that were created
pub first_is_ready : AreReady (1 ∷ []) one_created
first_is_ready = only_one 1 one_created (λ t is. let made = (listed_tells t one_created is).created in let low = created_low t one_created made in let high = created_high t one_created made in omega (arith, low, high)) refl

pub both_are_ready : AreReady (1 ∷ 2 ∷ []) two_created
both_are_ready = record { listed = there; ready = by; once = (refl, (refl, tt)) }
  where
    there : (t : ℕ) → is_listed t two_created ≡ true → contains t (1 ∷ 2 ∷ []) ≡ true
    there t is = elim (two_listed t is) [ inl one ↦ rw one refl | inr two ↦ rw two refl ]

    by : (t : ℕ) → contains t (1 ∷ 2 ∷ []) ≡ true → (is_listed t two_created || was_discarded t two_created) ≡ true
    by t is = elim (or_tells (1 == t) (2 == t || false) is) [
      | inl one ↦ let e = is_equal 1 t one in rw (← e) refl
      | inr rest ↦ elim (or_tells (2 == t) false rest) [ inl two ↦ let e = is_equal 2 t two in rw (← e) refl | inr never ↦ absurd (cc) ]
    ]

-- a task that was started is not among them, and other events change nothing
pub second_is_left : AreReady (2 ∷ []) one_started
second_is_left = started_ready 1 0 (1 ∷ 2 ∷ []) two_created both_are_ready (2 ∷ []) refl

pub second_stays_in_a_break : AreReady (2 ∷ []) (Break 1 Stopped ∷ one_started)
second_stays_in_a_break = aside_ready (Break 1 Stopped) (2 ∷ []) one_started tt second_is_left

-- one that was discarded may stand there still
pub discarded_may_stay : AreReady (1 ∷ []) (Discard 1 0 ∷ one_created)
discarded_may_stay = only_one 1 (Discard 1 0 ∷ one_created) (λ t is. let made = (listed_tells t (Discard 1 0 ∷ one_created) is).created in let low = created_low t one_created made in let high = created_high t one_created made in omega (arith, low, high)) refl

-- one with items is ready once it waits for no other
pub first_of_two_writers : AreReady (1 ∷ []) one_held
first_of_two_writers = only_one 1 one_held first refl
  where
    first : (t : ℕ) → is_listed t one_held ≡ true → t ≡ 1
    first t is = let made = (listed_tells t one_held is).created in elim (one_or_two t (created_low t one_held made) (created_high t one_held made)) [
      | inl one ↦ one
      | inr two ↦ absurd (let held : false ≡ true = rw two at is in cc)
    ]

pub second_of_two_writers : AreReady (2 ∷ []) one_freed
second_of_two_writers = only_one 2 one_freed second refl
  where
    second : (t : ℕ) → is_listed t one_freed ≡ true → t ≡ 2
    second t is = let made = (listed_tells t one_freed is).created in elim (one_or_two t (created_low t one_held made) (created_high t one_held made)) [
      | inl one ↦ absurd (let over : false ≡ true = rw one at is in cc)
      | inr two ↦ two
    ]

-- No other stands there: none that was not created, that is undeferred, that waits, that was started
pub not_created_is_in : AreReady (1 ∷ []) [] → ⊥
not_created_is_in are = let e : false ≡ true = are.ready 1 refl in cc

pub undeferred_is_in : AreReady (1 ∷ []) (Create 1 0 (Implicit 0) at_once ∷ []) → ⊥
undeferred_is_in are = let e : false ≡ true = are.ready 1 refl in cc

pub held_task_is_in : AreReady (1 ∷ 2 ∷ []) one_held → ⊥
held_task_is_in are = let e : false ≡ true = are.ready 2 refl in cc

pub started_is_in : AreReady (1 ∷ 2 ∷ []) one_started → ⊥
started_is_in are = let e : false ≡ true = are.ready 1 refl in cc

-- none is left out, nor one that was freed
pub one_is_left_out : AreReady (2 ∷ []) two_created → ⊥
one_is_left_out are = let e : false ≡ true = are.listed 1 refl in cc

pub freed_is_left_out : AreReady [] one_freed → ⊥
freed_is_left_out are = let e : false ≡ true = are.listed 2 refl in cc

-- and none stands there twice
pub one_is_in_twice : AreReady (1 ∷ 1 ∷ []) one_created → ⊥
one_is_in_twice are = let e : true ≡ false = are.once.0 in cc

-- What a member looks at in vain

-- of a member that has started the third task, and in it the fifth, these are the tasks of its levels
implicit_task_at_level_0 : task_at_level 0 0 (5 ∷ 3 ∷ []) ≡ Implicit 0
implicit_task_at_level_0 = refl

outermost_task_at_level_1 : task_at_level 0 1 (5 ∷ 3 ∷ []) ≡ Explicit 3
outermost_task_at_level_1 = refl

innermost_task_at_level_2 : task_at_level 0 2 (5 ∷ 3 ∷ []) ≡ Explicit 5
innermost_task_at_level_2 = refl

-- in its implicit task and in its first one the first member looks in vain at the task of the other
other_tree_in_vain : LooksInVain 0 0 2 one_started × LooksInVain 0 1 2 one_started
other_tree_in_vain = (record { created = omega arith; apart = refl }, record { created = omega arith; apart = refl })

-- and the other does not
own_tree_not_in_vain : LooksInVain 1 0 2 one_started → ⊥
own_tree_not_in_vain is = let e : true ≡ false = is.apart in cc
