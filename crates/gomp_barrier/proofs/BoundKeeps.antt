-- The counts of open tasks stay in step with the events.
use Rattle.std.proofs.Common.{◌≡◌, ℕ, ◌+◌, ◌<◌, ◌≤◌, Bool, true, false, not, List, ◌∷◌, refl, ap, ◌∙◌, sym, subst, arith, suc, zero, inl, inr}
use Rattle.std.specs.Prelude.{◌==◌, ◌&&◌, nat_le, if◌then◌else◌}
use Rattle.std.proofs.lemmas.Bool.{cases_Bool, cases_lt}
use Rattle.std.proofs.lemmas.Bool.Decides.{nat_tests}
use Rattle.gomp_types.specs.declared.task.Task.{Task}
use Rattle.gomp_types.specs.declared.task.TaskDesc.{TaskDesc}
use Rattle.gomp_events.specs.declared.event.Event.{Event}
use Rattle.gomp_events.specs.declared.event.Event.TheVariants.{Create, Done, Discard}
use Rattle.gomp_events.specs.Cancels.{is_cancelled}
use Rattle.gomp_events.specs.Tasks.{tasks_created, is_complete, all_complete, epoch, epoch_of_child, how_many, open_tasks, is_odd}
use Rattle.gomp_events.specs.Goals.{bound_complete}
use Rattle.gomp_types.proofs.Booleans.{and_false, or_false, other_number, is_equal}
use Rattle.gomp_events.proofs.OpenTasks.{how_many_same, none_counted, created_low, created_high, open_done, open_done_other, open_discard, open_discard_other, open_created, closed_all, all_closed, how_many_most}
use Rattle.gomp_events.proofs.LaterTasks.{old_created, old_epoch}
use Rattle.gomp_events.proofs.GoalReadings.{created_by_number}
use Rattle.gomp_events.proofs.TaskReadings.{bound_as_a_child_would_be}
use Rattle.gomp_barrier.specs.declared.bound.BoundTasks.{BoundTasks}
use Rattle.gomp_barrier.specs.Calls.{IsTaskOpen, MayBind, MayRelease}
use Rattle.gomp_barrier.specs.Bound.{of_parity, open_bound, bound_count, one_more, one_less, TasksStand}

-- Parities

-- the number after an odd one is even, and the other way round
pub odd_next : (n : ℕ) → is_odd (n + 1) ≡ not (is_odd n)
odd_next n = let e : n + 1 ≡ suc n = omega arith in rw e refl

own_parity : (odd : Bool) (n : ℕ) → is_odd n ≡ odd → of_parity odd n ≡ true
own_parity true n e = e
own_parity false n e = rw e refl

other_parity : (odd : Bool) (n : ℕ) → is_odd n ≡ not odd → of_parity odd n ≡ false
other_parity true n e = e
other_parity false n e = rw e refl

-- of a number and the next the first is the one of its parity
which_near : (least n : ℕ) → least ≤ n → n ≤ least + 1 → nat_le n least ≡ of_parity (is_odd least) n
which_near least n low high =
    elim (cases_lt least n) [
      | inl later ↦
          let next : n ≡ least + 1 = omega arith in
          let off : nat_le n least ≡ false = grind (arith, nat_tests, later) in
          off ∙ sym (other_parity (is_odd least) n (ap is_odd next ∙ odd_next least))
      | inr not_later ↦
          let same : n ≡ least = omega arith in
          let on : nat_le n least ≡ true = grind (arith, nat_tests, not_later) in
          on ∙ sym (own_parity (is_odd least) n (ap is_odd same))
    ]

-- What the counts tell

-- the open tasks that are bound to the front have its parity, while the region is not cancelled
bound_open : (tasks : BoundTasks) (least : ℕ) (h : List Event) → is_cancelled h ≡ false → TasksStand tasks least h → open_tasks (λ t. nat_le (epoch t h) least) h ≡ bound_count tasks (is_odd least)
bound_open tasks least h whole st =
    how_many_same (tasks_created h) (λ t. nat_le (epoch t h) least && not (is_complete t h)) (λ t. of_parity (is_odd least) (epoch t h) && not (is_complete t h)) (λ t low high.
    elim (cases_Bool (is_complete t h)) [
      | inl done ↦ rw done (and_false (nat_le (epoch t h) least) false refl ∙ sym (and_false (of_parity (is_odd least) (epoch t h)) false refl))
      | inr not_done ↦ let near = st.near whole t (created_by_number t h low high, not_done) in ap (λ (b : Bool). b && not (is_complete t h)) (which_near least (epoch t h) near.0 near.1)
    ])
    ∙ st.counted (is_odd least)

pub front_complete : (tasks : BoundTasks) (least : ℕ) (h : List Event) → is_cancelled h ≡ false → TasksStand tasks least h → bound_count tasks (is_odd least) ≡ 0 → bound_complete least h ≡ true
front_complete tasks least h whole st none = all_closed (λ t. nat_le (epoch t h) least) h (bound_open tasks least h whole st ∙ none)

pub front_closed : (tasks : BoundTasks) (least : ℕ) (h : List Event) → is_cancelled h ≡ false → TasksStand tasks least h → bound_complete least h ≡ true → bound_count tasks (is_odd least) ≡ 0
front_closed tasks least h whole st all = sym (bound_open tasks least h whole st) ∙ closed_all (λ t. nat_le (epoch t h) least) h all

-- all open tasks are those of both parities
split_count : (n : ℕ) (odd all : ℕ → Bool) → how_many n all ≡ how_many n (λ t. odd t && all t) + how_many n (λ t. not (odd t) && all t)
split_count zero odd all = refl
split_count (suc k) odd all = by (odd (suc k)) (all (suc k)) (how_many k all) (how_many k (λ t. odd t && all t)) (how_many k (λ t. not (odd t) && all t)) (split_count k odd all)
  where
    by : (b c : Bool) (n x y : ℕ) → n ≡ x + y → (if c then n + 1 else n) ≡ (if b && c then x + 1 else x) + (if not b && c then y + 1 else y)
    by true true n x y e = omega (arith, e)
    by true false n x y e = e
    by false true n x y e = omega (arith, e)
    by false false n x y e = e

all_open : (tasks : BoundTasks) (least : ℕ) (h : List Event) → TasksStand tasks least h → (odd : Bool) → open_tasks (λ t. true) h ≡ bound_count tasks odd + bound_count tasks (not odd)
all_open tasks least h st odd = by odd
  where
    both : open_tasks (λ t. true) h ≡ bound_count tasks true + bound_count tasks false
    both =
        let split = split_count (tasks_created h) (λ t. is_odd (epoch t h)) (λ t. not (is_complete t h)) in
        let one = st.counted true in
        let other = st.counted false in
        omega (arith, split, one, other)

    by : (b : Bool) → open_tasks (λ t. true) h ≡ bound_count tasks b + bound_count tasks (not b)
    by true = both
    by false = omega (arith, both)

pub tasks_complete : (tasks : BoundTasks) (least : ℕ) (h : List Event) → TasksStand tasks least h → (odd : Bool) → bound_count tasks odd ≡ 0 → bound_count tasks (not odd) ≡ 0 → all_complete (λ t. true) h ≡ true
tasks_complete tasks least h st odd one other = all_closed (λ t. true) h (let both = all_open tasks least h st odd in omega (arith, both, one, other))

pub tasks_closed : (tasks : BoundTasks) (least : ℕ) (h : List Event) → TasksStand tasks least h → (odd : Bool) → all_complete (λ t. true) h ≡ true → bound_count tasks odd ≡ 0
tasks_closed tasks least h st odd all = let both = all_open tasks least h st odd in let none = closed_all (λ t. true) h all in omega (arith, both, none)

-- once none is bound to the front, each is near the barrier after it
pub tasks_move_on : (tasks : BoundTasks) (least : ℕ) (h : List Event) → is_cancelled h ≡ false → TasksStand tasks least h → bound_count tasks (is_odd least) ≡ 0 → TasksStand tasks (least + 1) h
tasks_move_on tasks least h whole st none = record {
  counted = st.counted;
  near = λ still t is.
      let near = st.near whole t is in
      let closed = none_counted (tasks_created h) (λ u. nat_le (epoch u h) least && not (is_complete u h)) (bound_open tasks least h whole st ∙ none) t (created_low t h is.0) (created_high t h is.0) in
      let off : nat_le (epoch t h) least ≡ false = by (nat_le (epoch t h) least) (rw is.1 at closed) in
      (grind (arith, nat_tests, off), let high = near.1 in omega (arith, high));
  unborn = st.unborn;
}
  where
    by : (b : Bool) → (b && true) ≡ false → b ≡ false
    by true e = e
    by false e = refl

-- A task is created

-- one more of its parity
count_more : (tasks : BoundTasks) (odd own : Bool) (n : ℕ) → odd ≡ is_odd n → (if of_parity own n then bound_count tasks own + 1 else bound_count tasks own) ≡ bound_count (one_more tasks odd) own
count_more tasks true true n e = rw (← e) refl
count_more tasks true false n e = rw (← e) refl
count_more tasks false true n e = rw (← e) refl
count_more tasks false false n e = rw (← e) refl

pub bind_keeps : (tasks : BoundTasks) (least members task member : ℕ) (parent : Task) (desc : TaskDesc) (odd : Bool) (h : List Event) → TasksStand tasks least h → MayBind members task parent odd h →
    (is_cancelled h ≡ false → (least ≤ epoch_of_child parent h) × (epoch_of_child parent h ≤ least + 1)) → TasksStand (one_more tasks odd) least (Create task member parent desc ∷ h)
bind_keeps tasks least members task member parent desc odd h st may near = record {
  counted = λ own. subst (λ (t : ℕ). open_bound own (Create t member parent desc ∷ h) ≡ bound_count (one_more tasks odd) own) (sym may.number) (at own);
  near = λ whole t is.
      elim (cases_Bool (task == t)) [
        | inl new ↦
            let e : epoch t (Create task member parent desc ∷ h) ≡ epoch_of_child parent h = subst (λ (u : ℕ). epoch u (Create task member parent desc ∷ h) ≡ epoch_of_child parent h) (is_equal task t new) (bound_as_a_child_would_be task member parent desc h) in
            rw e (near whole)
        | inr old ↦ rw (old_epoch t task member parent desc h old) (st.near whole t (old_created t task h may.number old is.0, is.1))
      ];
  unborn = λ t lt. st.unborn t (omega (arith, lt));
}
  where
    at : (own : Bool) → open_bound own (Create (suc (tasks_created h)) member parent desc ∷ h) ≡ bound_count (one_more tasks odd) own
    at own =
        let new : epoch (suc (tasks_created h)) (Create (suc (tasks_created h)) member parent desc ∷ h) ≡ epoch_of_child parent h = bound_as_a_child_would_be (suc (tasks_created h)) member parent desc h in
        let more = open_created (λ t. of_parity own (epoch t h)) (λ t. of_parity own (epoch t (Create (suc (tasks_created h)) member parent desc ∷ h))) member parent desc h (st.unborn (suc (tasks_created h)) (omega arith))
        (λ t le. ap (of_parity own) (old_epoch t (suc (tasks_created h)) member parent desc h (other_number (suc (tasks_created h)) t (λ same. omega (arith, same, le))))) in
        more ∙ subst (λ (n : ℕ). (if of_parity own n then open_bound own h + 1 else open_bound own h) ≡ bound_count (one_more tasks odd) own) (sym new)
        (subst (λ (n : ℕ). (if of_parity own (epoch_of_child parent h) then n + 1 else n) ≡ bound_count (one_more tasks odd) own) (sym (st.counted own)) (count_more tasks odd own (epoch_of_child parent h) may.parity))

-- A task is ended

-- one less of its parity
count_less : (tasks : BoundTasks) (odd own : Bool) (n now : ℕ) → odd ≡ is_odd n → bound_count tasks own ≡ (if of_parity own n then now + 1 else now) → now ≡ bound_count (one_less tasks odd) own
count_less tasks true true n now e is = let more : tasks.odd ≡ now + 1 = rw (← e) at is in omega (arith, more)
count_less tasks true false n now e is = sym (rw (← e) at is)
count_less tasks false true n now e is = sym (rw (← e) at is)
count_less tasks false false n now e is = let more : tasks.even ≡ now + 1 = rw (← e) at is in omega (arith, more)

released_count : (own : Bool) (task member : ℕ) (h : List Event) → IsTaskOpen task h → open_bound own h ≡ (if of_parity own (epoch task h) then open_bound own (Done task member ∷ h) + 1 else open_bound own (Done task member ∷ h))
released_count own task member h is =
    elim (cases_Bool (of_parity own (epoch task h))) [
      | inl counted ↦ rw counted (open_done (λ t. of_parity own (epoch t h)) task member h is.0 counted is.1)
      | inr not_counted ↦ rw not_counted (open_done_other (λ t. of_parity own (epoch t h)) task member h not_counted)
    ]

pub release_keeps : (tasks : BoundTasks) (least task member : ℕ) (odd : Bool) (h : List Event) → TasksStand tasks least h → MayRelease task odd h → TasksStand (one_less tasks odd) least (Done task member ∷ h)
release_keeps tasks least task member odd h st may = record {
  counted = λ own. count_less tasks odd own (epoch task h) (open_bound own (Done task member ∷ h)) may.parity (sym (st.counted own) ∙ released_count own task member h may.is_open);
  near = λ whole t is. st.near whole t (is.0, or_false (task == t) (is_complete t h) is.1);
  unborn = λ t lt.
      let high = created_high task h may.is_open.0 in
      let other : (task == t) ≡ false = other_number task t (λ same. omega (arith, high, lt, same)) in
      rw other (st.unborn t lt);
}

-- so is it if it is discarded
discarded_count : (own : Bool) (task member : ℕ) (h : List Event) → IsTaskOpen task h → open_bound own h ≡ (if of_parity own (epoch task h) then open_bound own (Discard task member ∷ h) + 1 else open_bound own (Discard task member ∷ h))
discarded_count own task member h is =
    elim (cases_Bool (of_parity own (epoch task h))) [
      | inl counted ↦ rw counted (open_discard (λ t. of_parity own (epoch t h)) task member h is.0 counted is.1)
      | inr not_counted ↦ rw not_counted (open_discard_other (λ t. of_parity own (epoch t h)) task member h not_counted)
    ]

pub discard_keeps : (tasks : BoundTasks) (least task member : ℕ) (odd : Bool) (h : List Event) → TasksStand tasks least h → MayRelease task odd h → TasksStand (one_less tasks odd) least (Discard task member ∷ h)
discard_keeps tasks least task member odd h st may = record {
  counted = λ own. count_less tasks odd own (epoch task h) (open_bound own (Discard task member ∷ h)) may.parity (sym (st.counted own) ∙ discarded_count own task member h may.is_open);
  near = λ whole t is. st.near whole t (is.0, or_false (task == t) (is_complete t h) is.1);
  unborn = λ t lt.
      let high = created_high task h may.is_open.0 in
      let other : (task == t) ≡ false = other_number task t (λ same. omega (arith, high, lt, same)) in
      rw other (st.unborn t lt);
}

-- The counts have room

-- no count passes that of all tasks
pub bound_most : (tasks : BoundTasks) (least : ℕ) (h : List Event) → TasksStand tasks least h → (odd : Bool) → bound_count tasks odd ≤ tasks_created h
bound_most tasks least h st odd = let is = st.counted odd in let most = how_many_most (tasks_created h) (λ t. of_parity odd (epoch t h) && not (is_complete t h)) in omega (arith, is, most)

-- an open task is counted
pub bound_some : (tasks : BoundTasks) (least task : ℕ) (odd : Bool) (h : List Event) → TasksStand tasks least h → MayRelease task odd h → 0 < bound_count tasks odd
bound_some tasks least task odd h st may =
    let is = st.counted odd in
    let more = open_done (λ t. of_parity odd (epoch t h)) task 0 h may.is_open.0 (own_parity odd (epoch task h) (sym may.parity)) may.is_open.1 in
    omega (arith, is, more)
