-- Groups that keep the rule of tasks are opened and ended once, each by the member that opened it.
use Rattle.std.proofs.Common.{◌≡◌, ℕ, ◌<◌, true, false, List, [], ◌∷◌, Some, refl, ◌∙◌, sym, subst, arith, inl, inr}
use Rattle.std.specs.Prelude.{◌==◌, Option, ◌⊎◌}
use Rattle.std.proofs.lemmas.Bool.{cases_Bool}
use Rattle.gomp_types.specs.declared.task.Task.{Task}
use Rattle.gomp_types.specs.declared.task.Task.TheVariants.{Implicit, Explicit}
use Rattle.gomp_events.specs.declared.event.Event.{Event}
use Rattle.gomp_events.specs.declared.event.Event.TheVariants.{Start, Group, GroupEnd}
use Rattle.gomp_events.specs.Tasks.{contains, same_task, executed_task, innermost_task, task_stack, has_started, task_runner, after_first}
use Rattle.gomp_events.specs.Groups.{groups_opened, open_groups}
use Rattle.gomp_events.specs.Laws.{Always, Happened}
use Rattle.gomp_events.specs.TaskRules.{TaskRule}
use Rattle.gomp_events.specs.TaskLaws.{OpensOnce, EndsItsGroup}
use Rattle.gomp_types.proofs.Booleans.{or_tells, same_number, is_equal, not_both}
use Rattle.gomp_events.proofs.Suspended.{Apart, in_after_first, after_first_apart, unstarted_has_no_runner, startable_is_fresh, current_open}

-- two tasks that are the same are one
pub same_is_one : (a b : Task) → same_task a b ≡ true → a ≡ b
same_is_one (Implicit a) (Implicit b) e = let here = is_equal a b e in rw here refl
same_is_one (Explicit a) (Explicit b) e = let here = is_equal a b e in rw here refl
same_is_one (Implicit a) (Explicit b) e = absurd (cc)
same_is_one (Explicit a) (Implicit b) e = absurd (cc)

-- and a task is the same as itself
pub one_is_same : (a : Task) → same_task a a ≡ true
one_is_same (Implicit a) = same_number a
one_is_same (Explicit a) = same_number a

-- Numbers

-- a group that was opened has a number below those to come
group_opened_below : (members q n : ℕ) (h : List Event) → Always (TaskRule members) h → Happened (Group q n) h → q < groups_opened h
group_opened_below members q n [] all opened = absurd opened
group_opened_below members q n (Group group member ∷ earlier) all (inl e) = let here : group ≡ q = cc in let number = all.0.number in omega (arith, here, number)
group_opened_below members q n (Group group member ∷ earlier) all (inr opened) = let was = group_opened_below members q n earlier all.1 opened in omega (arith, was)
group_opened_below members q n (_ ∷ earlier) all (inl e) = absurd (cc)
group_opened_below members q n (_ ∷ earlier) all (inr opened) = group_opened_below members q n earlier all.1 opened

pub opens_once : (members : ℕ) (event : Event) (h : List Event) → TaskRule members event h → Always (TaskRule members) h → OpensOnce event h
opens_once members (Group q m) h rule all = λ n opened. let below = group_opened_below members q n h all opened in let number = rule.number in absurd (omega (arith, below, number))
opens_once members _ h rule all = tt

-- Who opened a group

-- a member executes the task, if it is its implicit one or the member is its runner
abbrev pub Executes : (ℕ → Option ℕ) → ℕ → Task → Type 0
Executes runner m (Implicit x) = x ≡ m
Executes runner m (Explicit t) = runner t ≡ Some m

-- the task that a member executes is such a task
pub executed_by : (members m : ℕ) (h : List Event) → Always (TaskRule members) h → (p : Task) → executed_task m h ≡ p → Executes (λ t. task_runner t h) m p
executed_by members m h all (Implicit x) e = own (task_stack m h) e
  where
    own : (ts : List ℕ) → innermost_task m ts ≡ Implicit x → x ≡ m
    own [] same = cc
    own (t ∷ ts) same = absurd (cc)
executed_by members m h all (Explicit t) e = (current_open members m t h all e).2

-- no other member does
pub one_executes : (runner : ℕ → Option ℕ) (a b : ℕ) (p : Task) → Executes runner a p → Executes runner b p → a ≡ b
one_executes runner a b (Implicit x) one other = sym one ∙ other
one_executes runner a b (Explicit t) one other = let e : Some a ≡ Some b = sym one ∙ other in cc

-- the start of a task that nobody has started changes that of none
pub still_executes : (n t member : ℕ) (p : Task) (h : List Event) → has_started t h ≡ false → Executes (λ u. task_runner u h) n p → Executes (λ u. task_runner u (Start t member ∷ h)) n p
still_executes n t member (Implicit x) h never is = is
still_executes n t member (Explicit u) h never is =
    elim (cases_Bool (t == u)) [
      | inl same ↦ absurd (unstarted_has_no_runner t n h never (let here = is_equal t u same in rw here is))
      | inr other ↦ rw other is
    ]

-- Open groups

-- a group that is open after one was opened is that one, or was open before
open_before_group : (q g m : ℕ) (p : Task) (h : List Event) → contains q (open_groups p (Group g m ∷ h)) ≡ true → ((g ≡ q) × (executed_task m h ≡ p)) ⊎ (contains q (open_groups p h) ≡ true)
open_before_group q g m p h there =
    elim (cases_Bool (same_task (executed_task m h) p)) [
      | inl own ↦ elim (or_tells (g == q) (contains q (open_groups p h)) (rw own at there)) [
        | inl here ↦ inl (is_equal g q here, same_is_one (executed_task m h) p own)
        | inr before ↦ inr before
      ]
      | inr other ↦ inr (rw other at there)
    ]

-- and after one was ended it was open before
open_before_end : (q g m : ℕ) (p : Task) (h : List Event) → contains q (open_groups p (GroupEnd g m ∷ h)) ≡ true → contains q (open_groups p h) ≡ true
open_before_end q g m p h there =
    elim (cases_Bool (same_task (executed_task m h) p)) [
      | inl own ↦ in_after_first q (open_groups p h) (rw own at there)
      | inr other ↦ rw other at there
    ]

-- an open group was opened, by a member that executes its task
open_by : (members q : ℕ) (p : Task) (h : List Event) → Always (TaskRule members) h → contains q (open_groups p h) ≡ true → (n : ℕ) × Happened (Group q n) h × Executes (λ t. task_runner t h) n p
open_by members q p [] all there = absurd (cc)
open_by members q p (Group g m ∷ earlier) all there =
    elim (open_before_group q g m p earlier there) [
      | inl here ↦ (m, inl (let same = here.0 in rw same refl), executed_by members m earlier all.1 p here.1)
      | inr before ↦ let was = open_by members q p earlier all.1 before in (was.0, inr was.1, was.2)
    ]
open_by members q p (GroupEnd g m ∷ earlier) all there =
    let was = open_by members q p earlier all.1 (open_before_end q g m p earlier there) in (was.0, inr was.1, was.2)
open_by members q p (Start t m ∷ earlier) all there =
    let was = open_by members q p earlier all.1 there in
    (was.0, inr was.1, still_executes was.0 t m p earlier (startable_is_fresh m t earlier all.0.may).1 was.2)
open_by members q p (_ ∷ earlier) all there = let was = open_by members q p earlier all.1 there in (was.0, inr was.1, was.2)

-- so its number is below those to come
pub group_open_below : (members q : ℕ) (p : Task) (h : List Event) → Always (TaskRule members) h → contains q (open_groups p h) ≡ true → q < groups_opened h
group_open_below members q p h all there = let was = open_by members q p h all there in group_opened_below members q was.0 h all was.1

-- a group is open in one task
open_in_one : (members q : ℕ) (p r : Task) (h : List Event) → Always (TaskRule members) h → contains q (open_groups p h) ≡ true → contains q (open_groups r h) ≡ true → p ≡ r
open_in_one members q p r [] all one other = absurd (cc)
open_in_one members q p r (Group g m ∷ earlier) all one other =
    elim (open_before_group q g m p earlier one) [
      | inl new ↦ elim (open_before_group q g m r earlier other) [
        | inl again ↦ sym new.1 ∙ again.1
        | inr old ↦ absurd (let below = group_open_below members q r earlier all.1 old in let number = all.0.number in let same = new.0 in omega (arith, below, number, same))
      ]
      | inr old ↦ elim (open_before_group q g m r earlier other) [
        | inl new ↦ absurd (let below = group_open_below members q p earlier all.1 old in let number = all.0.number in let same = new.0 in omega (arith, below, number, same))
        | inr too ↦ open_in_one members q p r earlier all.1 old too
      ]
    ]
open_in_one members q p r (GroupEnd g m ∷ earlier) all one other =
    open_in_one members q p r earlier all.1 (open_before_end q g m p earlier one) (open_before_end q g m r earlier other)
open_in_one members q p r (_ ∷ earlier) all one other = open_in_one members q p r earlier all.1 one other

-- and there once
open_apart : (members : ℕ) (p : Task) (h : List Event) → Always (TaskRule members) h → Apart (open_groups p h)
open_apart members p [] all = tt
open_apart members p (Group g m ∷ earlier) all =
    elim (cases_Bool (same_task (executed_task m earlier) p)) [
      | inl own ↦ rw own (new (cases_Bool (contains g (open_groups p earlier))), open_apart members p earlier all.1)
      | inr other ↦ rw other (open_apart members p earlier all.1)
    ]
  where
    new : (contains g (open_groups p earlier) ≡ true) ⊎ (contains g (open_groups p earlier) ≡ false) → contains g (open_groups p earlier) ≡ false
    new (inl there) = absurd (let below = group_open_below members g p earlier all.1 there in let number = all.0.number in omega (arith, below, number))
    new (inr away) = away
open_apart members p (GroupEnd g m ∷ earlier) all =
    elim (cases_Bool (same_task (executed_task m earlier) p)) [
      | inl own ↦ rw own (after_first_apart (open_groups p earlier) (open_apart members p earlier all.1))
      | inr other ↦ rw other (open_apart members p earlier all.1)
    ]
open_apart members p (_ ∷ earlier) all = open_apart members p earlier all.1

-- Ended groups

-- the first of a list is in it
pub first_contained : (q : ℕ) (outer ts : List ℕ) → ts ≡ q ∷ outer → contains q ts ≡ true
first_contained q outer ts e = rw (e, same_number q) refl

pub first_not_after : (q : ℕ) (outer ts : List ℕ) → ts ≡ q ∷ outer → Apart ts → contains q (after_first ts) ≡ false
first_not_after q outer ts e all = let both : Apart (q ∷ outer) = subst (λ (xs : List ℕ). Apart xs) e all in rw e both.0

-- the number of a group that was ended is below those to come
group_ended_below : (members q n : ℕ) (h : List Event) → Always (TaskRule members) h → Happened (GroupEnd q n) h → q < groups_opened h
group_ended_below members q n [] all ended = absurd ended
group_ended_below members q n (GroupEnd g m ∷ earlier) all (inl e) =
    let here : g ≡ q = cc in
    let there = first_contained g all.0.outer (open_groups (executed_task m earlier) earlier) all.0.last in
    rw (← here) (group_open_below members g (executed_task m earlier) earlier all.1 there)
group_ended_below members q n (GroupEnd g m ∷ earlier) all (inr ended) = group_ended_below members q n earlier all.1 ended
group_ended_below members q n (Group g m ∷ earlier) all (inr ended) = let was = group_ended_below members q n earlier all.1 ended in omega (arith, was)
group_ended_below members q n (_ ∷ earlier) all (inl e) = absurd (cc)
group_ended_below members q n (_ ∷ earlier) all (inr ended) = group_ended_below members q n earlier all.1 ended

-- an open group was not ended
open_not_ended : (members q n : ℕ) (p : Task) (h : List Event) → Always (TaskRule members) h → contains q (open_groups p h) ≡ true → Happened (GroupEnd q n) h → ⊥
open_not_ended members q n p [] all there ended = ended
open_not_ended members q n p (Group g m ∷ earlier) all there (inr ended) =
    elim (open_before_group q g m p earlier there) [
      | inl new ↦ absurd (let below = group_ended_below members q n earlier all.1 ended in let number = all.0.number in let same = new.0 in omega (arith, below, number, same))
      | inr old ↦ open_not_ended members q n p earlier all.1 old ended
    ]
open_not_ended members q n p (GroupEnd g m ∷ earlier) all there (inl e) =
    let here : g ≡ q = cc in
    let last = rw here at all.0.last in
    let own = open_in_one members q (executed_task m earlier) p earlier all.1 (first_contained q all.0.outer (open_groups (executed_task m earlier) earlier) last) (open_before_end q g m p earlier there) in
    let same : same_task (executed_task m earlier) p ≡ true = rw own (one_is_same p) in
    let after : contains q (after_first (open_groups p earlier)) ≡ true = rw same at there in
    not_both (contains q (after_first (open_groups p earlier))) after (first_not_after q all.0.outer (open_groups p earlier) (rw own at last) (open_apart members p earlier all.1))
open_not_ended members q n p (GroupEnd g m ∷ earlier) all there (inr ended) =
    open_not_ended members q n p earlier all.1 (open_before_end q g m p earlier there) ended
open_not_ended members q n p (_ ∷ earlier) all there (inl e) = absurd (cc)
open_not_ended members q n p (_ ∷ earlier) all there (inr ended) = open_not_ended members q n p earlier all.1 there ended

-- a member ends a group that it opened, and once
pub ends_its_group : (members : ℕ) (event : Event) (h : List Event) → TaskRule members event h → Always (TaskRule members) h → EndsItsGroup event h
ends_its_group members (GroupEnd q m) h rule all =
    let there = first_contained q rule.outer (open_groups (executed_task m h) h) rule.last in
    let was = open_by members q (executed_task m h) h all there in
    let who = one_executes (λ t. task_runner t h) was.0 m (executed_task m h) was.2 (executed_by members m h all (executed_task m h) refl) in
    let opened : Happened (Group q m) h = rw (← who) was.1 in
    (opened, (rule.outer, rule.last), (λ n ended. open_not_ended members q n (executed_task m h) h all there ended))
ends_its_group members _ h rule all = tt
