-- What members have passed over at their levels, after each event and under each list for which the same tasks stand.
use Rattle.std.proofs.Common.{◌≡◌, ◌≢◌, ℕ, ◌+◌, ◌<◌, ◌≤◌, Bool, true, false, List, [], ◌∷◌, Option, Some, length, refl, ap, ◌∙◌, sym, subst, arith, suc, ◌⊎◌, inl, inr}
use Rattle.std.specs.Prelude.{◌&&◌, ◌||◌, ◌==◌, not, nat_lt, nat_le, if◌then◌else◌}
use Rattle.std.proofs.lemmas.Bool.{cases_Bool, cases_lt}
use Rattle.std.proofs.lemmas.Bool.Decides.{nat_tests}
use Rattle.gomp_types.specs.declared.task.Task.{Task}
use Rattle.gomp_types.specs.declared.task.Task.TheVariants.{Implicit, Explicit}
use Rattle.gomp_types.specs.declared.task.TaskDesc.{TaskDesc}
use Rattle.gomp_events.specs.declared.event.Event.{Event}
use Rattle.gomp_events.specs.declared.event.Event.TheVariants.{Create, Start, Done, Discard}
use Rattle.gomp_events.specs.Events.{at_barrier}
use Rattle.gomp_events.specs.Laws.{Always}
use Rattle.gomp_events.specs.Tasks.{contains, same_task, of_explicit, tasks_created, task_stack, executed_task, innermost_task, after_first, is_created, has_started, is_complete, is_ancestor}
use Rattle.gomp_events.specs.Depends.{is_free}
use Rattle.gomp_events.specs.Cancels.{is_covered}
use Rattle.gomp_events.specs.Goals.{is_unstarted, is_ready, may_descend}
use Rattle.gomp_events.specs.TaskRules.{TaskRule, MayStart}
use Rattle.gomp_types.proofs.Booleans.{and_false, and_left, is_equal, same_number, other_number, not_both, or_tells, or_right}
use Rattle.gomp_events.proofs.TaskRoom.{uncreated_not_started}
use Rattle.gomp_events.proofs.Suspended.{innermost_in_stack}
use Rattle.gomp_tasks.specs.Stands.{TasksView, Stands as TasksStand, task_members}
use Rattle.gomp_tasks.specs.Calls.{may_run}
use Rattle.gomp_tasks.proofs.Alike.{alike_below, alike_created, alike_stack, unstarted_under}
use Rattle.gomp_tasks.proofs.StartedTasks.{under_none, under_started}
use Rattle.gomp_tasks.proofs.TasksKeep.{unstarted_has_row}
use Rattle.gomp_ready.specs.Ready.{ReadyView, passed_at}
use Rattle.gomp_scheduler.specs.ReadyTasks.{AreReady, is_listed, was_discarded}
use Rattle.gomp_scheduler.specs.Passed.{HavePassed, HaveLooked, LooksInVain, IsWaitLevel, awaits_under, level_task, task_at_level}
use Rattle.gomp_scheduler.proofs.ReadyKeeps.{listed_tells, discarded_tells}

-- Levels

-- at the level of the innermost task, and past it
innermost_level : (m l : ℕ) (ts : List ℕ) → length ts ≤ l → task_at_level m l ts ≡ innermost_task m ts
innermost_level m l [] high = refl
innermost_level m l (t ∷ ts) high = let past : nat_lt (length ts) l ≡ true = grind (arith, nat_tests, high) in rw past refl

pub executed_level : (m : ℕ) (h : List Event) → level_task m (length (task_stack m h)) h ≡ executed_task m h
executed_level m h = innermost_level m (length (task_stack m h)) (task_stack m h) (omega arith)

-- at those below it
level_below : (m l t : ℕ) (ts : List ℕ) → l ≤ length ts → task_at_level m l (t ∷ ts) ≡ task_at_level m l ts
level_below m l t ts low = let before : nat_lt (length ts) l ≡ false = grind (arith, nat_tests, low) in rw before refl

-- once the innermost was ended
level_once_left : (m l : ℕ) (ts : List ℕ) → l ≤ length (after_first ts) → task_at_level m l ts ≡ task_at_level m l (after_first ts)
level_once_left m l [] low = refl
level_once_left m l (t ∷ ts) low = level_below m l t ts low

left_is_shorter : (ts : List ℕ) → length (after_first ts) ≤ length ts
left_is_shorter [] = omega arith
left_is_shorter (t ∷ ts) = omega arith

-- Booleans

still_false : (a b c : Bool) → (b ≡ true → a ≡ true) → (a && c) ≡ false → (b && c) ≡ false
still_false a true c less e = rw (less refl) at e
still_false a false c less e = refl

-- Lists for which the same tasks stand

pub passed_alike : (tasks : TasksView) (ready : ReadyView) (h g : List Event) → ready.members ≡ task_members tasks → TasksStand tasks h → TasksStand tasks g → HavePassed ready h → HavePassed ready g
passed_alike tasks ready h g members st other passed m l t low within there =
    let same = alike_stack tasks m h g st other (omega (arith, low, members)) in
    let long : length (task_stack m h) ≡ length (task_stack m g) = ap length same in
    let is = passed m l t low (omega (arith, within, long)) there in
    let created = alike_created tasks h g st other in let few = is.created in
    let level : level_task m l h ≡ level_task m l g = ap (task_at_level m l) same in
    record { created = omega (arith, few, created); apart = sym (alike_below tasks (level_task m l g) t h g st other) ∙ ap (λ (p : Task). awaits_under p t h) (sym level) ∙ is.apart }

pub looked_by : (tasks : TasksView) (ready : ReadyView) (h : List Event) → ready.members ≡ task_members tasks → TasksStand tasks h → HavePassed ready h → HaveLooked tasks ready
looked_by tasks ready h members st passed g other = passed_alike tasks ready h g members st other passed

-- Nothing was passed over

pub none_passed : (ready : ReadyView) (h : List Event) → ((m l : ℕ) → passed_at m l ready ≡ []) → HavePassed ready h
none_passed ready h none m l t low within there = absurd (let e : false ≡ true = ap (contains t) (sym (none m l)) ∙ there in cc)

-- The same was passed over

pub passed_as : (ready after : ReadyView) (h : List Event) → after.members ≡ ready.members → after.passed ≡ ready.passed → HavePassed ready h → HavePassed after h
passed_as ready after h members same passed m l t low within there =
    passed m l t (omega (arith, low, members)) within (subst (λ (ps : List (List (List ℕ))). contains t (passed_at m l (record ready { passed = ps })) ≡ true) same there)

-- A task is created

pub created_passed : (ready : ReadyView) (task x : ℕ) (p : Task) (desc : TaskDesc) (h : List Event) → task ≡ suc (tasks_created h) → HavePassed ready h → HavePassed ready (Create task x p desc ∷ h)
created_passed ready task x p desc h number passed m l t low within there =
    let is = passed m l t low within there in
    let few = is.created in
    let old : (task == t) ≡ false = other_number task t (λ same. omega (arith, same, number, few)) in
    let made : is_created t (Create task x p desc ∷ h) ≡ is_created t h = is_old t (tasks_created h) few in
    record { created = omega (arith, few); apart = rw (old, made) is.apart }
  where
    is_old : (t n : ℕ) → t ≤ n → (nat_lt 0 t && nat_le t (suc n)) ≡ (nat_lt 0 t && nat_le t n)
    is_old t n few = let one : nat_le t (suc n) ≡ true = grind (arith, nat_tests, few) in let two : nat_le t n ≡ true = grind (arith, nat_tests, few) in rw (one, two) refl

-- A task is discarded

discarded_fewer : (t u x : ℕ) (h : List Event) → is_unstarted t (Discard u x ∷ h) ≡ true → is_unstarted t h ≡ true
discarded_fewer t u x h = by (is_created t h) (has_started t h) (is_complete t h) (u == t)
  where
    by : (a b c d : Bool) → (a && (not b && not (d || c))) ≡ true → (a && (not b && not c)) ≡ true
    by a b c false e = e
    by true true c true e = absurd (cc)
    by true false c true e = absurd (cc)
    by false b c true e = absurd (cc)

pub discarded_passed : (ready : ReadyView) (u x : ℕ) (h : List Event) → HavePassed ready h → HavePassed ready (Discard u x ∷ h)
discarded_passed ready u x h passed m l t low within there =
    let is = passed m l t low within there in
    record { created = is.created; apart = still_false (is_unstarted t h) (is_unstarted t (Discard u x ∷ h)) (is_ancestor (level_task m l h) t h) (discarded_fewer t u x h) is.apart }

-- A task is ended

level_after_end : (ready : ReadyView) (m l t x u : ℕ) (h : List Event) → m < ready.members → contains t (passed_at m l ready) ≡ true → HavePassed ready h → (b : Bool) → l ≤ length (if b then after_first (task_stack m h) else task_stack m h) →
    (t ≤ tasks_created h) × (awaits_under (task_at_level m l (if b then after_first (task_stack m h) else task_stack m h)) t h ≡ false)
level_after_end ready m l t x u h low there passed false within = let is = passed m l t low within there in (is.created, is.apart)
level_after_end ready m l t x u h low there passed true within =
    let shorter = left_is_shorter (task_stack m h) in
    let is = passed m l t low (omega (arith, within, shorter)) there in
    (is.created, ap (λ (p : Task). awaits_under p t h) (sym (level_once_left m l (task_stack m h) within)) ∙ is.apart)

pub ended_passed : (ready : ReadyView) (u x : ℕ) (h : List Event) → HavePassed ready h → HavePassed ready (Done u x ∷ h)
ended_passed ready u x h passed m l t low within there =
    let is = level_after_end ready m l t x u h low there passed (x == m) within in
    record { created = is.0; apart = still_false (is_unstarted t h) (is_unstarted t (Done u x ∷ h)) (is_ancestor (task_at_level m l (if x == m then after_first (task_stack m h) else task_stack m h)) t h) (discarded_fewer t u x h) is.1 }

-- A task is started

started_fewer : (t u x : ℕ) (h : List Event) → is_unstarted t (Start u x ∷ h) ≡ true → is_unstarted t h ≡ true
started_fewer t u x h = by (is_created t h) (has_started t h) (is_complete t h) (u == t)
  where
    by : (a b c d : Bool) → (a && (not (d || b) && not c)) ≡ true → (a && (not b && not c)) ≡ true
    by a b c false e = e
    by true b c true e = absurd (cc)
    by false b c true e = absurd (cc)

-- nobody is under a task that nobody has started
stack_started : (m u : ℕ) (h : List Event) → contains u (task_stack m h) ≡ true → has_started u h ≡ true
stack_started m u [] there = absurd (cc)
stack_started m u (Start t k ∷ earlier) there = by (k == m) (stack_started m u earlier) there
  where
    by : (b : Bool) → (contains u (task_stack m earlier) ≡ true → has_started u earlier ≡ true) → contains u (if b then t ∷ task_stack m earlier else task_stack m earlier) ≡ true → (t == u || has_started u earlier) ≡ true
    by false before further = or_right (t == u) (has_started u earlier) (before further)
    by true before top = elim (or_tells (t == u) (contains u (task_stack m earlier)) top) [
      | inl is ↦ rw is refl
      | inr further ↦ or_right (t == u) (has_started u earlier) (before further)
    ]
stack_started m u (Done t k ∷ earlier) there = by (k == m) (stack_started m u earlier) there
  where
    after_is_there : (ts : List ℕ) → contains u (after_first ts) ≡ true → contains u ts ≡ true
    after_is_there [] none = none
    after_is_there (s ∷ ts) further = or_right (s == u) (contains u ts) further

    by : (b : Bool) → (contains u (task_stack m earlier) ≡ true → has_started u earlier ≡ true) → contains u (if b then after_first (task_stack m earlier) else task_stack m earlier) ≡ true → has_started u earlier ≡ true
    by false before further = before further
    by true before further = before (after_is_there (task_stack m earlier) further)
stack_started m u (_ ∷ earlier) there = stack_started m u earlier there

ancestor_started : (members u t : ℕ) (h : List Event) → Always (TaskRule members) h → is_ancestor (Explicit u) t h ≡ true → has_started u h ≡ true
ancestor_started members u t [] all under = absurd (cc)
ancestor_started members u t (Create task m p desc ∷ earlier) all under = elim (cases_Bool (task == t)) [
  | inr other ↦ ancestor_started members u t earlier all.1 (rw other at under)
  | inl same ↦ by p (λ q. ancestor_started members u q earlier all.1) all.0.current (rw same at under)
]
  where
    by : (p : Task) → ((q : ℕ) → is_ancestor (Explicit u) q earlier ≡ true → has_started u earlier ≡ true) → p ≡ executed_task m earlier → (same_task p (Explicit u) || of_explicit (λ q. is_ancestor (Explicit u) q earlier) p) ≡ true → has_started u earlier ≡ true
    by (Implicit x) before current above = absurd (cc)
    by (Explicit q) before current above = elim (or_tells (q == u) (is_ancestor (Explicit u) q earlier) above) [
      | inl is ↦ stack_started m u earlier (innermost_in_stack m u (task_stack m earlier) (sym current ∙ ap Explicit (is_equal q u is)))
      | inr further ↦ before q further
    ]
ancestor_started members u t (Start s m ∷ earlier) all under = or_right (s == u) (has_started u earlier) (ancestor_started members u t earlier all.1 under)
ancestor_started members u t (_ ∷ earlier) all under = ancestor_started members u t earlier all.1 under

none_awaits_under : (members u t : ℕ) (h : List Event) → Always (TaskRule members) h → is_unstarted u h ≡ true → awaits_under (Explicit u) t h ≡ false
none_awaits_under members u t h all un = elim (cases_Bool (is_ancestor (Explicit u) t h)) [
  | inr off ↦ and_false (is_unstarted t h) (is_ancestor (Explicit u) t h) off
  | inl on ↦ absurd (not_both (has_started u h) (ancestor_started members u t h all on) (not_started (is_created u h) (has_started u h) (is_complete u h) un))
]
  where
    not_started : (a b c : Bool) → (a && (not b && not c)) ≡ true → b ≡ false
    not_started a false c un = refl
    not_started true true c un = absurd (cc)
    not_started false true c un = absurd (cc)

-- the member enters the level of the task, and passes over ready tasks alone there
pub record IsEntered (before after : ReadyView) (x : ℕ) (h : List Event) : Type 0 where
  pub members : after.members ≡ before.members
  pub entered : (t : ℕ) → contains t (passed_at x (suc (length (task_stack x h))) after) ≡ true → contains t before.ids ≡ true
  pub others : (m l : ℕ) → (m ≢ x) ⊎ (l ≢ suc (length (task_stack x h))) → passed_at m l after ≡ passed_at m l before

module _ (members : ℕ) (before after : ReadyView) (x u : ℕ) (h : List Event) (all : Always (TaskRule members) h) (created : (t : ℕ) → contains t before.ids ≡ true → t ≤ tasks_created h) (un : is_unstarted u h ≡ true) (passed : HavePassed before h) (is : IsEntered before after x h) where
  old_level : (m l t : ℕ) → m < before.members → l ≤ length (task_stack m h) → ((m ≢ x) ⊎ (l ≢ suc (length (task_stack x h)))) → contains t (passed_at m l after) ≡ true → LooksInVain m l t h
  old_level m l t low within other there = passed m l t low within (ap (contains t) (sym (is.others m l other)) ∙ there)

  new_level : (t : ℕ) → contains t (passed_at x (suc (length (task_stack x h))) after) ≡ true → (t ≤ tasks_created h) × (awaits_under (Explicit u) t h ≡ false)
  new_level t there = (created t (is.entered t there), none_awaits_under members u t h all un)

  started_own : (l t : ℕ) → x < before.members → l ≤ suc (length (task_stack x h)) → contains t (passed_at x l after) ≡ true → (t ≤ tasks_created h) × (awaits_under (task_at_level x l (u ∷ task_stack x h)) t h ≡ false)
  started_own l t low within there = elim (cases_lt (length (task_stack x h)) l) [
    | inl high ↦
        let top : l ≡ suc (length (task_stack x h)) = omega (arith, high, within) in
        let new = new_level t (subst (λ (k : ℕ). contains t (passed_at x k after) ≡ true) top there) in
        let past : nat_lt (length (task_stack x h)) l ≡ true = grind (arith, nat_tests, high) in
        (new.0, rw past new.1)
    | inr below ↦
        let old = old_level x l t low (omega (arith, below)) (inr (λ same. omega (arith, same, below))) there in
        (old.created, ap (λ (p : Task). awaits_under p t h) (level_below x l u (task_stack x h) (omega (arith, below))) ∙ old.apart)
  ]

  started_level : (m l t : ℕ) → m < before.members → contains t (passed_at m l after) ≡ true → (b : Bool) → (x == m) ≡ b → l ≤ length (if b then u ∷ task_stack m h else task_stack m h) →
      (t ≤ tasks_created h) × (awaits_under (task_at_level m l (if b then u ∷ task_stack m h else task_stack m h)) t h ≡ false)
  started_level m l t low there false e within = let old = old_level m l t low within (inl (λ same. not_both (x == m) (rw (same, same_number x) refl) e)) there in (old.created, old.apart)
  started_level m l t low there true e within =
      let own = is_equal x m e in
      subst (λ (k : ℕ). k < before.members → l ≤ suc (length (task_stack k h)) → contains t (passed_at k l after) ≡ true → (t ≤ tasks_created h) × (awaits_under (task_at_level k l (u ∷ task_stack k h)) t h ≡ false)) own (started_own l t) low within there

  pub started_passed : HavePassed after (Start u x ∷ h)
  started_passed m l t low within there =
      let as_many = is.members in
      let vain = started_level m l t (omega (arith, low, as_many)) there (x == m) refl within in
      record { created = vain.0; apart = still_false (is_unstarted t h) (is_unstarted t (Start u x ∷ h)) (is_ancestor (task_at_level m l (if x == m then u ∷ task_stack m h else task_stack m h)) t h) (started_fewer t u x h) vain.1 }

-- What a member passes over while it looks for a task

-- a ready task was created
pub ready_is_created : (members t : ℕ) (ids : List ℕ) (h : List Event) → Always (TaskRule members) h → AreReady ids h → contains t ids ≡ true → t ≤ tasks_created h
ready_is_created members t ids h all are there = elim (cases_lt (tasks_created h) t) [
  | inr old ↦ omega (arith, old)
  | inl new ↦
      let never = uncreated_not_started members h all t new in
      absurd (elim (or_tells (is_listed t h) (was_discarded t h) (are.ready t there)) [
        | inl is ↦ not_both (is_created t h) (listed_tells t h is).created (uncreated t (tasks_created h) new)
        | inr over ↦ not_both (is_complete t h) (discarded_tells t h over).0 never.1
      ])
]
  where
    uncreated : (t n : ℕ) → n < t → (nat_lt 0 t && nat_le t n) ≡ false
    uncreated t n new = let high : nat_le t n ≡ false = grind (arith, nat_tests, new) in and_false (nat_lt 0 t) (nat_le t n) high

-- it has passed over what it may not run, at the level of the task that it executes
pub looked_passed : (tasks : TasksView) (before after : ReadyView) (ids : List ℕ) (x : ℕ) (level : Option ℕ) (h : List Event) → TasksStand tasks h → AreReady ids h → after.members ≡ before.members → ((l : ℕ) → level ≡ Some l → IsWaitLevel x l h) →
    ((m l t : ℕ) → contains t (passed_at m l after) ≡ true → contains t ids ≡ true) → ((m l t : ℕ) → contains t (passed_at m l after) ≡ true → (contains t (passed_at m l before) ≡ true) ⊎ ((m ≡ x) × (level ≡ Some l) × (may_run x t h ≡ false))) →
    HavePassed before h → HavePassed after h
looked_passed tasks before after ids x level h st are members wait among looked passed m l t low within there = elim (looked m l t there) [
  | inl was ↦ passed m l t (omega (arith, low, members)) within was
  | inr (own, at, fails) ↦
      let is = wait l at in
      let top : level_task m l h ≡ executed_task x h = ap (λ (k : ℕ). level_task k l h) own ∙ ap (λ (k : ℕ). level_task x k h) is.level ∙ executed_level x h in
      record { created = ready_is_created (task_members tasks) t ids h st.rule are (among m l t there); apart = ap (λ (p : Task). awaits_under p t h) top ∙ sym (is.runs t) ∙ fails }
]

-- what it has passed over there it may not run
pub passed_never_runs : (ready : ReadyView) (x l t : ℕ) (h : List Event) → x < ready.members → IsWaitLevel x l h → HavePassed ready h → contains t (passed_at x l ready) ≡ true → may_run x t h ≡ false
passed_never_runs ready x l t h low is passed there =
    let level = is.level in
    let vain = passed x l t low (omega (arith, level)) there in
    is.runs t ∙ ap (λ (p : Task). awaits_under p t h) (sym (ap (λ (k : ℕ). level_task x k h) is.level ∙ executed_level x h)) ∙ vain.apart

-- The level at which a member looks

-- in no task, and not at a barrier
pub implicit_level : (x started : ℕ) (h : List Event) → executed_task x h ≡ Implicit x → at_barrier x h ≡ false → started ≡ length (task_stack x h) → IsWaitLevel x started h
implicit_level x started h top away is = record { level = is; runs = λ t. let each = under_none x t h top in rw (each, away, top) refl }

-- in a task, and at a barrier or in one that is under the member's implicit task
pub explicit_level : (tasks : TasksView) (x s started : ℕ) (h : List Event) → TasksStand tasks h → executed_task x h ≡ Explicit s → (at_barrier x h ≡ true) ⊎ (is_ancestor (Implicit x) s h ≡ true) → started ≡ length (task_stack x h) → IsWaitLevel x started h
explicit_level tasks x s started h st top free is = record {
  level = is;
  runs = λ t. rw top (elim (cases_Bool (is_unstarted t h)) [
    | inr over ↦ rw over refl
    | inl un ↦
        let each = under_started tasks.rows tasks.stacks tasks.roots x t s h st (unstarted_has_row tasks.rows tasks.stacks tasks.roots t h st un) top in
        rw (un, each) (elim (cases_Bool (is_ancestor (Explicit s) t h)) [
          | inr off ↦ rw off refl
          | inl on ↦ rw on (elim free [
            | inl at ↦ rw at refl
            | inr under ↦ or_right (at_barrier x h) (is_ancestor (Implicit x) t h) (unstarted_under tasks (Implicit x) s t h st un on under)
          ])
        ])
  ]);
}

pub same_level : (x started l : ℕ) (h : List Event) → ◌≡◌ {A = Option ℕ} (Some started) (Some l) → IsWaitLevel x started h → IsWaitLevel x l h
same_level x started l h same is = let e : started ≡ l = cc in subst (λ (k : ℕ). IsWaitLevel x k h) e is

-- a task that a member may start is one that nobody has started
pub startable_is_unstarted : (members t x : ℕ) (h : List Event) → MayStart members t x h → is_unstarted t h ≡ true
startable_is_unstarted members t x h rule =
    and_left (is_unstarted t h) (is_free t h && not (is_covered t h)) (and_left (is_ready t h) (may_descend x t h) rule.may)

-- What a call leaves

-- an event that changes nothing of what was passed over
pub next_looked : (tasks after : TasksView) (ready next : ReadyView) (e : Event) (h : List Event) → next.members ≡ task_members after → TasksStand tasks h → TasksStand after (e ∷ h) → next.members ≡ ready.members → next.passed ≡ ready.passed →
    (HavePassed ready h → HavePassed ready (e ∷ h)) → HaveLooked tasks ready → HaveLooked after next
next_looked tasks after ready next e h as_many st next_st members passed keep looked = looked_by after next (e ∷ h) as_many next_st (passed_as ready next (e ∷ h) members passed (keep (looked h st)))

-- the room for more tasks
pub grown_looked : (tasks after : TasksView) (ready next : ReadyView) → after ≡ record tasks { room = after.room } → next ≡ record ready { room = next.room } → HaveLooked tasks ready → HaveLooked after next
grown_looked tasks after ready next more room looked =
    subst (λ (v : TasksView). HaveLooked v next) (sym more) (subst (λ (r : ReadyView). HaveLooked (record tasks { room = after.room }) r) (sym room) looked)

-- the level that a member enters
pub level_is_entered : (before after : ReadyView) (x level : ℕ) (h : List Event) → level ≡ length (task_stack x h) + 1 → after.members ≡ before.members → ((t : ℕ) → contains t (passed_at x level after) ≡ true → contains t before.ids ≡ true) →
    ((m l : ℕ) → (m ≢ x) ⊎ (l ≢ level) → passed_at m l after ≡ passed_at m l before) → IsEntered before after x h
level_is_entered before after x level h next members entered others = record {
  members = members;
  entered = λ t there. entered t (subst (λ (k : ℕ). contains t (passed_at x k after) ≡ true) (sym top) there);
  others = λ m l other. others m l (subst (λ (k : ℕ). (m ≢ x) ⊎ (l ≢ k)) (sym top) other);
}
  where
    top : level ≡ suc (length (task_stack x h))
    top = omega (arith, next)

-- a member that has started a task
pub started_looked : (tasks after : TasksView) (before next : ReadyView) (x u : ℕ) (h : List Event) → before.members ≡ task_members after → TasksStand tasks h → TasksStand after (Start u x ∷ h) → HavePassed before h → ((t : ℕ) → contains t before.ids ≡ true → t ≤ tasks_created h) → is_unstarted u h ≡ true → IsEntered before next x h → HaveLooked after next
started_looked tasks after before next x u h as_many st next_st passed created un is = looked_by after next (Start u x ∷ h) (is.members ∙ as_many) next_st (started_passed (task_members tasks) before next x u h st.rule created un passed is)
