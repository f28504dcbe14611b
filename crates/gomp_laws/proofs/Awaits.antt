-- Waits at which tasks are run: that there is an answer, and one alone but for which task is run, and what the answers give.
use Rattle.std.proofs.Common.{◌≡◌, ℕ, ◌<◌, Bool, true, false, List, [], ◌∷◌, ◌++◌, Option, Some, None, refl, sym, subst, ◌∙◌, arith, inl, inr}
use Rattle.std.specs.Prelude.{◌⊎◌, ◌==◌, not}
use Rattle.std.proofs.lemmas.Bool.{cases_Bool}
use Rattle.gomp_types.specs.declared.reply.Reply.{Reply}
use Rattle.gomp_types.specs.declared.reply.Reply.TheVariants.{Passed, Wait, Created, Run}
use Rattle.gomp_types.specs.declared.task.TaskDesc.{TaskDesc}
use Rattle.gomp_events.specs.declared.event.Event.{Event}
use Rattle.gomp_events.specs.declared.event.Event.TheVariants.{Create}
use Rattle.gomp_events.specs.Laws.{Always}
use Rattle.gomp_events.specs.Tasks.{is_created, executed_task, task_desc, newest_child, is_undeferred}
use Rattle.gomp_events.specs.Goals.{is_own, may_start, is_startable, some_startable}
use Rattle.gomp_events.specs.TaskRules.{TaskRule}
use Rattle.gomp_events.specs.TaskCalls.{HasJob, AwaitsTasks, AwaitsOwn, AnswersCreator, starts_task}
use Rattle.gomp_types.proofs.Booleans.{and_left, not_both, false_of_not, is_equal, unequal_numbers}
use Rattle.gomp_events.proofs.OpenTasks.{created_low, created_high}
use Rattle.gomp_events.proofs.LaterTasks.{old_created}
use Rattle.gomp_events.proofs.OwnTasks.{child_of_current_is_own}
use Rattle.gomp_events.proofs.Suspended.{startable_is_fresh}
use Rattle.gomp_events.proofs.GoalReadings.{startable_may_start, some_startable_once_one_is, some_startable_only_if_one_is}
use Rattle.gomp_model.specs.Past.{Past}
use Rattle.gomp_model.specs.Row.{Row, unless_repeated, begun_past, goes_on}
use Rattle.gomp_laws.specs.Rules.{TeamRule}
use Rattle.gomp_laws.proofs.NewestChild.{newest_is_child}
use Rattle.gomp_laws.proofs.TeamShares.{task_rules}
use Rattle.gomp_laws.proofs.Sound.{Same, Gives, AreGiven, IsAdmittedMember}

-- Tasks that may be started

-- a task that may be started was created
pub startable_is_created : (m t : ℕ) (h : List Event) → may_start m t h ≡ true → is_created t h ≡ true
startable_is_created m t h may = (startable_is_fresh m t h may).0

-- at a wait it may be started, and is not undeferred
pub startable_not_undeferred : (m t : ℕ) (h : List Event) → is_startable m t h ≡ true → is_undeferred t h ≡ false
startable_not_undeferred m t h may = false_of_not (is_undeferred t h) (and_left (not (is_undeferred t h)) (may_start m t h) may)

-- of a task that was created it is known what was asked for
pub created_is_described : (members t : ℕ) (h : List Event) → Always (TaskRule members) h → is_created t h ≡ true → (desc : TaskDesc) × (task_desc t h ≡ Some desc)
created_is_described members t [] all made = absurd (let low = created_low t [] made in let high = created_high t [] made in omega (arith, low, high))
created_is_described members t (Create task m parent desc ∷ earlier) all made = elim (cases_Bool (task == t)) [
  | inl same ↦ (desc, rw same refl)
  | inr other ↦ let was = created_is_described members t earlier all.1 (old_created t task earlier all.0.number other made) in (was.0, rw other was.1)
]
created_is_described members t (_ ∷ earlier) all made = created_is_described members t earlier all.1 made

-- so its code and its argument are
described_has_job : (desc : TaskDesc) (found : Option TaskDesc) → found ≡ Some desc → HasJob found desc.code desc.arg
described_has_job desc found is = rw is (refl, refl)

-- Answers

-- one task has one code and one argument
one_job : (found : Option TaskDesc) (code arg other_code other_arg : ℕ) → HasJob found code arg → HasJob found other_code other_arg → (code ≡ other_code) × (arg ≡ other_arg)
one_job None code arg other_code other_arg x y = absurd x
one_job (Some desc) code arg other_code other_arg x y = (sym x.0 ∙ y.0, sym x.1 ∙ y.1)

-- two tasks that have what was asked for of them are one, or two
two_runs_are_the_same : (h : List Event) (task code arg other other_code other_arg : ℕ) → HasJob (task_desc task h) code arg → HasJob (task_desc other h) other_code other_arg →
    Same (Run task code arg false) (Run other other_code other_arg false)
two_runs_are_the_same h task code arg other other_code other_arg x y = elim (cases_Bool (task == other)) [
  | inl same ↦
      let one = is_equal task other same in
      let jobs = one_job (task_desc other h) code arg other_code other_arg (subst (λ (t : ℕ). HasJob (task_desc t h) code arg) one x) y in
      let codes = jobs.0 in
      let args = jobs.1 in
      inl (cc)
  | inr differ ↦ inr (unequal_numbers task other differ)
]

pub one_await : (m : ℕ) (met : Bool) (h : List Event) (a b : Reply) → AwaitsTasks m met h a → AwaitsTasks m met h b → Same a b
one_await m met h Passed Passed x y = inl refl
one_await m met h Wait Wait x y = inl refl
one_await m met h (Run task code arg false) (Run other other_code other_arg false) x y = two_runs_are_the_same h task code arg other other_code other_arg x.3 y.3
one_await m met h (Run task code arg true) (Run other other_code other_arg other_own) x y = absurd (not_both true refl x.1)
one_await m met h (Run task code arg own) (Run other other_code other_arg true) x y = absurd (not_both true refl y.1)
one_await m met h Passed Wait x y = absurd (not_both met x y.0)
one_await m met h Passed (Run task code arg own) x y = absurd (not_both met x y.0)
one_await m met h Wait Passed x y = absurd (not_both met y x.0)
one_await m met h Wait (Run task code arg own) x y = absurd (not_both (some_startable m h) (some_startable_once_one_is m task h y.2) x.1)
one_await m met h (Run task code arg own) Passed x y = absurd (not_both met y x.0)
one_await m met h (Run task code arg own) Wait x y = absurd (not_both (some_startable m h) (some_startable_once_one_is m task h x.2) y.1)
one_await m met h Passed _ x y = absurd y
one_await m met h Wait _ x y = absurd y
one_await m met h (Run task code arg own) _ x y = absurd y
one_await m met h _ b x y = absurd x

-- before its goal is met the answer is a task that may be started, or the wait itself
unmet_wait_answers : {A : Type 0} → (members m : ℕ) (met : Bool) (h : List Event) → Always (TaskRule members) h → met ≡ false → ((task code arg : ℕ) → AwaitsTasks m met h (Run task code arg false) → A) → (AwaitsTasks m met h Wait → A) → A
unmet_wait_answers members m met h all e runs waits = elim (cases_Bool (some_startable m h)) [
  | inl some ↦
      let found = some_startable_only_if_one_is m h some in
      let described = created_is_described members found.0 h all (startable_is_created m found.0 h (startable_may_start m found.0 h found.1)) in
      runs found.0 described.0.code described.0.arg (e, refl, found.1, described_has_job described.0 (task_desc found.0 h) described.1)
  | inr none ↦ waits (e, none)
]

pub some_await : (members m : ℕ) (met : Bool) (h : List Event) → Always (TaskRule members) h → (reply : Reply) × AwaitsTasks m met h reply
some_await members m met h all = elim (cases_Bool met) [
  | inl e ↦ (Passed, e)
  | inr e ↦ unmet_wait_answers members m met h all e (λ task code arg may. (Run task code arg false, may)) (λ may. (Wait, may))
]

pub await_tells : (m : ℕ) (met : Bool) (h : List Event) (reply : Reply) → AwaitsTasks m met h reply → (reply ≡ Passed) ⊎ (goes_on reply ≡ true)
await_tells m met h Passed may = inl refl
await_tells m met h Wait may = inr refl
await_tells m met h (Run task code arg own) may = inr refl
await_tells m met h _ may = absurd may

-- To the creator of an undeferred task

one_own : (m t : ℕ) (h : List Event) (a b : Reply) → AwaitsOwn m t h a → AwaitsOwn m t h b → Same a b
one_own m t h (Run task code arg true) (Run other other_code other_arg true) x y =
    let jobs = one_job (task_desc t h) code arg other_code other_arg x.2 y.2 in
    let tasks : task ≡ other = x.0 ∙ sym y.0 in
    let codes = jobs.0 in
    let args = jobs.1 in
    inl (cc)
one_own m t h (Run task code arg true) (Run other other_code other_arg false) x y = absurd (not_both (may_start m t h) x.1 y.0)
one_own m t h (Run task code arg false) (Run other other_code other_arg true) x y = absurd (not_both (may_start m t h) y.1 x.0)
one_own m t h (Run task code arg false) (Run other other_code other_arg false) x y = one_await m (may_start m t h) h (Run task code arg false) (Run other other_code other_arg false) x y
one_own m t h (Run task code arg true) Wait x y = absurd (not_both (may_start m t h) x.1 y.0)
one_own m t h (Run task code arg false) Wait x y = one_await m (may_start m t h) h (Run task code arg false) Wait x y
one_own m t h Wait (Run task code arg true) x y = absurd (not_both (may_start m t h) y.1 x.0)
one_own m t h Wait (Run task code arg false) x y = one_await m (may_start m t h) h Wait (Run task code arg false) x y
one_own m t h Wait Wait x y = inl refl
one_own m t h (Run task code arg own) _ x y = absurd y
one_own m t h Wait _ x y = absurd y
one_own m t h _ b x y = absurd x

some_own : (members m t : ℕ) (h : List Event) → Always (TaskRule members) h → (reply : Reply) × AwaitsOwn m t h reply
some_own members m t h all = elim (cases_Bool (may_start m t h)) [
  | inl may ↦
      let described = created_is_described members t h all (startable_is_created m t h may) in
      (Run t described.0.code described.0.arg true, (refl, may, described_has_job described.0 (task_desc t h) described.1))
  | inr e ↦ unmet_wait_answers members m (may_start m t h) h all e (λ task code arg may. (Run task code arg false, may)) (λ may. (Wait, may))
]

-- and to that of any task
pub one_creator : (held : Bool) (m t : ℕ) (h : List Event) (a b : Reply) → AnswersCreator held m t h a → AnswersCreator held m t h b → Same a b
one_creator true m t h a b x y = one_own m t h a b x y
one_creator false m t h a b x y = inl (x ∙ sym y)

pub some_creator : (members : ℕ) (held : Bool) (m t : ℕ) (h : List Event) → Always (TaskRule members) h → (reply : Reply) × AnswersCreator held m t h reply
some_creator members true m t h all = some_own members m t h all
some_creator members false m t h all = (Created t, refl)

-- which runs its own task, or one that it may start at a wait
pub record CreatorRuns (m t task code arg : ℕ) (own : Bool) (h : List Event) : Type 0 where
  pub held : is_undeferred t h ≡ true
  pub newest : own ≡ true → task ≡ t
  pub undeferred : is_undeferred task h ≡ own
  pub may : may_start m task h ≡ true
  pub job : HasJob (task_desc task h) code arg

own_runs : (m t task code arg : ℕ) (own : Bool) (h : List Event) → is_undeferred t h ≡ true → AwaitsOwn m t h (Run task code arg own) → CreatorRuns m t task code arg own h
own_runs m t task code arg true h held may = rw may.0 (record { held = held; newest = λ e. refl; undeferred = held; may = may.1; job = may.2 })
own_runs m t task code arg false h held may = record {
  held = held;
  newest = λ e. absurd (cc);
  undeferred = startable_not_undeferred m task h may.2;
  may = startable_may_start m task h may.2;
  job = may.3;
}

pub creator_runs : (held : Bool) (m t task code arg : ℕ) (own : Bool) (h : List Event) → is_undeferred t h ≡ held → AnswersCreator held m t h (Run task code arg own) → CreatorRuns m t task code arg own h
creator_runs true m t task code arg own h is may = own_runs m t task code arg own h is may
creator_runs false m t task code arg own h is may = absurd (cc)

-- a creator is answered with a number only of a task that is not undeferred
pub numbered_task_is_deferred : (held : Bool) (m t task : ℕ) (h : List Event) → AnswersCreator held m t h (Created task) → (held ≡ false) × (task ≡ t)
numbered_task_is_deferred true m t task h may = absurd may
numbered_task_is_deferred false m t task h may = (refl, cc)

-- and a creation goes on only for one that is
pub creator_waits : (held : Bool) (m t : ℕ) (h : List Event) (reply : Reply) → goes_on reply ≡ true → AnswersCreator held m t h reply → held ≡ true
creator_waits true m t h reply on may = refl
creator_waits false m t h reply on may = absurd (let never : goes_on reply ≡ false = rw may refl in cc)

-- What they give

pub started_own : (can : Gives) (m : ℕ) (reply : Reply) → AreGiven can m reply (starts_task m reply)
started_own can m (Run task code arg own) = ((refl, refl), tt)
started_own can m _ = tt

pub started_keeps : (members m : ℕ) (met : Bool) (h : List Event) (reply : Reply) → m < members → AwaitsTasks m met h reply → Always (TeamRule members) h → Always (TeamRule members) (starts_task m reply ++ h)
started_keeps members m met h (Run task code arg own) lt may all = (
  record {
    member = lt;
    may = startable_may_start m task h may.2;
    own = λ held. absurd (not_both (is_undeferred task h) held (startable_not_undeferred m task h may.2));
  },
  all,
)
started_keeps members m met h _ lt may all = all

-- the newest child of the task that a member executes is its own
pub newest_is_own : (members m t : ℕ) (h : List Event) → Always (TaskRule members) h → newest_child (executed_task m h) h ≡ t → is_created t h ≡ true → is_own m t h ≡ true
newest_is_own members m t h all newest made = child_of_current_is_own members m t h all ∙ newest_is_child members (executed_task m h) t h all newest (created_low t h made)

own_keeps_rule : (members m t : ℕ) (h : List Event) (reply : Reply) → m < members → newest_child (executed_task m h) h ≡ t → AwaitsOwn m t h reply → Always (TeamRule members) h → Always (TeamRule members) (starts_task m reply ++ h)
own_keeps_rule members m t h (Run task code arg true) lt newest may all = rw may.0 (
  record { member = lt; may = may.1; own = λ held. newest_is_own members m t h (task_rules members h all) newest (startable_is_created m t h may.1) },
  all,
)
own_keeps_rule members m t h (Run task code arg false) lt newest may all = started_keeps members m (may_start m t h) h (Run task code arg false) lt may all
own_keeps_rule members m t h _ lt newest may all = all

pub creator_keeps : (members : ℕ) (held : Bool) (m t : ℕ) (h : List Event) (reply : Reply) → m < members → newest_child (executed_task m h) h ≡ t → AnswersCreator held m t h reply → Always (TeamRule members) h →
    Always (TeamRule members) (starts_task m reply ++ h)
creator_keeps members true m t h reply lt newest may all = own_keeps_rule members m t h reply lt newest may all
creator_keeps members false m t h reply lt newest may all = rw may all

-- Calls that have begun

-- what holds before a call and after its events holds once it has begun, repeated or not
pub begun_holds : (P : List Event → Type 0) (repeated : Bool) (events h : List Event) → (repeated ≡ false → P (events ++ h)) → P h → P (unless_repeated events repeated ++ h)
begun_holds P repeated [] h begun before = before
begun_holds P true (event ∷ events) h begun before = before
begun_holds P false (event ∷ events) h begun before = begun refl

pub begun_rules : (row : Row) (repeated : Bool) (m : ℕ) (p : Past) → IsAdmittedMember row repeated m p → (IsAdmittedMember row false m p → Always (TeamRule p.terms.members) (row.begins m p ++ p.events)) → Always (TeamRule p.terms.members) p.events →
    Always (TeamRule p.terms.members) (begun_past repeated row m p).events
begun_rules row true m p ready begun all = begun_holds (Always (TeamRule p.terms.members)) true (row.begins m p) p.events (λ first. absurd (cc)) all
begun_rules row false m p ready begun all = begun_holds (Always (TeamRule p.terms.members)) false (row.begins m p) p.events (λ first. begun ready) all
