-- The replies to calls on tasks, of every record whose replies have their causes.
use Rattle.std.proofs.Common.{◌≡◌, ℕ, Bool, true, false, List, [], ◌∷◌, ◌++◌, Option, Some, None, refl, sym, ap, subst, inl, inr}
use Rattle.std.specs.Prelude.{is_some, not, ◌==◌}
use Rattle.std.proofs.lemmas.Bool.{cases_Bool}
use Rattle.gomp_types.specs.declared.call.Step.{Step}
use Rattle.gomp_events.specs.declared.event.Event.{Event}
use Rattle.gomp_events.specs.declared.event.Event.TheVariants.{Create, Start, Done}
use Rattle.gomp_types.specs.declared.reply.Reply.{Reply}
use Rattle.gomp_types.specs.declared.reply.Reply.TheVariants.{Created, Run, TaskDone}
use Rattle.gomp_types.specs.declared.task.Task.{Task}
use Rattle.gomp_types.specs.declared.task.Task.TheVariants.{Explicit}
use Rattle.gomp_types.specs.declared.task.TaskDesc.{TaskDesc}
use Rattle.gomp_events.specs.Laws.{Happened}
use Rattle.gomp_events.specs.Tasks.{innermost_task, task_stack, task_desc, executed_task, newest_child, is_undeferred}
use Rattle.gomp_events.specs.TaskCalls.{HasJob}
use Rattle.gomp_types.proofs.Booleans.{is_equal, same_number}
use Rattle.gomp_model.specs.Past.{Terms, Past}
use Rattle.gomp_model.specs.Row.{Row, begun_past}
use Rattle.gomp_types.specs.Resumes.{call_meant, is_resume}
use Rattle.gomp_model.specs.Team.{Record, row_at, MayAnswer, past_after, Caused}
use Rattle.gomp_laws.specs.Replies.{TellsItsNumber, IsAsAsked, RunsAsAsked, RunsItsOwn, ReturnsToItsWait, TaskReplies}
use Rattle.gomp_laws.proofs.Awaits.{startable_is_created, newest_is_own}
use Rattle.gomp_laws.proofs.NewestChild.{created_so}
use Rattle.gomp_laws.proofs.Places.{stack_begun}
use Rattle.gomp_laws.proofs.Sound.{HasCreated}
use Rattle.gomp_laws.proofs.TeamShares.{task_rules}
use Rattle.gomp_laws.proofs.Calls.{row_is_sound, call_has_created}
use Rattle.gomp_laws.proofs.Waiting.{call_beneath}
use Rattle.gomp_laws.proofs.Known.{Known, begun_rule, run_events, ended_task, not_undeferred, unrefused_step_is_admitted}
use Rattle.gomp_laws.proofs.HoldReplies.{each_reply}

-- Created

tells_its_number : (p : Past) (step : Step) (reply : Reply) → MayAnswer p step reply → Known p → TellsItsNumber p step reply
tells_its_number p step (Created task) may known =
    (row_is_sound (call_meant step.call (p.waits step.member).open_call)).created (is_resume step.call) step.member p task (unrefused_step_is_admitted p step may.0 known) may.1
tells_its_number p step _ may known = tt

-- Run

-- what is known of a task was asked for when it was created
described_is_created : (t : ℕ) (desc : TaskDesc) (h : List Event) → task_desc t h ≡ Some desc → (m : ℕ) × (parent : Task) × Happened (Create t m parent desc) h
described_is_created t desc [] e = absurd (cc)
described_is_created t desc (Create task m parent other ∷ earlier) e =
    elim (cases_Bool (task == t)) [
      | inl same ↦
          let number = is_equal task t same in
          let asked : Some other ≡ Some desc = rw same at e in
          let what : other ≡ desc = cc in (m, parent, inl (rw (number, what) refl))
      | inr differ ↦ let found = described_is_created t desc earlier (rw differ at e) in (found.0, found.1, inr found.2)
    ]
described_is_created t desc (_ ∷ earlier) e = let found = described_is_created t desc earlier e in (found.0, found.1, inr found.2)

-- what has this code and this argument was asked for
has_job_is : (found : Option TaskDesc) (code arg : ℕ) → HasJob found code arg → (desc : TaskDesc) × (found ≡ Some desc) × (desc.code ≡ code) × (desc.arg ≡ arg)
has_job_is None code arg job = absurd job
has_job_is (Some desc) code arg job = (desc, refl, job.0, job.1)

newest_happened : (event : Event) (events h : List Event) → events ≡ event ∷ [] → Happened event (events ++ h)
newest_happened event events h one = rw one (inl refl)

runs_as_asked : (p : Past) (step : Step) (reply : Reply) → MayAnswer p step reply → Known p → RunsAsAsked p step reply
runs_as_asked p step (Run task code arg own) may known =
    let row = row_at p step in
    let repeated = is_resume step.call in
    let m = step.member in
    let q = begun_past repeated row m p in
    let sound = row_is_sound (call_meant step.call (p.waits m).open_call) in
    let run = sound.runs m q task code arg own may.1 in
    let job = has_job_is (task_desc task q.events) code arg run.4 in
    let made = described_is_created task job.0 q.events job.1 in
    subst (λ (h : List Event). IsAsAsked task code arg m own h) (sym (run_events row sound repeated m p task code arg own may.1)) (record {
      creator = made.0;
      parent = made.1;
      desc = job.0;
      created = inr made.2;
      same_code = job.2;
      same_arg = job.3;
      started = inl refl;
      undeferred = sym run.2;
    })
runs_as_asked p step _ may known = tt

-- a task that is its member's own is the newest that the member created in the task that it executes
runs_its_own : (p : Past) (step : Step) (reply : Reply) → MayAnswer p step reply → Known p → RunsItsOwn p step reply
runs_its_own p step (Run task code arg true) may known =
    let row = row_at p step in
    let repeated = is_resume step.call in
    let m = step.member in
    let q = begun_past repeated row m p in
    let call = call_meant step.call (p.waits m).open_call in
    let sound = row_is_sound call in
    let ready = unrefused_step_is_admitted p step may.0 known in
    let run = sound.runs m q task code arg true may.1 in
    let own = run.6 refl in
    let desc = own.1.0 in
    let parent = executed_task m p.events in
    let given = run_events row sound repeated m p task code arg true may.1 in
    let executes : executed_task m q.events ≡ parent = ap (innermost_task m) (stack_begun row sound repeated m p) in
    let made : HasCreated row parent (Start task m ∷ q.events) =
    subst (λ (h : List Event). HasCreated row parent h) given (call_has_created call repeated m p (Run task code arg true) ready may.1 refl) in
    let newest : task ≡ newest_child parent q.events = subst (λ (t : Task). task ≡ newest_child t q.events) executes own.2 in
    let asked : task_desc task q.events ≡ Some desc = subst (λ (t : ℕ). task_desc t q.events ≡ Some desc) (sym newest) ((made desc own.1.1).0) in
    let all = task_rules p.terms.members q.events (begun_rule p step may.0 known) in
    let by = newest_is_own p.terms.members m task q.events all (sym own.2) (startable_is_created m task q.events run.3) in
    let created = created_so m (executed_task m q.events) task desc q.events by asked in
    let there : Happened (Create task m parent desc) (Start task m ∷ q.events) = inr (subst (λ (t : Task). Happened (Create task m t desc) q.events) executes created) in
    (desc, own.1.1, subst (λ (h : List Event). Happened (Create task m parent desc) h) (sym given) there)
runs_its_own p step _ may known = tt

-- TaskDone

-- nothing happens in a call before its member's task is done
none_begun : (row : Row) (repeated : Bool) (m : ℕ) (p : Past) → row.begins m p ≡ [] → (begun_past repeated row m p).events ≡ p.events
none_begun row repeated m p none = rw none refl

-- the wait at which a task was started is open again, and none if it is undeferred
opens_again : (p : Past) (step : Step) (task : ℕ) (waiting : Bool) → waiting ≡ not (is_undeferred task p.events) → executed_task step.member p.events ≡ Explicit task → Known p →
    is_some ((past_after p step (TaskDone task waiting)).waits step.member).open_call ≡ waiting
opens_again p step task true waits executed known =
    rw (same_number step.member)
    (call_beneath step.member task p.events (p.waits step.member).beneath (task_stack step.member p.events) executed (not_undeferred (is_undeferred task p.events) waits) (known.each step.member).covers)
opens_again p step task false waits executed known = rw (same_number step.member) refl

returns_to_its_wait : (p : Past) (step : Step) (reply : Reply) → MayAnswer p step reply → Known p → ReturnsToItsWait p step reply
returns_to_its_wait p step (TaskDone task waiting) may known =
    let row = row_at p step in
    let repeated = is_resume step.call in
    let q = begun_past repeated row step.member p in
    let sound = row_is_sound (call_meant step.call (p.waits step.member).open_call) in
    let end = sound.ends step.member q task waiting may.1 in
    let executed = ended_task row sound repeated step.member p task waiting may.1 in
    let waits : waiting ≡ not (is_undeferred task p.events) = subst (λ (h : List Event). waiting ≡ not (is_undeferred task h)) (none_begun row repeated step.member p (end.4 p)) end.1 in (
      executed,
      newest_happened (Done task step.member) (row.gives step.member q (TaskDone task waiting)) q.events end.3,
      waits,
      opens_again p step task waiting waits executed known,
    )
returns_to_its_wait p step _ may known = tt

pub task_replies : (terms : Terms) (run : Record) → Caused terms run → TaskReplies terms run
task_replies terms run caused = record {
  created = each_reply terms TellsItsNumber tells_its_number run caused;
  runs = each_reply terms RunsAsAsked runs_as_asked run caused;
  own = each_reply terms RunsItsOwn runs_its_own run caused;
  returns = each_reply terms ReturnsToItsWait returns_to_its_wait run caused;
}
