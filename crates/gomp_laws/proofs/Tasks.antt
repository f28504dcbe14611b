-- The rows of the calls on tasks and groups.
use Rattle.std.proofs.Common.{◌≡◌, ℕ, ◌<◌, suc, Bool, true, false, List, [], ◌∷◌, ◌++◌, Some, refl, ap, sym, ◌∙◌, subst, arith, inl, inr}
use Rattle.std.specs.Prelude.{ℤ, ◌⊎◌, ◌==◌, ◌||◌, nat_le, not}
use Rattle.std.proofs.lemmas.Bool.Decides.{nat_tests}
use Rattle.gomp_types.specs.declared.depend.Dep.{Dep}
use Rattle.gomp_types.specs.declared.refusal.Refusal.{Refusal}
use Rattle.gomp_types.specs.declared.limits.TheConstants.{MAX_TASK_DEPTH}
use Rattle.gomp_types.specs.declared.reply.Reply.{Reply}
use Rattle.gomp_types.specs.declared.reply.Reply.TheVariants.{Chunk, Finished, Passed, Wait, Cancelled, Created, Run, TaskDone, Dropped, Refused}
use Rattle.gomp_types.specs.declared.task.Task.{Task}
use Rattle.gomp_types.specs.declared.task.Task.TheVariants.{Implicit, Explicit}
use Rattle.gomp_types.specs.declared.task.TaskDesc.{TaskDesc}
use Rattle.gomp_events.specs.declared.event.Event.{Event}
use Rattle.gomp_events.specs.declared.event.Event.TheVariants.{Create}
use Rattle.gomp_events.specs.Laws.{Always, Happened}
use Rattle.gomp_events.specs.Tasks.{contains, tasks_created, is_created, task_stack, innermost_task, executed_task, of_explicit, depth_of, task_desc, newest_child, is_undeferred}
use Rattle.gomp_events.specs.Groups.{open_groups, groups_around}
use Rattle.gomp_events.specs.Cancels.{is_cancelled, some_cancelled, groups_over, groups_within, leaves_task}
use Rattle.gomp_events.specs.CancelCalls.{creates_covered, creates_uncovered, AnswersCreation, unless_cancelled}
use Rattle.gomp_events.specs.TaskRules.{TaskRule}
use Rattle.gomp_events.specs.Goals.{taskwait_met}
use Rattle.gomp_events.specs.TaskCalls.{AnswersCreator, CreatesTask, creates, end_task_tests, last_complete, EndsTask, AwaitsChildren, AwaitsGroup, starts_task, ends_task, waited, opens_group, ends_first, ends_group}
use Rattle.gomp_types.proofs.Booleans.{not_both, same_number, neither_left}
use Rattle.gomp_locks.specs.Holders.{asker, holds_critical}
use Rattle.gomp_model.specs.Past.{Past}
use Rattle.gomp_model.specs.Row.{Row, begun_past, unless_repeated, given_after, goes_on}
use Rattle.gomp_model.specs.Tasks.{is_dropped, task_create_row, task_end_row, taskwait_row, group_start_row, group_end_row}
use Rattle.gomp_model.proofs.Admitted.{by_task_fails, by_team_fails}
use Rattle.gomp_laws.specs.Rules.{TeamRule}
use Rattle.gomp_laws.proofs.Awaits.{startable_not_undeferred, one_await, some_await, one_creator, some_creator, CreatorRuns, creator_runs, numbered_task_is_deferred, creator_waits, started_own, started_keeps, creator_keeps, begun_rules}
use Rattle.gomp_laws.proofs.Cancels.{some_cancelled_same, unless_own, unless_keeps}
use Rattle.gomp_events.proofs.LaterTasks.{not_new}
use Rattle.gomp_events.proofs.Suspended.{tasks_stacked}
use Rattle.gomp_events.proofs.GoalReadings.{startable_may_start}
use Rattle.gomp_events.proofs.TaskReadings.{asked_at_its_creation, newest_once_created}
use Rattle.gomp_model.proofs.ReplyEvents.{again_none}
use Rattle.gomp_laws.proofs.TeamShares.{task_rules, none_leaves}
use Rattle.gomp_laws.proofs.Sound.{Same, AreGiven, memoryless, HasCreated, IsAdmittedMember, IsSound, quiet, only_creates, outside_lasts}

-- Creation

not_deepest : (depth : ℕ) → nat_le MAX_TASK_DEPTH depth ≡ false → depth < MAX_TASK_DEPTH
not_deepest depth below = grind (arith, nat_tests, below)

-- what a creation may be answered: that it is dropped, if a cancellation would reach the task, and else as its creator is
answered_creation : (c : Bool) (m : ℕ) (h : List Event) (reply : Reply) → AnswersCreation c m h reply → ((c ≡ true) × (reply ≡ Dropped)) ⊎ ((c ≡ false) × CreatesTask m h reply)
answered_creation true m h reply may = inl (refl, may)
answered_creation false m h reply may = inr (refl, may)

undropped_creation : (c : Bool) (m : ℕ) (h : List Event) (reply : Reply) → is_dropped reply ≡ false → AnswersCreation c m h reply → (c ≡ false) × CreatesTask m h reply
undropped_creation c m h reply other may =
    elim (answered_creation c m h reply may) [ inl e ↦ absurd (not_both (is_dropped reply) (ap is_dropped e.1) other) | inr e ↦ e ]

goes_on_undropped : (reply : Reply) → goes_on reply ≡ true → is_dropped reply ≡ false
goes_on_undropped Wait on = refl
goes_on_undropped (Run task code arg own) on = refl
goes_on_undropped _ on = absurd (cc)

-- the events once a creation is made that a cancellation would reach or not
abbrev MadeAs : Bool → ℕ → TaskDesc → List Event → List Event
MadeAs c m desc h = unless_repeated (unless_cancelled c (creates m desc h)) false ++ h

-- a creation is made once: one that is repeated is answered with no number
first_creation_is_numbered : (c : Bool) (desc : TaskDesc) (m task : ℕ) (h : List Event) → creates_covered m h ≡ c → AnswersCreation (creates_covered m (MadeAs c m desc h)) m (MadeAs c m desc h) (Created task) →
    Happened (Create task m (executed_task m h) desc) (MadeAs c m desc h)
first_creation_is_numbered true desc m task h e may =
    absurd (not_both (creates_covered m h) e (undropped_creation (creates_covered m h) m h (Created task) refl may).0)
first_creation_is_numbered false desc m task h e may =
    let parent = executed_task m h in
    let now : List Event = Create (suc (tasks_created h)) m parent desc ∷ h in
    let numbered = numbered_task_is_deferred (is_undeferred (newest_child parent now) now) m (newest_child parent now) task now (undropped_creation (creates_covered m now) m now (Created task) refl may).1 in
    let number : task ≡ suc (tasks_created h) = numbered.1 ∙ newest_once_created (suc (tasks_created h)) m parent desc h in
    inl (rw number refl)

created_once : (desc : TaskDesc) (repeated : Bool) (m task : ℕ) (p : Past) → IsAdmittedMember (task_create_row desc) repeated m p → (task_create_row desc).may_reply m (begun_past repeated (task_create_row desc) m p) (Created task) →
    Happened (Create task m (executed_task m p.events) desc) (given_after (task_create_row desc) repeated m p (Created task))
created_once desc true m task p ready may =
    let h = (begun_past true (task_create_row desc) m p).events in
    let same : h ≡ p.events = ap (λ (events : List Event). events ++ p.events) (again_none (creates_uncovered m desc p.events)) in
    let there = subst (λ (now : List Event). AnswersCreation (creates_covered m now) m now (Created task)) same may in
    let t = newest_child (executed_task m p.events) p.events in
    let numbered = numbered_task_is_deferred (is_undeferred t p.events) m t task p.events (undropped_creation (creates_covered m p.events) m p.events (Created task) refl there).1 in
    absurd (not_both (is_undeferred t p.events) ((ready.made refl desc refl).1) numbered.0)
created_once desc false m task p ready may = first_creation_is_numbered (creates_covered m p.events) desc m task p.events refl may

-- while it goes on the task that it made is undeferred
same_desc : (one other : TaskDesc) → Some one ≡ Some other → one ≡ other
same_desc one other e = cc

created_first : (c : Bool) (desc : TaskDesc) (m : ℕ) (h : List Event) → creates_covered m h ≡ c → creates_covered m (MadeAs c m desc h) ≡ false → is_undeferred (newest_child (executed_task m h) (MadeAs c m desc h)) (MadeAs c m desc h) ≡ true →
    HasCreated (task_create_row desc) (executed_task m h) (MadeAs c m desc h)
created_first true desc m h e uncovered held = absurd (not_both (creates_covered m h) e uncovered)
created_first false desc m h e uncovered held = λ other is.
    let parent = executed_task m h in
    let n = suc (tasks_created h) in
    let now : List Event = Create n m parent desc ∷ h in
    let newest = newest_once_created n m parent desc h in (
      subst (λ (t : ℕ). task_desc t now ≡ Some other) (sym newest) (asked_at_its_creation n m parent desc h ∙ is),
      held,
    )

creation_made : (desc : TaskDesc) (repeated : Bool) (m : ℕ) (p : Past) → IsAdmittedMember (task_create_row desc) repeated m p → creates_covered m (begun_past repeated (task_create_row desc) m p).events ≡ false →
    is_undeferred (newest_child (executed_task m p.events) (begun_past repeated (task_create_row desc) m p).events) (begun_past repeated (task_create_row desc) m p).events ≡ true →
    HasCreated (task_create_row desc) (executed_task m p.events) (begun_past repeated (task_create_row desc) m p).events
creation_made desc true m p ready uncovered held =
    let same : (begun_past true (task_create_row desc) m p).events ≡ p.events = ap (λ (events : List Event). events ++ p.events) (again_none (creates_uncovered m desc p.events)) in
    subst (λ (now : List Event). HasCreated (task_create_row desc) (executed_task m p.events) now) (sym same) (ready.made refl)
creation_made desc false m p ready uncovered held = created_first (creates_covered m p.events) desc m p.events refl uncovered held

executes_as : (c repeated : Bool) (desc : TaskDesc) (m : ℕ) (h : List Event) → executed_task m (unless_repeated (unless_cancelled c (creates m desc h)) repeated ++ h) ≡ executed_task m h
executes_as true repeated desc m h = refl
executes_as false true desc m h = refl
executes_as false false desc m h = refl

begun_executes : (desc : TaskDesc) (repeated : Bool) (m : ℕ) (p : Past) → executed_task m (begun_past repeated (task_create_row desc) m p).events ≡ executed_task m p.events
begun_executes desc repeated m p = executes_as (creates_covered m p.events) repeated desc m p.events

-- its reply starts one task at most, which changes nothing of that
starts_leave : (row : Row) (parent : Task) (m : ℕ) (reply : Reply) (h : List Event) → HasCreated row parent h → HasCreated row parent (starts_task m reply ++ h)
starts_leave row parent m (Run task code arg own) h made = made
starts_leave row parent m _ h made = made

pub creation_lasts : (desc : TaskDesc) (repeated : Bool) (m : ℕ) (p : Past) (reply : Reply) → IsAdmittedMember (task_create_row desc) repeated m p → (task_create_row desc).may_reply m (begun_past repeated (task_create_row desc) m p) reply → goes_on reply ≡ true →
    HasCreated (task_create_row desc) (executed_task m p.events) (given_after (task_create_row desc) repeated m p reply)
creation_lasts desc repeated m p reply ready may on =
    let row = task_create_row desc in
    let h = (begun_past repeated row m p).events in
    let t = newest_child (executed_task m h) h in
    let undropped = undropped_creation (creates_covered m h) m h reply (goes_on_undropped reply on) may in
    let held = creator_waits (is_undeferred t h) m t h reply on undropped.1 in
    let held_there : is_undeferred (newest_child (executed_task m p.events) h) h ≡ true = subst (λ (parent : Task). is_undeferred (newest_child parent h) h ≡ true) (begun_executes desc repeated m p) held in
    starts_leave row (executed_task m p.events) m reply h (creation_made desc repeated m p ready undropped.0 held_there)

-- what a creation may be answered that is not dropped
abbrev Answer : ℕ → List Event → Reply → Type 0
Answer m h reply = AnswersCreator (is_undeferred (newest_child (executed_task m h) h) h) m (newest_child (executed_task m h) h) h reply

creation_begins : (desc : TaskDesc) (m : ℕ) (p : Past) → IsAdmittedMember (task_create_row desc) false m p → Always (TeamRule p.terms.members) p.events → Always (TeamRule p.terms.members) ((task_create_row desc).begins m p ++ p.events)
creation_begins desc m p ready all =
    let h = p.events in
    unless_keeps p.terms.members (creates_covered m h) (Create (suc (tasks_created h)) m (executed_task m h) desc) h
    (λ uncovered. record {
      member = ready.member;
      number = refl;
      current = refl;
      away = ready.away refl (none_leaves p.terms.members m h all (neither_left (is_cancelled h) (some_cancelled (groups_within (executed_task m h) h) h) uncovered));
      shallow = not_deepest (depth_of (executed_task m h) h) (by_task_fails ready.admitted.parts refl).0;
      uncovered = uncovered;
    }) all

-- the creation of a task changes no group around the one that its member executes
around_created : (task m t : ℕ) (parent : Task) (desc : TaskDesc) (h : List Event) → (task == t) ≡ false → groups_around t (Create task m parent desc ∷ h) ≡ groups_around t h
around_created task m t (Implicit x) desc h other = rw other refl
around_created task m t (Explicit p) desc h other = rw other refl

over_created : (task m k : ℕ) (parent : Task) (desc : TaskDesc) (h : List Event) (stack : List ℕ) → task ≡ suc (tasks_created h) → ((t : ℕ) → contains t stack ≡ true → is_created t h ≡ true) →
    groups_over (innermost_task k stack) (Create task m parent desc ∷ h) ≡ groups_over (innermost_task k stack) h
over_created task m k parent desc h [] number made = refl
over_created task m k parent desc h (t ∷ ts) number made = around_created task m t parent desc h (not_new t task h (made t (rw (same_number t) refl)) number)

covered_after : (members m : ℕ) (desc : TaskDesc) (h : List Event) → Always (TaskRule members) h → creates_covered m (Create (suc (tasks_created h)) m (executed_task m h) desc ∷ h) ≡ creates_covered m h
covered_after members m desc h all =
    let parent = executed_task m h in
    let event = Create (suc (tasks_created h)) m parent desc in
    let over = over_created (suc (tasks_created h)) m m parent desc h (task_stack m h) refl (λ t there. ((tasks_stacked members h all m).1 t there).0) in
    let within : groups_within parent (event ∷ h) ≡ groups_within parent h = ap (λ (qs : List ℕ). open_groups parent h ++ qs) over in
    ap (λ (qs : List ℕ). is_cancelled h || some_cancelled qs (event ∷ h)) within ∙ ap (λ (b : Bool). is_cancelled h || b) (some_cancelled_same (groups_within parent h) event h (λ scope. refl))

-- so one that is dropped would be reached when it was asked for
drop_is_covered : (c : Bool) (members m : ℕ) (desc : TaskDesc) (h : List Event) → Always (TaskRule members) h → creates_covered m h ≡ c → creates_covered m (MadeAs c m desc h) ≡ true → creates_covered m h ≡ true
drop_is_covered true members m desc h all e covered = e
drop_is_covered false members m desc h all e covered = absurd (not_both (creates_covered m h) (sym (covered_after members m desc h all) ∙ covered) e)

creator_not_dropped : (held : Bool) (m t : ℕ) (h : List Event) → AnswersCreator held m t h Dropped → ⊥
creator_not_dropped true m t h may = may
creator_not_dropped false m t h may = cc

creator_not_cancelled : (held : Bool) (m t : ℕ) (h : List Event) → AnswersCreator held m t h Cancelled → ⊥
creator_not_cancelled true m t h may = may
creator_not_cancelled false m t h may = cc

dropped_is_covered : (c : Bool) (m : ℕ) (h : List Event) → AnswersCreation c m h Dropped → c ≡ true
dropped_is_covered true m h may = refl
dropped_is_covered false m h may = let t = newest_child (executed_task m h) h in absurd (creator_not_dropped (is_undeferred t h) m t h may)

drops_covered : (desc : TaskDesc) (repeated : Bool) (m : ℕ) (p : Past) → Always (TeamRule p.terms.members) p.events → (task_create_row desc).may_reply m (begun_past repeated (task_create_row desc) m p) Dropped → creates_covered m p.events ≡ true
drops_covered desc true m p all may =
    let same : (begun_past true (task_create_row desc) m p).events ≡ p.events = ap (λ (events : List Event). events ++ p.events) (again_none (creates_uncovered m desc p.events)) in
    subst (λ (now : List Event). creates_covered m now ≡ true) same (dropped_is_covered (creates_covered m (begun_past true (task_create_row desc) m p).events) m (begun_past true (task_create_row desc) m p).events may)
drops_covered desc false m p all may =
    let now = (begun_past false (task_create_row desc) m p).events in
    drop_is_covered (creates_covered m p.events) p.terms.members m desc p.events (task_rules p.terms.members p.events all) refl (dropped_is_covered (creates_covered m now) m now may)

one_creation : (c : Bool) (m : ℕ) (h : List Event) (a b : Reply) → AnswersCreation c m h a → AnswersCreation c m h b → Same a b
one_creation true m h a b x y = inl (x ∙ sym y)
one_creation false m h a b x y = let t = newest_child (executed_task m h) h in one_creator (is_undeferred t h) m t h a b x y

some_creation : (c : Bool) (m : ℕ) (h : List Event) → ((reply : Reply) × CreatesTask m h reply) → (reply : Reply) × AnswersCreation c m h reply
some_creation true m h found = (Dropped, refl)
some_creation false m h found = found

creation_keeps : (members m : ℕ) (h : List Event) (reply : Reply) → m < members → AnswersCreation (creates_covered m h) m h reply → Always (TeamRule members) h → Always (TeamRule members) (starts_task m reply ++ h)
creation_keeps members m h reply lt may all =
    elim (answered_creation (creates_covered m h) m h reply may) [
      | inl e ↦ subst (λ (r : Reply). Always (TeamRule members) (starts_task m r ++ h)) (sym e.1) all
      | inr e ↦ let t = newest_child (executed_task m h) h in creator_keeps members (is_undeferred t h) m t h reply lt refl e.1 all
    ]

-- no refusal and no chunk
creator_not_refused : (held : Bool) (m t : ℕ) (h : List Event) (refusal : Refusal) → AnswersCreator held m t h (Refused refusal) → ⊥
creator_not_refused true m t h refusal may = may
creator_not_refused false m t h refusal may = cc

no_chunk : (held : Bool) (m t : ℕ) (h : List Event) (first : ℤ) (count : ℕ) → AnswersCreator held m t h (Chunk first count) → ⊥
no_chunk true m t h first count may = may
no_chunk false m t h first count may = cc

no_end : (held : Bool) (m t : ℕ) (h : List Event) (task : ℕ) (waiting : Bool) → AnswersCreator held m t h (TaskDone task waiting) → ⊥
no_end true m t h task waiting may = may
no_end false m t h task waiting may = cc

creator_answer : (m task code arg : ℕ) (own : Bool) (h : List Event) → Answer m h (Run task code arg own) → CreatorRuns m (newest_child (executed_task m h) h) task code arg own h
creator_answer m task code arg own h may =
    let t = newest_child (executed_task m h) h in creator_runs (is_undeferred t h) m t task code arg own h refl may

pub task_create_sound : (desc : TaskDesc) → IsSound (task_create_row desc)
task_create_sound desc = record {
  decided = λ m p a b x y. one_creation (creates_covered m p.events) m p.events a b x y;
  accepts = λ m p refusal may.
      let t = newest_child (executed_task m p.events) p.events in
      creator_not_refused (is_undeferred t p.events) m t p.events refusal (undropped_creation (creates_covered m p.events) m p.events (Refused refusal) refl may).1;
  answered = λ repeated m p ready all.
      let row = task_create_row desc in
      let h = (begun_past repeated row m p).events in
      let t = newest_child (executed_task m h) h in
      some_creation (creates_covered m h) m h
      (some_creator p.terms.members (is_undeferred t h) m t h (task_rules p.terms.members h (begun_rules row repeated m p ready (λ first. creation_begins desc m p first all) all)));
  counts = λ repeated m p first count ready all may.
      let h = (begun_past repeated (task_create_row desc) m p).events in
      let t = newest_child (executed_task m h) h in
      absurd (no_chunk (is_undeferred t h) m t h first count (undropped_creation (creates_covered m h) m h (Chunk first count) refl may).1);
  begins_own = λ m p. unless_own only_creates (creates_covered m p.events) m (creates m desc p.events) ((refl, refl), tt);
  gives_own = λ m p reply. started_own only_creates m reply;
  begins_keep = λ m p ready all. creation_begins desc m p ready all;
  gives_keep = λ repeated m p reply ready may all. creation_keeps p.terms.members m (begun_past repeated (task_create_row desc) m p).events reply ready.member may all;
  still = λ stays m p. absurd (cc);
  placed = λ stays m h. refl;
  outside = λ arrives m p fail. absurd (cc);
  tells = λ arrives m p reply may. absurd (cc);
  one_pass = λ arrives m p. absurd (cc);
  arrives_there = λ arrives m p. absurd (cc);
  waits_quietly = λ arrives m p. absurd (cc);
  lasts = λ repeated m p ready all may. outside_lasts ready refl (λ arrives. absurd (cc)) may;
  waits_for = λ key m p holds may. absurd (cc);
  tells_count = λ key repeated m count p holds ready all may. absurd (cc);
  runs = λ m p task code arg own may.
      let is = creator_answer m task code arg own p.events (undropped_creation (creates_covered m p.events) m p.events (Run task code arg own) refl may).1 in
      (refl, refl, is.undeferred, is.may, is.job, refl, λ e. (refl, (desc, refl), is.newest e));
  ends = λ m p task waiting may.
      let t = newest_child (executed_task m p.events) p.events in
      absurd (no_end (is_undeferred t p.events) m t p.events task waiting (undropped_creation (creates_covered m p.events) m p.events (TaskDone task waiting) refl may).1);
  created = λ repeated m p task ready may. (desc, refl, created_once desc repeated m task p ready may);
  cancelled = λ m p may.
      let t = newest_child (executed_task m p.events) p.events in
      absurd (creator_not_cancelled (is_undeferred t p.events) m t p.events (undropped_creation (creates_covered m p.events) m p.events Cancelled refl may).1);
  dropped = λ repeated m p ready all may. drops_covered desc repeated m p all may;
  allowed = λ cancels m p. absurd (cc);
  no_memory = λ m p. (refl, refl, refl, refl, λ repeated. refl);
  words_keep = λ puts repeated m p reply ready may all. absurd (cc);
}

-- End

one_end : (task : Task) (h : List Event) (a b : Reply) → EndsTask task h a → EndsTask task h b → Same a b
one_end (Explicit t) h a b x y = inl (x ∙ sym y)
one_end (Implicit m) h a b x y = absurd x

-- it is no other answer
end_is_done : {P : Type 0} (task : Task) (h : List Event) (reply : Reply) → EndsTask task h reply → ((t : ℕ) → task ≡ Explicit t → reply ≡ TaskDone t (not (is_undeferred t h)) → P) → P
end_is_done (Explicit t) h reply may then = then t refl may
end_is_done (Implicit m) h reply may then = absurd may

-- a call that ends a task is not repeated
ended_first : (repeated : Bool) (m : ℕ) (p : Past) → IsAdmittedMember task_end_row repeated m p → repeated ≡ false
ended_first false m p ready = refl
ended_first true m p ready =
    let on = ready.admitted.parts.waits refl in
    end_is_done (executed_task m on.0.events) on.0.events on.1 on.3 (λ t at done. absurd (not_both (goes_on on.1) on.2 (ap goes_on done)))

some_end : (task : Task) (h : List Event) → not (of_explicit (λ t. true) task) ≡ false → (reply : Reply) × EndsTask task h reply
some_end (Explicit t) h inside = (TaskDone t (not (is_undeferred t h)), refl)
some_end (Implicit m) h inside = absurd (cc)

done_own : (m : ℕ) (reply : Reply) → AreGiven quiet m reply (ends_task m reply)
done_own m (TaskDone task waiting) = ((refl, refl), tt)
done_own m _ = tt

done_keeps : (members m : ℕ) (h : List Event) (reply : Reply) → m < members → holds_critical (asker m h) h ≡ false → EndsTask (executed_task m h) h reply → Always (TeamRule members) h → Always (TeamRule members) (ends_task m reply ++ h)
done_keeps members m h (TaskDone task waiting) lt left may all =
    let current : executed_task m h ≡ Explicit task = end_is_done (executed_task m h) h (TaskDone task waiting) may (λ t at done. let same : task ≡ t = cc in rw same at) in
    (record { ends = record { member = lt; current = current }; names = record { left = left } }, all)
done_keeps members m h _ lt left may all = all

end_clean : (gives_up : Bool) (m : ℕ) (h : List Event) → memoryless (end_task_tests gives_up m h) ≡ true
end_clean true m h = refl
end_clean false m h = refl

pub task_end_sound : IsSound task_end_row
task_end_sound = record {
  decided = λ m p a b x y. one_end (executed_task m p.events) p.events a b x y;
  accepts = λ m p refusal may. end_is_done (executed_task m p.events) p.events (Refused refusal) may (λ t at done. cc);
  answered = λ repeated m p ready all. some_end (executed_task m p.events) p.events (by_task_fails ready.admitted.parts (ended_first repeated m p ready)).0;
  counts = λ repeated m p first count ready all may. end_is_done (executed_task m p.events) p.events (Chunk first count) may (λ t at done. absurd (cc));
  begins_own = λ m p. tt;
  gives_own = λ m p reply. done_own m reply;
  begins_keep = λ m p ready all. all;
  gives_keep = λ repeated m p reply ready may all. done_keeps p.terms.members m p.events reply ready.member (by_team_fails ready.admitted.book (ended_first repeated m p ready)).0 may all;
  still = λ stays m p. absurd (cc);
  placed = λ stays m h. refl;
  outside = λ arrives m p fail. absurd (cc);
  tells = λ arrives m p reply may. absurd (cc);
  one_pass = λ arrives m p. absurd (cc);
  arrives_there = λ arrives m p. absurd (cc);
  waits_quietly = λ arrives m p. absurd (cc);
  lasts = λ repeated m p ready all may. end_is_done (executed_task m p.events) p.events Wait may (λ t at done. absurd (cc));
  waits_for = λ key m p holds may. absurd (cc);
  tells_count = λ key repeated m count p holds ready all may. absurd (cc);
  runs = λ m p task code arg own may. end_is_done (executed_task m p.events) p.events (Run task code arg own) may (λ t at done. absurd (cc));
  ends = λ m p task waiting may.
      end_is_done (executed_task m p.events) p.events (TaskDone task waiting) may
      (λ t at done. let same : task ≡ t = cc in let again : waiting ≡ not (is_undeferred t p.events) = cc in (refl, rw same again, rw same at, refl, λ q. refl));
  created = λ repeated m p task ready may. end_is_done (executed_task m p.events) p.events (Created task) may (λ t at done. absurd (cc));
  cancelled = λ m p may. absurd (end_is_done (executed_task m p.events) p.events Cancelled may (λ t at done. absurd (cc)));
  dropped = λ repeated m p ready all may. absurd (end_is_done (executed_task m p.events) p.events Dropped may (λ t at done. absurd (cc)));
  allowed = λ cancels m p. absurd (cc);
  no_memory = λ m p. (refl, end_clean (leaves_task m p.events) m p.events, refl, refl, λ repeated. refl);
  words_keep = λ puts repeated m p reply ready may all. absurd (cc);
}

-- A wait for children

waited_own : (m : ℕ) (items : List Dep) (reply : Reply) → AreGiven quiet m reply (waited m items reply)
waited_own m items Passed = (refl, tt)
waited_own m items reply = started_own quiet m reply

waited_keeps : (members m : ℕ) (items : List Dep) (h : List Event) (reply : Reply) → m < members → AwaitsChildren m items h reply → Always (TeamRule members) h → Always (TeamRule members) (waited m items reply ++ h)
waited_keeps members m items h Passed lt may all = (record { member = lt; complete = may }, all)
waited_keeps members m items h reply lt may all = started_keeps members m (taskwait_met (executed_task m h) items h) h reply lt may all

pub taskwait_sound : (items : List Dep) → IsSound (taskwait_row items)
taskwait_sound items = record {
  decided = λ m p a b x y. one_await m (taskwait_met (executed_task m p.events) items p.events) p.events a b x y;
  accepts = λ m p refusal x. x;
  answered = λ repeated m p ready all. some_await p.terms.members m (taskwait_met (executed_task m p.events) items p.events) p.events (task_rules p.terms.members p.events all);
  counts = λ repeated m p first count ready all may. absurd may;
  begins_own = λ m p. tt;
  gives_own = λ m p reply. waited_own m items reply;
  begins_keep = λ m p ready all. all;
  gives_keep = λ repeated m p reply ready may all. waited_keeps p.terms.members m items p.events reply ready.member may all;
  still = λ stays m p. absurd (cc);
  placed = λ stays m h. refl;
  outside = λ arrives m p fail. absurd (cc);
  tells = λ arrives m p reply may. absurd (cc);
  one_pass = λ arrives m p. absurd (cc);
  arrives_there = λ arrives m p. absurd (cc);
  waits_quietly = λ arrives m p. absurd (cc);
  lasts = λ repeated m p ready all may. outside_lasts ready refl (λ arrives. absurd (cc)) may;
  waits_for = λ key m p holds may. absurd (cc);
  tells_count = λ key repeated m count p holds ready all may. absurd (cc);
  runs = λ m p task code arg own may. (refl, refl, startable_not_undeferred m task p.events may.2 ∙ sym may.1, startable_may_start m task p.events may.2, may.3, refl, λ e. absurd (let both = sym may.1 ∙ e in cc));
  ends = λ m p task waiting may. absurd may;
  created = λ repeated m p task ready may. absurd may;
  cancelled = λ m p may. absurd (may);
  dropped = λ repeated m p ready all may. absurd (may);
  allowed = λ cancels m p. absurd (cc);
  no_memory = λ m p. (refl, refl, refl, refl, λ repeated. refl);
  words_keep = λ puts repeated m p reply ready may all. absurd (cc);
}

-- Groups

opened_own : (m : ℕ) (h : List Event) (reply : Reply) → AreGiven quiet m reply (opens_group m h reply)
opened_own m h Finished = (refl, tt)
opened_own m h _ = tt

opened_keeps : (members m : ℕ) (h : List Event) (reply : Reply) → m < members → Always (TeamRule members) h → Always (TeamRule members) (opens_group m h reply ++ h)
opened_keeps members m h Finished lt all = (record { member = lt; number = refl }, all)
opened_keeps members m h _ lt all = all

pub group_start_sound : IsSound group_start_row
group_start_sound = record {
  decided = λ m p a b x y. inl (x ∙ sym y);
  accepts = λ m p refusal x. cc;
  answered = λ repeated m p ready all. (Finished, refl);
  counts = λ repeated m p first count ready all may. absurd (cc);
  begins_own = λ m p. tt;
  gives_own = λ m p reply. opened_own m p.events reply;
  begins_keep = λ m p ready all. all;
  gives_keep = λ repeated m p reply ready may all. opened_keeps p.terms.members m p.events reply ready.member all;
  still = λ stays m p. absurd (cc);
  placed = λ stays m h. refl;
  outside = λ arrives m p fail. absurd (cc);
  tells = λ arrives m p reply may. absurd (cc);
  one_pass = λ arrives m p. absurd (cc);
  arrives_there = λ arrives m p. absurd (cc);
  waits_quietly = λ arrives m p. absurd (cc);
  lasts = λ repeated m p ready all may. absurd (cc);
  waits_for = λ key m p holds may. absurd (cc);
  tells_count = λ key repeated m count p holds ready all may. absurd (cc);
  runs = λ m p task code arg own may. absurd (cc);
  ends = λ m p task waiting may. absurd (cc);
  created = λ repeated m p task ready may. absurd (cc);
  cancelled = λ m p may. absurd (cc);
  dropped = λ repeated m p ready all may. absurd (cc);
  allowed = λ cancels m p. absurd (cc);
  no_memory = λ m p. (refl, refl, refl, refl, λ repeated. refl);
  words_keep = λ puts repeated m p reply ready may all. absurd (cc);
}

first_own : (groups : List ℕ) (m : ℕ) → AreGiven quiet m Passed (ends_first groups m)
first_own [] m = tt
first_own (q ∷ outer) m = (refl, tt)

group_ended_own : (m : ℕ) (h : List Event) (reply : Reply) → AreGiven quiet m reply (ends_group m h reply)
group_ended_own m h Passed = first_own (open_groups (executed_task m h) h) m
group_ended_own m h reply = started_own quiet m reply

-- the last open group of the task may end once its tasks are complete
first_keeps : (members m : ℕ) (h : List Event) (groups : List ℕ) → m < members → open_groups (executed_task m h) h ≡ groups → last_complete groups h ≡ true → Always (TeamRule members) h → Always (TeamRule members) (ends_first groups m ++ h)
first_keeps members m h [] lt at complete all = all
first_keeps members m h (q ∷ outer) lt at complete all = (record { member = lt; outer = outer; last = at; complete = complete }, all)

group_ended_keeps : (members m : ℕ) (h : List Event) (reply : Reply) → m < members → AwaitsGroup m h reply → Always (TeamRule members) h → Always (TeamRule members) (ends_group m h reply ++ h)
group_ended_keeps members m h Passed lt may all = first_keeps members m h (open_groups (executed_task m h) h) lt refl may all
group_ended_keeps members m h reply lt may all = started_keeps members m (last_complete (open_groups (executed_task m h) h) h) h reply lt may all

pub group_end_sound : IsSound group_end_row
group_end_sound = record {
  decided = λ m p a b x y. one_await m (last_complete (open_groups (executed_task m p.events) p.events) p.events) p.events a b x y;
  accepts = λ m p refusal x. x;
  answered = λ repeated m p ready all. some_await p.terms.members m (last_complete (open_groups (executed_task m p.events) p.events) p.events) p.events (task_rules p.terms.members p.events all);
  counts = λ repeated m p first count ready all may. absurd may;
  begins_own = λ m p. tt;
  gives_own = λ m p reply. group_ended_own m p.events reply;
  begins_keep = λ m p ready all. all;
  gives_keep = λ repeated m p reply ready may all. group_ended_keeps p.terms.members m p.events reply ready.member may all;
  still = λ stays m p. absurd (cc);
  placed = λ stays m h. refl;
  outside = λ arrives m p fail. absurd (cc);
  tells = λ arrives m p reply may. absurd (cc);
  one_pass = λ arrives m p. absurd (cc);
  arrives_there = λ arrives m p. absurd (cc);
  waits_quietly = λ arrives m p. absurd (cc);
  lasts = λ repeated m p ready all may. outside_lasts ready refl (λ arrives. absurd (cc)) may;
  waits_for = λ key m p holds may. absurd (cc);
  tells_count = λ key repeated m count p holds ready all may. absurd (cc);
  runs = λ m p task code arg own may. (refl, refl, startable_not_undeferred m task p.events may.2 ∙ sym may.1, startable_may_start m task p.events may.2, may.3, refl, λ e. absurd (let both = sym may.1 ∙ e in cc));
  ends = λ m p task waiting may. absurd may;
  created = λ repeated m p task ready may. absurd may;
  cancelled = λ m p may. absurd (may);
  dropped = λ repeated m p ready all may. absurd (may);
  allowed = λ cancels m p. absurd (cc);
  no_memory = λ m p. (refl, refl, refl, refl, λ repeated. refl);
  words_keep = λ puts repeated m p reply ready may all. absurd (cc);
}
