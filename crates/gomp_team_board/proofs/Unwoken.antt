-- No wake-up is missed by an operation that wakes nobody, save perhaps an arrival: whoever waits is answered to wait after it too, since what others give then is the start of a task, the creation of an undeferred one, the pass of a barrier, a taskwait, words, or a group that is opened or ended.
use Rattle.std.proofs.Common.{◌≡◌, ◌≢◌, ℕ, Bool, true, false, List, [], ◌∷◌, ◌++◌, refl, ap, sym, ◌∙◌, subst, ◌≤◌, suc, arith, inl, inr}
use Rattle.std.specs.Prelude.{◌&&◌, ◌||◌, ◌==◌, not, if◌then◌else◌, nat_le}
use Rattle.gomp_types.specs.declared.refusal.Refusal.{Refusal}
use Rattle.gomp_types.specs.declared.refusal.Refusal.TheVariants.{Mismatch}
use Rattle.gomp_types.specs.declared.refusal.Place.{Place}
use Rattle.gomp_types.specs.declared.reply.Reply.{Reply}
use Rattle.gomp_types.specs.declared.reply.Reply.TheVariants.{Finished, Passed, Wait, Cancelling, Run, TaskDone, Stopped, Refused}
use Rattle.gomp_types.specs.declared.task.Task.{Task}
use Rattle.gomp_types.specs.declared.task.Task.TheVariants.{Implicit, Explicit}
use Rattle.gomp_types.specs.declared.task.TaskDesc.{TaskDesc}
use Rattle.gomp_types.specs.declared.depend.Dep.{Dep}
use Rattle.gomp_types.specs.declared.cancel.Scope.{Scope}
use Rattle.gomp_types.specs.declared.cancel.Scope.TheVariants.{Region, OneGroup}
use Rattle.gomp_types.proofs.Booleans.{and_left, and_right, other_number, not_both, same_number, is_equal}
use Rattle.gomp_events.specs.declared.event.Event.{Event}
use Rattle.gomp_events.specs.declared.event.Event.TheVariants.{Start, Pass, Group, GroupEnd, Waited, Put as PutEvent, Got as GotEvent, Create as CreateEvent}
use Rattle.gomp_events.specs.declared.event.Tag.{Tag}
use Rattle.gomp_events.specs.Laws.{Always}
use Rattle.gomp_events.specs.TaskRules.{TaskRule}
use Rattle.std.proofs.lemmas.Bool.{cases_Bool}
use Rattle.gomp_types.specs.Members.{every_member}
use Rattle.gomp_types.specs.DependItems.{items_wait}
use Rattle.gomp_events.proofs.LaterTasks.{not_new, old_created}
use Rattle.gomp_events.proofs.TaskStacks.{each_same}
use Rattle.gomp_events.specs.Breaks.{refusal_gives}
use Rattle.gomp_events.specs.Events.{at_barrier, at_region_end, barriers_passed, has_left_region, all_arrived}
use Rattle.gomp_events.specs.Tasks.{is_created, has_started, is_complete, is_ancestor, task_stack, innermost_task, executed_task, newest_child, is_undeferred, same_task, contains, tasks_created, is_child, all_complete, epoch}
use Rattle.gomp_events.specs.Groups.{open_groups, groups_around, group_complete, in_group}
use Rattle.gomp_events.specs.Cancels.{was_cancelled, is_cancelled, some_cancelled, groups_over, groups_within, is_covered, would_be_covered}
use Rattle.gomp_events.specs.CancelCalls.{creates_covered, AnswersCreation, OrIsCancelled, CreatesOrDrops, unless_cancelled}
use Rattle.gomp_events.specs.Goals.{each_of, region_met, barrier_met, may_pass, taskwait_met, is_unstarted, is_ready, may_descend, may_start, some_startable, bound_complete, is_startable}
use Rattle.gomp_events.specs.Depends.{is_free, task_items, waits_for, child_waits}
use Rattle.gomp_events.specs.TaskCalls.{AwaitsTasks, AnswersCreator, last_complete, starts_task, waited, ends_first, ends_group, creates}
use Rattle.gomp_events.proofs.GoalReadings.{some_startable_once_one_is, some_startable_only_if_one_is, every_task_once_each, each_of_every_task, undeferred_never_startable}
use Rattle.gomp_events.proofs.Suspended.{Stacked, tasks_stacked, innermost_in_stack, one_runner, created_stays, current_open}
use Rattle.gomp_events.proofs.TaskReadings.{starts_of_others_stack_nothing, passes_of_others_move_nobody, pass_counts_for_no_other, group_opens_in_no_other, group_ends_in_no_other, creation_of_another_says_nothing, newest_of_no_other, newest_once_created}
use Rattle.gomp_board.specs.declared.op.Op.{Op}
use Rattle.gomp_board.specs.declared.op.Op.TheVariants.{Create, AwaitOwn, EndTask, Taskwait, AwaitChildren, OpenGroup, EndGroup, AwaitGroup, Arrive, AwaitBarrier, Reserve, Put, Got, Cancel, Point, Break}
use Rattle.gomp_board.specs.Ops.{begun, passes_barrier, op_begins, op_gives, op_after, op_place, goes_to_the_end, OpReply}
use Rattle.gomp_waits.specs.Waits.{resumes_wait}
use Rattle.gomp_team_board.specs.Shared.{wakes}

-- What the answer to a member that waits is made of

-- the event leaves all of it, of tasks that are old, save that less is met after it, and fewer tasks may be started
record Leaves (Old : ℕ → Type 0) (m : ℕ) (event : Event) (h : List Event) : Type 0 where
  pub scopes : (scope : Scope) → was_cancelled scope (event ∷ h) ≡ was_cancelled scope h
  pub at_end : at_region_end m (event ∷ h) ≡ at_region_end m h
  pub passes : (members : ℕ) → may_pass members m (event ∷ h) ≡ true → may_pass members m h ≡ true
  pub executed : executed_task m (event ∷ h) ≡ executed_task m h
  pub newest : newest_child (executed_task m h) (event ∷ h) ≡ newest_child (executed_task m h) h
  pub opened : open_groups (executed_task m h) (event ∷ h) ≡ open_groups (executed_task m h) h
  pub undeferred : (t : ℕ) → Old t → is_undeferred t (event ∷ h) ≡ is_undeferred t h
  pub around : (t : ℕ) → Old t → groups_around t (event ∷ h) ≡ groups_around t h
  pub unstarted : (t : ℕ) → Old t → is_unstarted t (event ∷ h) ≡ true → is_unstarted t h ≡ true
  pub free : (t : ℕ) → Old t → is_free t (event ∷ h) ≡ true → is_free t h ≡ true
  pub descends : (t : ℕ) → Old t → may_descend m t (event ∷ h) ≡ true → may_descend m t h ≡ true
  pub children : (p : Task) → taskwait_met p [] (event ∷ h) ≡ true → taskwait_met p [] h ≡ true
  pub named : (p : Task) (item : Dep) (items : List Dep) → taskwait_met p (item ∷ items) (event ∷ h) ≡ true → taskwait_met p (item ∷ items) h ≡ true
  pub complete : (q : ℕ) → group_complete q (event ∷ h) ≡ true → group_complete q h ≡ true
  -- old are its newest child, the task that it executes, and those that it may start
  pub own : Old (newest_child (executed_task m h) h)
  pub current : (t : ℕ) → executed_task m h ≡ Explicit t → Old t
  pub startable : (t : ℕ) → is_startable m t (event ∷ h) ≡ true → Old t

groups_cancelled : (Old : ℕ → Type 0) (m : ℕ) (qs : List ℕ) (event : Event) (h : List Event) → Leaves Old m event h → some_cancelled qs (event ∷ h) ≡ some_cancelled qs h
groups_cancelled Old m [] event h is = refl
groups_cancelled Old m (q ∷ qs) event h is = rw (is.scopes (OneGroup q), groups_cancelled Old m qs event h is) refl

either_as_before : (a b c d : Bool) → a ≡ c → b ≡ d → (a || b) ≡ (c || d)
either_as_before a b c d one other = rw (one, other) refl

covered_before : (Old : ℕ → Type 0) (m t : ℕ) (event : Event) (h : List Event) → Leaves Old m event h → Old t → is_covered t (event ∷ h) ≡ is_covered t h
covered_before Old m t event h is old =
    either_as_before _ _ _ _ (is.scopes Region) (ap (λ (qs : List ℕ). some_cancelled qs (event ∷ h)) (is.around t old) ∙ groups_cancelled Old m (groups_around t h) event h is)

groups_over_before : (Old : ℕ → Type 0) (m : ℕ) (p : Task) (event : Event) (h : List Event) → Leaves Old m event h → executed_task m h ≡ p → groups_over p (event ∷ h) ≡ groups_over p h
groups_over_before Old m (Implicit x) event h is at = refl
groups_over_before Old m (Explicit t) event h is at = is.around t (is.current t at)

within_before : (Old : ℕ → Type 0) (m : ℕ) (event : Event) (h : List Event) → Leaves Old m event h → groups_within (executed_task m h) (event ∷ h) ≡ groups_within (executed_task m h) h
within_before Old m event h is =
    ap (λ (qs : List ℕ). qs ++ groups_over (executed_task m h) (event ∷ h)) is.opened ∙ ap (λ (qs : List ℕ). open_groups (executed_task m h) h ++ qs) (groups_over_before Old m (executed_task m h) event h is refl)

covers_before : (Old : ℕ → Type 0) (m : ℕ) (event : Event) (h : List Event) → Leaves Old m event h → creates_covered m (event ∷ h) ≡ creates_covered m h
covers_before Old m event h is =
    ap (λ (p : Task). would_be_covered p (event ∷ h)) is.executed
    ∙ either_as_before _ _ _ _ (is.scopes Region)
    (ap (λ (qs : List ℕ). some_cancelled qs (event ∷ h)) (within_before Old m event h is) ∙ groups_cancelled Old m (groups_within (executed_task m h) h) event h is)

both_hold : (a b : Bool) → a ≡ true → b ≡ true → (a && b) ≡ true
both_hold a b one other = rw (one, other) refl

starts_before : (Old : ℕ → Type 0) (m t : ℕ) (event : Event) (h : List Event) → Leaves Old m event h → Old t → may_start m t (event ∷ h) ≡ true → may_start m t h ≡ true
starts_before Old m t event h is old may =
    let ready = and_left (is_ready t (event ∷ h)) (may_descend m t (event ∷ h)) may in
    let rest = and_right (is_unstarted t (event ∷ h)) (is_free t (event ∷ h) && not (is_covered t (event ∷ h))) ready in
    let unstarted = is.unstarted t old (and_left (is_unstarted t (event ∷ h)) (is_free t (event ∷ h) && not (is_covered t (event ∷ h))) ready) in
    let free = is.free t old (and_left (is_free t (event ∷ h)) (not (is_covered t (event ∷ h))) rest) in
    let uncovered = sym (ap (λ (b : Bool). not b) (covered_before Old m t event h is old)) ∙ and_right (is_free t (event ∷ h)) (not (is_covered t (event ∷ h))) rest in
    let below = is.descends t old (and_right (is_ready t (event ∷ h)) (may_descend m t (event ∷ h)) may) in
    both_hold (is_ready t h) (may_descend m t h) (both_hold (is_unstarted t h) (is_free t h && not (is_covered t h)) unstarted (both_hold (is_free t h) (not (is_covered t h)) free uncovered)) below

stays_false : (b c : Bool) → (b ≡ true → c ≡ true) → c ≡ false → b ≡ false
stays_false true c gives none = let both : true ≡ false = sym (gives refl) ∙ none in absurd (cc)
stays_false false c gives none = refl

none_startable : (Old : ℕ → Type 0) (m : ℕ) (event : Event) (h : List Event) → Leaves Old m event h → some_startable m h ≡ false → some_startable m (event ∷ h) ≡ false
none_startable Old m event h is none =
    stays_false (some_startable m (event ∷ h)) (some_startable m h)
    (λ some.
    (let found = some_startable_only_if_one_is m (event ∷ h) some in
    let t = found.0 in
    let old = is.startable t found.1 in
    let deferred = sym (ap (λ (b : Bool). not b) (is.undeferred t old)) ∙ and_left (not (is_undeferred t (event ∷ h))) (may_start m t (event ∷ h)) found.1 in
    let may = starts_before Old m t event h is old (and_right (not (is_undeferred t (event ∷ h))) (may_start m t (event ∷ h)) found.1) in
    some_startable_once_one_is m t h (both_hold (not (is_undeferred t h)) (may_start m t h) deferred may)))
    none

-- so whoever waits is answered to wait still

tasks_awaited : (Old : ℕ → Type 0) (m : ℕ) (met before : Bool) (event : Event) (h : List Event) → Leaves Old m event h → (met ≡ true → before ≡ true) → AwaitsTasks m before h Wait → AwaitsTasks m met (event ∷ h) Wait
tasks_awaited Old m met before event h is gives waits = (stays_false met before gives waits.0, none_startable Old m event h is waits.1)

barrier_awaited : (Old : ℕ → Type 0) (m : ℕ) (now before met goal : Bool) (event : Event) (h : List Event) → Leaves Old m event h → now ≡ before → (met ≡ true → goal ≡ true)
    → OrIsCancelled before (AwaitsTasks m goal h) Wait → OrIsCancelled now (AwaitsTasks m met (event ∷ h)) Wait
barrier_awaited Old m true true met goal event h is same passes waits = absurd (cc)
barrier_awaited Old m false false met goal event h is same passes waits = tasks_awaited Old m met goal event h is passes waits
barrier_awaited Old m true false met goal event h is same passes waits = absurd (cc)
barrier_awaited Old m false true met goal event h is same passes waits = absurd (cc)

creator_awaits : (Old : ℕ → Type 0) (m t : ℕ) (now before : Bool) (event : Event) (h : List Event) → Leaves Old m event h → Old t → now ≡ before → AnswersCreator before m t h Wait → AnswersCreator now m t (event ∷ h) Wait
creator_awaits Old m t true true event h is old same waits = tasks_awaited Old m (may_start m t (event ∷ h)) (may_start m t h) event h is (starts_before Old m t event h is old) waits
creator_awaits Old m t false false event h is old same waits = absurd (cc)
creator_awaits Old m t true false event h is old same waits = absurd (cc)
creator_awaits Old m t false true event h is old same waits = absurd (cc)

own_awaited : (Old : ℕ → Type 0) (m : ℕ) (now before : Bool) (event : Event) (h : List Event) → Leaves Old m event h → now ≡ before → AnswersCreation before m h Wait → AnswersCreation now m (event ∷ h) Wait
own_awaited Old m true true event h is same waits = absurd (cc)
own_awaited Old m true false event h is same waits = absurd (cc)
own_awaited Old m false true event h is same waits = absurd (cc)
own_awaited Old m false false event h is same waits =
    let after = newest_child (executed_task m (event ∷ h)) (event ∷ h) in
    let before = newest_child (executed_task m h) h in
    let one : after ≡ before = ap (λ (p : Task). newest_child p (event ∷ h)) is.executed ∙ is.newest in
    let undeferred : is_undeferred after (event ∷ h) ≡ is_undeferred before h = ap (λ (t : ℕ). is_undeferred t (event ∷ h)) one ∙ is.undeferred before is.own in
    subst (λ (t : ℕ). AnswersCreator (is_undeferred after (event ∷ h)) m t (event ∷ h) Wait) (sym one)
    (creator_awaits Old m before (is_undeferred after (event ∷ h)) (is_undeferred before h) event h is is.own undeferred waits)

last_before : (Old : ℕ → Type 0) (m : ℕ) (qs : List ℕ) (event : Event) (h : List Event) → Leaves Old m event h → last_complete qs (event ∷ h) ≡ true → last_complete qs h ≡ true
last_before Old m [] event h is met = met
last_before Old m (q ∷ outer) event h is met = is.complete q met

met_before : (Old : ℕ → Type 0) (m : ℕ) (p : Task) (items : List Dep) (event : Event) (h : List Event) → Leaves Old m event h → taskwait_met p items (event ∷ h) ≡ true → taskwait_met p items h ≡ true
met_before Old m p [] event h is met = is.children p met
met_before Old m p (item ∷ items) event h is met = is.named p item items met

-- the answer to wait stays
still_waits : (Old : ℕ → Type 0) (members m : ℕ) (wait : Op) (event : Event) (h : List Event) → Leaves Old m event h → resumes_wait wait ≡ true → OpReply members m wait h Wait → OpReply members m wait (event ∷ h) Wait
still_waits Old members m AwaitOwn event h is resumes waits = own_awaited Old m (creates_covered m (event ∷ h)) (creates_covered m h) event h is (covers_before Old m event h is) waits
still_waits Old members m (AwaitChildren items) event h is resumes waits =
    tasks_awaited Old m (taskwait_met (executed_task m (event ∷ h)) items (event ∷ h)) (taskwait_met (executed_task m h) items h) event h is
    (λ met. met_before Old m (executed_task m h) items event h is (sym (ap (λ (p : Task). taskwait_met p items (event ∷ h)) is.executed) ∙ met)) waits
still_waits Old members m AwaitGroup event h is resumes waits =
    tasks_awaited Old m (last_complete (open_groups (executed_task m (event ∷ h)) (event ∷ h)) (event ∷ h)) (last_complete (open_groups (executed_task m h) h) h) event h is
    (λ met.
    last_before Old m (open_groups (executed_task m h) h) event h is
    (sym (ap (λ (p : Task). last_complete (open_groups p (event ∷ h)) (event ∷ h)) is.executed ∙ ap (λ (qs : List ℕ). last_complete qs (event ∷ h)) is.opened) ∙ met))
    waits
still_waits Old members m AwaitBarrier event h is resumes waits =
    barrier_awaited Old m (goes_to_the_end m (event ∷ h)) (goes_to_the_end m h) (may_pass members m (event ∷ h)) (may_pass members m h) event h is
    (ap (λ (b : Bool). b && not (at_region_end m (event ∷ h))) (is.scopes Region) ∙ ap (λ (b : Bool). is_cancelled h && not b) is.at_end)
    (is.passes members) waits
still_waits Old members m _ event h is resumes waits = absurd (cc)

-- Events of others

-- they say nothing of the creation of a task: each is old
abbrev EachTask : ℕ → Type 0
EachTask t = Unit {0}

fewer_unstarted : (c x s n : Bool) → (c && (not (x || s) && n)) ≡ true → (c && (not s && n)) ≡ true
fewer_unstarted true false s n is = is
fewer_unstarted true true s n is = absurd (cc)
fewer_unstarted false x s n is = absurd (cc)

start_leaves_waits : (m k t : ℕ) (h : List Event) → k ≢ m → Leaves EachTask m (Start t k) h
start_leaves_waits m k t h differ = record {
  scopes = λ scope. refl;
  at_end = refl;
  passes = λ members may. may;
  executed = ap (innermost_task m) (starts_of_others_stack_nothing t m k h differ);
  newest = refl;
  undeferred = λ u old. refl;
  around = λ u old. refl;
  opened = refl;
  unstarted = λ u old is. fewer_unstarted (is_created u h) (t == u) (has_started u h) (not (is_complete u h)) is;
  free = λ u old is. is;
  descends = λ u old is. sym (ap (λ (ts : List ℕ). each_of (λ s. is_ancestor (Explicit s) u h) ts && (at_barrier m h || is_ancestor (Implicit m) u h)) (starts_of_others_stack_nothing t m k h differ)) ∙ is;
  children = λ p met. met;
  named = λ p item items met. met;
  complete = λ g met. met;
  own = tt;
  current = λ t is. tt;
  startable = λ t is. tt;
}

-- what a member may pass, if it has left the region or not, and has passed so many barriers
abbrev may_pass_at : ℕ → ℕ → List Event → Bool → ℕ → Bool
may_pass_at members m h left passed =
    if at_region_end m h then region_met members h && (if is_cancelled h then not left else barrier_met members passed h)
    else not (is_cancelled h) && barrier_met members passed h

left_region_before : (m k barrier : ℕ) (h : List Event) → k ≢ m → has_left_region m (Pass barrier k ∷ h) ≡ has_left_region m h
left_region_before m k barrier h differ = rw (other_number k m differ) refl

passed_before : (members m k barrier : ℕ) (h : List Event) → k ≢ m → may_pass members m (Pass barrier k ∷ h) ≡ may_pass members m h
passed_before members m k barrier h differ =
    ap (λ (left : Bool). may_pass_at members m h left (barriers_passed m (Pass barrier k ∷ h))) (left_region_before m k barrier h differ)
    ∙ ap (λ (passed : ℕ). may_pass_at members m h (has_left_region m h) passed) (pass_counts_for_no_other barrier m k h differ)

pass_leaves : (m k barrier : ℕ) (h : List Event) → k ≢ m → Leaves EachTask m (Pass barrier k) h
pass_leaves m k barrier h differ = record {
  scopes = λ scope. refl;
  at_end = refl;
  passes = λ members may. sym (passed_before members m k barrier h differ) ∙ may;
  executed = refl;
  newest = refl;
  undeferred = λ u old. refl;
  around = λ u old. refl;
  opened = refl;
  unstarted = λ u old is. is;
  free = λ u old is. is;
  descends = λ u old is. sym (ap (λ (b : Bool). each_of (λ s. is_ancestor (Explicit s) u h) (task_stack m h) && (b || is_ancestor (Implicit m) u h)) (passes_of_others_move_nobody barrier m k h differ)) ∙ is;
  children = λ p met. met;
  named = λ p item items met. met;
  complete = λ g met. met;
  own = tt;
  current = λ t is. tt;
  startable = λ t is. tt;
}

waited_leaves : (m k : ℕ) (items : List Dep) (h : List Event) → Leaves EachTask m (Waited k items) h
waited_leaves m k items h = record {
  scopes = λ scope. refl;
  at_end = refl;
  passes = λ members may. may;
  executed = refl;
  newest = refl;
  undeferred = λ u old. refl;
  around = λ u old. refl;
  opened = refl;
  unstarted = λ u old is. is;
  free = λ u old is. is;
  descends = λ u old is. is;
  children = λ p met. met;
  named = λ p item items met. met;
  complete = λ g met. met;
  own = tt;
  current = λ t is. tt;
  startable = λ t is. tt;
}

put_leaves : (m k share : ℕ) (words : List ℕ) (h : List Event) → Leaves EachTask m (PutEvent share k words) h
put_leaves m k share words h = record {
  scopes = λ scope. refl;
  at_end = refl;
  passes = λ members may. may;
  executed = refl;
  newest = refl;
  undeferred = λ u old. refl;
  around = λ u old. refl;
  opened = refl;
  unstarted = λ u old is. is;
  free = λ u old is. is;
  descends = λ u old is. is;
  children = λ p met. met;
  named = λ p item items met. met;
  complete = λ g met. met;
  own = tt;
  current = λ t is. tt;
  startable = λ t is. tt;
}

got_leaves : (m k share : ℕ) (words : List ℕ) (h : List Event) → Leaves EachTask m (GotEvent share k words) h
got_leaves m k share words h = record {
  scopes = λ scope. refl;
  at_end = refl;
  passes = λ members may. may;
  executed = refl;
  newest = refl;
  undeferred = λ u old. refl;
  around = λ u old. refl;
  opened = refl;
  unstarted = λ u old is. is;
  free = λ u old is. is;
  descends = λ u old is. is;
  children = λ p met. met;
  named = λ p item items met. met;
  complete = λ g met. met;
  own = tt;
  current = λ t is. tt;
  startable = λ t is. tt;
}

opened_leaves : (m k q : ℕ) (h : List Event) → executed_task k h ≢ executed_task m h → Leaves EachTask m (Group q k) h
opened_leaves m k q h differ = record {
  scopes = λ scope. refl;
  at_end = refl;
  passes = λ members may. may;
  executed = refl;
  newest = refl;
  undeferred = λ u old. refl;
  around = λ u old. refl;
  opened = group_opens_in_no_other q k (executed_task m h) h differ;
  unstarted = λ u old is. is;
  free = λ u old is. is;
  descends = λ u old is. is;
  children = λ p met. met;
  named = λ p item items met. met;
  complete = λ g met. met;
  own = tt;
  current = λ t is. tt;
  startable = λ t is. tt;
}

ended_leaves : (m k q : ℕ) (h : List Event) → executed_task k h ≢ executed_task m h → Leaves EachTask m (GroupEnd q k) h
ended_leaves m k q h differ = record {
  scopes = λ scope. refl;
  at_end = refl;
  passes = λ members may. may;
  executed = refl;
  newest = refl;
  undeferred = λ u old. refl;
  around = λ u old. refl;
  opened = group_ends_in_no_other q k (executed_task m h) h differ;
  unstarted = λ u old is. is;
  free = λ u old is. is;
  descends = λ u old is. is;
  children = λ p met. met;
  named = λ p item items met. met;
  complete = λ g met. met;
  own = tt;
  current = λ t is. tt;
  startable = λ t is. tt;
}

-- two members never execute one task

implicit_is_its_own : (m x : ℕ) (ts : List ℕ) → innermost_task m ts ≡ Implicit x → m ≡ x
implicit_is_its_own m x [] is = cc
implicit_is_its_own m x (t ∷ ts) is = absurd (cc)

two_execute_one : (k m : ℕ) (p : Task) (h : List Event) → Stacked h → executed_task k h ≡ p → executed_task m h ≡ p → k ≡ m
two_execute_one k m (Implicit x) h known one other = implicit_is_its_own k x (task_stack k h) one ∙ sym (implicit_is_its_own m x (task_stack m h) other)
two_execute_one k m (Explicit t) h known one other =
    one_runner t k m h ((known k).1 t (innermost_in_stack k t (task_stack k h) one)).2 ((known m).1 t (innermost_in_stack m t (task_stack m h) other)).2

others_execute_another : (members k m : ℕ) (h : List Event) → Always (TaskRule members) h → k ≢ m → executed_task k h ≢ executed_task m h
others_execute_another members k m h rule differ = λ same. differ (two_execute_one k m (executed_task m h) h (tasks_stacked members h rule) same refl)

-- What operations that wake nobody give with their replies

-- at most one event, and that one of these
abbrev GivesQuietly : ℕ → List Event → Type 0
GivesQuietly k [] = Unit {0}
GivesQuietly k (Start t j ∷ []) = j ≡ k
GivesQuietly k (Pass barrier j ∷ []) = j ≡ k
GivesQuietly k (Waited j items ∷ []) = Unit {0}
GivesQuietly k (Group q j ∷ []) = j ≡ k
GivesQuietly k (GroupEnd q j ∷ []) = j ≡ k
GivesQuietly k _ = ⊥

quiet_leaves : (members m k : ℕ) (wait : Op) (events h : List Event) → Always (TaskRule members) h → k ≢ m → GivesQuietly k events → resumes_wait wait ≡ true
    → OpReply members m wait h Wait → OpReply members m wait (events ++ h) Wait
quiet_leaves members m k wait [] h rule differ is resumes waits = waits
quiet_leaves members m k wait (Start t j ∷ []) h rule differ is resumes waits = still_waits EachTask members m wait (Start t j) h (start_leaves_waits m j t h (rw is differ)) resumes waits
quiet_leaves members m k wait (Pass barrier j ∷ []) h rule differ is resumes waits = still_waits EachTask members m wait (Pass barrier j) h (pass_leaves m j barrier h (rw is differ)) resumes waits
quiet_leaves members m k wait (Waited j items ∷ []) h rule differ is resumes waits = still_waits EachTask members m wait (Waited j items) h (waited_leaves m j items h) resumes waits
quiet_leaves members m k wait (Group q j ∷ []) h rule differ is resumes waits = still_waits EachTask members m wait (Group q j) h (opened_leaves m j q h (others_execute_another members j m h rule (rw is differ))) resumes waits
quiet_leaves members m k wait (GroupEnd q j ∷ []) h rule differ is resumes waits = still_waits EachTask members m wait (GroupEnd q j) h (ended_leaves m j q h (others_execute_another members j m h rule (rw is differ))) resumes waits
quiet_leaves members m k wait _ h rule differ is resumes waits = absurd is

quiet_start : (k : ℕ) (reply : Reply) → GivesQuietly k (starts_task k reply)
quiet_start k (Run task code arg own) = refl
quiet_start k _ = tt

quiet_group_end : (qs : List ℕ) (k : ℕ) → GivesQuietly k (ends_first qs k)
quiet_group_end [] k = tt
quiet_group_end (q ∷ outer) k = refl

quiet_pass : (k : ℕ) (h : List Event) (reply : Reply) → GivesQuietly k (passes_barrier k h reply)
quiet_pass k h Passed = refl
quiet_pass k h (Run task code arg own) = refl
quiet_pass k h _ = tt

quiet_taskwait : (k : ℕ) (items : List Dep) (reply : Reply) → GivesQuietly k (waited k items reply)
quiet_taskwait k items Passed = tt
quiet_taskwait k items (Run task code arg own) = refl
quiet_taskwait k items _ = tt

quiet_group : (k : ℕ) (h : List Event) (reply : Reply) → GivesQuietly k (ends_group k h reply)
quiet_group k h Passed = quiet_group_end (open_groups (executed_task k h) h) k
quiet_group k h (Run task code arg own) = refl
quiet_group k h _ = tt

gives_quietly : (k : ℕ) (op : Op) (h : List Event) (reply : Reply) → wakes op reply ≡ false → GivesQuietly k (op_gives k op h reply)
gives_quietly k (Create desc) h reply asleep = quiet_start k reply
gives_quietly k AwaitOwn h reply asleep = quiet_start k reply
gives_quietly k (EndTask leaving) h (TaskDone task waiting) asleep = absurd (cc)
gives_quietly k (EndTask leaving) h _ asleep = tt
gives_quietly k (Taskwait items) h reply asleep = quiet_taskwait k items reply
gives_quietly k (AwaitChildren items) h reply asleep = quiet_taskwait k items reply
gives_quietly k OpenGroup h Finished asleep = refl
gives_quietly k OpenGroup h _ asleep = tt
gives_quietly k EndGroup h reply asleep = quiet_group k h reply
gives_quietly k AwaitGroup h reply asleep = quiet_group k h reply
gives_quietly k (Arrive tag leaving) h reply asleep = quiet_pass k h reply
gives_quietly k AwaitBarrier h reply asleep = quiet_pass k h reply
gives_quietly k (Reserve more) h reply asleep = tt
gives_quietly k (Put share words) h reply asleep = tt
gives_quietly k (Got share words) h reply asleep = tt
gives_quietly k (Cancel named true allowed) h (Cancelling true) asleep = absurd (cc)
gives_quietly k (Cancel named false allowed) h (Cancelling true) asleep = tt
gives_quietly k (Cancel named clause allowed) h _ asleep = tt
gives_quietly k (Point named allowed) h reply asleep = tt
gives_quietly k (Break place back) h Stopped asleep = absurd (cc)
gives_quietly k (Break place back) h _ asleep = tt

refusal_gives_nothing : (op : Op) (refusal : Refusal) (k : ℕ) (place : Place) → wakes op (Refused refusal) ≡ false → refusal_gives refusal k place ≡ []
refusal_gives_nothing op Mismatch k place asleep = absurd (cc)
refusal_gives_nothing op _ k place asleep = refl

-- Whoever waits

after_its_reply : (members m k : ℕ) (op wait : Op) (reply : Reply) (h : List Event) → Always (TaskRule members) h → k ≢ m → op_begins k op h ≡ [] → wakes op reply ≡ false → resumes_wait wait ≡ true
    → OpReply members m wait h Wait → OpReply members m wait (op_gives k op (begun k op h) reply ++ begun k op h) Wait
after_its_reply members m k op wait reply h rule differ none asleep resumes waits =
    subst (λ (es : List Event). OpReply members m wait (op_gives k op (es ++ h) reply ++ (es ++ h)) Wait) (sym none)
    (quiet_leaves members m k wait (op_gives k op h reply) h rule differ (gives_quietly k op h reply asleep) resumes waits)

answered_quietly : (members m k : ℕ) (op wait : Op) (reply : Reply) (h : List Event) → Always (TaskRule members) h → k ≢ m → ((desc : TaskDesc) → op ≢ Create desc) → ((tag : Tag) (leaving : Bool) → op ≢ Arrive tag leaving)
    → wakes op reply ≡ false → resumes_wait wait ≡ true → OpReply members m wait h Wait → OpReply members m wait (op_gives k op (begun k op h) reply ++ begun k op h) Wait
answered_quietly members m k (Create desc) wait reply h rule differ creates arrives asleep resumes waits = absurd (creates desc refl)
answered_quietly members m k (Arrive tag leaving) wait reply h rule differ creates arrives asleep resumes waits = absurd (arrives tag leaving refl)
answered_quietly members m k (Put share words) wait reply h rule differ creates arrives asleep resumes waits = still_waits EachTask members m wait (PutEvent share k words) h (put_leaves m k share words h) resumes waits
answered_quietly members m k (Got share words) wait reply h rule differ creates arrives asleep resumes waits = still_waits EachTask members m wait (GotEvent share k words) h (got_leaves m k share words h) resumes waits
answered_quietly members m k op wait reply h rule differ creates arrives asleep resumes waits = after_its_reply members m k op wait reply h rule differ refl asleep resumes waits

-- an operation of another member that wakes nobody, and is no creation or arrival, leaves its answer: to wait
pub unwoken_waits_on : (members m k : ℕ) (op wait : Op) (reply : Reply) (h : List Event) → Always (TaskRule members) h → k ≢ m → ((desc : TaskDesc) → op ≢ Create desc) → ((tag : Tag) (leaving : Bool) → op ≢ Arrive tag leaving)
    → wakes op reply ≡ false → resumes_wait wait ≡ true → OpReply members m wait h Wait → OpReply members m wait (op_after k op reply h) Wait
unwoken_waits_on members m k op wait (Refused refusal) h rule differ creates arrives asleep resumes waits =
    subst (λ (es : List Event). OpReply members m wait (es ++ h) Wait) (sym (refusal_gives_nothing op refusal k (op_place k op h) asleep)) waits
unwoken_waits_on members m k op wait reply h rule differ creates arrives asleep resumes waits = answered_quietly members m k op wait reply h rule differ creates arrives asleep resumes waits

-- A creation

-- the task that is created is not old, the others are
abbrev IsOlder : ℕ → ℕ → Type 0
IsOlder new t = (new == t) ≡ false

newest_is_low : (members : ℕ) (p : Task) (h : List Event) → Always (TaskRule members) h → newest_child p h ≤ tasks_created h
newest_is_low members p [] rule = omega arith
newest_is_low members p (CreateEvent t m q desc ∷ h) rule =
    let number = rule.0.number in
    let low = newest_is_low members p h rule.1 in
    elim (cases_Bool (same_task q p)) [ inl here ↦ rw here (omega (arith, number)) | inr other ↦ rw other (omega (arith, low)) ]
newest_is_low members p (_ ∷ h) rule = newest_is_low members p h rule.1

older_differs : (new t : ℕ) → IsOlder new t → new ≢ t
older_differs new t old = λ same. not_both (new == t) (rw same (same_number t)) old

-- what is complete after it was complete before
less_complete : (test after : ℕ → Bool) (new k : ℕ) (p : Task) (desc : TaskDesc) (h : List Event) → ((t : ℕ) → is_created t h ≡ true → after t ≡ test t)
    → all_complete after (CreateEvent new k p desc ∷ h) ≡ true → all_complete test h ≡ true
less_complete test after new k p desc h same whole =
    every_task_once_each (λ t. not (test t) || is_complete t h) h
    (λ t made. subst (λ (b : Bool). (not b || is_complete t h) ≡ true) (same t made) (each_of_every_task (λ u. not (after u) || is_complete u (CreateEvent new k p desc ∷ h)) t (CreateEvent new k p desc ∷ h) whole (created_stays t h made)))

less_passed : (e c l r all a before b earlier : Bool) → (a ≡ true → before ≡ true) → (b ≡ true → earlier ≡ true)
    → (if e then (r && a) && (if c then not l else all && b) else not c && (all && b)) ≡ true → (if e then (r && before) && (if c then not l else all && earlier) else not c && (all && earlier)) ≡ true
less_passed true true l r all a before b earlier one other is =
    let first = and_left (r && a) (not l) is in
    both_hold (r && before) (not l) (both_hold r before (and_left r a first) (one (and_right r a first))) (and_right (r && a) (not l) is)
less_passed true false l r all a before b earlier one other is =
    let first = and_left (r && a) (all && b) is in
    let second = and_right (r && a) (all && b) is in
    both_hold (r && before) (all && earlier) (both_hold r before (and_left r a first) (one (and_right r a first))) (both_hold all earlier (and_left all b second) (other (and_right all b second)))
less_passed false true l r all a before b earlier one other is = absurd (cc)
less_passed false false l r all a before b earlier one other is = both_hold all earlier (and_left all b is) (other (and_right all b is))

creation_leaves : (members m k new : ℕ) (p : Task) (desc : TaskDesc) (h : List Event) → Always (TaskRule members) h → new ≡ suc (tasks_created h) → p ≢ executed_task m h
    → is_undeferred new (CreateEvent new k p desc ∷ h) ≡ true → Leaves (IsOlder new) m (CreateEvent new k p desc) h
creation_leaves members m k new p desc h rule number differ undeferred =
    let g = CreateEvent new k p desc ∷ h in
    let old : (t : ℕ) → is_created t h ≡ true → IsOlder new t = λ t made. not_new t new h made number in
    record {
      scopes = λ scope. refl;
      at_end = refl;
      passes = λ count may.
          less_passed (at_region_end m h) (is_cancelled h) (has_left_region m h) (every_member count (λ x. at_region_end x h)) (all_arrived count (barriers_passed m h) h)
          (all_complete (λ t. true) g) (all_complete (λ t. true) h) (bound_complete (barriers_passed m h) g) (bound_complete (barriers_passed m h) h)
          (λ whole. less_complete (λ t. true) (λ t. true) new k p desc h (λ t made. refl) whole)
          (λ whole. less_complete (λ t. nat_le (epoch t h) (barriers_passed m h)) (λ t. nat_le (epoch t g) (barriers_passed m h)) new k p desc h (λ t made. ap (λ (e : ℕ). nat_le e (barriers_passed m h)) (creation_of_another_says_nothing t new k p desc h (older_differs new t (old t made))).4) whole)
          may;
      executed = refl;
      newest = newest_of_no_other new k p (executed_task m h) desc h differ;
      opened = refl;
      undeferred = λ t is. (creation_of_another_says_nothing t new k p desc h (older_differs new t is)).3;
      around = λ t is. (creation_of_another_says_nothing t new k p desc h (older_differs new t is)).8;
      unstarted = λ t is fresh.
          both_hold (is_created t h) (not (has_started t h) && not (is_complete t h)) (old_created t new h number is (and_left (is_created t g) (not (has_started t h) && not (is_complete t h)) fresh)) (and_right (is_created t g) (not (has_started t h) && not (is_complete t h)) fresh);
      free = λ t is whole. less_complete (λ q. waits_for t q h) (λ q. waits_for t q g) new k p desc h (λ q made. (creation_of_another_says_nothing t new k p desc h (older_differs new t is)).7 q) whole;
      descends = λ t is below.
          both_hold (each_of (λ s. is_ancestor (Explicit s) t h) (task_stack m h)) (at_barrier m h || is_ancestor (Implicit m) t h)
          (each_same (λ s. is_ancestor (Explicit s) t g) (λ s. is_ancestor (Explicit s) t h) (task_stack m h) (λ s. sym ((creation_of_another_says_nothing t new k p desc h (older_differs new t is)).1 (Explicit s)))
          (and_left (each_of (λ s. is_ancestor (Explicit s) t g) (task_stack m h)) (at_barrier m h || is_ancestor (Implicit m) t g) below))
          (subst (λ (b : Bool). (at_barrier m h || b) ≡ true) ((creation_of_another_says_nothing t new k p desc h (older_differs new t is)).1 (Implicit m))
          (and_right (each_of (λ s. is_ancestor (Explicit s) t g) (task_stack m h)) (at_barrier m h || is_ancestor (Implicit m) t g) below));
      children = λ q met. less_complete (λ t. is_child q t h) (λ t. is_child q t g) new k p desc h (λ t made. (creation_of_another_says_nothing t new k p desc h (older_differs new t (old t made))).0 q) met;
      named = λ q item items met.
          less_complete (λ t. child_waits q (item ∷ items) t h) (λ t. child_waits q (item ∷ items) t g) new k p desc h
          (λ t made.
          ap (λ (b : Bool). b && items_wait (item ∷ items) (task_items t g)) ((creation_of_another_says_nothing t new k p desc h (older_differs new t (old t made))).0 q)
          ∙ ap (λ (ds : List Dep). is_child q t h && items_wait (item ∷ items) ds) (creation_of_another_says_nothing t new k p desc h (older_differs new t (old t made))).6)
          met;
      complete = λ q met. less_complete (λ t. in_group q t h) (λ t. in_group q t g) new k p desc h (λ t made. ap (λ (qs : List ℕ). contains q qs) (creation_of_another_says_nothing t new k p desc h (older_differs new t (old t made))).8) met;
      own = let low = newest_is_low members (executed_task m h) h rule in other_number new (newest_child (executed_task m h) h) (λ is. omega (arith, number, low, is));
      current = λ t at. old t (current_open members m t h rule at).0;
      startable = λ t is. elim (cases_Bool (new == t)) [
        | inl at ↦ absurd (not_both (is_startable m t g) is (subst (λ (u : ℕ). is_startable m u g ≡ false) (is_equal new t at) (undeferred_never_startable m new g undeferred)))
        | inr other ↦ other
      ];
    }

start_waits : (members m k : ℕ) (wait : Op) (reply : Reply) (h : List Event) → k ≢ m → resumes_wait wait ≡ true → OpReply members m wait h Wait → OpReply members m wait (starts_task k reply ++ h) Wait
start_waits members m k wait (Run task code arg own) h differ resumes waits = still_waits EachTask members m wait (Start task k) h (start_leaves_waits m k task h differ) resumes waits
start_waits members m k wait _ h differ resumes waits = waits

-- its creator is not told whether others may execute it, unless it is undeferred
undeferred_if_unwoken : (undeferred : Bool) (desc : TaskDesc) (k t : ℕ) (h : List Event) (reply : Reply) → AnswersCreator undeferred k t h reply → wakes (Create desc) reply ≡ false → undeferred ≡ true
undeferred_if_unwoken true desc k t h reply answer asleep = refl
undeferred_if_unwoken false desc k t h reply answer asleep = absurd (let woken = rw answer at asleep in cc)

-- it is reached by a cancellation just if it would have been
more_cancelled_by_none : (qs : List ℕ) (new k : ℕ) (p : Task) (desc : TaskDesc) (h : List Event) → some_cancelled qs (CreateEvent new k p desc ∷ h) ≡ some_cancelled qs h
more_cancelled_by_none [] new k p desc h = refl
more_cancelled_by_none (q ∷ qs) new k p desc h = ap (λ (b : Bool). was_cancelled (OneGroup q) h || b) (more_cancelled_by_none qs new k p desc h)

over_its_creator : (members k new : ℕ) (q p : Task) (desc : TaskDesc) (h : List Event) → Always (TaskRule members) h → new ≡ suc (tasks_created h) → executed_task k h ≡ q → groups_over q (CreateEvent new k p desc ∷ h) ≡ groups_over q h
over_its_creator members k new (Implicit x) p desc h rule number at = refl
over_its_creator members k new (Explicit t) p desc h rule number at = (creation_of_another_says_nothing t new k p desc h (older_differs new t (not_new t new h (current_open members k t h rule at).0 number))).8

covers_its_creator : (members k new : ℕ) (p : Task) (desc : TaskDesc) (h : List Event) → Always (TaskRule members) h → new ≡ suc (tasks_created h) → creates_covered k (CreateEvent new k p desc ∷ h) ≡ creates_covered k h
covers_its_creator members k new p desc h rule number =
    ap (λ (qs : List ℕ). is_cancelled h || some_cancelled (open_groups (executed_task k h) h ++ qs) (CreateEvent new k p desc ∷ h)) (over_its_creator members k new (executed_task k h) p desc h rule number refl)
    ∙ ap (λ (b : Bool). is_cancelled h || b) (more_cancelled_by_none (groups_within (executed_task k h) h) new k p desc h)

created_undeferred : (members k : ℕ) (desc : TaskDesc) (reply : Reply) (h : List Event) → Always (TaskRule members) h → creates_covered k h ≡ false
    → CreatesOrDrops k (creates k desc h ++ h) reply → wakes (Create desc) reply ≡ false → is_undeferred (suc (tasks_created h)) (creates k desc h ++ h) ≡ true
created_undeferred members k desc reply h rule uncovered answer asleep =
    let new = suc (tasks_created h) in
    let p = executed_task k h in
    let g = CreateEvent new k p desc ∷ h in
    let same = covers_its_creator members k new p desc h rule refl ∙ uncovered in
    let created = subst (λ (b : Bool). AnswersCreation b k g reply) same answer in
    let newest = newest_once_created new k p desc h in
    subst (λ (t : ℕ). is_undeferred t g ≡ true) newest (undeferred_if_unwoken (is_undeferred (newest_child p g) g) desc k (newest_child p g) g reply created asleep)

-- the creation of a task by another member, if it wakes nobody, leaves the answer of a member that waits: to wait
pub unwoken_by_a_creation : (members m k : ℕ) (desc : TaskDesc) (wait : Op) (reply : Reply) (h : List Event) → Always (TaskRule members) h → k ≢ m
    → OpReply members k (Create desc) (begun k (Create desc) h) reply → wakes (Create desc) reply ≡ false → resumes_wait wait ≡ true → OpReply members m wait h Wait
    → OpReply members m wait (op_gives k (Create desc) (begun k (Create desc) h) reply ++ begun k (Create desc) h) Wait
unwoken_by_a_creation members m k desc wait reply h rule differ answer asleep resumes waits = by (creates_covered k h) refl answer
  where
    by : (b : Bool) → creates_covered k h ≡ b → CreatesOrDrops k (unless_cancelled b (creates k desc h) ++ h) reply → OpReply members m wait (starts_task k reply ++ (unless_cancelled b (creates k desc h) ++ h)) Wait
    by true covered answered = start_waits members m k wait reply h differ resumes waits
    by false uncovered answered =
        start_waits members m k wait reply (creates k desc h ++ h) differ resumes
        (still_waits (IsOlder (suc (tasks_created h))) members m wait (CreateEvent (suc (tasks_created h)) k (executed_task k h) desc) h
        (creation_leaves members m k (suc (tasks_created h)) (executed_task k h) desc h rule refl (others_execute_another members k m h rule differ) (created_undeferred members k desc reply h rule uncovered answered asleep))
        resumes waits)
