-- What the states of a task forbid, of every member, task and list of events.
use Rattle.std.proofs.Common.{◌≡◌, ◌≢◌, ℕ, ◌<◌, true, false, List, ◌∷◌, ◌++◌, length, Some, None, slice_get, refl, ap, ◌∙◌, sym, subst, arith, inl}
use Rattle.std.specs.Prelude.{count_by, is_some}
use Rattle.gomp_events.specs.declared.event.Event.{Event}
use Rattle.gomp_events.specs.declared.event.Event.TheVariants as events
use Rattle.gomp_events.specs.declared.event.Event.TheVariants.{Create}
use Rattle.gomp_types.specs.declared.task.Task.{Task}
use Rattle.gomp_types.specs.declared.task.Task.TheVariants.{Implicit, Explicit}
use Rattle.gomp_types.specs.declared.task.TaskDesc.{TaskDesc}
use Rattle.gomp_events.specs.Tasks.{tasks_created, executed_task, has_started, is_complete, is_created, is_child, is_ancestor, is_undeferred, newest_child}
use Rattle.gomp_events.specs.Depends.{is_free}
use Rattle.gomp_events.specs.Laws.{Always, Happened}
use Rattle.gomp_events.specs.TaskRules.{TaskRule}
use Rattle.gomp_events.specs.TaskLaws.{IsCreated, IsTaskDone}
use Rattle.gomp_types.proofs.Booleans.{not_both, same_number, is_equal}
use Rattle.gomp_events.proofs.Suspended.{unstarted_is_fresh, startable_is_fresh, startable_is_free, one_runner}
use Rattle.gomp_events.proofs.TaskReadings.{newest_once_created, newest_of_no_other}
use Rattle.gomp_events.proofs.TaskEvents.{start_happened, gone_is_complete}
use Rattle.gomp_rows.specs.Rows.{row_no, HasRow}
use Rattle.gomp_tasks.specs.declared.rows.Newest.{Newest}
use Rattle.gomp_tasks.specs.declared.rows.TaskState.{TaskState}
use Rattle.gomp_tasks.specs.declared.rows.TaskState.TheVariants as states
use Rattle.gomp_tasks.specs.Rows.{NewestIs, Follows, is_started, is_over, runner_of}
use Rattle.gomp_tasks.specs.States.{State, InState, MovesTo, Precedes, kept_state}
use Rattle.gomp_tasks.specs.Stands.{TasksView, Stands, IsNumber, IsKept, IsTask, is_row_of_child, task_members, count_of}
use Rattle.gomp_tasks.specs.declared.rows.TaskRow.{TaskRow}
use Rattle.gomp_tasks.proofs.RowsAt.{passing_row_is_counted}
use Rattle.gomp_tasks.proofs.NewestKeep.{number_zero_is_deferred}
use Rattle.gomp_tasks.proofs.Laws.{tasks_keep_task_rule, executed_tasks_are_kept, parents_are_kept, tasks_without_a_row_are_complete, kept_tasks_have_numbers, complete_tasks_are_kept_for_a_child, created_tasks_have_numbers, numbers_are_of_created_tasks, states_move_forward, created_tasks_have_a_state, tasks_with_a_state_are_created, states_exclude_each_other, task_states_move, task_states_never_return, rows_keep_states}
use Rattle.gomp_tasks.proofs.StateMoves.{ended_by_runner, started_by_runner}

-- What follows in a row

-- a task that was started is never as if nobody had started it, nor discarded
pub started_never_unstarted : (old new : TaskState) → is_started old ≡ true → is_started new ≡ false → Follows old new → ⊥
started_never_unstarted states.Unstarted new on off follows = absurd (cc)
started_never_unstarted states.Discarded new on off follows = absurd (cc)
started_never_unstarted (states.Running m) states.Unstarted on off follows = follows
started_never_unstarted (states.Running m) states.Discarded on off follows = follows
started_never_unstarted (states.Done m) states.Unstarted on off follows = follows
started_never_unstarted (states.Done m) states.Discarded on off follows = follows
started_never_unstarted _ (states.Running n) on off follows = absurd (cc)
started_never_unstarted _ (states.Done n) on off follows = absurd (cc)

-- one that is complete stays so
pub complete_never_open : (old new : TaskState) → is_over old ≡ true → is_over new ≡ false → Follows old new → ⊥
complete_never_open states.Unstarted new over open' follows = absurd (cc)
complete_never_open (states.Running m) new over open' follows = absurd (cc)
complete_never_open (states.Done m) states.Unstarted over open' follows = follows
complete_never_open (states.Done m) (states.Running n) over open' follows = follows
complete_never_open states.Discarded states.Unstarted over open' follows = follows
complete_never_open states.Discarded (states.Running n) over open' follows = follows
complete_never_open _ (states.Done n) over open' follows = absurd (cc)
complete_never_open _ states.Discarded over open' follows = absurd (cc)

-- nobody ends one that nobody has started
pub unstarted_never_ended : (m : ℕ) → Follows states.Unstarted (states.Done m) → ⊥
unstarted_never_ended m follows = follows

-- nor one that was discarded
pub discarded_never_ended : (m : ℕ) → Follows states.Discarded (states.Done m) → ⊥
discarded_never_ended m follows = follows

-- no other member runs a task, or ends it
pub runner_never_changes : (m n : ℕ) (old new : TaskState) → runner_of old ≡ Some m → runner_of new ≡ Some n → (m ≡ n → ⊥) → Follows old new → ⊥
runner_never_changes m n states.Unstarted new one other differ follows = absurd (cc)
runner_never_changes m n states.Discarded new one other differ follows = absurd (cc)
runner_never_changes m n (states.Running k) (states.Running l) one other differ follows = differ (let a : k ≡ m = cc in let b : l ≡ n = cc in sym a ∙ follows ∙ b)
runner_never_changes m n (states.Running k) (states.Done l) one other differ follows = differ (let a : k ≡ m = cc in let b : l ≡ n = cc in sym a ∙ follows ∙ b)
runner_never_changes m n (states.Done k) (states.Running l) one other differ follows = follows
runner_never_changes m n (states.Done k) (states.Done l) one other differ follows = differ (let a : k ≡ m = cc in let b : l ≡ n = cc in sym a ∙ follows ∙ b)
runner_never_changes m n _ states.Unstarted one other differ follows = absurd (cc)
runner_never_changes m n _ states.Discarded one other differ follows = absurd (cc)

-- How states move

-- the five move as those that a row keeps, so all that was refused above is refused of them
pub moves_as_kept : (old new : State) → MovesTo old new → Follows (kept_state old) (kept_state new)
moves_as_kept State.Held State.Held moves = tt
moves_as_kept State.Held State.Ready moves = tt
moves_as_kept State.Held (State.Running n) moves = tt
moves_as_kept State.Ready State.Held moves = tt
moves_as_kept (State.Running m) State.Held moves = moves
moves_as_kept (State.Done m) State.Held moves = moves
moves_as_kept State.Discarded State.Held moves = moves
moves_as_kept old new moves = moves

-- and no task is started that waits for another
pub held_never_runs : (m : ℕ) → MovesTo State.Held (State.Running m) → ⊥
held_never_runs m moves = moves

-- none that is ready waits again
pub ready_never_held : MovesTo State.Ready State.Held → ⊥
ready_never_held moves = moves

-- no two states come after each other
pub states_never_alternate : (one other : State) → Precedes one other → Precedes other one → one ≡ other
states_never_alternate State.Held State.Held a b = refl
states_never_alternate State.Ready State.Ready a b = refl
states_never_alternate (State.Running m) (State.Running n) a b = ap State.Running a
states_never_alternate (State.Done m) (State.Done n) a b = ap State.Done a
states_never_alternate State.Discarded State.Discarded a b = refl
states_never_alternate State.Held State.Ready a b = absurd b
states_never_alternate State.Held (State.Running n) a b = absurd b
states_never_alternate State.Held (State.Done n) a b = absurd b
states_never_alternate State.Held State.Discarded a b = absurd b
states_never_alternate State.Ready (State.Running n) a b = absurd b
states_never_alternate State.Ready (State.Done n) a b = absurd b
states_never_alternate State.Ready State.Discarded a b = absurd b
states_never_alternate (State.Running m) (State.Done n) a b = absurd b
states_never_alternate one other a b = absurd a

-- the member that runs a task is the one that ends it, whenever that is
pub runner_ends_it : (m n : ℕ) → (m ≡ n → ⊥) → Precedes (State.Running m) (State.Done n) → ⊥
runner_ends_it m n differ precedes = differ precedes

-- nobody else runs it later, and nobody but the one that ended it ever did
pub runner_stays_the_same : (m n : ℕ) → (m ≡ n → ⊥) → (Precedes (State.Running m) (State.Running n) → ⊥) × (Precedes (State.Done m) (State.Done n) → ⊥)
runner_stays_the_same m n differ = (λ same. differ same, λ same. differ same)

-- no task that is done runs again, whoever runs it
pub done_never_runs_again : (m n : ℕ) → Precedes (State.Done m) (State.Running n) → ⊥
done_never_runs_again m n again = again

-- a task that runs or is done is never discarded, whatever happens later, and one that was discarded never runs
pub discarded_stays_alone : (m : ℕ) → (Precedes (State.Running m) State.Discarded → ⊥) × (Precedes (State.Done m) State.Discarded → ⊥) × (Precedes State.Discarded (State.Running m) → ⊥) × (Precedes State.Discarded (State.Done m) → ⊥)
discarded_stays_alone m = (λ is. is, λ is. is, λ is. is, λ is. is)

-- What is in which state

-- a task that waits for no other is not held, and one that waits for another is not ready
pub free_never_held : (t : ℕ) (h : List Event) → is_free t h ≡ true → InState t State.Held h → ⊥
free_never_held t h free is = not_both (is_free t h) free is.1

pub waiting_never_ready : (t : ℕ) (h : List Event) → is_free t h ≡ false → InState t State.Ready h → ⊥
waiting_never_ready t h waits is = not_both (is_free t h) is.1 waits

-- one that some member has started is neither
pub started_never_held : (t m : ℕ) (h : List Event) → Happened (events.Start t m) h → (InState t State.Held h → ⊥) × (InState t State.Ready h → ⊥)
started_never_held t m h start = (λ is. is.0.unstarted m start, λ is. is.0.unstarted m start)

-- one that is done is neither, and does not run
pub done_never_open : (t m : ℕ) (h : List Event) → IsTaskDone t h → (InState t State.Held h → ⊥) × (InState t State.Ready h → ⊥) × (InState t (State.Running m) h → ⊥)
done_never_open t m h done = (λ is. is.0.incomplete done, λ is. is.0.incomplete done, λ is. is.1 done)

-- one that was not created is in no state
pub uncreated_in_no_state : (members t : ℕ) (state : State) (h : List Event) → Always (TaskRule members) h → (IsCreated t h → ⊥) → InState t state h → ⊥
uncreated_in_no_state members t state h all never is = never (tasks_with_a_state_are_created members t state h all is)

-- nobody runs or has ended what this member has not started
pub runs_only_if_started : (t m : ℕ) (h : List Event) → (Happened (events.Start t m) h → ⊥) → (InState t (State.Running m) h → ⊥) × (InState t (State.Done m) h → ⊥)
runs_only_if_started t m h never = (λ is. never is.0, λ is. never is.0)

-- none is done that this member has not ended
pub done_only_if_ended : (t m : ℕ) (h : List Event) → (Happened (events.Done t m) h → ⊥) → InState t (State.Done m) h → ⊥
done_only_if_ended t m h never is = never is.1

-- none is discarded of which no discard happened
pub discarded_only_if_so : (t : ℕ) (h : List Event) → ((m : ℕ) → Happened (events.Discard t m) h → ⊥) → InState t State.Discarded h → ⊥
discarded_only_if_so t h never is = never is.0 is.1

-- no task that was created is in none
pub created_in_some_state : (members t : ℕ) (h : List Event) → Always (TaskRule members) h → IsCreated t h → ((state : State) → InState t state h → ⊥) → ⊥
created_in_some_state members t h all made none = let found = created_tasks_have_a_state members t h all made in none found.0 found.1

-- and none is in two
pub never_in_two_states : (members t : ℕ) (one other : State) (h : List Event) → Always (TaskRule members) h → (one ≡ other → ⊥) → InState t one h → InState t other h → ⊥
never_in_two_states members t one other h all differ a b = differ (states_exclude_each_other members t one other h all a b)

-- What may happen

-- no event takes a task to a state that does not follow
pub no_event_moves_otherwise : (members t : ℕ) (old new : State) (event : Event) (h : List Event) → Always (TaskRule members) (event ∷ h) → (MovesTo old new → ⊥) → InState t old h → InState t new (event ∷ h) → ⊥
no_event_moves_otherwise members t old new event h all never before after = never (task_states_move members t old new event h all before after)

-- nor do several
pub no_events_go_back : (members t : ℕ) (old new : State) (later h : List Event) → Always (TaskRule members) (later ++ h) → (Precedes old new → ⊥) → InState t old h → InState t new (later ++ h) → ⊥
no_events_go_back members t old new later h all never before after = never (task_states_never_return members t old new later h all before after)

-- no row goes back
pub no_row_goes_back : (old new : TasksView) (h : List Event) (event : Event) (t : ℕ) (row later : TaskRow) → Stands old h → Stands new (event ∷ h) → row_no old.rows t ≡ Some row → row_no new.rows t ≡ Some later → (Follows row.state later.state → ⊥) → ⊥
no_row_goes_back old new h event t row later before after at at_later never = never (states_move_forward old new h event t row later before after at at_later)

-- and none keeps another state
pub no_row_keeps_another_state : (tasks : TasksView) (h : List Event) (t : ℕ) (row : TaskRow) (state : State) → Stands tasks h → row_no tasks.rows t ≡ Some row → (row.state ≡ kept_state state → ⊥) → InState t state h → ⊥
no_row_keeps_another_state tasks h t row state st at differ is = differ (rows_keep_states tasks h t row state st at is)

-- no member starts a task that is held
pub held_task_never_started : (members t m : ℕ) (h : List Event) → TaskRule members (events.Start t m) h → InState t State.Held h → ⊥
held_task_never_started members t m h rule is = not_both (is_free t h) (startable_is_free m t h rule.may) is.1

-- nor one that was discarded
pub discarded_task_never_started : (members t m n : ℕ) (h : List Event) → Always (TaskRule members) (events.Start t m ∷ h) → Happened (events.Discard t n) h → ⊥
discarded_task_never_started members t m n h all gone = absurd (let open' = (startable_is_fresh m t h all.0.may).2 in not_both (is_complete t h) (gone_is_complete t n h gone) open')

-- no other member ends a task that runs
pub running_task_ended_by_its_member : (members t m n : ℕ) (h : List Event) → Always (TaskRule members) (events.Done t n ∷ h) → (m ≡ n → ⊥) → InState t (State.Running m) h → ⊥
running_task_ended_by_its_member members t m n h all differ is =
    differ (one_runner t m n (events.Done t n ∷ h) (started_by_runner members t m h all.1 is.0) (ended_by_runner members t n (events.Done t n ∷ h) all (inl refl)))

-- and no cancellation discards it
pub no_discard_of_a_running_task : (members t m n : ℕ) (h : List Event) → TaskRule members (events.Discard t n) h → InState t (State.Running m) h → ⊥
no_discard_of_a_running_task members t m n h rule is = not_both (has_started t h) (start_happened t m h is.0) (unstarted_is_fresh t h rule.unstarted).1

-- What tasks stand for

-- none for events that do not keep the rule of tasks
pub tasks_never_stand_against_the_rule : (tasks : TasksView) (h : List Event) → (Always (TaskRule (task_members tasks)) h → ⊥) → Stands tasks h → ⊥
tasks_never_stand_against_the_rule tasks h broken st = broken (tasks_keep_task_rule tasks h st)

-- no number is that of a task that was not created
pub never_a_number_of_no_task : (tasks : TasksView) (h : List Event) (t : ℕ) → Stands tasks h → IsNumber t tasks → is_created t h ≡ false → ⊥
never_a_number_of_no_task tasks h t st is never = not_both (is_created t h) (numbers_are_of_created_tasks tasks h t st is) never

-- Which tasks have a row

-- no more and no fewer have a number than were created
pub never_more_numbers_or_fewer : (tasks : TasksView) (h : List Event) → Stands tasks h → (count_of tasks ≡ tasks_created h → ⊥) → ⊥
never_more_numbers_or_fewer tasks h st differ = differ (sym st.count)

-- none that is not complete has none
pub open_task_never_loses_its_row : (tasks : TasksView) (h : List Event) (t : ℕ) → Stands tasks h → is_created t h ≡ true → is_complete t h ≡ false → row_no tasks.rows t ≡ None → ⊥
open_task_never_loses_its_row tasks h t st made open' none = not_both (is_complete t h) (tasks_without_a_row_are_complete tasks h t st made none) open'

-- so none that a member executes
pub executed_task_never_without_a_row : (tasks : TasksView) (h : List Event) (m t : ℕ) → m < task_members tasks → Stands tasks h → executed_task m h ≡ Explicit t → row_no tasks.rows t ≡ None → ⊥
executed_task_never_without_a_row tasks h m t member st top none =
    let is = subst (λ (p : Task). IsTask p tasks) top (executed_tasks_are_kept tasks h m member st) in
    let gone : HasRow tasks.rows t = is in absurd (let wrong : is_some {T = TaskRow} None ≡ true = rw none at gone in cc)

-- no complete one has one while no child of it has
pub complete_task_never_kept_for_none : (tasks : TasksView) (h : List Event) (t : ℕ) → Stands tasks h → IsKept t tasks → is_complete t h ≡ true → ((x : ℕ) → IsKept x tasks → is_child (Explicit t) x h ≡ true → ⊥) → ⊥
complete_task_never_kept_for_none tasks h t st is over none = let child = complete_tasks_are_kept_for_a_child tasks h t st is over in none child.0 child.1 child.2

-- none is kept whose number was not given
pub no_number_never_kept : (tasks : TasksView) (t : ℕ) → (IsNumber t tasks → ⊥) → IsKept t tasks → ⊥
no_number_never_kept tasks t never is = never (kept_tasks_have_numbers tasks t is)

-- none is kept without its parent
pub never_kept_without_its_parent : (tasks : TasksView) (h : List Event) (t : ℕ) (p : Task) → Stands tasks h → IsKept t tasks → is_child p t h ≡ true → (IsTask p tasks → ⊥) → ⊥
never_kept_without_its_parent tasks h t p st is child never = never (parents_are_kept tasks h t p st is child)

-- no row says that more children of its task have one, or fewer, than have
pub never_more_kept_children_or_fewer : (tasks : TasksView) (h : List Event) (t : ℕ) (row : TaskRow) → Stands tasks h → row_no tasks.rows t ≡ Some row → (count_by (is_row_of_child t) tasks.rows ≡ row.kept_children → ⊥) → ⊥
never_more_kept_children_or_fewer tasks h t row st at differ = differ (st.children t row at)

-- nor that none has, if its task is complete
pub complete_row_never_without_children : (tasks : TasksView) (h : List Event) (t : ℕ) (row : TaskRow) → Stands tasks h → row_no tasks.rows t ≡ Some row → is_complete t h ≡ true → row.kept_children ≡ 0 → ⊥
complete_row_never_without_children tasks h t row st at over none = absurd (let needed = st.needed t row at (sym (st.kept_row t row at).state.complete ∙ over) in omega (arith, needed, none))

-- and one of a child counts
pub kept_child_never_uncounted : (tasks : TasksView) (h : List Event) (t p : ℕ) (row above : TaskRow) → Stands tasks h → row_no tasks.rows t ≡ Some row → row.parent ≡ Explicit p → row_no tasks.rows p ≡ Some above → above.kept_children ≡ 0 → ⊥
kept_child_never_uncounted tasks h t p row above st at is at_p none =
    absurd (let some = passing_row_is_counted (is_row_of_child p) tasks.rows t row refl at (rw is (same_number p)) in let counted = st.children p above at_p in omega (arith, some, counted, none))

-- Which task is the newest

-- no other than the one that was created last
pub never_another_newest : (p : Task) (newest : Newest) (h : List Event) → NewestIs p newest h → (newest_child p h ≡ newest.task → ⊥) → ⊥
never_another_newest p newest h is differ = differ is.task

-- a task that is created is the newest in its parent, and changes nothing of another
pub created_task_is_the_newest : (t m : ℕ) (p : Task) (desc : TaskDesc) (newest : Newest) (h : List Event) → NewestIs p newest (Create t m p desc ∷ h) → (newest.task ≡ t → ⊥) → ⊥
created_task_is_the_newest t m p desc newest h is differ = differ (sym is.task ∙ newest_once_created t m p desc h)

pub no_other_task_has_it : (t m : ℕ) (p q : Task) (desc : TaskDesc) (old new : Newest) (h : List Event) → p ≢ q → NewestIs q old h → NewestIs q new (Create t m p desc ∷ h) → (new.task ≡ old.task → ⊥) → ⊥
no_other_task_has_it t m p q desc old new h apart before after differ = differ (sym after.task ∙ newest_of_no_other t m p q desc h apart ∙ before.task)

-- the newest is not noted as deferred if it is undeferred, nor the other way round
pub undeferred_never_noted_as_deferred : (p : Task) (newest : Newest) (h : List Event) → NewestIs p newest h → is_undeferred newest.task h ≡ true → newest.undeferred ≡ false → ⊥
undeferred_never_noted_as_deferred p newest h is on off = not_both (is_undeferred (newest_child p h) h) (ap (λ (t : ℕ). is_undeferred t h) is.task ∙ on) (is.undeferred ∙ off)

pub deferred_never_noted_as_undeferred : (p : Task) (newest : Newest) (h : List Event) → NewestIs p newest h → is_undeferred newest.task h ≡ false → newest.undeferred ≡ true → ⊥
deferred_never_noted_as_undeferred p newest h is off on = not_both (is_undeferred (newest_child p h) h) (is.undeferred ∙ on) (ap (λ (t : ℕ). is_undeferred t h) is.task ∙ off)

-- none is undeferred
pub none_never_undeferred : (members : ℕ) (p : Task) (newest : Newest) (h : List Event) → Always (TaskRule members) h → NewestIs p newest h → newest.task ≡ 0 → newest.undeferred ≡ true → ⊥
none_never_undeferred members p newest h all is none on = deferred_never_noted_as_undeferred p newest h is (ap (λ (t : ℕ). is_undeferred t h) none ∙ number_zero_is_deferred members h all) on

-- a row names no other implicit task above
pub row_never_names_another_root : (tasks : TasksView) (h : List Event) (t m : ℕ) (row : TaskRow) → Stands tasks h → row_no tasks.rows t ≡ Some row → is_ancestor (Implicit m) t h ≡ true → row.root ≢ m → ⊥
row_never_names_another_root tasks h t m row st at above apart = apart (is_equal row.root m (sym ((st.kept_row t row at).root m) ∙ above))

-- a row notes no other, and the implicit task of a member neither
pub row_never_notes_another : (tasks : TasksView) (h : List Event) (t : ℕ) (row : TaskRow) → Stands tasks h → row_no tasks.rows t ≡ Some row → (newest_child (Explicit t) h ≡ row.newest → ⊥) → ⊥
row_never_notes_another tasks h t row st at differ = differ (st.kept_row t row at).newest.task

pub root_never_notes_another : (tasks : TasksView) (h : List Event) (m : ℕ) (newest : Newest) → Stands tasks h → slice_get tasks.roots m ≡ Some newest → (newest_child (Implicit m) h ≡ newest.task → ⊥) → ⊥
root_never_notes_another tasks h m newest st at differ = differ (st.root m newest at).task

-- one is noted for each member, and no more
pub never_more_roots_or_fewer : (tasks : TasksView) (h : List Event) → Stands tasks h → (length tasks.roots ≡ task_members tasks → ⊥) → ⊥
never_more_roots_or_fewer tasks h st differ = differ st.members

-- no task that was created has a number past the last
pub never_created_past_the_last : (tasks : TasksView) (h : List Event) (t : ℕ) → Stands tasks h → is_created t h ≡ true → count_of tasks < t → ⊥
never_created_past_the_last tasks h t st made past = let number = created_tasks_have_numbers tasks h t st made in let low = number.1 in omega (arith, low, past)
