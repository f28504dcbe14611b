-- A board after an event: for what it stands, and that it is a board then.
use Rattle.std.proofs.Common.{◌≡◌, ℕ, ◌+◌, ◌<◌, ◌≤◌, true, false, List, [], ◌∷◌, ◌++◌, length, refl, ap, ◌∙◌, sym, subst, arith, suc, zero}
use Rattle.std.specs.Prelude.{reverse, sum, slice_index_or, slice_set, Result, Ok, Err, OnOk, OnErr, IsOk, IsErr, is_err}
use Rattle.gomp_types.specs.declared.task.Task.{Task}
use Rattle.gomp_types.specs.declared.task.TaskDesc.{TaskDesc}
use Rattle.gomp_events.specs.declared.event.Event.{Event}
use Rattle.gomp_events.specs.declared.event.Event.TheVariants.{Create, Start}
use Rattle.gomp_events.specs.Tasks.{tasks_created, executed_task}
use Rattle.gomp_events.specs.Cancels.{would_be_covered}
use Rattle.gomp_events.specs.CancelCalls.{creates_covered}
use Rattle.gomp_events.specs.Events.{clash_of}
use Rattle.gomp_events.specs.Goals.{may_start}
use Rattle.gomp_events.specs.Laws.{Always}
use Rattle.gomp_events.specs.TaskRules.{TaskRule}
use Rattle.gomp_scheduler.specs.Schedulers.{SchedulerView, Stands as SchedulerStands, SchedulerHasMembers as SchedulerHas, HasGrown, AreSealed, scheduler_members}
use Rattle.gomp_scheduler.specs.Startable.{MayStartOwn}
use Rattle.gomp_board.specs.Stored.{is_stored}
use Rattle.gomp_board.specs.Owed.{owed}
use Rattle.gomp_board.specs.Boards.{BoardView, Stands, HasMembers, IsBoard, IsSame, members_of}
use Rattle.gomp_board.proofs.OwedKeeps.{start_owes}
use Rattle.gomp_board.proofs.PayloadsKeep.{IsNoPut, payloads_stay}
use Rattle.gomp_board.proofs.RoomKeeps.{room_with}
use Rattle.gomp_board.proofs.Sealed.{sealed_aside, sealed_created}
use Rattle.gomp_board.proofs.StoredKeeps.{stored_with, history_after}

-- As a board is seen

-- what stands for a list stands for it under an equal view
pub stands_too : (view now : BoardView) (h : List Event) → view ≡ now → Stands now h → Stands view h
stands_too view now h e st = subst (λ (v : BoardView). Stands v h) (sym e) st

pub stands_now : (view now : BoardView) (h : List Event) → view ≡ now → Stands view h → Stands now h
stands_now view now h e st = subst (λ (v : BoardView). Stands v h) e st

pub own_history_stands : (view now : BoardView) → view ≡ now → Stands view (reverse view.history) → Stands now (reverse now.history)
own_history_stands view now e st = subst (λ (v : BoardView). Stands v (reverse v.history)) e st

-- so does its scheduler
pub scheduler_too : (view now : BoardView) (h : List Event) → view ≡ now → Stands now h → SchedulerStands view.scheduler h
scheduler_too view now h e st = (stands_too view now h e st).scheduler

-- and its members are those of the scheduler
pub member_too : (view now : BoardView) (m : ℕ) → view ≡ now → m < members_of now → m < members_of view
member_too view now m e low = subst (λ (v : BoardView). m < members_of v) (sym e) low

pub member_inside : (view : BoardView) (m : ℕ) → HasMembers view → m < members_of view → m < scheduler_members view.scheduler
member_inside view m has low = let e = has.tasks in omega (arith, low, e)

pub own_too : (view now : BoardView) (m t : ℕ) (h : List Event) → view ≡ now → MayStartOwn m t now.scheduler h → MayStartOwn m t view.scheduler h
own_too view now m t h e may = subst (λ (v : BoardView). MayStartOwn m t v.scheduler h) (sym e) may

pub own_now : (view now : BoardView) (m t : ℕ) (h : List Event) → view ≡ now → MayStartOwn m t view.scheduler h → MayStartOwn m t now.scheduler h
own_now view now m t h e may = subst (λ (v : BoardView). MayStartOwn m t v.scheduler h) e may

pub members_after : (b : BoardView) (kept : List ℕ) (scheduler : SchedulerView) → HasMembers b → length kept ≡ members_of b → SchedulerHas (scheduler_members b.scheduler) scheduler → SchedulerHas (length kept) scheduler
members_after b kept scheduler has all next = subst (λ (n : ℕ). SchedulerHas n scheduler) (has.tasks ∙ sym all) next

-- the rule of tasks, for the size of the board's team
pub rule_of : (b : BoardView) (h : List Event) → HasMembers b → Stands b h → Always (TaskRule (members_of b)) h
rule_of b h has st = subst (λ (n : ℕ). Always (TaskRule n) h) has.tasks st.scheduler.tasks.rule

-- After a stored event

-- which puts no words and does not break the team: the scheduler stands for it, and no task is left that a cancellation reaches
pub event_stands : (b : BoardView) (history : List Event) (room : ℕ) (kept : List ℕ) (scheduler : SchedulerView) (event : Event) (h : List Event) → is_stored event ≡ true → IsNoPut event → clash_of (event ∷ h) ≡ clash_of h → AreSealed (event ∷ h) → history ≡ b.history ++ event ∷ [] →
    SchedulerStands scheduler (event ∷ h) → Stands b h → Stands (record b { history = history; room = room; kept = kept; scheduler = scheduler }) (event ∷ h)
event_stands b history room kept scheduler event h is no_put whole sealed longer next st = record {
  scheduler = next;
  sealed = sealed;
  payloads = payloads_stay b.payloads event h no_put st.payloads;
  clash = whole ∙ st.clash;
  history = stored_with b.history history event h is longer st.history;
}

-- after a stored event, if its operation asks for so much room
module _ (space new_space asked : ℕ) (b : BoardView) (event : Event) (is : IsBoard space b) (owes : owed (members_of b) (event ∷ reverse b.history) + 1 ≡ owed (members_of b) (reverse b.history) + asked) where
  -- there was memory for it
  pub memory_asked : b.room + asked ≤ new_space → length b.history < new_space
  memory_asked grown = let room = is.room in omega (arith, owes, room, grown)

  -- and it is a board
  pub board_asked : (after : BoardView) → after.history ≡ b.history ++ event ∷ [] → Stands after (event ∷ reverse b.history) → HasMembers after → after.kept ≡ b.kept → after.limits ≡ b.limits → after.room ≡ b.room + asked → b.room + asked ≤ new_space → IsBoard new_space after
  board_asked after longer st has kept limits room grown =
      let all : sum after.kept ≡ sum b.kept = ap sum kept in
      let enough = room_with (members_of b) b.room asked (sum b.kept) (sum after.kept) b.history after.history event longer (omega (arith, owes, all)) is.room in
      record {
        stands = history_after (λ h. Stands after h) b.history after.history event longer st;
        members = has;
        room = rw (ap {A = List ℕ} length kept, room) enough.1;
        space = rw room grown;
        limits = rw limits is.limits;
      }

-- the same of one that asks for none
module _ (space : ℕ) (b : BoardView) (event : Event) (is : IsBoard space b) (owes : owed (members_of b) (event ∷ reverse b.history) + 1 ≡ owed (members_of b) (reverse b.history)) where
  pub memory_for : length b.history < space
  memory_for = let room = is.room in let within = is.space in omega (arith, owes, room, within)

  pub board_after : (new_space : ℕ) (after : BoardView) → after.history ≡ b.history ++ event ∷ [] → Stands after (event ∷ reverse b.history) → HasMembers after → after.kept ≡ b.kept → after.limits ≡ b.limits → after.room ≡ b.room → space ≤ new_space → IsBoard new_space after
  board_after new_space after longer st has kept limits room grows =
      let within = is.space in
      board_asked space new_space 0 b event is (omega (arith, owes)) after longer st has kept limits (omega (arith, room)) (omega (arith, within, grows))

-- What memory was made changes nothing of what it stands for

pub grown_stands : (b : BoardView) (scheduler : SchedulerView) (h : List Event) → HasGrown b.scheduler scheduler → Stands b h → Stands (record b { scheduler = scheduler }) h
grown_stands b scheduler h grown st = record { scheduler = grown.stands h st.scheduler; sealed = st.sealed; payloads = st.payloads; clash = st.clash; history = st.history }

pub grown_stood : (b : BoardView) (scheduler : SchedulerView) (h : List Event) → HasGrown b.scheduler scheduler → Stands (record b { scheduler = scheduler }) h → Stands b h
grown_stood b scheduler h grown st = record { scheduler = grown.stood h st.scheduler; sealed = st.sealed; payloads = st.payloads; clash = st.clash; history = st.history }

module _ (b : BoardView) (history : List Event) (scheduler : SchedulerView) (grown : HasGrown b.scheduler scheduler) (same : history ≡ b.history) where
  pub grown_is_same : IsSame b (record b { history = history; scheduler = scheduler })
  grown_is_same = subst (λ (es : List Event). IsSame b (record b { history = es; scheduler = scheduler })) (sym same) (record {
    history = refl;
    room = refl;
    kept = refl;
    stands = λ h st. grown_stands b scheduler h grown st;
    stood = λ h st. grown_stood b scheduler h grown st;
  })

  pub grown_board : (space new_space : ℕ) → IsBoard space b → space ≤ new_space → IsBoard new_space (record b { history = history; scheduler = scheduler })
  grown_board space new_space is grows = subst (λ (es : List Event). IsBoard new_space (record b { history = es; scheduler = scheduler })) (sym same) (record {
    stands = grown_stands b scheduler (reverse b.history) grown is.stands;
    members = members_after b b.kept scheduler is.members refl grown.members;
    room = is.room;
    space = let within = is.space in omega (arith, within, grows);
    limits = is.limits;
  })

-- What a member keeps

pub set_same : (xs : List ℕ) (i : ℕ) → slice_set xs i (slice_index_or xs i 0) ≡ xs
set_same [] i = refl
set_same (x ∷ xs) zero = refl
set_same (x ∷ xs) (suc i) = ap (λ ys. x ∷ ys) (set_same xs i)

-- what holds if nothing failed
pub at_ok : {A E : Type 0} (r : Result A E) (P : Type 0) → is_err r ≡ false → OnOk r P → P
at_ok (Ok x) P e holds = holds
at_ok (Err x) P e holds = absurd (cc)

-- and what holds if something did
pub err_of_none : {A E : Type 0} (r : Result A E) → ((x : A) → r ≡ Ok x → ⊥) → IsErr r
err_of_none (Ok x) none = absurd (none x refl)
err_of_none (Err x) none = refl

pub at_err : {A E : Type 0} (r : Result A E) (P : Type 0) → ((x : A) → r ≡ Ok x → ⊥) → OnErr r P → P
at_err (Ok x) P none holds = absurd (none x refl)
at_err (Err x) P none holds = holds

pub never_ok : {A E : Type 0} (r : Result A E) → ((x : A) → r ≡ Ok x → ⊥) → IsOk r → ⊥
never_ok (Ok x) none is = none x refl
never_ok (Err x) none is = absurd (cc)

-- the members of a scheduler that was given memory and then changed
pub grown_twice : (s made after : SchedulerView) → HasGrown s made → SchedulerHas (scheduler_members made) after → SchedulerHas (scheduler_members s) after
grown_twice s made after grown has = subst (λ (n : ℕ). SchedulerHas n after) grown.members.tasks has

-- and of one that has as many as before
pub member_of_same : (s after : SchedulerView) (m : ℕ) → SchedulerHas (scheduler_members s) after → m < scheduler_members s → m < scheduler_members after
member_of_same s after m has low = let e = has.tasks in omega (arith, low, e)

pub has_own : (n : ℕ) (s : SchedulerView) → SchedulerHas n s → SchedulerHas (scheduler_members s) s
has_own n s has = subst (λ (k : ℕ). SchedulerHas k s) (sym has.tasks) has

pub grown_member : (b : BoardView) (made : SchedulerView) (m : ℕ) → HasMembers b → HasGrown b.scheduler made → m < members_of b → m < scheduler_members made
grown_member b made m has grown low = member_of_same b.scheduler made m grown.members (member_inside b m has low)

-- A board after a creation, in the task that its member executes

pub created_stands : (b : BoardView) (history : List Event) (room : ℕ) (scheduler : SchedulerView) (t m : ℕ) (p : Task) (desc : TaskDesc) (h : List Event) → p ≡ executed_task m h → history ≡ b.history ++ Create t m p desc ∷ [] → t ≡ suc (tasks_created h) → creates_covered m h ≡ false →
    SchedulerStands scheduler (Create t m (executed_task m h) desc ∷ h) → Stands b h → Stands (record b { history = history; room = room; scheduler = scheduler }) (Create t m p desc ∷ h)
created_stands b history room scheduler t m p desc h current longer number uncovered next st =
    event_stands b history room b.kept scheduler (Create t m p desc) h refl tt refl
    (sealed_created t m p desc h number (subst (λ (q : Task). would_be_covered q h ≡ false) (sym current) uncovered) st.sealed) longer
    (subst (λ (q : Task). SchedulerStands scheduler (Create t m q desc ∷ h)) (sym current) next) st

-- A board after the start of a task

pub started_stands : (b : BoardView) (history : List Event) (scheduler : SchedulerView) (t m : ℕ) (h : List Event) → history ≡ b.history ++ Start t m ∷ [] → SchedulerStands scheduler (Start t m ∷ h) → Stands b h →
    Stands (record b { history = history; scheduler = scheduler }) (Start t m ∷ h)
started_stands b history scheduler t m h longer next st =
    event_stands b history b.room b.kept scheduler (Start t m) h refl tt refl (sealed_aside (Start t m) h tt st.sealed) longer next st

module _ (space : ℕ) (b : BoardView) (t m : ℕ) (is : IsBoard space b) (may : may_start m t (reverse b.history) ≡ true) where
  -- there was memory for it
  pub memory_to_start : length b.history < space
  memory_to_start = memory_for space b (Start t m) is (start_owes (members_of b) m t (reverse b.history) may)

  pub started_board : (new_space : ℕ) (history : List Event) (scheduler : SchedulerView) → history ≡ b.history ++ Start t m ∷ [] → SchedulerStands scheduler (Start t m ∷ reverse b.history) → SchedulerHas (scheduler_members b.scheduler) scheduler → new_space ≡ space →
      IsBoard new_space (record b { history = history; scheduler = scheduler })
  started_board new_space history scheduler longer next has same =
      board_after space b (Start t m) is (start_owes (members_of b) m t (reverse b.history) may) new_space (record b { history = history; scheduler = scheduler }) longer
      (started_stands b history scheduler t m (reverse b.history) longer next is.stands) (members_after b b.kept scheduler is.members refl has) refl refl refl (omega (arith, same))
