-- What holds of every list of events that a board stands for: the laws that the crates above cite.
use Rattle.std.proofs.Common.{◌≡◌, ℕ, ◌<◌, true, false, List, [], ◌∷◌, ◌++◌, refl, ◌∙◌, arith}
use Rattle.gomp_events.specs.declared.event.Event.{Event}
use Rattle.gomp_events.specs.declared.event.Event.TheVariants.{Put, Got, Arrive, Pass, Create, Start, Done, Group, GroupEnd, Waited, Cancel, Discard, Break}
use Rattle.gomp_types.specs.declared.cancel.Scope.TheVariants.{Region, OneShare, OneGroup}
use Rattle.gomp_types.specs.declared.depend.Dep.{Dep}
use Rattle.gomp_events.specs.Events.{clash_of}
use Rattle.gomp_events.specs.Tasks.{executed_task}
use Rattle.gomp_events.specs.Goals.{taskwait_met}
use Rattle.gomp_events.specs.TaskRules.{TaskRule}
use Rattle.gomp_tasks.specs.Stands.{task_members}
use Rattle.gomp_groups.specs.Stands.{group_members}
use Rattle.gomp_scheduler.specs.Calls.{IsNoSchedulerEvent as SchedulerAside}
use Rattle.gomp_scheduler.proofs.Laws.{events_aside_keep_scheduler}
use Rattle.gomp_board.specs.Stored.{is_stored, IsNotStored, AreAside}
use Rattle.gomp_board.specs.Boards.{BoardView, HasMembers, Stands, members_of}
use Rattle.gomp_board.proofs.PayloadsKeep.{IsNoPut, payloads_stay}
use Rattle.gomp_board.proofs.Sealed.{IsNoSealEvent as SealedAside, sealed_aside}
use Rattle.gomp_board.proofs.StoredKeeps.{stored_aside}

-- An event that is not stored

-- the scheduler does not see it
unstored_by_scheduler : (event : Event) → is_stored event ≡ false → SchedulerAside event
unstored_by_scheduler (Arrive barrier m tag) e = absurd (cc)
unstored_by_scheduler (Pass barrier m) e = absurd (cc)
unstored_by_scheduler (Create t m parent desc) e = absurd (cc)
unstored_by_scheduler (Start t m) e = absurd (cc)
unstored_by_scheduler (Done t m) e = absurd (cc)
unstored_by_scheduler (Group q m) e = absurd (cc)
unstored_by_scheduler (GroupEnd q m) e = absurd (cc)
unstored_by_scheduler (Cancel m Region) e = absurd (cc)
unstored_by_scheduler (Cancel m (OneShare share)) e = tt
unstored_by_scheduler (Cancel m (OneGroup q)) e = absurd (cc)
unstored_by_scheduler (Discard t m) e = absurd (cc)
unstored_by_scheduler _ e = tt

-- nor what a cancellation reaches, nor the words
unstored_by_sealed : (event : Event) → is_stored event ≡ false → SealedAside event
unstored_by_sealed (Create t m parent desc) e = absurd (cc)
unstored_by_sealed (Cancel m Region) e = absurd (cc)
unstored_by_sealed (Cancel m (OneShare share)) e = tt
unstored_by_sealed (Cancel m (OneGroup q)) e = absurd (cc)
unstored_by_sealed _ e = tt

unstored_by_payloads : (event : Event) → is_stored event ≡ false → IsNoPut event
unstored_by_payloads (Put share m words) e = absurd (cc)
unstored_by_payloads _ e = tt

-- nor does it break the team
unstored_keeps_clash : (event : Event) (h : List Event) → is_stored event ≡ false → clash_of (event ∷ h) ≡ clash_of h
unstored_keeps_clash (Break m place) h e = absurd (cc)
unstored_keeps_clash _ h e = refl

-- a board stands for it as before, if the rule of tasks lets it happen
pub event_unstored_keeps_board : (board : BoardView) (event : Event) (h : List Event) → is_stored event ≡ false → TaskRule (task_members board.scheduler.tasks) event h → TaskRule (group_members board.scheduler.groups) event h → Stands board h → Stands board (event ∷ h)
event_unstored_keeps_board board event h is tasks groups st = record {
  scheduler = events_aside_keep_scheduler board.scheduler h event (unstored_by_scheduler event is) tasks groups st.scheduler;
  sealed = sealed_aside event h (unstored_by_sealed event is) st.sealed;
  clash = unstored_keeps_clash event h is ∙ st.clash;
  payloads = payloads_stay board.payloads event h (unstored_by_payloads event is) st.payloads;
  history = stored_aside board.history event h is st.history;
}

-- so a taskwait that is passed changes nothing of it
pub waited_stands : (b : BoardView) (m : ℕ) (items : List Dep) (h : List Event) → HasMembers b → m < members_of b → taskwait_met (executed_task m h) items h ≡ true → Stands b h → Stands b (Waited m items ∷ h)
waited_stands b m items h has low complete st =
    let tasks = has.tasks in let groups = has.groups in
    event_unstored_keeps_board b (Waited m items) h refl (record { member = omega (arith, low, tasks); complete = complete }) (record { member = omega (arith, low, groups); complete = complete }) st

-- which speaks of no other event than a taskwait's
aside_unstored : (event : Event) → IsNotStored event → is_stored event ≡ false
aside_unstored (Put share m words) is = absurd is
aside_unstored (Got share m words) is = absurd is
aside_unstored (Arrive barrier m tag) is = absurd is
aside_unstored (Pass barrier m) is = absurd is
aside_unstored (Create t m parent desc) is = absurd is
aside_unstored (Start t m) is = absurd is
aside_unstored (Done t m) is = absurd is
aside_unstored (Group q m) is = absurd is
aside_unstored (GroupEnd q m) is = absurd is
aside_unstored (Cancel m Region) is = absurd is
aside_unstored (Cancel m (OneShare share)) is = refl
aside_unstored (Cancel m (OneGroup q)) is = absurd is
aside_unstored (Discard t m) is = absurd is
aside_unstored (Break m place) is = absurd is
aside_unstored _ is = refl

aside_allowed : (members : ℕ) (event : Event) (h : List Event) → IsNotStored event → TaskRule members event h
aside_allowed members (Create t m parent desc) h is = absurd is
aside_allowed members (Start t m) h is = absurd is
aside_allowed members (Done t m) h is = absurd is
aside_allowed members (Discard t m) h is = absurd is
aside_allowed members (Group q m) h is = absurd is
aside_allowed members (GroupEnd q m) h is = absurd is
aside_allowed members (Waited m items) h is = absurd is
aside_allowed members _ h is = tt

-- so what a member does in its shares changes nothing of a board, nor what names and locks keep
pub event_aside_keeps_board : (board : BoardView) (h : List Event) (event : Event) → IsNotStored event → Stands board h → Stands board (event ∷ h)
event_aside_keeps_board board h event is st = event_unstored_keeps_board board event h (aside_unstored event is) (aside_allowed (task_members board.scheduler.tasks) event h is) (aside_allowed (group_members board.scheduler.groups) event h is) st

-- nor do several such events
pub events_aside_keep_board : (board : BoardView) (h events : List Event) → AreAside events → Stands board h → Stands board (events ++ h)
events_aside_keep_board board h [] are st = st
events_aside_keep_board board h (event ∷ earlier) are st = event_aside_keeps_board board (earlier ++ h) event are.0 (events_aside_keep_board board h earlier are.1 st)
