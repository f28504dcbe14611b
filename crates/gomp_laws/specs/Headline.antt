-- The headline, for every team size and list of member steps. OpenMP API 5.2, chapters 11 and 12, and sections 5.7.2, 15.2 to 15.5, 15.10.2 and 18.9.
-- No iteration, section or single is taken twice, and of a static loop a member takes only its own pieces. A loop or sections
-- construct that all members end had every iteration or section taken, and a single that all members left had one executor.
-- Ordered parts of a loop run in the order of its iterations, and of an ordered loop that all members left every piece was handed on.
-- The words that a member copies are those that the executor of the single put. All members go through the same constructs in the
-- same order. No member passes a barrier before all arrived, and have left the constructs before it. A critical name and a lock have
-- at most one owner at a time, which alone releases it, and no member passes a barrier while it holds a critical name. No task is
-- started twice, nor before it is created and all tasks are done that its `depend` clause names; an undeferred task is started by
-- its creator alone; each wait ends only after the tasks that it waits for. After a cancellation of the region or of a group no task
-- is created or started that it reaches; those that run go on, and the region's end waits for them and for all members.
use Rattle.std.specs.Prelude.{ℕ, List}
use Rattle.gomp_events.specs.declared.event.Event.{Event}
use Rattle.gomp_types.specs.Deals.{schedule}
use Rattle.gomp_events.specs.Laws.{Always}
use Rattle.gomp_events.specs.TaskLaws.{TaskLaws, BoundIsDone}
use Rattle.gomp_shares.specs.Laws.{TakenOnce, TakesItsOwn, WholeWhereOver, SameShares, OrderedLaws, CancelsCancellable, LeavesCancelled}
use Rattle.gomp_laws.specs.Laws.{LeavesHandedOn, HandedOnWhereOver, PutsOnce, GetsWhatWasPut, LeavesWithWords, ArrivesOnce, ArrivesOutside, HappensUnbroken, HappensInside, TellsShares, ClosesShares, CancelsNamed, SeesCancelled}
use Rattle.gomp_events.specs.Arrivals.{SameArrivals, PassesAfterAll, EndsAfterAll}
use Rattle.gomp_locks.specs.HoldLaws.{AtEachMoment, OneOwner, HeldOnce, FreesItsOwn, PassesFree}

-- the headline: all that is promised of the events of a team of this size
pub record Headline (members : ℕ) (h : List Event) : Type 0 where
  -- no iteration, section or single is taken twice; each take is the next piece that is its member's to take
  pub taken_once : TakenOnce (schedule members) h
  -- a member takes of a static loop only its own pieces
  pub owned : Always (TakesItsOwn members) h
  -- each iteration of a share that all members left, and that nobody cancelled, was taken exactly once, so a single had one executor
  pub whole : WholeWhereOver members h
  -- ordered parts of a loop run in the order of its iterations, one after another
  pub ordered : OrderedLaws members h
  -- a member leaves an ordered loop only if each piece that it took was handed on; one that all members left had all its pieces handed on
  pub none_held : Always (LeavesHandedOn members) h
  pub all_handed_on : HandedOnWhereOver members h
  -- the executor of a single puts its words once; a member is given those words; it leaves the single only after it put or got them
  pub puts : Always PutsOnce h
  pub gets : Always GetsWhatWasPut h
  pub served : Always LeavesWithWords h
  -- all members go through the same shares, and arrive alike
  pub same_shares : SameShares members h
  pub same_arrivals : SameArrivals h
  -- a member arrives at a barrier once, outside of every share, unless it leaves a cancelled region; only members of the team do
  pub arrive_once : Always (ArrivesOnce members) h
  pub arrive_outside : Always ArrivesOutside h
  -- an arrival tells how many shares its member has entered, so all members meet shares and barriers in one order
  pub one_order : Always TellsShares h
  -- a broken team does nothing more, nor does a member that has passed the region's end
  pub unbroken : Always HappensUnbroken h
  pub in_region : Always HappensInside h
  -- in a region that is not cancelled no member passes a barrier before all arrived
  pub passes : Always (PassesAfterAll members) h
  -- and, cancelled or not, none passes the region's end before all arrived there
  pub ends : Always (EndsAfterAll members) h
  -- in a region that is not cancelled none passes before all members have left the shares that it entered before that barrier
  pub closes : Always (ClosesShares members) h
  -- at each moment a critical name or a lock has at most one owner, and all but a nestable lock is held at most once
  pub one_owner : AtEachMoment OneOwner h
  pub held_once : AtEachMoment HeldOnce h
  -- each release is by the owner of an open hold
  pub frees : Always FreesItsOwn h
  -- no member passes a barrier while it holds a critical name
  pub passes_free : Always PassesFree h
  -- no task is created, started or ended twice; each is started after its creation and after those that its `depend` clause names, an
  -- undeferred one by its creator; a member starts only a descendant of what it has started;
  -- taskwait waits for the children, a group's end and a barrier for their tasks, the region's end for all (specs/TaskLaws.antt of gomp_events)
  pub tasks : TaskLaws h
  -- whatever happens later, every task that is bound to a barrier was done before a member passed it
  pub bound_done : BoundIsDone h
  -- a member cancels only what its construct names, a share only if its end kind allows that; it leaves a share with a piece left for it only after that, and sees only what is cancelled
  pub cancels : Always (CancelsNamed members) h
  pub cancelled : Always CancelsCancellable h
  pub left_early : Always (LeavesCancelled (schedule members)) h
  pub sees : Always (SeesCancelled members) h
