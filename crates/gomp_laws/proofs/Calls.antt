-- Every call's row is sound: the second list of calls, in proofs alone.
use Rattle.std.proofs.Common.{◌≡◌, ℕ, Bool, true, List, ◌++◌, refl, sym, ◌∙◌, inl}
use Rattle.gomp_types.specs.declared.call.Call.{Call}
use Rattle.gomp_types.specs.declared.call.Call.TheVariants.{LoopStart, LoopNext, LoopEnd, LoopEndNowait, LoopEndCancel, SectionsStart, SectionsNext, SectionsEnd, SectionsEndNowait, SectionsEndCancel, SingleStart, SingleCopyStart, SingleCopyEnd, Resume, OrderedStart, OrderedEnd, Barrier, RegionEnd, CriticalStart, CriticalEnd, LockInit, NestInit, LockDestroy, Set, Test as TestLock, Unset, SetNest, TestNest, UnsetNest, TaskCreate, TaskEnd, Taskwait, GroupStart, GroupEnd, Cancel, Point, Stop}
use Rattle.gomp_types.specs.declared.lock.LockKind.TheVariants.{Simple, Nest}
use Rattle.gomp_types.specs.declared.reply.Reply.{Reply}
use Rattle.gomp_types.specs.declared.reply.Reply.TheVariants.{Stopped}
use Rattle.gomp_events.specs.declared.event.Event.{Event}
use Rattle.gomp_events.specs.Laws.{Always}
use Rattle.gomp_events.specs.Tasks.{executed_task}
use Rattle.gomp_laws.specs.Rules.{TeamRule}
use Rattle.gomp_model.specs.Past.{Past}
use Rattle.gomp_model.specs.Row.{begun_past, given_after, goes_on}
use Rattle.gomp_model.specs.Calls.{resume_row, stop_given, stop_row, row_of}
use Rattle.gomp_model.proofs.Admitted.{compared_fails}
use Rattle.gomp_laws.proofs.Sound.{AreGiven, HasCreated, IsAdmittedMember, IsSound, quiet}
use Rattle.gomp_laws.proofs.Loops.{loop_start_sound, loop_next_sound, loop_end_sound, loop_end_nowait_sound, loop_end_cancel_sound}
use Rattle.gomp_laws.proofs.Sections.{sections_start_sound, sections_next_sound, sections_end_sound, sections_end_nowait_sound, sections_end_cancel_sound}
use Rattle.gomp_laws.proofs.Singles.{single_start_sound, single_copy_start_sound, single_copy_end_sound}
use Rattle.gomp_laws.proofs.OrderedParts.{ordered_start_sound, ordered_end_sound}
use Rattle.gomp_laws.proofs.Cancels.{cancel_sound, point_sound}
use Rattle.gomp_laws.proofs.Arrivals.{barrier_sound, region_end_sound}
use Rattle.gomp_laws.proofs.CriticalNames.{critical_start_sound, critical_end_sound}
use Rattle.gomp_laws.proofs.Locks.{init_sound, destroy_sound, set_sound, test_sound, unset_sound, set_nest_sound, test_nest_sound, unset_nest_sound}
use Rattle.gomp_laws.proofs.Tasks.{creation_lasts, task_create_sound, task_end_sound, taskwait_sound, group_start_sound, group_end_sound}

pub resume_sound : IsSound resume_row
resume_sound = record {
  decided = λ m p a b x y. absurd x;
  accepts = λ m p refusal x. x;
  answered = λ repeated m p ready all. absurd (let never = (compared_fails ready.admitted.parts).0 in cc);
  counts = λ repeated m p first count ready all may. absurd may;
  begins_own = λ m p. tt;
  gives_own = λ m p reply. tt;
  begins_keep = λ m p ready all. all;
  gives_keep = λ repeated m p reply ready may all. all;
  still = λ stays m p. absurd (cc);
  placed = λ stays m h. refl;
  outside = λ arrives m p fail. absurd (cc);
  tells = λ arrives m p reply may. absurd (cc);
  one_pass = λ arrives m p. absurd (cc);
  arrives_there = λ arrives m p. absurd (cc);
  waits_quietly = λ arrives m p. absurd (cc);
  lasts = λ repeated m p ready all may. absurd may;
  waits_for = λ key m p holds may. absurd (cc);
  tells_count = λ key repeated m count p holds ready all may. absurd (cc);
  runs = λ m p task code arg own may. absurd may;
  ends = λ m p task waiting may. absurd may;
  created = λ repeated m p task ready may. absurd may;
  cancelled = λ m p may. absurd (may);
  dropped = λ repeated m p ready all may. absurd (may);
  allowed = λ cancels m p. absurd (cc);
  no_memory = λ m p. (refl, refl, refl, refl, λ repeated. refl);
  words_keep = λ puts repeated m p reply ready may all. absurd (cc);
}

stop_own : (m : ℕ) (reply : Reply) → AreGiven quiet m reply (stop_given m reply)
stop_own m Stopped = ((refl, refl), tt)
stop_own m _ = tt

stop_keeps : (members m : ℕ) (reply : Reply) (h : List Event) → Always (TeamRule members) h → Always (TeamRule members) (stop_given m reply ++ h)
stop_keeps members m Stopped h all = (tt, all)
stop_keeps members m _ h all = all

pub stop_sound : IsSound stop_row
stop_sound = record {
  decided = λ m p a b x y. inl (x ∙ sym y);
  accepts = λ m p refusal x. cc;
  answered = λ repeated m p ready all. (Stopped, refl);
  counts = λ repeated m p first count ready all may. absurd (cc);
  begins_own = λ m p. tt;
  gives_own = λ m p reply. stop_own m reply;
  begins_keep = λ m p ready all. all;
  gives_keep = λ repeated m p reply ready may all. stop_keeps p.terms.members m reply p.events all;
  still = λ stays m p. absurd (cc);
  placed = λ stays m h. refl;
  outside = λ arrives m p fail. absurd (cc);
  tells = λ arrives m p reply may. absurd (cc);
  one_pass = λ arrives m p. absurd (cc);
  arrives_there = λ arrives m p. absurd (cc);
  waits_quietly = λ arrives m p. absurd (cc);
  lasts = λ repeated m p ready all may. absurd (cc);
  waits_for = λ key m p holds may. absurd (cc);
  tells_count = λ key repeated m count p holds ready all may. absurd (cc);
  runs = λ m p task code arg own may. absurd (cc);
  ends = λ m p task waiting may. absurd (cc);
  created = λ repeated m p task ready may. absurd (cc);
  cancelled = λ m p may. absurd (cc);
  dropped = λ repeated m p ready all may. absurd (cc);
  allowed = λ cancels m p. absurd (cc);
  no_memory = λ m p. (refl, refl, refl, refl, λ repeated. refl);
  words_keep = λ puts repeated m p reply ready may all. absurd (cc);
}

pub row_is_sound : (call : Call) → IsSound (row_of call)
row_is_sound (LoopStart loop) = loop_start_sound loop
row_is_sound LoopNext = loop_next_sound
row_is_sound LoopEnd = loop_end_sound
row_is_sound LoopEndNowait = loop_end_nowait_sound
row_is_sound LoopEndCancel = loop_end_cancel_sound
row_is_sound (SectionsStart count end_kind) = sections_start_sound count end_kind
row_is_sound SectionsNext = sections_next_sound
row_is_sound SectionsEnd = sections_end_sound
row_is_sound SectionsEndNowait = sections_end_nowait_sound
row_is_sound SectionsEndCancel = sections_end_cancel_sound
row_is_sound SingleStart = single_start_sound
row_is_sound SingleCopyStart = single_copy_start_sound
row_is_sound (SingleCopyEnd payload) = single_copy_end_sound payload
row_is_sound (OrderedStart value) = ordered_start_sound value
row_is_sound OrderedEnd = ordered_end_sound
row_is_sound Barrier = barrier_sound
row_is_sound RegionEnd = region_end_sound
row_is_sound (CriticalStart name) = critical_start_sound name
row_is_sound (CriticalEnd name) = critical_end_sound name
row_is_sound LockInit = init_sound Simple
row_is_sound NestInit = init_sound Nest
row_is_sound (LockDestroy number) = destroy_sound number
row_is_sound (Set number) = set_sound number
row_is_sound (TestLock number) = test_sound number
row_is_sound (Unset number) = unset_sound number
row_is_sound (SetNest number) = set_nest_sound number
row_is_sound (TestNest number) = test_nest_sound number
row_is_sound (UnsetNest number) = unset_nest_sound number
row_is_sound (TaskCreate desc) = task_create_sound desc
row_is_sound TaskEnd = task_end_sound
row_is_sound (Taskwait items) = taskwait_sound items
row_is_sound GroupStart = group_start_sound
row_is_sound GroupEnd = group_end_sound
row_is_sound (Cancel kind clause) = cancel_sound kind clause
row_is_sound (Point kind) = point_sound kind
row_is_sound Stop = stop_sound
row_is_sound Resume = resume_sound

-- a call that goes on and creates a task has created an undeferred one
pub call_has_created : (call : Call) (repeated : Bool) (m : ℕ) (p : Past) (reply : Reply) → IsAdmittedMember (row_of call) repeated m p → (row_of call).may_reply m (begun_past repeated (row_of call) m p) reply → goes_on reply ≡ true →
    HasCreated (row_of call) (executed_task m p.events) (given_after (row_of call) repeated m p reply)
call_has_created (TaskCreate desc) repeated m p reply ready may on = creation_lasts desc repeated m p reply ready may on
call_has_created _ repeated m p reply ready may on = λ desc is. absurd (cc)
