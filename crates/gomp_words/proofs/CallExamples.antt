-- The words of each call, and of each limit both sides, computed from the table of the README. (own)
use Rattle.std.proofs.Common.{◌≡◌, ℕ, true, false, List, [], ◌∷◌, Some, refl}
use Rattle.std.specs.Prelude.{pos, negsuc, map, is_none, replicate}
use Rattle.std.specs.List.{list_all}
use Rattle.gomp_types.specs.declared.call.Call.{Call}
use Rattle.gomp_types.specs.declared.call.Call.TheVariants.{LoopStart, LoopNext, LoopEnd, LoopEndNowait, LoopEndCancel, SectionsStart, SectionsNext, SectionsEnd, SectionsEndNowait, SectionsEndCancel, SingleStart, SingleCopyStart, SingleCopyEnd, OrderedStart, Barrier, RegionEnd, CriticalStart, CriticalEnd, LockInit, NestInit, LockDestroy, Set, Test, Unset, SetNest, TestNest, UnsetNest, TaskCreate, TaskEnd, Taskwait, GroupStart, GroupEnd, Cancel, Point, Resume, Stop}
use Rattle.gomp_types.specs.declared.depend.Dep.{Dep}
use Rattle.gomp_types.specs.declared.depend.DepKind.{DepKind}
use Rattle.gomp_types.specs.declared.depend.DepKind.TheVariants.{DepIn, DepOut, DepInout, DepInoutset, DepMutex}
use Rattle.gomp_types.specs.declared.loop_desc.Sched.{Sched}
use Rattle.gomp_types.specs.declared.loop_desc.Sched.TheVariants.{Static, Dynamic, Guided, Runtime}
use Rattle.gomp_types.specs.declared.loop_desc.EndKind.{EndKind}
use Rattle.gomp_types.specs.declared.loop_desc.EndKind.TheVariants as ends
use Rattle.gomp_types.specs.declared.cancel.CancelKind.TheVariants as cancels
use Rattle.gomp_words.specs.declared.step.StepRead.TheVariants as asks
use Rattle.gomp_words.specs.Calls.{words_of, call_of}
use Rattle.gomp_words.specs.StepWords.{step_of}

-- calls are said by these words, and are what these say
abbrev AreSaid : List Call → List (List ℕ) → Type 0
AreSaid calls words = (map words_of calls ≡ words) × (map call_of words ≡ map Some calls)

-- the calls without arguments
pub bare_calls_are_said : AreSaid
    (LoopNext ∷ LoopEnd ∷ LoopEndNowait ∷ LoopEndCancel ∷ SectionsNext ∷ SectionsEnd ∷ SectionsEndNowait ∷ SectionsEndCancel ∷ SingleStart ∷ SingleCopyStart ∷ [])
    ((2 ∷ []) ∷ (3 ∷ []) ∷ (4 ∷ []) ∷ (5 ∷ []) ∷ (7 ∷ []) ∷ (8 ∷ []) ∷ (9 ∷ []) ∷ (10 ∷ []) ∷ (11 ∷ []) ∷ (12 ∷ []) ∷ [])
bare_calls_are_said = (refl, refl)

pub more_bare_calls_are_said : AreSaid
    (Barrier ∷ RegionEnd ∷ LockInit ∷ NestInit ∷ TaskEnd ∷ GroupStart ∷ GroupEnd ∷ Resume ∷ Stop ∷ [])
    ((16 ∷ []) ∷ (17 ∷ []) ∷ (20 ∷ []) ∷ (21 ∷ []) ∷ (30 ∷ []) ∷ (32 ∷ []) ∷ (33 ∷ []) ∷ (36 ∷ []) ∷ (37 ∷ []) ∷ [])
more_bare_calls_are_said = (refl, refl)

-- 15 is a call too: the end of an ordered part, which alone is left
pub fifteen_is_a_call : is_none (call_of (15 ∷ [])) ≡ false
fifteen_is_a_call = refl

-- loops, of each schedule and each end; the last from the least number to the largest, by steps of -1
abbrev loop : Sched → EndKind → Call
loop sched end_kind = LoopStart (record { start = pos 3; end = pos 50; incr = pos 7; sched = sched; chunk = pos 5; ordered = false; end_kind = end_kind })

pub loops_are_said : AreSaid
    (loop Runtime ends.Wait ∷ loop Static ends.Nowait ∷ loop Dynamic ends.Cancellable ∷ LoopStart (record {
      start = negsuc 9223372036854775807;
      end = pos 9223372036854775807;
      incr = negsuc 0;
      sched = Guided;
      chunk = pos 0;
      ordered = true;
      end_kind = ends.Wait;
    }) ∷ [])
    ((1 ∷ 3 ∷ 50 ∷ 7 ∷ 5 ∷ 0 ∷ 0 ∷ 0 ∷ []) ∷ (1 ∷ 3 ∷ 50 ∷ 7 ∷ 5 ∷ 1 ∷ 0 ∷ 1 ∷ []) ∷ (1 ∷ 3 ∷ 50 ∷ 7 ∷ 5 ∷ 2 ∷ 0 ∷ 2 ∷ [])
    ∷ (1 ∷ 9223372036854775808 ∷ 9223372036854775807 ∷ 18446744073709551615 ∷ 0 ∷ 3 ∷ 1 ∷ 0 ∷ []) ∷ [])
loops_are_said = (refl, refl)

-- sections, payloads of none and of eight words, values of iterations
pub shares_are_said : AreSaid
    (SectionsStart 0 ends.Wait ∷ SectionsStart 65536 ends.Nowait ∷ SectionsStart 4294967295 ends.Cancellable
    ∷ SingleCopyEnd [] ∷ SingleCopyEnd (1 ∷ 2 ∷ 3 ∷ 4 ∷ 5 ∷ 6 ∷ 7 ∷ 18446744073709551615 ∷ []) ∷ OrderedStart (pos 9) ∷ OrderedStart (negsuc 8) ∷ [])
    ((6 ∷ 0 ∷ 0 ∷ []) ∷ (6 ∷ 65536 ∷ 1 ∷ []) ∷ (6 ∷ 4294967295 ∷ 2 ∷ [])
    ∷ (13 ∷ []) ∷ (13 ∷ 1 ∷ 2 ∷ 3 ∷ 4 ∷ 5 ∷ 6 ∷ 7 ∷ 18446744073709551615 ∷ []) ∷ (14 ∷ 9 ∷ []) ∷ (14 ∷ 18446744073709551607 ∷ []) ∷ [])
shares_are_said = (refl, refl)

-- names: none, of two bytes, of 33; and locks
pub names_are_said : AreSaid
    (CriticalStart [] ∷ CriticalEnd (0 ∷ 255 ∷ []) ∷ CriticalStart (replicate 33 97) ∷ [])
    ((18 ∷ []) ∷ (19 ∷ 0 ∷ 255 ∷ []) ∷ (18 ∷ replicate 33 97) ∷ [])
names_are_said = (refl, refl)

pub locks_are_said : AreSaid
    (LockDestroy 0 ∷ Set 1 ∷ Test 2 ∷ Unset 3 ∷ SetNest 4 ∷ TestNest 5 ∷ UnsetNest 4294967295 ∷ [])
    ((22 ∷ 0 ∷ []) ∷ (23 ∷ 1 ∷ []) ∷ (24 ∷ 2 ∷ []) ∷ (25 ∷ 3 ∷ []) ∷ (26 ∷ 4 ∷ []) ∷ (27 ∷ 5 ∷ []) ∷ (28 ∷ 4294967295 ∷ []) ∷ [])
locks_are_said = (refl, refl)

-- tasks, with items of each kind
abbrev item : DepKind → ℕ → Dep
item kind addr = record { kind = kind; addr = addr }

pub tasks_are_said : AreSaid
    (TaskCreate (record { code = 70; arg = 80; undeferred = true; final_task = false; deps = [] })
    ∷ TaskCreate (record { code = 70; arg = 80; undeferred = false; final_task = true; deps = item DepOut 9 ∷ item DepIn 18446744073709551615 ∷ [] })
    ∷ Taskwait [] ∷ Taskwait (item DepInout 1 ∷ item DepInoutset 2 ∷ item DepMutex 3 ∷ []) ∷ [])
    ((29 ∷ 70 ∷ 80 ∷ 1 ∷ 0 ∷ []) ∷ (29 ∷ 70 ∷ 80 ∷ 0 ∷ 1 ∷ 1 ∷ 9 ∷ 0 ∷ 18446744073709551615 ∷ [])
    ∷ (31 ∷ []) ∷ (31 ∷ 2 ∷ 1 ∷ 3 ∷ 2 ∷ 4 ∷ 3 ∷ []) ∷ [])
tasks_are_said = (refl, refl)

-- cancellations, by libgomp's numbers of what they name
pub cancellations_are_said : AreSaid
    (Cancel cancels.Parallel true ∷ Cancel cancels.Loop false ∷ Cancel cancels.Sections true ∷ Point cancels.Taskgroup ∷ [])
    ((34 ∷ 1 ∷ 1 ∷ []) ∷ (34 ∷ 2 ∷ 0 ∷ []) ∷ (34 ∷ 4 ∷ 1 ∷ []) ∷ (35 ∷ 8 ∷ []) ∷ [])
cancellations_are_said = (refl, refl)

-- these words say no call: none at all, numbers that no call has, an argument too many or too few
pub other_words_say_nothing : list_all (λ words. is_none (call_of words))
    ([] ∷ (0 ∷ []) ∷ (38 ∷ []) ∷ (258 ∷ []) ∷ (18446744073709551615 ∷ []) ∷ (16 ∷ 0 ∷ []) ∷ (1 ∷ []) ∷ (1 ∷ 3 ∷ 50 ∷ 7 ∷ 5 ∷ 0 ∷ 0 ∷ [])
    ∷ (1 ∷ 3 ∷ 50 ∷ 7 ∷ 5 ∷ 0 ∷ 0 ∷ 0 ∷ 0 ∷ []) ∷ (6 ∷ 2 ∷ []) ∷ (6 ∷ 2 ∷ 0 ∷ 0 ∷ []) ∷ (14 ∷ []) ∷ (14 ∷ 1 ∷ 2 ∷ []) ∷ (23 ∷ []) ∷ (23 ∷ 1 ∷ 1 ∷ [])
    ∷ (29 ∷ 70 ∷ 80 ∷ 0 ∷ []) ∷ (29 ∷ 70 ∷ 80 ∷ 0 ∷ 0 ∷ 1 ∷ []) ∷ (31 ∷ 1 ∷ []) ∷ (34 ∷ 1 ∷ []) ∷ (34 ∷ 1 ∷ 1 ∷ 1 ∷ []) ∷ (35 ∷ []) ∷ (35 ∷ 1 ∷ 1 ∷ []) ∷ []) ≡ true
other_words_say_nothing = refl

-- nor these, in which an argument is above its limit
pub arguments_beyond_say_nothing : list_all (λ words. is_none (call_of words))
    ((1 ∷ 3 ∷ 50 ∷ 7 ∷ 5 ∷ 4 ∷ 0 ∷ 0 ∷ []) ∷ (1 ∷ 3 ∷ 50 ∷ 7 ∷ 5 ∷ 0 ∷ 2 ∷ 0 ∷ []) ∷ (1 ∷ 3 ∷ 50 ∷ 7 ∷ 5 ∷ 0 ∷ 0 ∷ 3 ∷ []) ∷ (6 ∷ 4294967296 ∷ 0 ∷ []) ∷ (6 ∷ 1 ∷ 3 ∷ [])
    ∷ (13 ∷ replicate 9 1) ∷ (18 ∷ 256 ∷ []) ∷ (19 ∷ 97 ∷ 256 ∷ []) ∷ (18 ∷ replicate 34 97) ∷ (22 ∷ 4294967296 ∷ []) ∷ (28 ∷ 18446744073709551615 ∷ [])
    ∷ (29 ∷ 70 ∷ 80 ∷ 2 ∷ 0 ∷ []) ∷ (29 ∷ 70 ∷ 80 ∷ 0 ∷ 2 ∷ []) ∷ (29 ∷ 70 ∷ 80 ∷ 0 ∷ 0 ∷ 5 ∷ 1 ∷ []) ∷ (31 ∷ 0 ∷ 1 ∷ 5 ∷ 1 ∷ [])
    ∷ (34 ∷ 0 ∷ 1 ∷ []) ∷ (34 ∷ 3 ∷ 1 ∷ []) ∷ (34 ∷ 16 ∷ 1 ∷ []) ∷ (34 ∷ 1 ∷ 2 ∷ []) ∷ (35 ∷ 0 ∷ []) ∷ []) ≡ true
arguments_beyond_say_nothing = refl

-- the member's number is the second word, and is not cut
pub members_are_read : map step_of ((16 ∷ 0 ∷ []) ∷ (23 ∷ 65535 ∷ 5 ∷ []) ∷ (23 ∷ 65536 ∷ 5 ∷ []) ∷ (16 ∷ 18446744073709551615 ∷ []) ∷ (38 ∷ 65536 ∷ []) ∷ (16 ∷ []) ∷ [] ∷ [])
    ≡ asks.Step (record { member = 0; call = Barrier }) ∷ asks.Step (record { member = 65535; call = Set 5 }) ∷ asks.NoMember ∷ asks.NoMember ∷ asks.NoCall ∷ asks.NoCall ∷ asks.NoCall ∷ []
members_are_read = refl
