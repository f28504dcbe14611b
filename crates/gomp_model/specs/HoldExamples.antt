-- Worked runs of critical names and locks. OpenMP API 5.2, sections 15.2 and 18.9. (own)
use Rattle.std.specs.Prelude.{ℕ, pos, codes, true, false, List, [], ◌∷◌, ◌++◌}
use Rattle.gomp_types.specs.declared.call.Call.TheVariants.{LoopNext, LoopEndNowait, SingleStart, Barrier, RegionEnd, CriticalStart, CriticalEnd, LockInit, NestInit, LockDestroy, Set, Test as TestLock, Unset, SetNest, TestNest, UnsetNest, Resume}
use Rattle.gomp_types.specs.declared.refusal.Refusal.TheVariants.{Waiting, HoldsCritical, NameTooLong, AlreadyHeld, NotHolder, NoLock, NoMemory}
use Rattle.gomp_types.specs.declared.reply.Reply.TheVariants.{Chunk, NoChunk, Finished, Passed, Wait, Lock as LockMade, Got, Count, Refused}
use Rattle.gomp_model.specs.Examples.{Run, asks, one_nowait}

-- two names, of which one begins with the other, and one of another letter
abbrev pub name_a : List ℕ
name_a = codes "a"

abbrev pub name_ab : List ℕ
name_ab = codes "ab"

abbrev pub name_b : List ℕ
name_b = codes "b"

-- a name of 33 letters, and what it is without the last
abbrev pub longest_name : List ℕ
longest_name = codes "abcdefghijklmnopqrstuvwxyzabcdef"

abbrev pub long_name : List ℕ
long_name = longest_name ++ codes "g"

-- two members, a name that both want, a nestable lock and a simple one
abbrev pub names_and_locks : Run
names_and_locks =
    (asks 0 (CriticalStart name_a), Finished)
    ∷ (asks 0 (CriticalStart name_a), Refused AlreadyHeld)
    ∷ (asks 1 (CriticalEnd name_a), Refused NotHolder)
    ∷ (asks 1 (CriticalStart name_b), Finished)
    ∷ (asks 1 (CriticalEnd name_b), Finished)
    ∷ (asks 1 (CriticalStart name_a), Wait)
    ∷ (asks 0 Barrier, Refused HoldsCritical)
    ∷ (asks 0 (CriticalEnd name_a), Finished)
    ∷ (asks 1 Resume, Finished)
    ∷ (asks 0 NestInit, LockMade 0)
    ∷ (asks 0 (TestNest 0), Count 1)
    ∷ (asks 0 (TestNest 0), Count 2)
    ∷ (asks 0 (TestNest 0), Count 3)
    ∷ (asks 1 (TestNest 0), Count 0)
    ∷ (asks 0 (UnsetNest 0), Count 2)
    ∷ (asks 0 (Set 0), Refused NoLock)
    ∷ (asks 0 LockInit, LockMade 1)
    ∷ (asks 0 (Set 1), Finished)
    ∷ (asks 1 (TestLock 1), Got false)
    ∷ (asks 0 (Set 1), Refused AlreadyHeld)
    ∷ (asks 0 (LockDestroy 1), Refused AlreadyHeld)
    ∷ (asks 0 (Unset 1), Finished)
    ∷ (asks 1 (TestLock 1), Got true)
    ∷ []

-- a member alone holds two names, that of a construct without one among them, and ends the region without them
abbrev pub names_to_the_end : Run
names_to_the_end =
    (asks 0 (CriticalStart long_name), Refused NameTooLong)
    ∷ (asks 0 (CriticalStart []), Finished)
    ∷ (asks 0 (CriticalStart name_a), Finished)
    ∷ (asks 0 RegionEnd, Refused HoldsCritical)
    ∷ (asks 0 (CriticalEnd name_a), Finished)
    ∷ (asks 0 (CriticalEnd []), Finished)
    ∷ (asks 0 RegionEnd, Passed)
    ∷ []

-- a lock is destroyed while a member waits for it: that member is refused as often as it asks, and waits on; the next lock has another number
abbrev pub destroyed_while_waiting : Run
destroyed_while_waiting =
    (asks 0 LockInit, LockMade 0)
    ∷ (asks 0 (Set 0), Finished)
    ∷ (asks 1 (Set 0), Wait)
    ∷ (asks 1 Resume, Wait)
    ∷ (asks 0 (Unset 0), Finished)
    ∷ (asks 0 (LockDestroy 0), Finished)
    ∷ (asks 1 Resume, Refused NoLock)
    ∷ (asks 1 (Unset 0), Refused Waiting)
    ∷ (asks 1 Resume, Refused NoLock)
    ∷ (asks 0 (Set 0), Refused NoLock)
    ∷ (asks 0 NestInit, LockMade 1)
    ∷ []

-- a nestable lock goes from one member to another, and is destroyed
abbrev pub nest_of_two : Run
nest_of_two =
    (asks 1 LockInit, Refused NoMemory)
    ∷ (asks 1 NestInit, Refused NoMemory)
    ∷ (asks 1 NestInit, LockMade 0)
    ∷ (asks 0 (SetNest 0), Count 1)
    ∷ (asks 0 (SetNest 0), Count 2)
    ∷ (asks 1 (SetNest 0), Wait)
    ∷ (asks 0 (UnsetNest 0), Count 1)
    ∷ (asks 1 Resume, Wait)
    ∷ (asks 0 (UnsetNest 0), Count 0)
    ∷ (asks 1 Resume, Count 1)
    ∷ (asks 0 (UnsetNest 0), Refused NotHolder)
    ∷ (asks 0 (LockDestroy 0), Refused AlreadyHeld)
    ∷ (asks 1 (UnsetNest 0), Count 0)
    ∷ (asks 0 (LockDestroy 0), Finished)
    ∷ (asks 0 (LockDestroy 0), Refused NoLock)
    ∷ (asks 1 (SetNest 0), Refused NoLock)
    ∷ (asks 1 (TestNest 0), Refused NoLock)
    ∷ (asks 1 (UnsetNest 0), Refused NoLock)
    ∷ []

-- a name is entered and left inside of a loop; names held in no order, and a lock held at a barrier
abbrev pub names_in_a_loop : Run
names_in_a_loop =
    (asks 0 (CriticalStart name_a), Refused NoMemory)
    ∷ (asks 0 one_nowait, Chunk (pos 0) 1)
    ∷ (asks 0 (CriticalStart name_a), Finished)
    ∷ (asks 0 (CriticalStart name_ab), Finished)
    ∷ (asks 0 LoopNext, Refused HoldsCritical)
    ∷ (asks 0 (CriticalEnd name_a), Finished)
    ∷ (asks 0 LoopNext, Refused HoldsCritical)
    ∷ (asks 0 (CriticalEnd name_ab), Finished)
    ∷ (asks 0 (CriticalEnd long_name), Refused NameTooLong)
    ∷ (asks 0 LoopNext, NoChunk)
    ∷ (asks 0 LockInit, LockMade 0)
    ∷ (asks 0 (Set 0), Finished)
    ∷ (asks 0 LoopEndNowait, Finished)
    ∷ (asks 0 Barrier, Passed)
    ∷ (asks 0 (CriticalStart longest_name), Finished)
    ∷ (asks 0 SingleStart, Refused HoldsCritical)
    ∷ []
