-- Worked runs of regions, whose members go from one construct to another. OpenMP API 5.2, chapter 11 and section 15.3. (own)
use Rattle.std.specs.Prelude.{ℕ, pos, negsuc, Bool, true, false, [], ◌∷◌, ◌++◌}
use Rattle.gomp_types.specs.declared.call.Call.{Call}
use Rattle.gomp_types.specs.declared.call.Call.TheVariants.{LoopNext, LoopEnd, LoopEndNowait, SectionsStart, SectionsNext, SectionsEnd, SectionsEndNowait, SingleStart, SingleCopyStart, SingleCopyEnd, OrderedStart, Barrier, RegionEnd, Resume, Stop}
use Rattle.gomp_types.specs.declared.loop_desc.EndKind.TheVariants.{Wait as WaitEnd, Nowait}
use Rattle.gomp_types.specs.declared.refusal.Place.TheVariants.{Share, Barrier as AtBarrier, Stopped as AtStop}
use Rattle.gomp_types.specs.declared.refusal.Refusal.TheVariants.{BadMember, Ended, InsideShare, ZeroStep, BadChunk, OutsideShare, NotDrained, NotOrdered, BadSections, LoopTooLong, TooManyShares, NoMemory, Broken, Mismatch}
use Rattle.gomp_types.specs.declared.reply.Reply.TheVariants.{Chunk, NoChunk, Section, Executor, Copied, Finished, Passed, Wait, Stopped, Refused}
use Rattle.gomp_model.specs.Examples.{Run, asks, dynamic_loop, ten_by_three, one_nowait, eight_ahead, loop_by}

-- a member goes through a single
abbrev pub one_single : ℕ → Bool → Run
one_single m executes = (asks m SingleStart, Executor executes) ∷ []

-- and through eight
abbrev pub eight_singles : ℕ → Bool → Run
eight_singles m executes =
    one_single m executes ++ one_single m executes ++ one_single m executes ++ one_single m executes
    ++ one_single m executes ++ one_single m executes ++ one_single m executes ++ one_single m executes

-- a share with a barrier, and the region's end
abbrev pub region_of_two : Run
region_of_two =
    (asks 0 (SectionsStart 1 WaitEnd), Section 1)
    ∷ (asks 1 (SectionsStart 1 WaitEnd), Section 0)
    ∷ (asks 0 SectionsNext, Section 0)
    ∷ (asks 0 SectionsEnd, Wait)
    ∷ (asks 1 SectionsEnd, Passed)
    ∷ (asks 0 Resume, Passed)
    ∷ (asks 0 RegionEnd, Wait)
    ∷ (asks 1 RegionEnd, Passed)
    ∷ (asks 1 Barrier, Refused Ended)
    ∷ (asks 0 Resume, Passed)
    ∷ (asks 0 Resume, Refused Ended)
    ∷ []

-- two barriers; at the second the members have started other numbers of shares
abbrev pub later_barrier : Run
later_barrier =
    (asks 0 Barrier, Wait)
    ∷ (asks 1 Barrier, Passed)
    ∷ (asks 0 Resume, Passed)
    ∷ (asks 0 SingleStart, Executor true)
    ∷ (asks 0 Barrier, Wait)
    ∷ (asks 1 Barrier, Refused Mismatch)
    ∷ (asks 0 Resume, Refused (Broken (record { member = 1; place = AtBarrier 1 })))
    ∷ []

-- the second share ends otherwise
abbrev pub later_share : Run
later_share =
    (asks 0 SingleStart, Executor true)
    ∷ (asks 0 (SectionsStart 2 WaitEnd), Section 1)
    ∷ (asks 1 SingleStart, Executor false)
    ∷ (asks 1 (SectionsStart 2 Nowait), Refused Mismatch)
    ∷ (asks 0 SectionsNext, Refused (Broken (record { member = 1; place = Share 1 })))
    ∷ []

-- a start that waits for room finds, when it is repeated, that the share was opened with another construct
abbrev pub differing_at_resume : Run
differing_at_resume =
    eight_singles 0 true
    ++ (asks 0 SingleStart, Wait)
    ∷ eight_singles 1 false
    ++ (asks 1 SingleCopyStart, Executor true)
    ∷ (asks 0 Resume, Refused Mismatch)
    ∷ (asks 1 (SingleCopyEnd (7 ∷ [])), Refused (Broken (record { member = 0; place = Share 8 })))
    ∷ (asks 0 Resume, Refused (Broken (record { member = 0; place = Share 8 })))
    ∷ []

-- and so do the other starts, if the share was opened with a single
abbrev pub differing_ninth : Call → Run
differing_ninth call =
    eight_singles 0 true
    ++ (asks 0 call, Wait)
    ∷ eight_singles 1 false
    ++ (asks 1 SingleStart, Executor true)
    ∷ (asks 0 Resume, Refused Mismatch)
    ∷ []

-- sections and a single with words wait for room as loops do
abbrev pub ninth_and_tenth : Run
ninth_and_tenth =
    eight_ahead
    ++ (asks 0 (SectionsStart 1 Nowait), Wait)
    ∷ (asks 1 one_nowait, NoChunk)
    ∷ (asks 1 LoopEndNowait, Finished)
    ∷ (asks 0 Resume, Section 1)
    ∷ (asks 0 SectionsNext, Section 0)
    ∷ (asks 0 SectionsEndNowait, Finished)
    ∷ (asks 0 SingleCopyStart, Wait)
    ∷ (asks 1 one_nowait, NoChunk)
    ∷ (asks 0 Resume, Wait)
    ∷ (asks 1 LoopEndNowait, Finished)
    ∷ (asks 0 Resume, Executor true)
    ∷ []

-- words that lie there already, and those of the next single, which are none
abbrev pub copied_at_once : Run
copied_at_once =
    (asks 0 SingleCopyStart, Executor true)
    ∷ (asks 0 (SingleCopyEnd (11 ∷ [])), Finished)
    ∷ (asks 1 SingleCopyStart, Copied (11 ∷ []))
    ∷ (asks 1 SingleCopyStart, Executor true)
    ∷ (asks 0 SingleCopyStart, Wait)
    ∷ (asks 1 (SingleCopyEnd []), Finished)
    ∷ (asks 0 Resume, Copied [])
    ∷ (asks 0 Barrier, Wait)
    ∷ (asks 1 Barrier, Passed)
    ∷ []

-- an arrival that differs is refused for what is tested first, and only then for that
abbrev pub early_arrivals : Run
early_arrivals =
    (asks 0 Barrier, Wait)
    ∷ (asks 1 (dynamic_loop (pos 1) (pos 0) (pos 2) WaitEnd), Chunk (pos 0) 1)
    ∷ (asks 1 Barrier, Refused InsideShare)
    ∷ (asks 1 RegionEnd, Refused InsideShare)
    ∷ (asks 1 LoopEnd, Refused NotDrained)
    ∷ (asks 1 LoopNext, Chunk (pos 1) 1)
    ∷ (asks 1 LoopNext, NoChunk)
    ∷ (asks 1 LoopEnd, Refused Mismatch)
    ∷ (asks 0 Resume, Refused (Broken (record { member = 1; place = AtBarrier 0 })))
    ∷ []

-- so it is at the end of sections
abbrev pub early_sections_end : Run
early_sections_end =
    (asks 0 Barrier, Wait)
    ∷ (asks 1 (SectionsStart 1 WaitEnd), Section 1)
    ∷ (asks 1 SectionsEnd, Refused NotDrained)
    ∷ (asks 1 SectionsNext, Section 0)
    ∷ (asks 1 SectionsEnd, Refused Mismatch)
    ∷ []

-- a start that differs is refused for what is tested first, and breaks nothing
abbrev pub early_starts : Run
early_starts =
    (asks 0 one_nowait, Chunk (pos 0) 1)
    ∷ (asks 1 (loop_by (pos 0) (pos 4) (negsuc 0)), Refused ZeroStep)
    ∷ (asks 1 (loop_by (pos 1) (pos 4) (negsuc 0)), Refused BadChunk)
    ∷ (asks 1 (loop_by (pos 1) (pos 549755813889) (pos 1)), Refused LoopTooLong)
    ∷ (asks 1 (SectionsStart 65537 Nowait), Refused BadSections)
    ∷ (asks 0 LoopNext, NoChunk)
    ∷ (asks 0 LoopEndNowait, Finished)
    ∷ (asks 0 (SectionsStart 2 Nowait), Section 1)
    ∷ (asks 1 one_nowait, NoChunk)
    ∷ (asks 1 one_nowait, Refused InsideShare)
    ∷ (asks 1 (SectionsStart 1 Nowait), Refused InsideShare)
    ∷ (asks 1 SingleStart, Refused InsideShare)
    ∷ (asks 1 SingleCopyStart, Refused InsideShare)
    ∷ (asks 1 LoopEndNowait, Finished)
    ∷ (asks 1 (SectionsStart 2 Nowait), Section 2)
    ∷ []

-- ends outside, want of memory, and starts inside
abbrev pub outside_calls : Run
outside_calls =
    (asks 0 LoopEnd, Refused OutsideShare)
    ∷ (asks 0 LoopEndNowait, Refused OutsideShare)
    ∷ (asks 0 SectionsEnd, Refused OutsideShare)
    ∷ (asks 0 SectionsEndNowait, Refused OutsideShare)
    ∷ (asks 0 ten_by_three, Refused NoMemory)
    ∷ (asks 0 (SectionsStart 1 WaitEnd), Refused NoMemory)
    ∷ (asks 0 SingleCopyStart, Refused NoMemory)
    ∷ (asks 0 one_nowait, Chunk (pos 0) 1)
    ∷ (asks 0 (OrderedStart (pos 5)), Refused NotOrdered)
    ∷ (asks 0 (loop_by (pos 0) (pos 4) (negsuc 0)), Refused InsideShare)
    ∷ (asks 0 (SectionsStart 65537 Nowait), Refused InsideShare)
    ∷ (asks 0 SingleCopyStart, Refused InsideShare)
    ∷ (asks 0 RegionEnd, Refused InsideShare)
    ∷ []

-- a member that may start one share, of whatever kind
abbrev pub second_of_each : Run
second_of_each =
    (asks 0 one_nowait, Chunk (pos 0) 1)
    ∷ (asks 0 SingleStart, Refused InsideShare)
    ∷ (asks 0 SingleCopyStart, Refused InsideShare)
    ∷ (asks 0 LoopNext, NoChunk)
    ∷ (asks 0 LoopEndNowait, Finished)
    ∷ (asks 0 (loop_by (pos 1) (pos 549755813889) (pos 1)), Refused LoopTooLong)
    ∷ (asks 0 (SectionsStart 65537 Nowait), Refused BadSections)
    ∷ (asks 0 (SectionsStart 1 Nowait), Refused TooManyShares)
    ∷ (asks 0 SingleStart, Refused TooManyShares)
    ∷ (asks 0 SingleCopyStart, Refused TooManyShares)
    ∷ (asks 0 Barrier, Passed)
    ∷ []

-- of three members one has left when another, which still waits at the region's end, stops the team
abbrev pub stopped_at_the_end : Run
stopped_at_the_end =
    (asks 2 RegionEnd, Wait)
    ∷ (asks 0 RegionEnd, Wait)
    ∷ (asks 1 RegionEnd, Passed)
    ∷ (asks 0 Stop, Stopped)
    ∷ (asks 1 Barrier, Refused Ended)
    ∷ (asks 1 Stop, Refused Ended)
    ∷ (asks 3 Stop, Refused BadMember)
    ∷ (asks 2 Resume, Refused (Broken (record { member = 0; place = AtStop })))
    ∷ []
