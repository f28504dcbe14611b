-- Worked runs of sections, single, single with copyprivate, and ordered loops. OpenMP API 5.2, sections 11.1, 11.3, 5.7.2 and 15.10.2. (own)
use Rattle.std.specs.Prelude.{ℕ, ℤ, pos, negsuc, List, [], ◌∷◌, true, false}
use Rattle.gomp_types.specs.declared.call.Call.{Call}
use Rattle.gomp_types.specs.declared.call.Call.TheVariants.{LoopStart, LoopNext, LoopEnd, LoopEndNowait, SectionsStart, SectionsNext, SectionsEnd, SectionsEndNowait, SingleStart, SingleCopyStart, SingleCopyEnd, OrderedStart, OrderedEnd, Barrier, CriticalStart, CriticalEnd, Resume}
use Rattle.gomp_types.specs.declared.loop_desc.Sched.TheVariants.{Dynamic}
use Rattle.gomp_types.specs.declared.loop_desc.EndKind.TheVariants.{Wait as WaitEnd, Nowait}
use Rattle.gomp_types.specs.declared.refusal.Place.TheVariants.{Share}
use Rattle.gomp_types.specs.declared.refusal.Refusal.TheVariants.{BadSections, InsideShare, OutsideShare, InOrdered, HoldsCritical, EndDiffers, NotDrained, Drained, NotOrdered, OrderedBackwards, NotInside, Broken, Mismatch}
use Rattle.gomp_types.specs.declared.reply.Reply.TheVariants.{Chunk, NoChunk, Section, Executor, Copied, Finished, Passed, Wait, Refused}
use Rattle.gomp_model.specs.Examples.{Run, asks, dynamic_loop, one_nowait}
use Rattle.gomp_model.specs.HoldExamples.{name_a}

-- calls that leave a share, or a part of it, at once; a single with these words
abbrev pub ends_with : List ℕ → List Call
ends_with payload = LoopEndNowait ∷ SectionsEndNowait ∷ SingleCopyEnd payload ∷ OrderedEnd ∷ []

-- three sections, with a barrier at their end
abbrev pub three_sections : Call
three_sections = SectionsStart 3 WaitEnd

-- two members share them
abbrev pub sections_of_two : Run
sections_of_two =
    (asks 0 three_sections, Section 1)
    ∷ (asks 1 three_sections, Section 2)
    ∷ (asks 0 SectionsNext, Section 3)
    ∷ (asks 0 SectionsNext, Section 0)
    ∷ (asks 1 SectionsNext, Section 0)
    ∷ (asks 0 SectionsEnd, Wait)
    ∷ (asks 1 SectionsEnd, Passed)
    ∷ (asks 0 Resume, Passed)
    ∷ []

-- a construct without sections, and one with too many
abbrev pub no_sections : Run
no_sections =
    (asks 0 (SectionsStart 0 Nowait), Section 0)
    ∷ (asks 0 SectionsEndNowait, Finished)
    ∷ (asks 0 (SectionsStart 65537 Nowait), Refused BadSections)
    ∷ []

-- one member of two executes a single
abbrev pub single_of_two : Run
single_of_two = (asks 0 SingleStart, Executor true) ∷ (asks 1 SingleStart, Executor false) ∷ []

-- and of three one whose words the others are given; they wait for them
abbrev pub copy_of_three : Run
copy_of_three =
    (asks 1 SingleCopyStart, Executor true)
    ∷ (asks 0 SingleCopyStart, Wait)
    ∷ (asks 2 SingleCopyStart, Wait)
    ∷ (asks 1 (SingleCopyEnd (11 ∷ 22 ∷ [])), Finished)
    ∷ (asks 0 Resume, Copied (11 ∷ 22 ∷ []))
    ∷ (asks 2 Resume, Copied (11 ∷ 22 ∷ []))
    ∷ []

-- calls that stand in the wrong construct
abbrev pub misplaced_calls : Run
misplaced_calls =
    (asks 0 (SingleCopyEnd (7 ∷ [])), Refused NotInside)
    ∷ (asks 0 (SectionsStart 2 Nowait), Section 1)
    ∷ (asks 0 LoopNext, Refused OutsideShare)
    ∷ (asks 0 (SingleCopyEnd (7 ∷ [])), Refused NotInside)
    ∷ (asks 0 SingleStart, Refused InsideShare)
    ∷ (asks 0 SectionsEndNowait, Refused NotDrained)
    ∷ (asks 0 SectionsNext, Section 2)
    ∷ (asks 0 SectionsNext, Section 0)
    ∷ (asks 0 SectionsNext, Refused Drained)
    ∷ (asks 0 SectionsEnd, Refused EndDiffers)
    ∷ (asks 0 SectionsEndNowait, Finished)
    ∷ (asks 0 SingleCopyStart, Executor true)
    ∷ (asks 0 SectionsNext, Refused OutsideShare)
    ∷ (asks 0 Barrier, Refused InsideShare)
    ∷ (asks 0 (SingleCopyEnd (7 ∷ [])), Finished)
    ∷ (asks 0 (SingleCopyEnd (7 ∷ [])), Refused NotInside)
    ∷ []

-- a member that meets a single with words if another met one without breaks the team
abbrev pub differing_single : Run
differing_single =
    (asks 0 SingleStart, Executor true)
    ∷ (asks 1 SingleCopyStart, Refused Mismatch)
    ∷ (asks 0 SingleStart, Refused (Broken (record { member = 1; place = Share 0 })))
    ∷ []

-- so does one that meets a single without words if another met one with them
abbrev pub differing_copy : Run
differing_copy = (asks 0 SingleCopyStart, Executor true) ∷ (asks 1 SingleStart, Refused Mismatch) ∷ []

-- and one that meets a loop if another met sections, alike in all but that
abbrev pub differing_sections : Run
differing_sections =
    (asks 0 (SectionsStart 2 Nowait), Section 1) ∷ (asks 1 (dynamic_loop (pos 1) (pos 1) (pos 3) Nowait), Refused Mismatch) ∷ []

-- a dynamic ordered loop of this step
abbrev pub ordered_by : ℤ → ℤ → ℤ → Call
ordered_by incr chunk end =
    LoopStart (record { start = pos 0; end = end; incr = incr; sched = Dynamic; chunk = chunk; ordered = true; end_kind = Nowait })

-- two iterations in pieces of one
abbrev pub two_ordered : Call
two_ordered = ordered_by (pos 1) (pos 1) (pos 2)

-- the second member waits until the first has handed its piece on
abbrev pub ordered_of_two : Run
ordered_of_two =
    (asks 0 two_ordered, Chunk (pos 0) 1)
    ∷ (asks 1 two_ordered, Chunk (pos 1) 1)
    ∷ (asks 1 (OrderedStart (pos 1)), Wait)
    ∷ (asks 0 (OrderedStart (pos 0)), Finished)
    ∷ (asks 0 OrderedEnd, Finished)
    ∷ (asks 0 (OrderedStart (pos 0)), Refused OrderedBackwards)
    ∷ (asks 1 Resume, Wait)
    ∷ (asks 0 LoopNext, NoChunk)
    ∷ (asks 1 Resume, Finished)
    ∷ (asks 1 OrderedEnd, Finished)
    ∷ (asks 1 LoopNext, NoChunk)
    ∷ (asks 0 LoopEndNowait, Finished)
    ∷ (asks 1 LoopEndNowait, Finished)
    ∷ []

-- and so it does if it asks for its next piece, whether any has a part or not
abbrev pub handed_of_two : Run
handed_of_two =
    (asks 0 two_ordered, Chunk (pos 0) 1)
    ∷ (asks 1 two_ordered, Chunk (pos 1) 1)
    ∷ (asks 1 LoopNext, Wait)
    ∷ (asks 0 LoopNext, NoChunk)
    ∷ (asks 1 Resume, NoChunk)
    ∷ []

-- a member alone passes an iteration over, and may not go back to it
abbrev pub ordered_alone : Run
ordered_alone =
    (asks 0 (ordered_by (pos 1) (pos 2) (pos 4)), Chunk (pos 0) 2)
    ∷ (asks 0 (OrderedStart (pos 1)), Finished)
    ∷ (asks 0 LoopNext, Refused InOrdered)
    ∷ (asks 0 (OrderedStart (pos 1)), Refused InOrdered)
    ∷ (asks 0 LoopEndNowait, Refused InOrdered)
    ∷ (asks 0 OrderedEnd, Finished)
    ∷ (asks 0 (OrderedStart (pos 0)), Refused OrderedBackwards)
    ∷ (asks 0 LoopNext, Chunk (pos 2) 2)
    ∷ (asks 0 (OrderedStart (pos 1)), Refused OrderedBackwards)
    ∷ (asks 0 (OrderedStart (pos 4)), Refused OrderedBackwards)
    ∷ (asks 0 OrderedEnd, Refused NotInside)
    ∷ (asks 0 LoopNext, NoChunk)
    ∷ (asks 0 (OrderedStart (pos 3)), Refused OrderedBackwards)
    ∷ (asks 0 LoopEndNowait, Finished)
    ∷ []

-- a loop downwards by two: a value between two iterations is none
abbrev pub ordered_downwards : Run
ordered_downwards =
    (asks 0 (ordered_by (negsuc 1) (pos 3) (negsuc 5)), Chunk (pos 0) 3)
    ∷ (asks 0 (OrderedStart (negsuc 2)), Refused OrderedBackwards)
    ∷ (asks 0 (OrderedStart (pos 2)), Refused OrderedBackwards)
    ∷ (asks 0 (OrderedStart (negsuc 3)), Finished)
    ∷ []

-- two parts of one piece, none of a later piece, and the next loop begins anew
abbrev pub parts_of_a_piece : Run
parts_of_a_piece =
    (asks 0 (ordered_by (pos 1) (pos 2) (pos 4)), Chunk (pos 0) 2)
    ∷ (asks 0 (OrderedStart (pos 2)), Refused OrderedBackwards)
    ∷ (asks 0 (OrderedStart (pos 0)), Finished)
    ∷ (asks 0 OrderedEnd, Finished)
    ∷ (asks 0 (OrderedStart (pos 1)), Finished)
    ∷ (asks 0 OrderedEnd, Finished)
    ∷ (asks 0 LoopNext, Chunk (pos 2) 2)
    ∷ (asks 0 LoopNext, NoChunk)
    ∷ (asks 0 LoopEndNowait, Finished)
    ∷ (asks 0 (ordered_by (pos 1) (pos 2) (pos 4)), Chunk (pos 0) 2)
    ∷ (asks 0 (OrderedStart (pos 0)), Finished)
    ∷ []

-- ends in another construct, in an ordered part, of the other kind, too early, in this order
abbrev pub ends_in_order : Run
ends_in_order =
    (asks 0 (ordered_by (pos 1) (pos 2) (pos 4)), Chunk (pos 0) 2)
    ∷ (asks 0 (OrderedStart (pos 0)), Finished)
    ∷ (asks 0 LoopEnd, Refused InOrdered)
    ∷ (asks 0 OrderedEnd, Finished)
    ∷ (asks 0 LoopEnd, Refused EndDiffers)
    ∷ (asks 0 SectionsEnd, Refused OutsideShare)
    ∷ (asks 0 LoopEndNowait, Refused NotDrained)
    ∷ (asks 0 LoopNext, Chunk (pos 2) 2)
    ∷ (asks 0 LoopNext, NoChunk)
    ∷ (asks 0 SectionsNext, Refused OutsideShare)
    ∷ (asks 0 LoopEndNowait, Finished)
    ∷ (asks 0 (SectionsStart 2 WaitEnd), Section 1)
    ∷ (asks 0 LoopEndNowait, Refused OutsideShare)
    ∷ (asks 0 SectionsEndNowait, Refused EndDiffers)
    ∷ (asks 0 SectionsEnd, Refused NotDrained)
    ∷ []

-- a member does not end its ordered part while it holds a critical name
abbrev pub named_in_a_part : Run
named_in_a_part =
    (asks 0 (ordered_by (pos 1) (pos 2) (pos 4)), Chunk (pos 0) 2)
    ∷ (asks 0 (CriticalStart name_a), Finished)
    ∷ (asks 0 (OrderedStart (pos 0)), Refused HoldsCritical)
    ∷ (asks 0 (CriticalEnd name_a), Finished)
    ∷ (asks 0 (OrderedStart (pos 0)), Finished)
    ∷ (asks 0 (CriticalStart name_a), Finished)
    ∷ (asks 0 OrderedEnd, Refused HoldsCritical)
    ∷ (asks 0 LoopNext, Refused InOrdered)
    ∷ (asks 0 (CriticalEnd name_a), Finished)
    ∷ (asks 0 OrderedEnd, Finished)
    ∷ []

-- ordered parts in a loop without the clause, in a construct of sections, and in none
abbrev pub unordered_parts : Run
unordered_parts =
    (asks 0 (OrderedStart (pos 0)), Refused OutsideShare)
    ∷ (asks 0 one_nowait, Chunk (pos 0) 1)
    ∷ (asks 0 (OrderedStart (pos 0)), Refused NotOrdered)
    ∷ (asks 0 LoopNext, NoChunk)
    ∷ (asks 0 LoopEndNowait, Finished)
    ∷ (asks 0 (SectionsStart 1 Nowait), Section 1)
    ∷ (asks 0 (OrderedStart (pos 0)), Refused OutsideShare)
    ∷ (asks 0 OrderedEnd, Refused NotInside)
    ∷ []

-- a member whose loop lacks the clause breaks the team
abbrev pub differing_ordered : Run
differing_ordered =
    (asks 0 (ordered_by (pos 1) (pos 1) (pos 1)), Chunk (pos 0) 1)
    ∷ (asks 1 one_nowait, Refused Mismatch)
    ∷ []
