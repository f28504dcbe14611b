-- Replies and exchanges of one program, computed.
use Rattle.std.proofs.Common.{◌≡◌, true, false, List, [], ◌∷◌, Some, None, refl, map, pos}
use Rattle.gomp_types.specs.declared.call.Call.{Call}
use Rattle.gomp_types.specs.declared.call.Call.TheVariants.{Barrier, RegionEnd, Resume}
use Rattle.gomp_types.specs.declared.refusal.Refusal.TheVariants.{Leaving, NoLock, Waiting}
use Rattle.gomp_types.specs.declared.reply.Reply.{Reply}
use Rattle.gomp_types.specs.declared.reply.Reply.TheVariants.{Chunk, Finished, Passed, Refused, Run, TaskDone}
use Rattle.gomp_course.specs.declared.asked.Asked.TheVariants as asked
use Rattle.gomp_course.specs.declared.program.Act.TheVariants.{Do, Parallel}
use Rattle.gomp_course.specs.Exchanges.{Exchange, asked_by, asked_by_call, end_tasks, is_over, last_reply, taken_of, tests_refusal}

-- what calls and acts ask
calls_ask : map asked_by_call (RegionEnd ∷ Resume ∷ Barrier ∷ []) ≡ asked.End ∷ asked.Again ∷ asked.Other ∷ []
calls_ask = refl

acts_ask : map asked_by (Some (Do RegionEnd) ∷ Some (Parallel (Some 2) true) ∷ None ∷ []) ≡ asked.End ∷ asked.Other ∷ asked.Other ∷ []
acts_ask = refl

-- a program that is given two chunks of a loop, and at the region's end a task
abbrev exchange_at : Call → Reply → Exchange
exchange_at call reply = record { act = Some (Do call); nested = false; reply = reply }

abbrev at_its_end : List Exchange
at_its_end = exchange_at RegionEnd (Run 7 1 0 false) ∷ exchange_at Barrier (Chunk (pos 3) 2) ∷ exchange_at Barrier (Chunk (pos 0) 3) ∷ []

nothing_was_replied : last_reply [] ≡ Finished
nothing_was_replied = refl

its_last_reply : last_reply at_its_end ≡ Run 7 1 0 false
its_last_reply = refl

its_iterations : taken_of at_its_end ≡ 5
its_iterations = refl

-- it is over once that task has ended and the end is passed, and not by the pass of a barrier in it
in_the_task : (end_tasks at_its_end ≡ Some 1) × (is_over (exchange_at Resume Passed ∷ at_its_end) ≡ false)
in_the_task = (refl, refl)

behind_the_task : is_over (exchange_at Resume Passed ∷ exchange_at Barrier (TaskDone 7 true) ∷ at_its_end) ≡ true
behind_the_task = refl

-- why nested regions are refused: by the tests of each call
tests_refuse : map tests_refusal (Refused Waiting ∷ Refused Leaving ∷ Refused NoLock ∷ []) ≡ Some Waiting ∷ Some Leaving ∷ None ∷ []
tests_refuse = refl
