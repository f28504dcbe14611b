-- What a program asks of its member, and what it is answered. (own; OpenMP API 5.2, section 10.1)
use Rattle.std.specs.Prelude.{ℕ, ◌+◌, ◌-◌, min, ◌==◌, option_map, Bool, true, false, List, [], ◌∷◌, Option, Some, None, Result, Ok, Err}
use Rattle.gomp_types.specs.declared.call.Call.{Call}
use Rattle.gomp_types.specs.declared.call.Call.TheVariants.{RegionEnd, Resume}
use Rattle.gomp_types.specs.declared.refusal.Refusal.{Refusal}
use Rattle.gomp_types.specs.declared.refusal.Refusal.TheVariants.{Broken, NoLock}
use Rattle.gomp_types.specs.declared.reply.Reply.{Reply}
use Rattle.gomp_types.specs.declared.reply.Reply.TheVariants.{Finished, Passed, Stopped, Refused, Run, TaskDone, Chunk}
use Rattle.gomp_course.specs.declared.program.Act.{Act}
use Rattle.gomp_course.specs.declared.program.Act.TheVariants.{Do}
use Rattle.gomp_course.specs.declared.asked.Asked.{Asked}
use Rattle.gomp_course.specs.declared.asked.Asked.TheVariants as asked

-- what a program asked for: none if it found no memory
abbrev pub act_found : {E : Type 0} → Result Act E → Option Act
act_found (Ok act) = Some act
act_found (Err lack) = None

-- what a program asked for, whether that is a nested region that no test of each call refused, and the reply
pub record Exchange : Type 0 where
  pub act : Option Act
  pub nested : Bool
  pub reply : Reply

-- what an act asks, as far as the region's end is concerned
abbrev pub asked_by_call : Call → Asked
asked_by_call RegionEnd = asked.End
asked_by_call Resume = asked.Again
asked_by_call call = asked.Other

abbrev pub asked_by : Option Act → Asked
asked_by (Some (Do call)) = asked_by_call call
asked_by act = asked.Other

-- How many tasks a member executes that it started at the region's end, one inside the other: None before it waits there

-- one more is started: at the end, or inside of one that was
abbrev pub tasks_started : Asked → Option ℕ → Option ℕ
tasks_started asked.End tasks = Some 1
tasks_started asks (Some tasks) = Some (min (tasks + 1) 4294967295)
tasks_started asks None = None

-- after a reply: one is started, or one has ended, and the wait at which it was started is open again
abbrev pub end_tasks_after : Asked → Reply → Option ℕ → Option ℕ
end_tasks_after asks (Run task code arg false) tasks = tasks_started asks tasks
end_tasks_after asks (TaskDone task true) tasks = option_map (λ n. n - 1) tasks
end_tasks_after asks reply tasks = tasks

-- whether it has passed the region's end if it is answered that it passed: it asked for that, or asked again as it waited there
abbrev pub passes_end : Asked → Option ℕ → Bool
passes_end asked.End tasks = true
passes_end asked.Again (Some tasks) = tasks == 0
passes_end asks tasks = false

-- whether a program is asked no more behind this reply of its own team: its member has passed the region's end, or the team is stopped or broken
abbrev pub is_last : Asked → Reply → Option ℕ → Bool
is_last asks Passed tasks = passes_end asks tasks
is_last asks Stopped tasks = true
is_last asks (Refused (Broken clash)) tasks = true
is_last asks reply tasks = false

-- the same of an act; a program without memory is asked no more, and whatever comes of a nested region, it is asked on
abbrev pub ends_by : Option Act → Bool → Reply → Option ℕ → Bool
ends_by None nested reply tasks = true
ends_by (Some act) true reply tasks = false
ends_by (Some act) false reply tasks = is_last (asked_by (Some act)) reply tasks

-- how many iterations were taken after the reply; the sum stays at 2^128 - 1
abbrev pub taken_after : Reply → ℕ → ℕ
taken_after (Chunk first count) taken = min (taken + count) 340282366920938463463374607431768211455
taken_after reply taken = taken

-- why a nested region is refused by the tests of each call, by the answer to a call that is refused in any case, at last by NoLock
abbrev pub tests_refusal : Reply → Option Refusal
tests_refusal (Refused NoLock) = None
tests_refusal (Refused refusal) = Some refusal
tests_refusal reply = None

-- Of all exchanges of a program, the newest first

-- the reply that it is handed next
abbrev pub last_reply : List Exchange → Reply
last_reply [] = Finished
last_reply (exchange ∷ earlier) = exchange.reply

abbrev pub end_tasks : List Exchange → Option ℕ
end_tasks [] = None
end_tasks (exchange ∷ earlier) = end_tasks_after (asked_by exchange.act) exchange.reply (end_tasks earlier)

-- whether it is asked no more
abbrev pub is_over : List Exchange → Bool
is_over [] = false
is_over (exchange ∷ earlier) = ends_by exchange.act exchange.nested exchange.reply (end_tasks earlier)

abbrev pub taken_of : List Exchange → ℕ
taken_of [] = 0
taken_of (exchange ∷ earlier) = taken_after exchange.reply (taken_of earlier)
