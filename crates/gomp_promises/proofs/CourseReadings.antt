-- Which call a member makes for its program, what a program asks of the region's end, and what is counted behind a reply, of every call, reply and number.
use Rattle.std.proofs.Common.{◌≡◌, ◌≢◌, ℕ, ◌+◌, ◌<◌, ◌≤◌, ◌^◌, true, false, Option, Some, None, int_eq, refl, ap, arith}
use Rattle.std.specs.Prelude.{ℤ, pos}
use Rattle.gomp_types.specs.declared.call.Call.{Call}
use Rattle.gomp_types.specs.declared.call.Call.TheVariants.{LoopStart, LockDestroy, RegionEnd, Resume}
use Rattle.gomp_types.specs.declared.loop_desc.LoopDesc.{LoopDesc}
use Rattle.gomp_types.specs.declared.loop_desc.Sched.{Sched}
use Rattle.gomp_types.specs.declared.loop_desc.Sched.TheVariants as sched
use Rattle.gomp_types.specs.declared.refusal.Refusal.{Refusal}
use Rattle.gomp_types.specs.declared.refusal.Refusal.TheVariants.{NoLock}
use Rattle.gomp_types.specs.declared.reply.Reply.{Reply}
use Rattle.gomp_types.specs.declared.reply.Reply.TheVariants.{Chunk, Refused, Run, TaskDone}
use Rattle.gomp_icv.specs.Variables.{Variables}
use Rattle.gomp_course.specs.declared.asked.Asked.{Asked}
use Rattle.gomp_course.specs.declared.asked.Asked.TheVariants as asked
use Rattle.gomp_course.specs.declared.forking.RegionAsked.{RegionAsked}
use Rattle.gomp_course.specs.Exchanges.{asked_by_call, end_tasks_after, taken_after, tests_refusal}
use Rattle.gomp_course.specs.Forkers.{ForkerView, RunnerView, forker_of}
use Rattle.gomp_course.specs.Runs.{HasForked, call_made, refused_call}

-- The call that is made

-- the loop with this schedule and chunk
abbrev loop_by : Sched → ℤ → LoopDesc → LoopDesc
loop_by kind chunk loop = record loop { sched = kind; chunk = chunk }

-- a loop that leaves its schedule to the control variables is begun by theirs
pub runtime_loop_is_begun_by_the_variables : (icv : Variables) (loop : LoopDesc) → call_made icv (LoopStart (loop_by sched.Runtime (pos 0) loop)) ≡ LoopStart (loop_by icv.sched icv.chunk loop)
runtime_loop_is_begun_by_the_variables icv loop = refl

-- one with a chunk is begun as it is
pub runtime_loop_with_a_chunk_is_begun_as_it_is : (icv : Variables) (loop : LoopDesc) → int_eq loop.chunk (pos 0) ≡ false → call_made icv (LoopStart (loop_by sched.Runtime loop.chunk loop)) ≡ LoopStart (loop_by sched.Runtime loop.chunk loop)
runtime_loop_with_a_chunk_is_begun_as_it_is icv loop some = rw some refl

-- and so is a loop with a schedule of its own
pub loop_with_a_schedule_is_begun_as_it_is : (icv : Variables) (chunk : ℤ) (loop : LoopDesc) →
    (call_made icv (LoopStart (loop_by sched.Static chunk loop)) ≡ LoopStart (loop_by sched.Static chunk loop))
    × (call_made icv (LoopStart (loop_by sched.Dynamic chunk loop)) ≡ LoopStart (loop_by sched.Dynamic chunk loop))
    × (call_made icv (LoopStart (loop_by sched.Guided chunk loop)) ≡ LoopStart (loop_by sched.Guided chunk loop))
loop_with_a_schedule_is_begun_as_it_is icv chunk loop = (refl, refl, refl)

-- any other call is made as it is
pub other_call_is_made_as_it_is : (icv : Variables) (made : Call) → ((loop : LoopDesc) → made ≢ LoopStart loop) → call_made icv made ≡ made
other_call_is_made_as_it_is icv (LoopStart loop) other = absurd (other loop refl)
other_call_is_made_as_it_is icv _ other = refl

-- the call that is refused in any case is of the last of all locks, which no team makes
pub refused_call_destroys_the_last_lock : refused_call ≡ LockDestroy 4294967295
refused_call_destroys_the_last_lock = refl

-- any refusal of it but that refuses a nested region, and no other reply does
pub other_refusal_is_of_the_tests : (refusal : Refusal) → refusal ≢ NoLock → tests_refusal (Refused refusal) ≡ Some refusal
other_refusal_is_of_the_tests NoLock other = absurd (other refl)
other_refusal_is_of_the_tests _ other = refl

pub other_reply_refuses_nothing : (given : Reply) → ((refusal : Refusal) → given ≢ Refused refusal) → tests_refusal given ≡ None
other_reply_refuses_nothing (Refused refusal) other = absurd (other refusal refl)
other_reply_refuses_nothing _ other = refl

-- What it asks of the region's end

-- a call that neither asks for the end nor once more asks nothing of it
pub other_call_asks_nothing_of_the_end : (made : Call) → made ≢ RegionEnd → made ≢ Resume → asked_by_call made ≡ asked.Other
other_call_asks_nothing_of_the_end RegionEnd end again = absurd (end refl)
other_call_asks_nothing_of_the_end Resume end again = absurd (again refl)
other_call_asks_nothing_of_the_end _ end again = refl

-- The tasks that a member executes at the region's end

-- the first is started by the call that asks for the end, whatever was before
pub first_task_is_started_at_the_end : (tasks : Option ℕ) (task code arg : ℕ) → end_tasks_after asked.End (Run task code arg false) tasks ≡ Some 1
first_task_is_started_at_the_end tasks task code arg = refl

-- any other is inside of those, up to the largest number of 32 bits
pub task_is_started_inside_of_others : (asks : Asked) (n task code arg : ℕ) → asks ≢ asked.End → n < 4294967295 → end_tasks_after asks (Run task code arg false) (Some n) ≡ Some (n + 1)
task_is_started_inside_of_others asked.End n task code arg other few = absurd (other refl)
task_is_started_inside_of_others asked.Again n task code arg other few = ap Some (omega (arith, few))
task_is_started_inside_of_others asked.Other n task code arg other few = ap Some (omega (arith, few))

pub tasks_stay_at_the_largest : (asks : Asked) (n task code arg : ℕ) → asks ≢ asked.End → 4294967295 ≤ n → end_tasks_after asks (Run task code arg false) (Some n) ≡ Some 4294967295
tasks_stay_at_the_largest asked.End n task code arg other many = absurd (other refl)
tasks_stay_at_the_largest asked.Again n task code arg other many = ap Some (omega (arith, many))
tasks_stay_at_the_largest asked.Other n task code arg other many = ap Some (omega (arith, many))

-- one that is started before the end is none of them
pub task_before_the_end_is_not_counted : (asks : Asked) (task code arg : ℕ) → asks ≢ asked.End → end_tasks_after asks (Run task code arg false) None ≡ None
task_before_the_end_is_not_counted asked.End task code arg other = absurd (other refl)
task_before_the_end_is_not_counted _ task code arg other = refl

-- nor is the call's own
pub own_task_is_not_counted : (asks : Asked) (tasks : Option ℕ) (task code arg : ℕ) → end_tasks_after asks (Run task code arg true) tasks ≡ tasks
own_task_is_not_counted asks tasks task code arg = refl

-- one that ends and opens its wait again is one less, and the last leaves none
pub ended_task_is_one_less : (asks : Asked) (n task : ℕ) → end_tasks_after asks (TaskDone task true) (Some (n + 1)) ≡ Some n
ended_task_is_one_less asks n task = ap Some (omega arith)

pub none_are_left_to_end : (asks : Asked) (task : ℕ) → (end_tasks_after asks (TaskDone task true) (Some 0) ≡ Some 0) × (end_tasks_after asks (TaskDone task true) None ≡ None)
none_are_left_to_end asks task = (refl, refl)

-- one that opens no wait was none of them
pub task_without_a_wait_is_not_counted : (asks : Asked) (tasks : Option ℕ) (task : ℕ) → end_tasks_after asks (TaskDone task false) tasks ≡ tasks
task_without_a_wait_is_not_counted asks tasks task = refl

-- any other reply leaves them as they were
pub other_reply_leaves_the_tasks : (asks : Asked) (tasks : Option ℕ) (given : Reply) → ((task code arg : ℕ) → given ≢ Run task code arg false) → ((task : ℕ) → given ≢ TaskDone task true) → end_tasks_after asks given tasks ≡ tasks
other_reply_leaves_the_tasks asks tasks (Run task code arg false) run done = absurd (run task code arg refl)
other_reply_leaves_the_tasks asks tasks (TaskDone task true) run done = absurd (done task refl)
other_reply_leaves_the_tasks asks tasks _ run done = refl

-- Iterations

-- those of a chunk are added, below 2^128, and at its end the sum stays
pub iterations_of_a_chunk_are_taken : (first : ℤ) (count taken : ℕ) → taken + count < 2 ^ 128 → taken_after (Chunk first count) taken ≡ taken + count
iterations_of_a_chunk_are_taken first count taken few = omega (arith, few)

pub iterations_stay_at_the_largest : (first : ℤ) (count taken : ℕ) → 340282366920938463463374607431768211455 ≤ taken + count → taken_after (Chunk first count) taken ≡ 340282366920938463463374607431768211455
iterations_stay_at_the_largest first count taken many = omega (arith, many)

-- no other reply has any
pub other_reply_takes_no_iterations : (given : Reply) (taken : ℕ) → ((first : ℤ) (count : ℕ) → given ≢ Chunk first count) → taken_after given taken ≡ taken
other_reply_takes_no_iterations (Chunk first count) taken other = absurd (other first count refl)
other_reply_takes_no_iterations _ taken other = refl

-- Nested regions

-- a member hands on its program, its tool, its variables, and what it has for its regions
pub member_hands_on_what_it_has : {I P T : Type 0} (runner : RunnerView I P T) →
    ((forker_of runner).prog ≡ runner.prog) × ((forker_of runner).tool ≡ runner.member.tool) × ((forker_of runner).icv ≡ runner.member.icv) × ((forker_of runner).inner ≡ runner.inner)
member_hands_on_what_it_has runner = (refl, refl, refl, refl)

-- and keeps its parts, its room and its variables
pub forking_member_keeps_its_parts : {I P T : Type 0} (forks : RegionAsked → ForkerView I P T → Reply → ForkerView I P T → Type 0) (region : RegionAsked) (given : Reply) (before after : RunnerView I P T) → HasForked forks region given before after →
    (after.member.events ≡ before.member.events) × (after.member.freed ≡ before.member.freed) × (after.member.room ≡ before.member.room) × (after.member.icv ≡ before.member.icv)
forking_member_keeps_its_parts forks region given before after has =
    (ap (λ member. member.events) has.member_is, ap (λ member. member.freed) has.member_is, ap (λ member. member.room) has.member_is, ap (λ member. member.icv) has.member_is)
