-- Waits at which no event says that a member waits: what it is answered then, and what it is not.
use Rattle.std.proofs.Common.{◌≡◌, true, false, [], ◌∷◌, Some, None, refl, rules}
use Rattle.std.specs.Prelude.{map}
use Rattle.gomp_types.specs.declared.refusal.Place.TheVariants.{Share, Stopped as AtStop}
use Rattle.gomp_types.specs.declared.refusal.Refusal.TheVariants.{Ended, Broken, Waiting, NotInside, NoMemory}
use Rattle.gomp_types.specs.declared.reply.Reply.TheVariants.{Wait, Passed, Finished, Run, TaskDone, Stopped, Refused}
use Rattle.gomp_events.specs.declared.event.Event.TheVariants.{Done}
use Rattle.gomp_board.specs.declared.op.Op.TheVariants.{Create, AwaitOwn, EndTask, Taskwait, AwaitChildren, OpenGroup, AwaitGroup, AwaitBarrier, Reserve, Break}
use Rattle.gomp_board.specs.Examples.{seven, one_ready, one_runs, one_done, other_runs, first_waits, first_left, stopped, usual_refusal}
use Rattle.gomp_waits.specs.Examples.{refusal_amid, AnsweredAmid, NeverAmid}

-- a taskwait waits for the task that another member executes
pub taskwait_opens_its_wait : AnsweredAmid false (Taskwait []) other_runs Wait true
taskwait_opens_its_wait = search rules

-- then the member asks for nothing else, though the board alone would serve it
pub no_group_amid_taskwait : AnsweredAmid true OpenGroup other_runs (Refused Waiting) true × (usual_refusal OpenGroup other_runs ≡ None) × NeverAmid true OpenGroup other_runs (Finished ∷ Wait ∷ Refused NoMemory ∷ [])
no_group_amid_taskwait = search rules

pub nothing_else_amid_taskwait : map (λ op. refusal_amid true op other_runs) (Create seven ∷ Taskwait [] ∷ EndTask false ∷ OpenGroup ∷ Reserve 1 ∷ Break (Share 0) 0 ∷ []) ≡ Some Waiting ∷ Some Waiting ∷ Some Waiting ∷ Some Waiting ∷ Some Waiting ∷ Some Waiting ∷ []
nothing_else_amid_taskwait = refl

-- the wait goes on until the task has ended, and is passed then
pub taskwait_waits_on : AnsweredAmid true (AwaitChildren []) other_runs Wait true × AnsweredAmid true (AwaitChildren []) (Done 1 1 ∷ other_runs) Passed false
taskwait_waits_on = search rules

-- a stop stops the team from a wait
pub stop_amid_taskwait : AnsweredAmid true (Break AtStop 0) other_runs Stopped false
stop_amid_taskwait = search rules

-- a task that the member executes at the wait may ask for anything; when it has ended, the wait is open again
pub task_at_taskwait : AnsweredAmid true (AwaitChildren []) one_ready (Run 1 7 9 false) false × (refusal_amid false OpenGroup one_runs ≡ None) × AnsweredAmid false (EndTask false) one_runs (TaskDone 1 true) true
task_at_taskwait = search rules

pub refused_behind_the_task : AnsweredAmid true OpenGroup one_done (Refused Waiting) true × AnsweredAmid true (AwaitChildren []) one_done Passed false
refused_behind_the_task = search rules

-- no wait goes on that is not open
pub no_wait_to_go_on : map (λ op. refusal_amid false op other_runs) (AwaitOwn ∷ AwaitChildren [] ∷ AwaitGroup ∷ AwaitBarrier ∷ []) ≡ Some NotInside ∷ Some NotInside ∷ Some NotInside ∷ Some NotInside ∷ []
no_wait_to_go_on = refl

-- of a member that has left, or whose team is broken, that is the refusal
pub ended_before_waiting : refusal_amid true OpenGroup first_left ≡ Some Ended
ended_before_waiting = refl

pub broken_before_waiting : refusal_amid true OpenGroup stopped ≡ Some (Broken (record { member = 1; place = AtStop }))
broken_before_waiting = refl

-- at a barrier both agree
pub waiting_at_a_barrier : (refusal_amid true OpenGroup first_waits ≡ Some Waiting) × (usual_refusal OpenGroup first_waits ≡ Some Waiting)
waiting_at_a_barrier = (refl, refl)
