-- What the creator of a task is answered, by whether the task is undeferred and may be started.
use Rattle.std.proofs.Common.{◌≡◌, ℕ, Bool, true, false, List, ◌++◌, refl, sym, subst, arith}
use Rattle.gomp_types.specs.declared.reply.Reply.{Reply}
use Rattle.gomp_types.specs.declared.reply.Reply.TheVariants.{Passed, Wait, Created, Run, Dropped, Refused}
use Rattle.gomp_events.specs.declared.event.Event.{Event}
use Rattle.gomp_events.specs.Tasks.{executed_task, is_undeferred, newest_child}
use Rattle.gomp_events.specs.Goals.{may_start}
use Rattle.gomp_events.specs.TaskCalls.{AnswersCreator, CreatesTask, creates, AwaitsOwn, AwaitsTasks}
use Rattle.gomp_events.specs.CancelCalls.{creates_covered, CreatesOrDrops}
use Rattle.gomp_types.specs.declared.task.TaskDesc.{TaskDesc}
use Rattle.gomp_board.specs.declared.op.Op.TheVariants.{Create, AwaitOwn}
use Rattle.gomp_board.specs.Ops.{begun, keeps_room}
use Rattle.gomp_board.specs.Boards.{BoardView, Stands, IsOpAdmitted, Performs, RunsTask}
use Rattle.gomp_board.proofs.Performed.{nothing_changed}
use Rattle.gomp_board.proofs.Waiting.{IsReply}

-- no answer of it is a refusal
pub creator_is_answered : (m : ℕ) (h : List Event) (reply : Reply) → CreatesTask m h reply → IsReply reply
creator_is_answered m h (Refused refusal) may = never (is_undeferred (newest_child (executed_task m h) h) h) may
  where
    never : (b : Bool) → AnswersCreator b m (newest_child (executed_task m h) h) h (Refused refusal) → ⊥
    never true may = may
    never false may = absurd (cc)
creator_is_answered m h _ may = tt

-- of a deferred task its number
pub creator_gets_number : (m t : ℕ) (h : List Event) → t ≡ newest_child (executed_task m h) h → is_undeferred t h ≡ false → CreatesTask m h (Created t)
creator_gets_number m t h newest deferred = subst (λ (n : ℕ). AnswersCreator (is_undeferred n h) m n h (Created t)) newest (rw deferred refl)

undeferred_answer : (m t : ℕ) (h : List Event) (reply : Reply) → t ≡ newest_child (executed_task m h) h → is_undeferred (newest_child (executed_task m h) h) h ≡ true → AwaitsOwn m t h reply → CreatesTask m h reply
undeferred_answer m t h reply newest undeferred own = rw undeferred (subst (λ (n : ℕ). AwaitsOwn m n h reply) newest own)

-- an undeferred one is started if it may be
own_starts : (m t : ℕ) (h : List Event) (reply : Reply) → may_start m t h ≡ true → RunsTask t true h reply → AwaitsOwn m t h reply
own_starts m t h (Run task code arg true) may runs = (runs.0, may, runs.2)
own_starts m t h (Run task code arg false) may runs = absurd (let never = runs.1 in cc)
own_starts m t h _ may runs = absurd runs

pub creator_starts : (m t : ℕ) (h : List Event) (reply : Reply) → t ≡ newest_child (executed_task m h) h → is_undeferred (newest_child (executed_task m h) h) h ≡ true → may_start m t h ≡ true → RunsTask t true h reply → CreatesTask m h reply
creator_starts m t h reply newest undeferred may runs = undeferred_answer m t h reply newest undeferred (own_starts m t h reply may runs)

-- and else waited for
own_waits : (m t : ℕ) (h : List Event) (reply : Reply) → may_start m t h ≡ false → AwaitsTasks m false h reply → AwaitsOwn m t h reply
own_waits m t h Passed held waits = absurd (cc)
own_waits m t h Wait held waits = (held, waits.1)
own_waits m t h (Run task code arg true) held waits = absurd (let never = waits.1 in cc)
own_waits m t h (Run task code arg false) held waits = (held, waits.1, waits.2, waits.3)
own_waits m t h _ held waits = absurd waits

pub creator_has_to_wait : (m t : ℕ) (h : List Event) (reply : Reply) → t ≡ newest_child (executed_task m h) h → is_undeferred (newest_child (executed_task m h) h) h ≡ true → may_start m t h ≡ false → AwaitsTasks m false h reply → CreatesTask m h reply
creator_has_to_wait m t h reply newest undeferred held waits = undeferred_answer m t h reply newest undeferred (own_waits m t h reply held waits)

-- Of a task that nothing reaches

pub answers_undropped : (m : ℕ) (h : List Event) (reply : Reply) → creates_covered m h ≡ false → CreatesTask m h reply → CreatesOrDrops m h reply
answers_undropped m h reply uncovered may = rw uncovered may

pub answers_dropped : (m : ℕ) (h : List Event) → creates_covered m h ≡ true → CreatesOrDrops m h Dropped
answers_dropped m h covered = rw covered refl

pub creates_begun : (m : ℕ) (desc : TaskDesc) (h : List Event) → creates_covered m h ≡ false → begun m (Create desc) h ≡ creates m desc h ++ h
creates_begun m desc h uncovered = rw uncovered refl

-- a task that is created keeps its room
pub creator_keeps_room : (m : ℕ) (desc : TaskDesc) (h : List Event) (reply : Reply) → CreatesTask m h reply → keeps_room (Create desc) reply ≡ true
creator_keeps_room m desc h Dropped may = absurd (never (is_undeferred (newest_child (executed_task m h) h) h) may)
  where
    never : (b : Bool) → AnswersCreator b m (newest_child (executed_task m h) h) h Dropped → ⊥
    never true may = may
    never false may = absurd (cc)
creator_keeps_room m desc h _ may = refl

-- one that is dropped changes nothing
pub creation_dropped : (m : ℕ) (desc : TaskDesc) (board : BoardView) → IsOpAdmitted (Create desc) m board → ((h : List Event) → Stands board h → creates_covered m h ≡ true) → Performs (Create desc) m board board Dropped
creation_dropped m desc board admitted covered =
    nothing_changed (Create desc) m board Dropped tt admitted
    (λ h st. let here = covered h st in let same : begun m (Create desc) h ≡ h = rw here refl in subst (λ (g : List Event). CreatesOrDrops m g Dropped) (sym same) (answers_dropped m h here))
    (λ h st. let here = covered h st in rw here refl) (λ h st. refl) refl refl

pub own_dropped : (m : ℕ) (board : BoardView) → IsOpAdmitted AwaitOwn m board → ((h : List Event) → Stands board h → creates_covered m h ≡ true) → Performs AwaitOwn m board board Dropped
own_dropped m board admitted covered = nothing_changed AwaitOwn m board Dropped tt admitted (λ h st. answers_dropped m h (covered h st)) (λ h st. refl) (λ h st. refl) (omega arith) refl
