-- What a member is answered at a wait, by its goal: passed if that is met, and else a task to execute, or to wait.
use Rattle.std.proofs.Common.{◌≡◌, ℕ, Bool, true, false, List, ◌++◌, None, refl, sym, subst}
use Rattle.std.specs.Prelude.{◌≢◌}
use Rattle.gomp_types.specs.declared.limits.Limits.{Limits}
use Rattle.gomp_types.specs.declared.refusal.Refusal.{Refusal}
use Rattle.gomp_types.specs.declared.reply.Reply.{Reply}
use Rattle.gomp_types.specs.declared.reply.Reply.TheVariants.{Passed, Wait, Run, Refused}
use Rattle.gomp_types.specs.declared.depend.Dep.{Dep}
use Rattle.gomp_events.specs.declared.event.Event.{Event}
use Rattle.gomp_events.specs.TaskCalls.{AwaitsTasks, starts_task, waited, ends_group}
use Rattle.gomp_events.specs.Goals.{is_startable}
use Rattle.gomp_board.specs.declared.op.Op.{Op}
use Rattle.gomp_board.specs.Boards.{RunsTask}
use Rattle.gomp_board.specs.Ops.{op_refusal, op_after, op_gives, begun, passes_barrier, OpReply, OpAnswer}

-- a reply that is no refusal
abbrev pub IsReply : Reply → Type 0
IsReply (Refused refusal) = ⊥
IsReply _ = Unit {0}

-- is the operation's if no test refuses that
pub op_answered : (limits : Limits) (room kept members m : ℕ) (op : Op) (h : List Event) (reply : Reply) → IsReply reply → op_refusal limits room kept m op h ≡ None → OpReply members m op (begun m op h) reply → OpAnswer limits room kept members m op h reply
op_answered limits room kept members m op h (Refused refusal) is fine may = absurd is
op_answered limits room kept members m op h _ is fine may = (fine, may)

-- and gives the operation's events
pub after_reply : (m : ℕ) (op : Op) (reply : Reply) (h : List Event) → IsReply reply → op_after m op reply h ≡ op_gives m op (begun m op h) reply ++ begun m op h
after_reply m op (Refused refusal) h is = absurd is
after_reply m op _ h is = refl

pub not_refused : (reply : Reply) (refusal : Refusal) → IsReply reply → reply ≡ Refused refusal → ⊥
not_refused reply refusal is e = subst IsReply e is

-- The goal is not met

pub runs_is_reply : (m : ℕ) (h : List Event) (reply : Reply) → AwaitsTasks m false h reply → IsReply reply
runs_is_reply m h (Refused refusal) runs = runs
runs_is_reply m h _ runs = tt

-- whatever the goal is
pub runs_unmet : (m : ℕ) (met : Bool) (h : List Event) (reply : Reply) → met ≡ false → AwaitsTasks m false h reply → AwaitsTasks m met h reply
runs_unmet m met h reply unmet runs = subst (λ (b : Bool). AwaitsTasks m b h reply) (sym unmet) runs

-- the reply gives the start of the task alone
pub waited_runs : (m : ℕ) (items : List Dep) (h : List Event) (reply : Reply) → AwaitsTasks m false h reply → waited m items reply ≡ starts_task m reply
waited_runs m items h Passed runs = absurd (cc)
waited_runs m items h _ runs = refl

pub ended_runs : (m : ℕ) (h : List Event) (reply : Reply) → AwaitsTasks m false h reply → ends_group m h reply ≡ starts_task m reply
ended_runs m h Passed runs = absurd (cc)
ended_runs m h _ runs = refl

pub passed_runs : (m : ℕ) (h : List Event) (reply : Reply) → AwaitsTasks m false h reply → passes_barrier m h reply ≡ starts_task m reply
passed_runs m h Passed runs = absurd (cc)
passed_runs m h _ runs = refl

-- A task is started

-- the reply is not to wait
pub runs_no_wait : (t : ℕ) (own : Bool) (h : List Event) (reply : Reply) → RunsTask t own h reply → reply ≢ Wait
runs_no_wait t own h reply runs wait = subst (RunsTask t own h) wait runs

-- at a wait it is started as not the member's own
pub starts_startable : (m t : ℕ) (h : List Event) (reply : Reply) → RunsTask t false h reply → is_startable m t h ≡ true → AwaitsTasks m false h reply
starts_startable m t h (Run task code arg own) runs may = rw (runs.0, runs.1) (refl, refl, may, runs.2)
starts_startable m t h _ runs may = absurd runs
