-- What the end of a group does to a board: the member ends it, executes a task, or waits.
use Rattle.std.proofs.Common.{◌≡◌, ℕ, List, ◌++◌, reverse, refl, sym, ◌∙◌, arith}
use Rattle.gomp_types.specs.declared.reply.Reply.{Reply}
use Rattle.gomp_types.specs.declared.reply.Reply.TheVariants.{Wait}
use Rattle.gomp_events.specs.declared.event.Event.{Event}
use Rattle.gomp_events.specs.Tasks.{executed_task}
use Rattle.gomp_events.specs.Groups.{open_groups}
use Rattle.gomp_events.specs.TaskCalls.{last_complete, AwaitsGroup, ends_group}
use Rattle.gomp_board.specs.declared.op.Op.TheVariants.{EndGroup, AwaitGroup}
use Rattle.gomp_board.specs.Boards.{BoardView, Stands, IsOpAdmitted, Performs}
use Rattle.gomp_board.proofs.AdmittedArrivals.{awaits_is_reply}
use Rattle.gomp_board.proofs.BoardEvents.{set_same}
use Rattle.gomp_board.proofs.Performed.{op_performed}
use Rattle.gomp_board.proofs.Waiting.{IsReply}

module _ (m : ℕ) (old after : BoardView) (reply : Reply) (own : Stands old (reverse old.history)) (answer : (h : List Event) → Stands old h → AwaitsGroup m h reply) (stands : (h : List Event) → Stands old h → Stands after (ends_group m h reply ++ h))
    (limits : after.limits ≡ old.limits) (room : after.room ≡ old.room) (kept : after.kept ≡ old.kept) (waits : reply ≡ Wait → after ≡ old) where
  is_reply : IsReply reply
  is_reply = let h = reverse old.history in awaits_is_reply m (last_complete (open_groups (executed_task m h) h) h) h reply (answer h own)

  pub group_ended : IsOpAdmitted EndGroup m old → Performs EndGroup m old after reply
  group_ended admitted = op_performed EndGroup m old after reply is_reply refl admitted answer stands limits (omega (arith, room)) (kept ∙ sym (set_same old.kept m)) (λ wait goes. waits wait)

  pub group_awaited : IsOpAdmitted AwaitGroup m old → Performs AwaitGroup m old after reply
  group_awaited admitted = op_performed AwaitGroup m old after reply is_reply refl admitted answer stands limits (omega (arith, room)) (kept ∙ sym (set_same old.kept m)) (λ wait goes. waits wait)
