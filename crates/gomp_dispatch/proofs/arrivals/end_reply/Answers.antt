use Rattle.std.proofs.Common.{ℕ, sym, subst}
use Rattle.gomp_events.specs.declared.event.Arrival.TheVariants.{ShareEnd}
use Rattle.gomp_events.specs.Tags.{tag_with}
use Rattle.gomp_board.specs.Boards.{IsOpAdmittedOnce, Performs}
use Rattle.gomp_dispatch.specs.Serves.{arrival_op, left_once}
use Rattle.gomp_dispatch.proofs.Answered.{left_entered}
use Rattle.gomp_dispatch.proofs.arrivals.end_reply.Goals as goal

pub arrival_reply-requires-clause-admitted : goal.arrival_reply-requires-clause-admitted
arrival_reply-requires-clause-admitted g c =
    let (h, st, once) = c.requires.admitted in
    let repeated = c.args.manner.repeated in let m = c.args.member in (
      left_once repeated m h,
      c.leave.ensures.left h st,
      subst (λ (n : ℕ). IsOpAdmittedOnce (arrival_op repeated c.args.manner.leaving.region (tag_with ShareEnd n)) m c.args.board.now) (sym (left_entered repeated m h)) once,
    )

pub returns-clause-performs : goal.returns-clause-performs
returns-clause-performs g c = λ h st.
    let repeated = c.args.manner.repeated in let m = c.args.member in
    subst (λ (n : ℕ). Performs (arrival_op repeated c.args.manner.leaving.region (tag_with ShareEnd n)) m c.args.board.now c.arrival_reply.new.board c.arrival_reply.result) (left_entered repeated m h)
    (c.arrival_reply.ensures.performs (left_once repeated m h) (c.leave.ensures.left h st))
