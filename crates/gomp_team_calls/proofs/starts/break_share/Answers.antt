use Rattle.gomp_types.specs.declared.refusal.Place.TheVariants.{Share}
use Rattle.gomp_types.specs.declared.reply.Reply.TheVariants.{Refused}
use Rattle.gomp_board.specs.declared.op.Op.TheVariants.{Break}
use Rattle.gomp_team_board.proofs.Moved.{refusal_counts_nothing}
use Rattle.gomp_team_calls.proofs.Started.{unmoved_counts_stay}
use Rattle.gomp_team_calls.proofs.starts.break_share.Goals as goal

pub returns-clause-counts : goal.returns-clause-counts
returns-clause-counts g c =
    let op = Break (Share c.args.share) c.args.back in
    unmoved_counts_stay op c.args.member c.args.board.now c.step.new.self (Refused c.in-Refused.refusal) (refusal_counts_nothing op c.in-Refused.refusal) c.in-Refused.ensures.counts
