use Rattle.std.proofs.Common.{◌≡◌}
use Rattle.gomp_types.specs.declared.reply.Reply.TheVariants.{Finished, Refused}
use Rattle.gomp_types.specs.declared.refusal.Refusal.TheVariants.{Mismatch}
use Rattle.gomp_team_board.proofs.Moved.{refusal_counts_nothing}
use Rattle.gomp_team_calls.proofs.Started.{unmoved_counts_stay, done_counts_nothing, at_once_never_mismatches}
use Rattle.gomp_team_calls.proofs.starts.do_at_once.Goals as goal

pub returns-in-Finished-clause-counts : goal.returns-in-Finished-clause-counts
returns-in-Finished-clause-counts g c = unmoved_counts_stay c.args.op.now c.args.member c.args.board.now c.step.new.self Finished (done_counts_nothing c.args.op.now c.requires.op) c.in-Finished.ensures.counts

pub returns-in-Refused-clause-counts : goal.returns-in-Refused-clause-counts
returns-in-Refused-clause-counts g c = unmoved_counts_stay c.args.op.now c.args.member c.args.board.now c.step.new.self (Refused c.in-Refused.refusal) (refusal_counts_nothing c.args.op.now c.in-Refused.refusal) c.in-Refused.ensures.counts

pub returns-in-Refused-clause-compares : goal.returns-in-Refused-clause-compares
returns-in-Refused-clause-compares g c = λ same.
    let is : c.in-Refused.refusal ≡ Mismatch = cc in
    at_once_never_mismatches c.args.op.now c.args.member c.args.board.now c.step.new.self _ c.requires.op c.in-Refused.ensures.known (rw is at c.in-Refused.ensures.answer)
