use Rattle.std.proofs.Common.{◌∙◌, sym}
use Rattle.gomp_dispatch.proofs.Refused.{share_call_is_compared}
use Rattle.gomp_dispatch.proofs.refusals.compared_refusal.Goals as goal

pub returns-in-Shares-clause-compared : goal.returns-in-Shares-clause-compared
returns-in-Shares-clause-compared g c = λ p both. rw (← share_call_is_compared c.args.call.now c.args.starts.now (sym c.served_by.ensures ∙ c.in-Shares.is) c.requires.starts c.args.repeated c.args.member p) (c.compared_start_refusal.ensures.compared p.events both.0)
