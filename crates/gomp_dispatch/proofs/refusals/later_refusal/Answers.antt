use Rattle.std.proofs.Common.{◌∙◌, sym}
use Rattle.gomp_model.specs.Calls.{row_of}
use Rattle.gomp_dispatch.proofs.Refused.{undrained_first, drained_then, lets_end, compared_high}
use Rattle.gomp_dispatch.proofs.refusals.later_refusal.Goals as goal

pub returns-in-Some-clause-later : goal.returns-in-Some-clause-later
returns-in-Some-clause-later g c = λ p both.
    let row = row_of c.args.call.now in
    rw c.if-repeated.false (undrained_first row c.args.member p c.in-Some.refusal (sym c.in-Some.is ∙ c.share_end_refusal.ensures.drains p.events both.0) (compared_high c.args.call.now c.args.member p))

pub returns-clause-later : goal.returns-clause-later
returns-clause-later g c = λ p both.
    let row = row_of c.args.call.now in
    rw c.if-repeated.false (drained_then row c.args.member p c.compared_refusal-2.result (sym c.in_default.is ∙ c.share_end_refusal.ensures.drains p.events both.0) (c.compared_refusal-2.ensures.compared p (rw c.share_end_refusal.ensures.kept both)))

pub returns-clause-drained : goal.returns-clause-drained
returns-clause-drained g c = λ none first drains h st. lets_end (row_of c.args.call.now).drains c.args.member h (sym c.in_default.is ∙ c.share_end_refusal.ensures.drains h st) drains

-- a call that is repeated is only compared
pub returns-then-repeated-clause-later : goal.returns-then-repeated-clause-later
returns-then-repeated-clause-later g c = λ p both. rw c.if-repeated.true (c.compared_refusal.ensures.compared p both)
