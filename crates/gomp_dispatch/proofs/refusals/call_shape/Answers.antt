use Rattle.std.proofs.Common.{◌≡◌, ◌∙◌, ap, sym, false, None}
use Rattle.std.specs.Result.{result_err}
use Rattle.gomp_model.specs.Calls.{row_of}
use Rattle.gomp_dispatch.proofs.Refused.{refused_there, compared_last}
use Rattle.gomp_dispatch.proofs.refusals.call_shape.Goals as goal
use Rattle.gomp_dispatch.proofs.refusals.call_shape.Goals.{in-Ok, in-Err}

pub returns-in-Err-2-clause-least : goal.returns-in-Err-2-clause-least
returns-in-Err-2-clause-least g c = λ p bounds both leaves.
    let at = g.met.S.Shares.agrees c.args.shares.now p.events c.args.member both.0 c.requires.member in
    rw c.if-repeated.false (refused_there (row_of c.args.call.now) c.args.member p c.args.limits.now (g.S.Shares.seen c.args.shares.now c.args.member) (result_err c.place_leaving_shape.result) c.in-Err.field-0 bounds at
    (c.place_leaving_shape.ensures.place p.events leaves) (ap result_err c.in-Err.is))

pub returns-in-Some-clause-least : goal.returns-in-Some-clause-least
returns-in-Some-clause-least g c = λ p bounds both leaves.
    let at = g.met.S.Shares.agrees c.args.shares.now p.events c.args.member both.0 c.requires.member in
    let fine : c.args.repeated ≡ false → result_err c.place_leaving_shape.result ≡ None = λ made. elim c.match-place_leaving_shape.branch [ in-Ok w ↦ ap result_err w.in-Ok.is | in-Err w ↦ absurd (let both = sym w.if-repeated.true ∙ made in cc) ] in
    sym c.in-Some.is ∙ compared_last c.args.repeated (row_of c.args.call.now) c.args.member p c.args.limits.now (g.S.Shares.seen c.args.shares.now c.args.member) (result_err c.place_leaving_shape.result) c.later_refusal.result bounds at
    (c.place_leaving_shape.ensures.place p.events leaves) fine (c.later_refusal.ensures.later p both)

pub returns-in-None-clause-least : goal.returns-in-None-clause-least
returns-in-None-clause-least g c = λ p bounds both leaves.
    let at = g.met.S.Shares.agrees c.args.shares.now p.events c.args.member both.0 c.requires.member in
    let fine : c.args.repeated ≡ false → result_err c.place_leaving_shape.result ≡ None = λ made. elim c.match-place_leaving_shape.branch [ in-Ok w ↦ ap result_err w.in-Ok.is | in-Err w ↦ absurd (let both = sym w.if-repeated.true ∙ made in cc) ] in
    sym c.in-None.is ∙ compared_last c.args.repeated (row_of c.args.call.now) c.args.member p c.args.limits.now (g.S.Shares.seen c.args.shares.now c.args.member) (result_err c.place_leaving_shape.result) c.later_refusal.result bounds at
    (c.place_leaving_shape.ensures.place p.events leaves) fine (c.later_refusal.ensures.later p both)
