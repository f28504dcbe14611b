use Rattle.std.proofs.Common.{◌∙◌, Bool, Option, ap, subst, sym}
use Rattle.gomp_types.specs.declared.refusal.Refusal.{Refusal}
use Rattle.gomp_types.specs.Least.{least, lesser}
use Rattle.gomp_board.specs.declared.op.Op.TheVariants.{AwaitBarrier}
use Rattle.gomp_team_board.specs.Locked.{IsAnsweredUnless}
use Rattle.gomp_team_calls.specs.Arrivals.{arrival_place_tests, arrival_with}
use Rattle.gomp_team.proofs.AnswerLaws.{nothing_is_not_lesser, op_answered_so}
use Rattle.gomp_team.proofs.team.SharedTeam.arrive.Goals as goal

pub returns-then-repeated-clause-answer : goal.returns-then-repeated-clause-answer
returns-then-repeated-clause-answer g c =
    rw c.if-repeated.true (subst (λ (found : Option Refusal). IsAnsweredUnless found AwaitBarrier c.args.parts.now.seat.member c.ask.result) (sym (nothing_is_not_lesser c.args.found)) c.ask.ensures.answer)

pub returns-clause-answer : goal.returns-clause-answer
returns-clause-answer g c =
    let seen = c.args.parts.now.seat.seen in
    let leaves = ap (λ leaving. leaving.region) c.leaving-leaving.ensures in
    let is = c.arrive-asked.ensures.op ∙ ap (λ (leaving : Bool). arrival_with c.args.kind leaving seen.entered) leaves in
    let same = ap (λ (leaving : Bool). lesser c.args.found (least (arrival_place_tests c.args.kind leaving seen))) leaves in
    rw (c.if-repeated.false, c.tell.ensures) (op_answered_so _ _ _ c.arrive-asked.result.op _ _ _ c.arrive-asked.result.reply c.arrive-asked.ensures.known is same c.arrive-asked.ensures.answer c.arrive-asked.ensures.counts)
