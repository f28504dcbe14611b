use Rattle.std.proofs.Common.{◌∙◌, Bool, Option, None, ap, refl, subst, sym}
use Rattle.gomp_types.specs.declared.refusal.Refusal.{Refusal}
use Rattle.gomp_events.specs.declared.event.Arrival.TheVariants.{ShareEnd}
use Rattle.gomp_board.specs.declared.op.Op.TheVariants.{AwaitBarrier}
use Rattle.gomp_team_board.specs.Locked.{IsAnsweredUnless}
use Rattle.gomp_team_calls.specs.Arrivals.{arrival_with}
use Rattle.gomp_team.proofs.AnswerLaws.{nothing_is_not_lesser, op_answered_so}
use Rattle.gomp_team.proofs.team.SharedTeam.end.Goals as goal

pub returns-then-repeated-clause-answer : goal.returns-then-repeated-clause-answer
returns-then-repeated-clause-answer g c =
    rw c.if-repeated.true (None, refl, subst (λ (found : Option Refusal). IsAnsweredUnless found AwaitBarrier c.args.parts.now.seat.member c.ask.result) (sym (nothing_is_not_lesser c.args.found)) c.ask.ensures.answer)

pub returns-clause-answer : goal.returns-clause-answer
returns-clause-answer g c =
    let entered = c.args.parts.now.seat.seen.entered in
    let ends = c.end_share-asked.ensures.ends in
    let is = c.end_share-asked.ensures.op ∙ ap (λ (leaving : Bool). arrival_with ShareEnd leaving entered) (ap (λ leaving. leaving.region) c.leaving-leaving.ensures) in
    rw (c.if-repeated.false, c.tell.ensures)
    (ends.place, (ends.between, ends.finds), op_answered_so _ _ _ c.end_share-asked.result.op _ _ _ c.end_share-asked.result.reply c.end_share-asked.ensures.known is refl ends.answers c.end_share-asked.ensures.counts)
