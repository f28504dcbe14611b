use Rattle.std.proofs.Common.{Bool, false, Option, None, ap, subst, sym, ◌∙◌}
use Rattle.gomp_types.specs.declared.refusal.Refusal.{Refusal}
use Rattle.gomp_types.specs.Least.{lesser}
use Rattle.gomp_member.specs.Refused.{own_refusal, task_refusal}
use Rattle.gomp_team.specs.Answers.{AnswersInside}
use Rattle.gomp_team.specs.Members.{SharedView}
use Rattle.gomp_team.specs.Seats.{inside_of}
use Rattle.gomp_team.proofs.AnswerLaws.{finds_as_it_knows, free_inside_answered, inside_answered, nothing_is_not_lesser}
use Rattle.gomp_team.proofs.ItsShare.{asked_inside, its_share_is_no_resume, its_share_is_served}
use Rattle.gomp_team.proofs.team.SharedTeam.answer_by_seat.Goals as goal

pub returns-in-Some-clause-seat : goal.returns-in-Some-clause-seat
returns-in-Some-clause-seat g c =
    let allowed = c.cancellation.ensures ∙ ap (λ (shared : SharedView). shared.team.icv.cancellation) c.self.view_is in
    let inside = ap (λ (may : Bool). inside_of may c.args.call.now) (sym allowed) ∙ (sym c.inside_call.ensures.call ∙ c.in-Some.is) in
    asked_inside c.args.self.now.team.icv.cancellation c.args.call.now c.in-Some.inside c.args.seat.now c.answer_inside.result c.answer_inside.new.seat c.requires.asks inside c.answer_inside.ensures.seat

pub returns-in-Some-2-clause-seat : goal.returns-in-Some-2-clause-seat
returns-in-Some-2-clause-seat g c =
    let allowed = c.cancellation.ensures ∙ ap (λ (shared : SharedView). shared.team.icv.cancellation) c.self.view_is in
    let inside = ap (λ (may : Bool). inside_of may c.args.call.now) (sym allowed) ∙ (sym c.inside_call.ensures.call ∙ c.in-Some.is) in
    asked_inside c.args.self.now.team.icv.cancellation c.args.call.now c.in-Some.inside c.args.seat.now c.answer_unless.result c.answer_unless.new.seat c.requires.asks inside c.answer_unless.ensures.seat

pub returns-in-Some-clause-answers : goal.returns-in-Some-clause-answers
returns-in-Some-clause-answers g c =
    let allowed = c.cancellation.ensures ∙ ap (λ (shared : SharedView). shared.team.icv.cancellation) c.self.view_is in
    let inside = ap (λ (may : Bool). inside_of may c.args.call.now) (sym allowed) ∙ (sym c.inside_call.ensures.call ∙ c.in-Some.is) in
    let (cancelled, now, serves) = c.answer_inside.ensures.inside in
    free_inside_answered c.args.self.now.team.icv.cancellation c.args.state.now.own c.args.call.now c.in-Some.inside cancelled c.args.seat.now now c.answer_inside.result
    (its_share_is_served c.args.call.now c.requires.asks) inside (sym c.is_free.ensures ∙ c.if-is_free.true) (its_share_is_no_resume c.args.call.now c.requires.asks) serves

pub returns-in-Some-2-clause-answers : goal.returns-in-Some-2-clause-answers
returns-in-Some-2-clause-answers g c =
    let own = c.args.state.now.own in
    let allowed = c.cancellation.ensures ∙ ap (λ (shared : SharedView). shared.team.icv.cancellation) c.self.view_is in
    let inside = ap (λ (may : Bool). inside_of may c.args.call.now) (sym allowed) ∙ (sym c.inside_call.ensures.call ∙ c.in-Some.is) in
    let (placed, lets, answered) = c.answer_unless.ensures.inside in
    let found = own_refusal placed own c.args.call.now in
    inside_answered c.args.self.now.team.icv.cancellation false own c.args.call.now c.in-Some.inside found None c.args.seat.now c.answer_unless.result
    (its_share_is_served c.args.call.now c.requires.asks) inside (placed, lets, finds_as_it_knows found own c.args.call.now) tt
    (subst (λ (refused : Option Refusal). AnswersInside refused c.in-Some.inside c.args.seat.now c.answer_unless.result) (sym (nothing_is_not_lesser (lesser found (task_refusal own)))) answered)
