use Rattle.gomp_steps.proofs.AnsweredLines.{both_on_ok}
use Rattle.gomp_steps.proofs.answer.answer_step.Goals as goal

pub returns : goal.returns
returns g c =
    both_on_ok c.tell.result c.tell.ensures.text c.tell.ensures.code (λ text code. record { reply = c.step-reply.result; keeps = c.step-reply.ensures.keeps; stands_now = c.step-reply.ensures.stands; text_is = text; code_is = code })
