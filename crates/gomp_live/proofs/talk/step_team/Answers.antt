use Rattle.std.proofs.Common.{◌++◌, ◌∙◌, ℕ, List, ap}
use Rattle.gomp_script.specs.Printing.{reply_line}
use Rattle.gomp_live.proofs.TalkLemmas.{step_said}
use Rattle.gomp_live.proofs.talk.step_team.Goals as goal

pub returns : goal.returns
returns g c = λ icv made is.
    let line = c.in_ok-print_reply.ensures ∙ ap (λ (bytes : List ℕ). bytes ++ reply_line c.step-reply.result) c.new-answer.ensures.bytes in
    step_said g.S.Shares.stands g.S.Shares.members icv c.args.team.now _ made c.args.step c.step-reply.result _ is
    c.step-reply.ensures.keeps c.step-reply.ensures.answer c.step-reply.ensures.stands line
