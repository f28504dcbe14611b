use Rattle.std.proofs.Common.{refl}
use Rattle.gomp_team.proofs.AnswerLaws.{op_answered_so}
use Rattle.gomp_team.proofs.team.SharedTeam.put.Goals as goal

pub returns-clause-answer : goal.returns-clause-answer
returns-clause-answer g c =
    rw c.tell.ensures (op_answered_so _ _ _ c.put_words-asked.result.op _ _ _ c.put_words-asked.result.reply c.put_words-asked.ensures.known c.put_words-asked.ensures.op refl c.put_words-asked.ensures.answer c.put_words-asked.ensures.counts)
