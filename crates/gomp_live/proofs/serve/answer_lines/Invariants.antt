use Rattle.gomp_live.proofs.ServeLemmas.{GoesOn}
use Rattle.gomp_live.proofs.serve.answer_lines.Given as goal

-- the lines so far were answered
abbrev pub invariant-loop : goal.invariant-loop
invariant-loop g l =
    GoesOn g.S.Shares.stands g.S.Shares.members l.fn.talk.icv (g.R.Read.remaining l.fn.reader) (g.R.Read.remaining l.reader)
    (g.W.Write.contents l.fn.writer) (g.W.Write.contents l.writer) l.talk
