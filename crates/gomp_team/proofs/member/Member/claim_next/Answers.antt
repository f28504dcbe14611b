use Rattle.std.proofs.Common.{sym, ◌∙◌}
use Rattle.gomp_team.proofs.ClaimsAlone.{chunk_never_cut, chunk_never_waits}
use Rattle.gomp_team.proofs.member.Member.claim_next.Goals as goal

pub returns-then-may_claim_chunk-clause-turns : goal.returns-then-may_claim_chunk-clause-turns
returns-then-may_claim_chunk-clause-turns g c = λ waits. absurd (chunk_never_waits c.claim_chunk.result.first c.claim_chunk.result.count (sym c.into_reply.ensures ∙ waits))

pub returns-then-may_claim_chunk-clause-uncut : goal.returns-then-may_claim_chunk-clause-uncut
returns-then-may_claim_chunk-clause-uncut g c = λ cut. chunk_never_cut c.claim_chunk.result.first c.claim_chunk.result.count (sym c.into_reply.ensures ∙ cut)
