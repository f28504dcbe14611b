use Rattle.gomp_live.proofs.ServeLemmas.{flushed_answer}
use Rattle.gomp_live.proofs.serve.write_answer.Goals as goal

pub returns : goal.returns
returns g c = flushed_answer _ _ _ _ _ (rw c.as_bytes.ensures.value at c.if-not-write_whole.ensures) c.flush.ensures.bytes
