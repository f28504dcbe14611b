use Rattle.gomp_gate.proofs.Gates.{cancels_word}
use Rattle.gomp_gate.proofs.gate.cancelled.Goals as goal

pub returns : goal.returns
returns c = record { fields = cancels_word c.args.word }
