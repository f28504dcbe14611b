use Rattle.std.proofs.Common.{refl}
use Rattle.gomp_words.specs.Calls.{items_of}
use Rattle.gomp_words.proofs.Readings.{taskwait_takes_memory}
use Rattle.gomp_words.proofs.call.taskwait.Goals as goal

pub returns-in_err-items-clause-memory : goal.returns-in_err-items-clause-memory
returns-in_err-items-clause-memory c = λ _. taskwait_takes_memory (items_of c.args.arguments.now) (c.in_err-items.ensures.memory refl)
