use Rattle.std.proofs.Common.{sym, ◌∙◌, refl}
use Rattle.gomp_words.proofs.Readings.{task_takes_memory}
use Rattle.gomp_words.proofs.call.task_create.Goals as goal

pub returns-in_err-deps-clause-memory : goal.returns-in_err-deps-clause-memory
returns-in_err-deps-clause-memory c = λ _.
    task_takes_memory c.args.arguments.now c.in-Some-Some.undeferred c.in-Some-Some.final_task c.in-len4-up.len_at_least
    (sym c.read_flag.ensures ∙ c.in-Some-Some.is-0) (sym c.read_flag-2.ensures ∙ c.in-Some-Some.is-1) (c.in_err-deps.ensures.memory refl)
