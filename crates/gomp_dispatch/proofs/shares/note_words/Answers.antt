use Rattle.gomp_dispatch.proofs.shares.note_words.Goals as goal

pub step_admitted-requires-clause-admitted : goal.step_admitted-requires-clause-admitted
step_admitted-requires-clause-admitted c = c.requires.admitted c.copied.result
