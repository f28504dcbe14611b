use Rattle.std.proofs.Common.{refl, reverse}
use Rattle.gomp_board.proofs.StoredKeeps.{kept_desc}
use Rattle.gomp_board.proofs.waits.note_start.Goals as goal

pub returns-clause-answer : goal.returns-clause-answer
returns-clause-answer c = λ h kept. rw (kept_desc c.args.task c.desc-desc.result.now h (reverse c.args.history.now.events) kept c.desc-desc.ensures.value) (refl, refl, (refl, refl))
