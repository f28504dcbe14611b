use Rattle.std.proofs.Common.{rules}
use Rattle.std.proofs.lemmas.List.{take_all}
use Rattle.gomp_service.proofs.notes.write_ignored.Goals as goal

pub loop-word-init : goal.loop-word-init
loop-word-init g c = search rules

pub returns : goal.returns
returns g c = rw (take_all c.loop-word.word-index c.args.words.now c.loop-word-test.false) at c.loop-word.invariant
