use Rattle.std.proofs.Common.{sym, ◌∙◌}
use Rattle.gomp_dispatch.proofs.Reserved.{reserve_keeps, reserve_lacks, some_more}
use Rattle.gomp_dispatch.proofs.room.keep_room.Goals as goal

pub step_admitted-requires-clause-admitted : goal.step_admitted-requires-clause-admitted
step_admitted-requires-clause-admitted c = c.requires.admitted (some_more c.args.more c.if-more-eq0.false)

pub returns-clause-kept : goal.returns-clause-kept
returns-clause-kept c = λ is. reserve_keeps c.args.more c.args.member c.args.board.now c.step_admitted.new.self c.step_admitted.result c.requires.member c.if-more-eq0.false c.step_admitted.ensures.performs (sym c.is_finished.ensures ∙ is)

pub returns-clause-lacks : goal.returns-clause-lacks
returns-clause-lacks c = λ is.
    let (h, st, fine) = c.requires.admitted (some_more c.args.more c.if-more-eq0.false) in
    reserve_lacks c.args.more c.args.member c.args.board.now c.step_admitted.new.self c.step_admitted.result h st fine c.step_admitted.ensures.performs (sym c.is_finished.ensures ∙ is)
