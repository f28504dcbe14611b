use Rattle.gomp_lines.proofs.QueueSteps.{held_is_in}
use Rattle.gomp_depend.specs.Tables.{line_at}
use Rattle.gomp_depend.proofs.Freeing.{Frees, lowers_some, lowers_a_row, frees_more, frees_none}
use Rattle.gomp_depend.proofs.depends.free_all.Goals as goal

pub lower-requires : goal.lower-requires
lower-requires c =
    let (n, line, parents, deps, qs, agree, are) = c.requires.known in
    let sofar = c.loop-task.invariant in
    let frees : Frees c.in-Some.task c.args.parent c.args.addr c.loop-task.lines c.free_next.new.self = record { was = c.in-Some.ensures.freed; held = c.in-Some.ensures.held; others = c.in-Some.ensures.others } in
    let there = are c.in-Some.task (held_is_in c.in-Some.task (line_at c.args.parent c.args.addr c.loop-task.lines) n line (sofar.queues n line qs) frees.was) in
    let now = sofar.agree n line parents deps qs agree are in
    record { held = lowers_some c.in-Some.task c.args.parent c.args.addr parents deps c.loop-task.lines c.free_next.new.self c.loop-task.rows (sofar.agree n line parents deps qs agree are) frees there.0 there.1; items = lowers_a_row c.in-Some.task c.args.addr parents deps c.loop-task.lines c.loop-task.rows now there.1 }

pub loop-task-preserved : goal.loop-task-preserved
loop-task-preserved c =
    let frees : Frees c.in-Some.task c.args.parent c.args.addr c.loop-task.lines c.free_next.new.self = record { was = c.in-Some.ensures.freed; held = c.in-Some.ensures.held; others = c.in-Some.ensures.others } in
    frees_more c.args.parent c.args.addr c.args.lines.now c.args.rows.now c.loop-task.lines c.loop-task.rows c.free_next.new.self c.lower.new.self c.in-Some.task c.loop-task.invariant frees c.free_next.ensures.queues c.lower.ensures.row c.lower.ensures.others c.lower.ensures.lowers

pub returns-clause-agree : goal.returns-clause-agree
returns-clause-agree c = λ n line parents deps qs agree are.
    frees_none c.args.parent c.args.addr parents deps c.loop-task.lines c.free_next.new.self c.loop-task.rows (c.loop-task.invariant.agree n line parents deps qs agree are) c.in_default.ensures.held c.free_next.ensures.others

pub returns-clause-lowers : goal.returns-clause-lowers
returns-clause-lowers c = c.loop-task.invariant.lowers
