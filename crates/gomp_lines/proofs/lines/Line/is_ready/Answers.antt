use Rattle.std.proofs.Common.{◌≡◌, ◌∙◌, rules}
use Rattle.gomp_lines.specs.Queues.{is_unblocked}
use Rattle.gomp_lines.proofs.QueueTasks.{ready_by_line}
use Rattle.gomp_lines.proofs.lines.Line.is_ready.Goals as goal

pub returns-else-self-eq0-clause-by_line : goal.returns-else-self-eq0-clause-by_line
returns-else-self-eq0-clause-by_line c = λ n line st.
    let by_queue : c.shares.result ≡ is_unblocked c.args.class c.args.self.now = search rules in
    by_queue ∙ ready_by_line c.args.class c.args.self.now n line st

pub returns-else-is_empty-clause-by_line : goal.returns-else-is_empty-clause-by_line
returns-else-is_empty-clause-by_line c = λ n line st.
    let by_queue : c.is_empty.result ≡ is_unblocked c.args.class c.args.self.now = search rules in
    by_queue ∙ ready_by_line c.args.class c.args.self.now n line st
