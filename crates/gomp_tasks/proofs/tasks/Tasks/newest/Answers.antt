use Rattle.gomp_tasks.proofs.TablesKeep.{newest_number}
use Rattle.gomp_tasks.proofs.tasks.Tasks.newest.Goals as goal

pub returns-clause-number : goal.returns-clause-number
returns-clause-number c =
    let known = c.newest_in.ensures.known in
    newest_number c.args.self.now.rows c.args.self.now.stacks c.args.self.now.roots c.args.parent c.newest_in.result.task known.0 known.1 (c.newest_in.ensures.value known.0 known.1).task
