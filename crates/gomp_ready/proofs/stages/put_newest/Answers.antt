use Rattle.gomp_ready.proofs.Passed.{newest_taken, put_in_list}
use Rattle.gomp_ready.proofs.stages.put_newest.Goals as goal

pub returns-then-is_full-clause-tasks : goal.returns-then-is_full-clause-tasks
returns-then-is_full-clause-tasks c = put_in_list c.args.list.now.items c.push_back_reserved.new.self.items c.args.deque.now c.args.task c.push_back_reserved.ensures.items

pub returns-else-is_full-clause-tasks : goal.returns-else-is_full-clause-tasks
returns-else-is_full-clause-tasks c = newest_taken c.args.list.now.items c.push.new.self c.args.deque.now c.args.task c.push.ensures.tasks
