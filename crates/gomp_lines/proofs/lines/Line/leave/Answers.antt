use Rattle.std.proofs.Common.{◌∙◌, ap, arith}
use Rattle.std.specs.Prelude.{◌&&◌, ◌==◌, not}
use Rattle.gomp_lines.specs.declared.lines.Waiting.{Waiting}
use Rattle.gomp_lines.specs.Queues.{LineView, is_held_back}
use Rattle.gomp_lines.proofs.QueueTasks.{same_queues}
use Rattle.gomp_lines.proofs.QueueSteps.{held_closed, free_counted, free_task_leaves}
use Rattle.gomp_lines.proofs.QueueCalls.{closed_at, queues_closed}
use Rattle.gomp_lines.proofs.lines.Line.leave.Goals as goal

pub overflow_sub-self : goal.overflow_sub-self
overflow_sub-self c =
    let (n, line, qs, is) = c.requires.member in
    let now = same_queues _ _ n line c.self.view_is qs in
    let some = free_counted c.args.task _ n line now is (c.place_of.ensures.none c.in-None.is now.low n now.rise) in
    omega (arith, some)

pub returns-in-Some-clause-held : goal.returns-in-Some-clause-held
returns-in-Some-clause-held c = λ t.
    let (n, line, qs, is) = c.requires.member in
    let now = same_queues _ _ n line c.self.view_is qs in
    let found = c.in-Some.ensures in
    ap (is_held_back t) (closed_at c.args.task _ n c.in-Some.place line c.index_mut.result.now now found.within c.index_mut.ensures.value (ap (λ (one : Waiting). one.task) c.index_mut.ensures.value ∙ found.found c.index_mut.result.now))
    ∙ held_closed c.args.task t c.self.inside.waiting.items ∙ ap (λ (queue : LineView). is_held_back t queue.waiting && not (c.args.task == t)) c.self.view_is

pub returns-in-Some-clause-queues : goal.returns-in-Some-clause-queues
returns-in-Some-clause-queues c = λ n line qs is.
    let now = same_queues _ _ n line c.self.view_is qs in
    let found = c.in-Some.ensures in
    queues_closed c.args.task c.self.inside.class c.self.inside.free_count _ _ n c.in-Some.place c.self.inside.waiting.items _ line c.index_mut.result.now now found.within c.index_mut.ensures.value (ap (λ (one : Waiting). one.task) c.index_mut.ensures.value ∙ found.found c.index_mut.result.now)
    (closed_at c.args.task _ n c.in-Some.place line c.index_mut.result.now now found.within c.index_mut.ensures.value (ap (λ (one : Waiting). one.task) c.index_mut.ensures.value ∙ found.found c.index_mut.result.now))

pub returns-in-None-clause-queues : goal.returns-in-None-clause-queues
returns-in-None-clause-queues c = λ n line qs is.
    let now = same_queues _ _ n line c.self.view_is qs in
    free_task_leaves c.args.task c.self.inside.class c.self.inside.free_count _ n c.self.inside.waiting.items line now is (c.place_of.ensures.none c.in-None.is now.low n now.rise)
