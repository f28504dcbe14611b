use Rattle.std.proofs.Common.{true, false, ◌<◌, ◌^◌, ◌∙◌, sym, ap, arith, rules}
use Rattle.std.specs.Prelude.{◌&&◌, ◌==◌, not}
use Rattle.gomp_lines.specs.Queues.{LineView, is_held_back}
use Rattle.gomp_lines.proofs.QueueTasks.{same_queues}
use Rattle.gomp_lines.proofs.QueueSteps.{held_from_open}
use Rattle.gomp_lines.proofs.QueueCalls.{skipped_queues, none_goes, next_task, next_goes, next_held, next_was_held, next_bounds}
use Rattle.gomp_lines.proofs.LineTasks.{true_adds_nothing}
use Rattle.gomp_lines.proofs.lines.Line.free_next.Goals as goal

pub returns-then-not-first_may_go-clause-held : goal.returns-then-not-first_may_go-clause-held
returns-then-not-first_may_go-clause-held c = λ t.
    ap (is_held_back t) c.skip_closed.ensures.items ∙ held_from_open t c.self.inside.waiting.items ∙ ap (λ (queue : LineView). is_held_back t queue.waiting) c.self.view_is ∙ true_adds_nothing _

pub returns-then-not-first_may_go-clause-queues : goal.returns-then-not-first_may_go-clause-queues
returns-then-not-first_may_go-clause-queues c = λ n line qs.
    skipped_queues c.self.inside.class c.self.inside.free_count _ _ n c.self.inside.waiting.items c.skip_closed.new.waiting.items line (same_queues _ _ n line c.self.view_is qs) c.skip_closed.ensures.items

pub returns-then-not-first_may_go-clause-stands : goal.returns-then-not-first_may_go-clause-stands
returns-then-not-first_may_go-clause-stands c = λ _.
    none_goes c.self.inside.class c.self.inside.free_count 0 c.self.inside.waiting.items c.skip_closed.new.waiting.items c.skip_closed.ensures.items (sym c.first_may_go.ensures ∙ c.if-not-first_may_go.true)

pub overflow_add-self : goal.overflow_add-self
overflow_add-self c =
    let (n, line, qs) = c.requires.known in
    let next = next_task c.self.inside.class c.self.inside.free_count 0 c.self.inside.waiting.items c.skip_closed.new.waiting.items c.in_ok-first.first c.pop_front.new.self.items c.skip_closed.ensures.items c.in_ok-first.ensures.items (sym c.first_may_go.ensures ∙ c.if-not-first_may_go.false) in
    let bound = next_bounds c.self.inside.class c.self.inside.free_count _ n c.self.inside.waiting.items c.in_ok-first.first c.pop_front.new.self.items line next (same_queues _ _ n line c.self.view_is qs) in
    let fits : c.in_ok-first.first.task < 2 ^ 32 = search rules in
    omega (arith, bound, fits)

pub returns-clause-freed : goal.returns-clause-freed
returns-clause-freed c =
    let next = next_task c.self.inside.class c.self.inside.free_count 0 c.self.inside.waiting.items c.skip_closed.new.waiting.items c.in_ok-first.first c.pop_front.new.self.items c.skip_closed.ensures.items c.in_ok-first.ensures.items (sym c.first_may_go.ensures ∙ c.if-not-first_may_go.false) in
    ap (λ (queue : LineView). is_held_back c.in_ok-first.first.task queue.waiting) (sym c.self.view_is) ∙ next_was_held c.self.inside.class c.self.inside.free_count c.self.inside.waiting.items c.in_ok-first.first c.pop_front.new.self.items next

pub returns-clause-held : goal.returns-clause-held
returns-clause-held c = λ t.
    let (n, line, qs) = c.requires.known in
    let next = next_task c.self.inside.class c.self.inside.free_count 0 c.self.inside.waiting.items c.skip_closed.new.waiting.items c.in_ok-first.first c.pop_front.new.self.items c.skip_closed.ensures.items c.in_ok-first.ensures.items (sym c.first_may_go.ensures ∙ c.if-not-first_may_go.false) in
    next_held c.self.inside.class c.self.inside.free_count _ n c.self.inside.waiting.items c.in_ok-first.first c.pop_front.new.self.items line next (same_queues _ _ n line c.self.view_is qs) t
    ∙ ap (λ (queue : LineView). is_held_back t queue.waiting && not (c.in_ok-first.first.task == t)) c.self.view_is

pub returns-clause-queues : goal.returns-clause-queues
returns-clause-queues c = λ n line qs.
    let next = next_task c.self.inside.class c.self.inside.free_count 0 c.self.inside.waiting.items c.skip_closed.new.waiting.items c.in_ok-first.first c.pop_front.new.self.items c.skip_closed.ensures.items c.in_ok-first.ensures.items (sym c.first_may_go.ensures ∙ c.if-not-first_may_go.false) in
    next_goes c.self.inside.class c.self.inside.free_count _ _ n c.self.inside.waiting.items c.in_ok-first.first c.pop_front.new.self.items line next (same_queues _ _ n line c.self.view_is qs)
