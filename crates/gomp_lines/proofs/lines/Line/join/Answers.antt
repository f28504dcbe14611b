use Rattle.std.proofs.Common.{◌∙◌, sym, ap, arith}
use Rattle.gomp_lines.specs.Queues.{LineView, is_unblocked, is_held_back}
use Rattle.gomp_lines.proofs.QueueTasks.{same_line_stands, count_below}
use Rattle.gomp_lines.proofs.QueueSteps.{joins_free, held_with_one_more}
use Rattle.gomp_lines.proofs.QueueCalls.{stands_joined}
use Rattle.std.specs.Prelude.{◌||◌, ◌==◌}
use Rattle.gomp_lines.proofs.lines.Line.join.Goals as goal

pub overflow_add-self : goal.overflow_add-self
overflow_add-self c =
    let (n, line, st, le) = c.requires.newer in
    let below = count_below _ n line (same_line_stands _ _ n line c.self.view_is st) in
    let fits = c.ranges.task in
    omega (arith, below, le, fits)

pub returns-then-is_ready-clause-stands : goal.returns-then-is_ready-clause-stands
returns-then-is_ready-clause-stands c = λ n line st le.
    joins_free c.args.class c.self.inside.class c.self.inside.free_count _ n c.args.task c.self.inside.waiting.items line (same_line_stands _ _ n line c.self.view_is st) le
    (ap (is_unblocked c.args.class) c.self.view_is ∙ sym c.is_ready.ensures.by_queue ∙ c.if-is_ready.true)

pub returns-clause-held : goal.returns-clause-held
returns-clause-held c = λ t.
    ap (is_held_back t) c.push_back_reserved.ensures.items ∙ held_with_one_more t c.self.inside.waiting.items _
    ∙ ap (λ (queue : LineView). is_held_back t queue.waiting || c.args.task == t) c.self.view_is

pub returns-clause-stands : goal.returns-clause-stands
returns-clause-stands c = λ n line st le.
    stands_joined c.args.class c.self.inside.class c.self.inside.free_count _ _ n c.args.task c.self.inside.waiting.items c.push_back_reserved.new.self.items line (same_line_stands _ _ n line c.self.view_is st) le
    (ap (is_unblocked c.args.class) c.self.view_is ∙ sym c.is_ready.ensures.by_queue ∙ c.if-is_ready.false) c.push_back_reserved.ensures.items
