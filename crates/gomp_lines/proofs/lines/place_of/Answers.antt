use Rattle.std.proofs.Common.{◌∙◌, ap, arith, rules, of_calls, false}
use Rattle.std.specs.Prelude.{nat_lt}
use Rattle.std.proofs.lemmas.Fn.{always_returns_same}
use Rattle.gomp_lines.specs.declared.lines.Waiting.{Waiting}
use Rattle.gomp_lines.specs.declared.classes.Class.TheVariants.{Alone}
use Rattle.gomp_lines.proofs.QueuePlaces.{below_in_order, held_unless_at_place}
use Rattle.gomp_lines.proofs.lines.place_of.Goals as goal

pub returns-in_default-clause-none : goal.returns-in_default-clause-none
returns-in_default-clause-none c = λ _ low n rise.
    let parts = c.partition_point-place.ensures.partitioned (λ (at : Waiting). nat_lt at.task c.args.task) (always_returns_same _ _ _ (λ a r f k. search (rules, of_calls))) (below_in_order c.args.task low n c.args.waiting.now.items rise) in
    held_unless_at_place c.args.task low n c.args.waiting.now.items c.partition_point-place.result c.in-Some.at.now rise (record { below = parts.0; above = parts.1 })
    (λ within same. c.if-at-task.false (ap (λ (one : Waiting). one.task) c.in-Some.ensures.lookup ∙ same))

pub returns-in_default-2-clause-none : goal.returns-in_default-2-clause-none
returns-in_default-2-clause-none c = λ _ low n rise.
    let parts = c.partition_point-place.ensures.partitioned (λ (at : Waiting). nat_lt at.task c.args.task) (always_returns_same _ _ _ (λ a r f k. search (rules, of_calls))) (below_in_order c.args.task low n c.args.waiting.now.items rise) in
    held_unless_at_place c.args.task low n c.args.waiting.now.items c.partition_point-place.result (record { task = 0; class = Alone; is_open = false }) rise (record { below = parts.0; above = parts.1 })
    (λ within same. absurd (let none = c.in_default.is in let variant = c.get.ensures.variant in grind (arith, within, none, variant)))
