use Rattle.std.proofs.Common.{[]}
use Rattle.gomp_barrier.proofs.BarrierSteps.{new_barriers_stand}
use Rattle.gomp_barrier.proofs.barriers.Barriers.new.Goals as goal

pub returns-clause-stands : goal.returns-clause-stands
returns-clause-stands c = new_barriers_stand c.in_ok-vec.field-0.items c.args.count c.requires.some (c.in_ok-vec.ensures.items_if_clones_equal (λ y e. e))

pub invariant_of-result : goal.invariant_of-result
invariant_of-result c = ([], returns-clause-stands c)
