use Rattle.std.proofs.Common.{[], refl, ◌∙◌}
use Rattle.gomp_groups.proofs.Fields.{made_stands}
use Rattle.gomp_groups.proofs.groups.Groups.new.Goals as goal

pub returns-clause-stands : goal.returns-clause-stands
returns-clause-stands c = made_stands c.new.result.items c.new-2.result.rows c.in_ok-vec.field-0.items c.args.count c.new.ensures.items c.new-2.ensures.rows (c.in_ok-vec.ensures.items_if_clones_equal (λ y e. e) ∙ rw (c.none.ensures, c.none-2.ensures) refl)

pub invariant_of-result : goal.invariant_of-result
invariant_of-result c = ([], returns-clause-stands c)
