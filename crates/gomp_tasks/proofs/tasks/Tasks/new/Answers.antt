use Rattle.std.proofs.Common.{[], ap, arith, length}
use Rattle.gomp_tasks.proofs.TablesKeep.{no_tables_stand}
use Rattle.gomp_tasks.proofs.tasks.Tasks.new.Goals as goal

pub returns-clause-stands : goal.returns-clause-stands
returns-clause-stands c = no_tables_stand c.args.count _ _ _ c.new.ensures.rows c.in_ok-empty_stacks.ensures c.in_ok-empty_roots.ensures

pub invariant_of-result : goal.invariant_of-result
invariant_of-result c = let none = ap length c.new.ensures.rows in (([], returns-clause-stands c), omega (arith, none))
