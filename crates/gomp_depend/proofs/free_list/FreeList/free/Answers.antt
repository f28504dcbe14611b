use Rattle.std.proofs.Common.{◌≡◌, ◌+◌, [], ◌∷◌, length, length-append, ap, ◌∙◌, arith}
use Rattle.gomp_events.specs.Tasks.{contains}
use Rattle.gomp_depend.specs.FreeLists.{are_different}
use Rattle.gomp_depend.proofs.Listed.{contains_at_end, different_with_end}
use Rattle.gomp_depend.proofs.free_list.FreeList.free.Goals as goal

pub invariant_of-self : goal.invariant_of-self
invariant_of-self c =
    let counted = c.args.self.now.counted in
    let len : length c.push_reserved.new.self.items ≡ length c.args.self.now.freed.items + 1 = ap length c.push_reserved.ensures.items ∙ length-append c.args.self.now.freed.items (c.args.task ∷ []) in
    record {
      counted = record {
        differ = ap are_different c.push_reserved.ensures.items ∙ different_with_end c.args.task c.args.self.now.freed.items counted.differ c.requires.new;
        within = omega (arith, len);
        room = omega arith;
      };
    }

pub returns-clause-freed : goal.returns-clause-freed
returns-clause-freed c = λ t. ap (contains t) c.push_reserved.ensures.items ∙ contains_at_end t c.args.task c.args.self.now.freed.items
