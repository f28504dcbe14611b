use Rattle.std.proofs.Common.{◌≡◌, ◌+◌, length, rules, arith}
use Rattle.gomp_depend.specs.FreeTasks.{is_listed_free}
use Rattle.gomp_depend.proofs.Listed.{left_differ, last_was_there, others_are_left, if_any}
use Rattle.gomp_depend.proofs.free_list.FreeList.next_freed.Goals as goal

pub invariant_of-self : goal.invariant_of-self
invariant_of-self c =
    let counted = c.args.self.now.counted in
    let len : length c.pop-task.new.self.items + 1 ≡ length c.args.self.now.freed.items = search rules in
    record {
      counted = record {
        differ = left_differ c.args.self.now.freed.items c.pop-task.new.self.items c.pop-task.result c.pop-task.ensures.items counted.differ;
        within = omega (arith, len);
        room = omega arith;
      };
    }

pub returns-clause-task : goal.returns-clause-task
returns-clause-task c = last_was_there c.args.self.now.freed.items c.pop-task.new.self.items c.pop-task.result c.pop-task.ensures.items

pub returns-clause-freed : goal.returns-clause-freed
returns-clause-freed c =
    others_are_left c.args.self.now.freed.items c.pop-task.new.self.items c.pop-task.result (λ u. is_listed_free u c.take_out.new.self) c.pop-task.ensures.items c.args.self.now.counted.differ c.take_out.ensures.freed

pub take_out-requires : goal.take_out-requires
take_out-requires c =
    let counted = c.args.self.now.counted in
    let len : length c.pop-task.new.self.items + 1 ≡ length c.args.self.now.freed.items = search rules in
    record { waits = omega (arith, len) }

pub returns-clause-count : goal.returns-clause-count
returns-clause-count c = if_any c.pop-task.result c.take_out.ensures.count

pub returns-clause-waiting : goal.returns-clause-waiting
returns-clause-waiting c =
    let counted = c.args.self.now.counted in
    let len : length c.pop-task.new.self.items + 1 ≡ length c.args.self.now.freed.items = search rules in
    omega (arith, len, c.take_out.ensures.waiting)
