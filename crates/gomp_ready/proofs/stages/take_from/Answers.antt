use Rattle.std.proofs.Common.{◌≡◌, ◌++◌, ◌∷◌, [], ◌+◌, length, false, take, ◌∙◌, ap, arith, sym, length-append}
use Rattle.gomp_ready.specs.Ready.{in_order}
use Rattle.gomp_ready.proofs.Passed.{popped_taken, popped_passed, passes_popped, one_fewer, behind_more}
use Rattle.gomp_ready.proofs.Looked.{looked_more}
use Rattle.gomp_ready.proofs.stages.take_from.Goals as goal

pub returns-then-may-clause-tasks : goal.returns-then-may-clause-tasks
returns-then-may-clause-tasks g c = c.loop-first.invariant.tasks ∙ popped_taken c.args.end c.loop-first.list.items c.loop-first.deque c.pop.new.self c.in-Some.first c.in-Some.ensures.tasks

pub loop-first-preserved : goal.loop-first-preserved
loop-first-preserved g c =
    let end = c.args.end in
    let is = c.in-Some.ensures.tasks in
    let before = c.loop-first.invariant in
    let pushed = c.push_back_reserved.ensures.items in
    let shorter = one_fewer end c.loop-first.deque c.pop.new.self c.in-Some.first is in
    let longer : length c.push_back_reserved.new.self.items ≡ length c.loop-first.list.items + 1 = ap length pushed ∙ length-append c.loop-first.list.items (c.in-Some.first ∷ []) in
    record {
      tasks = before.tasks ∙ popped_passed end c.loop-first.list.items c.loop-first.deque c.pop.new.self c.in-Some.first is ∙ ap (λ xs. in_order (xs ++ c.pop.new.self)) (sym pushed);
      passed = λ t there. passes_popped end (λ u. goal.F-post g c.args.may.now u false) c.loop-first.deque c.pop.new.self c.in-Some.first t is c.if-may.ensures (before.passed t there);
      looked = λ t there. looked_more (λ u. goal.F-post g c.args.may.now u false) c.args.list.now.items c.loop-first.list.items c.push_back_reserved.new.self.items c.in-Some.first t pushed c.if-may.ensures before.looked there;
      behind = ap (take (length c.args.list.now.items)) pushed ∙ behind_more c.args.list.now.items c.loop-first.list.items c.in-Some.first before.longer before.behind;
      longer = omega arith;
      room = omega (arith, shorter, longer);
      capacity = omega arith;
    }
