use Rattle.std.proofs.Common.{◌∙◌, [], ◌∷◌, length, take, ap, arith, length-append}
use Rattle.std.specs.List.{concat}
use Rattle.gomp_ready.proofs.Deques.{no_tasks_more}
use Rattle.gomp_ready.proofs.Marked.{front_at}
use Rattle.gomp_ready.proofs.ready.Ready.new.Goals as goal

pub loop-preserved : goal.loop-preserved
loop-preserved c =
    let deques = c.loop.deques.items in
    let deque = c.in_ok-new.field-0 in
    let pushed = c.push_reserved.ensures.items in
    let more = ap length pushed ∙ length-append deques (deque ∷ []) in
    record {
      none = ap concat pushed ∙ no_tasks_more deques deque c.loop.invariant.none c.in_ok-new.ensures.tasks;
      members = omega (arith, more);
      capacity = omega arith;
    }

pub returns-clause-passed : goal.returns-clause-passed
returns-clause-passed c m l = front_at c.in_ok-with_capacity.field-0.items c.in_ok-new-2.field-0 m l ∙ ap (λ n. take n c.in_ok-with_capacity.field-0.items) (c.in_ok-new-2.ensures.zero m l)
