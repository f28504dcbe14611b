use Rattle.std.proofs.Common.{◌<◌, ◌+◌, ◌∙◌, ◌++◌, length, take, filter, ap, sym, arith, length-set, length-append}
use Rattle.std.specs.List.{concat}
use Rattle.std.proofs.lemmas.List.Elements.{filter-append}
use Rattle.gomp_ready.proofs.Deques.{same_at, further_more, concat_more, concat_more_set, taken_within}
use Rattle.gomp_ready.proofs.stages.retain_each.Goals as goal

pub overflow_add-count : goal.overflow_add-count
overflow_add-count g c =
    let m = c.loop-member.member in
    let deques = c.loop-member.deques.items in
    let first = c.args.deques.now.items in
    let before = c.loop-member.invariant in
    let deque = c.index_mut-deque.result.now in
    let lt : m < length first = omega arith in
    let more = ap length (concat_more first m deque lt (same_at deques first m deque before.further c.index_mut-deque.ensures.value)) in
    omega (arith, more, length-append (concat (take m first)) deque, taken_within first (m + 1))

pub loop-member-preserved : goal.loop-member-preserved
loop-member-preserved g c =
    let m = c.loop-member.member in
    let deques = c.loop-member.deques.items in
    let first = c.args.deques.now.items in
    let before = c.loop-member.invariant in
    let deque = c.index_mut-deque.result.now in
    let kept = c.retain.new.self in
    let lt : m < length deques = omega arith in
    let lt_first : m < length first = omega arith in
    let more = concat_more first m deque lt_first (same_at deques first m deque before.further c.index_mut-deque.ensures.value) in
    let left = concat_more_set deques m kept lt in
    let long = ap length left ∙ length-append (concat (take m deques)) kept in
    let long_first = ap length more ∙ length-append (concat (take m first)) deque in
    record {
      tasks = λ test answers. left ∙ ap (λ xs. xs ++ kept) (before.tasks test answers) ∙ ap (λ xs. filter test (concat (take m first)) ++ xs) (c.retain.ensures.tasks test answers) ∙ sym (filter-append test (concat (take m first)) deque) ∙ ap (filter test) (sym more);
      further = further_more deques first m kept before.further;
      members = length-set deques m kept ∙ before.members;
      count = omega (arith, long);
      fewer = omega (arith, long_first);
    }
