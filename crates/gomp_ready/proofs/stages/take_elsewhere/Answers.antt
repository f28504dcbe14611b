use Rattle.std.proofs.Common.{◌≡◌, ◌<◌, ◌++◌, ◌∙◌, None, false, length, take, set, ap, sym, arith, length-set}
use Rattle.std.proofs.Math.Seq.{take-length}
use Rattle.std.specs.List.{concat}
use Rattle.gomp_types.proofs.Booleans.{none_of}
use Rattle.gomp_ready.specs.Ready.{in_order, with_taken}
use Rattle.gomp_ready.proofs.Deques.{deque_within, changed_deque, room_kept, same_at, further_more, among_more, concat_more_set}
use Rattle.gomp_ready.proofs.Looked.{looked_again, front_again, no_shorter}
use Rattle.gomp_ready.proofs.stages.take_elsewhere.Goals as goal

pub take_from-found-requires-clause-room : goal.take_from-found-requires-clause-room
take_from-found-requires-clause-room g c =
    let deques = c.loop-member.deques.items in
    let lt : c.loop-member.member < length deques = omega arith in
    omega (arith, deque_within deques c.loop-member.member c.index_mut.result.now lt c.index_mut.ensures.value, room_kept c.args.list.now.items c.loop-member.list.items (concat c.args.deques.now.items) (concat deques) _ c.loop-member.invariant.tasks c.requires.room)

pub returns-then-is_some-clause-tasks : goal.returns-then-is_some-clause-tasks
returns-then-is_some-clause-tasks g c =
    let lt : c.loop-member.member < length c.loop-member.deques.items = omega arith in
    c.loop-member.invariant.tasks ∙ changed_deque c.loop-member.list.items c.take_from-found.new.list.items c.loop-member.deques.items c.loop-member.member c.index_mut.result.now c.take_from-found.new.deque c.take_from-found.result lt c.index_mut.ensures.value c.take_from-found.ensures.tasks

pub returns-then-is_some-clause-looked : goal.returns-then-is_some-clause-looked
returns-then-is_some-clause-looked g c t there = looked_again (λ u. goal.F-post g c.args.may.now u false) c.args.list.now.items c.loop-member.list.items t c.loop-member.invariant.looked (c.take_from-found.ensures.looked t there)

pub returns-then-is_some-clause-behind : goal.returns-then-is_some-clause-behind
returns-then-is_some-clause-behind g c =
    front_again (length c.args.list.now.items) c.loop-member.list.items c.take_from-found.new.list.items c.loop-member.invariant.longer c.take_from-found.ensures.behind ∙ c.loop-member.invariant.behind

pub returns-clause-empty : goal.returns-clause-empty
returns-clause-empty g c none =
    let deques = c.loop-member.deques.items in
    let all : length deques ≡ c.loop-member.member = omega arith in
    ap concat (sym (take-length deques) ∙ ap (λ n. take n deques) all) ∙ c.loop-member.invariant.empty

pub loop-member-preserved : goal.loop-member-preserved
loop-member-preserved g c =
    let m = c.loop-member.member in
    let deques = c.loop-member.deques.items in
    let first = c.args.deques.now.items in
    let before = c.loop-member.invariant in
    let found = c.take_from-found in
    let is = c.index_mut.ensures.value in
    let lt : m < length deques = omega arith in
    let lt_first : m < length first = omega arith in
    let none : found.result ≡ None = none_of found.result (sym c.if-is_some.ensures) in
    record {
      tasks = before.tasks ∙ changed_deque c.loop-member.list.items found.new.list.items deques m c.index_mut.result.now found.new.deque found.result lt is found.ensures.tasks ∙ ap (λ o. with_taken o (in_order (found.new.list.items ++ concat (set deques m found.new.deque)))) none;
      passed = among_more (λ t. goal.F-post g c.args.may.now t false) first m c.index_mut.result.now lt_first (same_at deques first m c.index_mut.result.now before.further is) before.passed (found.ensures.none none);
      looked = λ t there. looked_again (λ u. goal.F-post g c.args.may.now u false) c.args.list.now.items c.loop-member.list.items t before.looked (found.ensures.looked t there);
      behind = front_again (length c.args.list.now.items) c.loop-member.list.items found.new.list.items before.longer found.ensures.behind ∙ before.behind;
      longer = omega (arith, before.longer, no_shorter c.loop-member.list.items found.new.list.items found.ensures.behind);
      empty = concat_more_set deques m found.new.deque lt ∙ ap (λ xs. xs ++ found.new.deque) before.empty ∙ found.ensures.empty none;
      further = further_more deques first m found.new.deque before.further;
      members = length-set deques m found.new.deque ∙ before.members;
      capacity = omega arith;
    }
