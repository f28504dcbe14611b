use Rattle.std.proofs.Common.{◌<◌, ◌++◌, ◌∙◌, length, set, ap, sym, subst, arith, length-set}
use Rattle.std.specs.List.{concat}
use Rattle.gomp_ready.specs.Ready.{ReadyView, with_task}
use Rattle.gomp_ready.proofs.InOrder.{one_task_less}
use Rattle.gomp_ready.specs.Marks.{mark_at}
use Rattle.gomp_ready.proofs.Deques.{deque_with_task}
use Rattle.gomp_ready.proofs.Looked.{front_again, no_shorter}
use Rattle.gomp_ready.proofs.Marked.{fronts_same}
use Rattle.gomp_ready.proofs.ready.Ready.put.Goals as goal

pub invariant_of-self : goal.invariant_of-self
invariant_of-self c =
    let inside = c.self.inside in
    let there : c.args.member < length inside.deques.items = subst (λ n. c.args.member < n) (sym (ap (λ (v : ReadyView). v.members) c.self.view_is)) c.requires.member in
    let list = c.put_newest.new.list.items in
    let put = deque_with_task inside.list.items list inside.deques.items c.args.member c.index_mut.result.now c.put_newest.new.deque c.args.task there c.index_mut.ensures.value c.put_newest.ensures.tasks in
    let more = one_task_less (list ++ concat (set inside.deques.items c.args.member c.put_newest.new.deque)) (inside.list.items ++ concat inside.deques.items) c.args.task put in
    let count = c.self.invariant.0 in
    let room = ap (λ (v : ReadyView). v.room) c.self.view_is in
    let longer = no_shorter inside.list.items list c.put_newest.ensures.behind in
    (omega arith, omega (arith, room), c.self.invariant.2 ∙ sym (length-set inside.deques.items c.args.member c.put_newest.new.deque), λ m l. omega (arith, c.self.invariant.3 m l, longer))

pub returns-clause-passed : goal.returns-clause-passed
returns-clause-passed c =
    let list = c.self.inside.list.items in
    let after = c.put_newest.new.list.items in
    fronts_same c.self.inside.marks list after (λ m l. front_again (mark_at m l c.self.inside.marks) list after (c.self.invariant.3 m l) c.put_newest.ensures.behind) ∙ ap (λ (v : ReadyView). v.passed) c.self.view_is

pub returns-clause-ids : goal.returns-clause-ids
returns-clause-ids c =
    let inside = c.self.inside in
    let there : c.args.member < length inside.deques.items = subst (λ n. c.args.member < n) (sym (ap (λ (v : ReadyView). v.members) c.self.view_is)) c.requires.member in
    deque_with_task inside.list.items c.put_newest.new.list.items inside.deques.items c.args.member c.index_mut.result.now c.put_newest.new.deque c.args.task there c.index_mut.ensures.value c.put_newest.ensures.tasks ∙
    ap (λ (v : ReadyView). with_task c.args.task v.ids) c.self.view_is
