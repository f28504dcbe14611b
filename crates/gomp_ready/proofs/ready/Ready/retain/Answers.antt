use Rattle.std.proofs.Common.{◌++◌, ◌∙◌, length, take, filter, ap, sym, arith, rules, length-append}
use Rattle.std.specs.List.{concat}
use Rattle.std.proofs.lemmas.Fn.{filter_same}
use Rattle.std.proofs.lemmas.List.Elements.{filter-append}
use Rattle.gomp_ready.specs.Ready.{ReadyView, in_order}
use Rattle.gomp_ready.proofs.InOrder.{length-in_order}
use Rattle.gomp_ready.proofs.Kept.{filter-in_order}
use Rattle.gomp_ready.proofs.Marked.{front_at}
use Rattle.gomp_ready.proofs.ready.Ready.retain.Goals as goal

pub returns-clause-ids : goal.returns-clause-ids
returns-clause-ids g c test answers =
    let list = c.self.inside.list.items in
    let deques = c.self.inside.deques.items in
    let kept = filter_same _ test _ (λ x b f' k. search (rules, answers)) list c.retain.new.self.items c.retain.ensures.filtered in
    ap (λ xs. in_order (xs ++ concat c.retain_each-kept.new.deques.items)) kept ∙ ap (λ xs. in_order (filter test list ++ xs)) (c.retain_each-kept.ensures.tasks test answers) ∙ ap in_order (sym (filter-append test list (concat deques))) ∙
    filter-in_order test (list ++ concat deques) ∙ ap (λ (v : ReadyView). filter test v.ids) c.self.view_is

pub returns-clause-room : goal.returns-clause-room
returns-clause-room g c =
    let list = c.self.inside.list.items in
    let others = concat c.self.inside.deques.items in
    let left = c.retain.new.self.items in
    let others_left = concat c.retain_each-kept.new.deques.items in
    let room = ap (λ (v : ReadyView). v.room) c.self.view_is in
    let ids = ap (λ (v : ReadyView). length v.ids) c.self.view_is in
    omega (arith, c.self.invariant.0, c.self.invariant.1, room, ids, length-in_order (list ++ others), length-in_order (left ++ others_left), length-append list others, length-append left others_left)

pub returns-clause-passed : goal.returns-clause-passed
returns-clause-passed g c m l = front_at c.retain.new.self.items c.clear.new.self m l ∙ ap (λ n. take n c.retain.new.self.items) (c.clear.ensures.zero m l)
