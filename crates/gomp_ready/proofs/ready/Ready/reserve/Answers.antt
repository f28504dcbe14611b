use Rattle.std.proofs.Common.{◌≡◌, ◌<◌, ◌≤◌, ◌+◌, ◌++◌, ◌∙◌, length, ap, sym, arith, length-append}
use Rattle.std.specs.Prelude.{max}
use Rattle.std.specs.List.{concat}
use Rattle.std.specs.VecDeque.{deque_capacity}
use Rattle.std.proofs.lemmas.Result.{on_ok_weaker}
use Rattle.gomp_growth.specs.Growth.{growth_of, room_made}
use Rattle.gomp_ready.specs.Ready.{ReadyView}
use Rattle.gomp_ready.proofs.InOrder.{length-in_order}
use Rattle.gomp_ready.proofs.Room.{room_after_reserve}
use Rattle.gomp_ready.proofs.ready.Ready.reserve.Goals as goal

pub returns-clause-memory : goal.returns-clause-memory
returns-clause-memory c =
    let inside = c.self.inside in
    let list = inside.list.items in
    let others = concat inside.deques.items in
    let more = c.args.more in
    let count = c.self.invariant.0 in
    let room = ap (λ (v : ReadyView). v.room) c.self.view_is in
    let ids = ap (λ (v : ReadyView). length v.ids) c.self.view_is in
    let many : inside.count ≡ length c.args.self.now.ids = count ∙ sym (length-in_order (list ++ others)) ∙ ids in
    let fewer : c.len.result ≤ inside.count = omega (arith, count, length-append list others) in
    let short : c.args.self.now.room < more = omega (arith, room) in
    let small : deque_capacity c.reserve_exact.new.self < 18446744073709551615 = omega arith in
    on_ok_weaker c.reserve_exact.result (λ exact. room_after_reserve more inside.count c.args.self.now.room (deque_capacity inside.list) (deque_capacity c.reserve_exact.new.self) c.len.result c.max-most.result c.growth_of-step.result c.saturating_add.result 18446744073709551615 c.self.invariant.1 (sym room) short fewer c.max-most.ensures c.growth_of-step.ensures c.saturating_add.ensures small (exact ∙ ap (λ n. max (deque_capacity inside.list) (n + c.saturating_add.result)) (sym c.len.ensures)) ∙ ap (λ n. room_made more (growth_of 16 (max n more)) c.args.self.now.room) many) c.reserve_exact.ensures.capacity_exact
