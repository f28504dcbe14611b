use Rattle.std.proofs.Common.{◌≡◌, ◌∙◌, false, None, sym}
use Rattle.gomp_types.specs.Least.{least}
use Rattle.gomp_events.specs.declared.event.Arrival.TheVariants.{Barrier as BarrierArrival}
use Rattle.gomp_events.specs.declared.room.TheConstants.{ARRIVAL_ROOM}
use Rattle.gomp_events.specs.Cancels.{is_leaving}
use Rattle.gomp_events.specs.TaskCalls.{outside_tasks_tests, room_tests}
use Rattle.gomp_model.specs.Arrivals.{outside_tests, compared_arrival}
use Rattle.gomp_dispatch.proofs.LeavingTests.{leaves_alike}
use Rattle.gomp_dispatch.proofs.LetCalls.{barrier_let, let_barrier, none_was_found, none_told, told_none, something_found}
use Rattle.gomp_dispatch.proofs.lets.lets_barrier.Goals as goal

pub returns-then-is_leaving : goal.returns-then-is_leaving
returns-then-is_leaving g c = λ p parts leaves.
    let m = c.args.member in
    let seen = c.look-seen.ensures.value ∙ g.met.S.Shares.agrees c.args.shares.now p.events m parts.shares_are c.requires.member in
    let goes = sym (leaves_alike c.args.leaving c.look-seen.result m p.events seen leaves) ∙ sym c.is_leaving.ensures ∙ c.if-is_leaving.true in
    (λ e. absurd (cc), λ lets. absurd (let stays = (let_barrier m p c.look-seen.result seen lets).stays in let both = sym goes ∙ stays in cc))

pub returns-then-is_some-3 : goal.returns-then-is_some-3
returns-then-is_some-3 g c = λ p parts leaves.
    let m = c.args.member in
    let seen = c.look-seen.ensures.value ∙ g.met.S.Shares.agrees c.args.shares.now p.events m parts.shares_are c.requires.member in (
      λ e. absurd (cc),
      λ lets. absurd (something_found c.barrier_refusal.result c.is_some-3.result (outside_tests c.look-seen.result) c.is_some-3.ensures c.if-is_some-3.true c.barrier_refusal.ensures (let_barrier m p c.look-seen.result seen lets).placed),
    )

pub returns : goal.returns
returns g c = λ p parts leaves.
    let m = c.args.member in
    let seen = c.look-seen.ensures.value ∙ g.met.S.Shares.agrees c.args.shares.now p.events m parts.shares_are c.requires.member in
    let stays : is_leaving m p.events ≡ false = sym (leaves_alike c.args.leaving c.look-seen.result m p.events seen leaves) ∙ sym c.is_leaving.ensures ∙ c.if-is_leaving.false in
    let outside : least (outside_tasks_tests m p.events) ≡ None = sym (c.inside_task_refusal.ensures.value p.events parts.board_is) ∙ none_was_found c.inside_task_refusal.result c.is_some.result c.is_some.ensures c.if-is_some.false in
    let room : least (room_tests p.terms.limits p.room ARRIVAL_ROOM) ≡ None = rw (parts.limits, parts.room) (sym c.room_refusal.ensures.value ∙ none_was_found c.room_refusal.result c.is_some-2.result c.is_some-2.ensures c.if-is_some-2.false) in
    let placed : least (outside_tests c.look-seen.result) ≡ None = sym c.barrier_refusal.ensures ∙ none_was_found c.barrier_refusal.result c.is_some-3.result c.is_some-3.ensures c.if-is_some-3.false in
    let alike : c.compared_arrival_refusal.result ≡ least (compared_arrival BarrierArrival false m p.events) = c.compared_arrival_refusal.ensures.compared p.events (parts.shares_are, rw c.barriers.ensures.value parts.board_is.scheduler.barriers) in (
      λ e. barrier_let m p c.look-seen.result seen (record { stays = stays; outside = outside; room = room; placed = placed; alike = sym alike ∙ none_told c.compared_arrival_refusal.result c.is_none.result c.is_none.ensures e }),
      λ lets. told_none c.compared_arrival_refusal.result c.is_none.result c.is_none.ensures (alike ∙ (let_barrier m p c.look-seen.result seen lets).alike),
    )
