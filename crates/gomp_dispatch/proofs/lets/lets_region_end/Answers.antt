use Rattle.std.proofs.Common.{◌≡◌, ◌∙◌, false, None, sym}
use Rattle.gomp_types.specs.Least.{least}
use Rattle.gomp_events.specs.declared.event.Arrival.TheVariants.{RegionEnd as RegionEndArrival}
use Rattle.gomp_events.specs.Cancels.{is_leaving}
use Rattle.gomp_events.specs.TaskCalls.{end_region_tests}
use Rattle.gomp_model.specs.Arrivals.{outside_tests, compared_arrival}
use Rattle.gomp_dispatch.proofs.LeavingTests.{leaves_alike}
use Rattle.gomp_dispatch.proofs.LetCalls.{region_end_let, let_region_end, none_was_found, none_told, told_none, something_found}
use Rattle.gomp_dispatch.proofs.lets.lets_region_end.Goals as goal

pub returns-then-is_leaving : goal.returns-then-is_leaving
returns-then-is_leaving g c = λ p parts leaves.
    let m = c.args.member in
    let seen = c.look-seen.ensures.value ∙ g.met.S.Shares.agrees c.args.shares.now p.events m parts.shares_are c.requires.member in
    let goes = sym (leaves_alike c.args.leaving c.look-seen.result m p.events seen leaves) ∙ sym c.is_leaving.ensures ∙ c.if-is_leaving.true in
    (λ e. absurd (cc), λ lets. absurd (let stays = (let_region_end m p c.look-seen.result seen lets).stays in let both = sym goes ∙ stays in cc))

pub returns-then-is_some : goal.returns-then-is_some
returns-then-is_some g c = λ p parts leaves.
    let m = c.args.member in
    let seen = c.look-seen.ensures.value ∙ g.met.S.Shares.agrees c.args.shares.now p.events m parts.shares_are c.requires.member in (
      λ e. absurd (cc),
      λ lets. absurd (something_found c.region_end_place_refusal.result c.is_some.result (end_region_tests false m p.events) c.is_some.ensures c.if-is_some.true (c.region_end_place_refusal.ensures.value p.events parts.board_is) (let_region_end m p c.look-seen.result seen lets).outside),
    )

pub returns-then-is_some-2 : goal.returns-then-is_some-2
returns-then-is_some-2 g c = λ p parts leaves.
    let m = c.args.member in
    let seen = c.look-seen.ensures.value ∙ g.met.S.Shares.agrees c.args.shares.now p.events m parts.shares_are c.requires.member in (
      λ e. absurd (cc),
      λ lets. absurd (something_found c.barrier_refusal.result c.is_some-2.result (outside_tests c.look-seen.result) c.is_some-2.ensures c.if-is_some-2.true c.barrier_refusal.ensures (let_region_end m p c.look-seen.result seen lets).placed),
    )

pub returns : goal.returns
returns g c = λ p parts leaves.
    let m = c.args.member in
    let seen = c.look-seen.ensures.value ∙ g.met.S.Shares.agrees c.args.shares.now p.events m parts.shares_are c.requires.member in
    let stays : is_leaving m p.events ≡ false = sym (leaves_alike c.args.leaving c.look-seen.result m p.events seen leaves) ∙ sym c.is_leaving.ensures ∙ c.if-is_leaving.false in
    let outside : least (end_region_tests false m p.events) ≡ None = sym (c.region_end_place_refusal.ensures.value p.events parts.board_is) ∙ none_was_found c.region_end_place_refusal.result c.is_some.result c.is_some.ensures c.if-is_some.false in
    let placed : least (outside_tests c.look-seen.result) ≡ None = sym c.barrier_refusal.ensures ∙ none_was_found c.barrier_refusal.result c.is_some-2.result c.is_some-2.ensures c.if-is_some-2.false in
    let alike : c.compared_arrival_refusal.result ≡ least (compared_arrival RegionEndArrival false m p.events) = c.compared_arrival_refusal.ensures.compared p.events (parts.shares_are, rw c.barriers.ensures.value parts.board_is.scheduler.barriers) in (
      λ e. region_end_let m p c.look-seen.result seen (record { stays = stays; outside = outside; placed = placed; alike = sym alike ∙ none_told c.compared_arrival_refusal.result c.is_none.result c.is_none.ensures e }),
      λ lets. told_none c.compared_arrival_refusal.result c.is_none.result c.is_none.ensures (alike ∙ (let_region_end m p c.look-seen.result seen lets).alike),
    )
