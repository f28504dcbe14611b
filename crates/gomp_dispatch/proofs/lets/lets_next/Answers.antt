use Rattle.std.proofs.Common.{◌≡◌, ◌∙◌, false, None, refl, sym}
use Rattle.gomp_types.specs.Least.{least}
use Rattle.gomp_events.specs.Cancels.{is_leaving}
use Rattle.gomp_events.specs.TaskCalls.{outside_tasks_tests}
use Rattle.gomp_shares.specs.Loops.{next_tests}
use Rattle.gomp_dispatch.proofs.LeavingTests.{leaves_alike}
use Rattle.gomp_dispatch.proofs.LetCalls.{next_let, let_next, none_was_found, none_told, told_none}
use Rattle.gomp_dispatch.proofs.Refused.{rising_least}
use Rattle.gomp_dispatch.proofs.lets.lets_next.Goals as goal

pub returns-then-is_leaving : goal.returns-then-is_leaving
returns-then-is_leaving g c = λ p parts leaves.
    let m = c.args.member in
    let seen = c.look-seen.ensures.value ∙ g.met.S.Shares.agrees c.args.shares.now p.events m parts.shares_are c.requires.member in
    let goes = sym (leaves_alike c.args.leaving c.look-seen.result m p.events seen leaves) ∙ sym c.is_leaving.ensures ∙ c.if-is_leaving.true in
    (λ e. absurd (cc), λ lets. absurd (let stays = (let_next m p c.look-seen.result seen lets).stays in let both = sym goes ∙ stays in cc))

pub returns : goal.returns
returns g c = λ p parts leaves.
    let m = c.args.member in
    let seen = c.look-seen.ensures.value ∙ g.met.S.Shares.agrees c.args.shares.now p.events m parts.shares_are c.requires.member in
    let stays : is_leaving m p.events ≡ false = sym (leaves_alike c.args.leaving c.look-seen.result m p.events seen leaves) ∙ sym c.is_leaving.ensures ∙ c.if-is_leaving.false in
    let outside : least (outside_tasks_tests m p.events) ≡ None = sym (c.inside_task_refusal.ensures.value p.events parts.board_is) ∙ none_was_found c.inside_task_refusal.result c.is_some.result c.is_some.ensures c.if-is_some.false in
    let placed : c.next_refusal.result ≡ least (next_tests c.look-seen.result) = rising_least c.next_refusal.result (next_tests c.look-seen.result) c.next_refusal.ensures.first refl in (
      λ e. next_let m p c.look-seen.result seen (record { stays = stays; outside = outside; placed = sym placed ∙ none_told c.next_refusal.result c.is_none.result c.is_none.ensures e }),
      λ lets. told_none c.next_refusal.result c.is_none.result c.is_none.ensures (placed ∙ (let_next m p c.look-seen.result seen lets).placed),
    )
