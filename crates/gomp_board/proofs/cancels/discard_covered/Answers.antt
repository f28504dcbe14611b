use Rattle.std.proofs.Common.{◌≡◌, ◌+◌, refl, sym, ◌∙◌, arith, ℕ, reverse, true, subst, ◌++◌}
use Rattle.std.specs.Prelude.{◌&&◌}
use Rattle.gomp_events.specs.Goals.{is_unstarted}
use Rattle.gomp_events.specs.Cancels.{is_covered}
use Rattle.gomp_types.proofs.Booleans.{and_left}
use Rattle.gomp_events.specs.Tasks.{tasks_created}
use Rattle.gomp_events.specs.CancelCalls.{discards_to}
use Rattle.gomp_board.specs.Discards.{DiscardsStand}
use Rattle.gomp_board.proofs.DiscardSteps.{none_discarded_yet, own_discarded, member_still, discard_is_allowed, discard_has_memory, one_more_discarded, none_more_discarded}
use Rattle.gomp_board.proofs.cancels.discard_covered.Goals.{then-is_discarded, else-is_discarded}
use Rattle.gomp_board.proofs.cancels.discard_covered.Goals as goal

pub loop-place-init : goal.loop-place-init
loop-place-init c = (none_discarded_yet c.args.before c.args.member c.args.scheduler.now c.args.history.now.events c.requires.none c.requires.members, refl)

pub discard_task-requires : goal.discard_task-requires
discard_task-requires c =
    let k = c.loop-place.place in let m = c.args.member in let all = c.loop-place.invariant.0 in
    let es = c.loop-place.history.events in
    let own = own_discarded c.args.before k m all c.requires.own c.requires.none in
    let is : (is_unstarted (k + 1) (reverse es) && is_covered (k + 1) (reverse es)) ≡ true = sym (c.is_discarded.ensures.value (reverse es) own.scheduler) ∙ c.if-is_discarded.true in
    let (n, room) = c.requires.room in
    let memory = c.loop-place.invariant.1 in
    let fits = discard_has_memory c.args.before k m all n _ room (and_left (is_unstarted (k + 1) (reverse es)) (is_covered (k + 1) (reverse es)) is) in
    record { member = member_still c.args.before k m all c.requires.member; may = discard_is_allowed c.args.before k m all c.requires.member (reverse es) is; own = own; space = omega (arith, fits, memory) }

pub loop-place-preserved : goal.loop-place-preserved
loop-place-preserved c =
    let k = c.loop-place.place in let m = c.args.member in let all = c.loop-place.invariant.0 in
    elim c.if-is_discarded.branch [
      | then-is_discarded w ↦
          rw (w.scheduler-is, w.history-is) (
            one_more_discarded c.args.before k m all c.requires.member c.requires.own c.requires.none (λ h st. sym w.if-is_discarded.true ∙ c.is_discarded.ensures.value h st)
                w.discard_task.ensures.stands w.discard_task.ensures.history w.discard_task.ensures.count w.discard_task.ensures.members,
            w.discard_task.ensures.memory ∙ c.loop-place.invariant.1,
          )
      | else-is_discarded w ↦
          rw (w.scheduler-is, w.history-is) (none_more_discarded c.args.before k m all c.requires.own c.requires.none (λ h st. sym w.if-is_discarded.false ∙ c.is_discarded.ensures.value h st), c.loop-place.invariant.1)
    ]

pub returns-clause-stands : goal.returns-clause-stands
returns-clause-stands c = λ h st none.
    let few = c.loop-place.auto.place-end in let done = c.loop-place-test.false in let low = c.requires.few in let rows = c.count-count.ensures.rows in
    let count = c.count-count.ensures.value h st.scheduler in
    let place : c.loop-place.place ≡ tasks_created h = omega (arith, few, done, low, rows, count) in
    let parts = subst (λ (n : ℕ). DiscardsStand c.loop-place.scheduler c.loop-place.history.events (discards_to n c.args.member h ++ h)) place (c.loop-place.invariant.0.stands h st none) in
    record { scheduler = c.forget_discarded.ensures.stands (discards_to (tasks_created h) c.args.member h ++ h) parts.scheduler; history = parts.history }
