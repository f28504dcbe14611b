use Rattle.std.proofs.Common.{◌≡◌, ◌<◌, ◌∷◌, ap, ◌∙◌, sym, subst, arith}
use Rattle.std.specs.Prelude.{ℕ, Bool, List, reverse, slice_index_or}
use Rattle.std.proofs.lemmas.List.{get_or_default}
use Rattle.gomp_events.specs.declared.event.Event.{Event}
use Rattle.gomp_events.specs.declared.event.Event.TheVariants.{Arrive}
use Rattle.gomp_barrier.specs.Calls.{arrived_after}
use Rattle.gomp_scheduler.specs.Schedulers.{Stands as SchedulerStands}
use Rattle.gomp_board.specs.Ops.{arrival_asks, arrival_keeps}
use Rattle.gomp_board.specs.Boards.{BoardView, Stands, HasSpare, ArrivesFirst, members_of, kept_by}
use Rattle.gomp_board.proofs.BoardEvents.{stands_too}
use Rattle.gomp_board.proofs.Joined.{barrier_number_is, arrived_stands_next, arrived_board, arrival_fits}
use Rattle.gomp_types.proofs.Booleans.{not_both}
use Rattle.gomp_board.proofs.FirstArrivals.{first_is_accepted}
use Rattle.gomp_board.proofs.board.Board.note_arrival.Goals as goal

pub unreachable-requires : goal.unreachable-requires
unreachable-requires c =
    let own = reverse c.self.inside.history.events in
    let first = subst (λ (b : BoardView). (h : List Event) → Stands b h → ArrivesFirst c.args.member c.args.tag h) (sym c.self.view_is) c.requires.first in
    let accepted = c.arrive.ensures.answer own c.self.invariant.stands.scheduler ∙ first_is_accepted c.args.member c.args.tag own (first own c.self.invariant.stands) in
    not_both _ accepted c.if-not-arrive.true

pub push-requires-clause-space : goal.push-requires-clause-space
push-requires-clause-space c =
    let member = subst (λ (b : BoardView). c.args.member < members_of b) (sym c.self.view_is) c.requires.member in
    let spare = subst (λ (b : BoardView). HasSpare (arrival_asks c.args.tag.kind (kept_by c.args.member b)) b) (sym c.self.view_is) c.requires.spare in
    let first = subst (λ (b : BoardView). (h : List Event) → Stands b h → ArrivesFirst c.args.member c.args.tag h) (sym c.self.view_is) c.requires.first in
    arrival_fits _ c.args.member 0 c.args.tag _ c.self.invariant member (first _ c.self.invariant.stands) spare

pub invariant_of-self : goal.invariant_of-self
invariant_of-self c =
    let member = subst (λ (b : BoardView). c.args.member < members_of b) (sym c.self.view_is) c.requires.member in
    let spare = subst (λ (b : BoardView). HasSpare (arrival_asks c.args.tag.kind (kept_by c.args.member b)) b) (sym c.self.view_is) c.requires.spare in
    let first = subst (λ (b : BoardView). (h : List Event) → Stands b h → ArrivesFirst c.args.member c.args.tag h) (sym c.self.view_is) c.requires.first in
    let number = barrier_number_is _ c.args.member _ _ (reverse c.self.inside.history.events) c.self.invariant (omega arith) c.barrier_number-barrier.ensures.value c.self.invariant.stands in
    let arrived = subst (λ (b : Bool). SchedulerStands c.arrive.new.self (arrived_after b c.args.member c.args.tag (reverse c.self.inside.history.events))) c.if-not-arrive.false (c.arrive.ensures.stands _ c.self.invariant.stands.scheduler) in
    let next = subst (λ (g : ℕ). SchedulerStands c.arrive.new.self (Arrive g c.args.member c.args.tag ∷ reverse c.self.inside.history.events)) (sym number) arrived in
    let kept : c.arrival_keeps.result ≡ arrival_keeps c.args.tag.kind (slice_index_or c.self.inside.kept.items c.args.member 0) =
    c.arrival_keeps.ensures ∙ ap (arrival_keeps c.args.tag.kind) (c.index.ensures ∙ get_or_default c.self.inside.kept.items c.args.member _ 0 member) in
    rw kept (arrived_board _ _ c.args.member c.barrier_number-barrier.result c.args.tag _ _ _ c.self.invariant member (first _ c.self.invariant.stands) spare c.push.ensures.events c.arrive.ensures.members next c.push.ensures.capacity)

pub returns-clause-stands : goal.returns-clause-stands
returns-clause-stands c = λ h st0.
    let st = stands_too _ _ h c.self.view_is st0 in
    let number = barrier_number_is _ c.args.member _ _ h c.self.invariant (omega arith) c.barrier_number-barrier.ensures.value st in
    let arrived = subst (λ (b : Bool). SchedulerStands c.arrive.new.self (arrived_after b c.args.member c.args.tag h)) c.if-not-arrive.false (c.arrive.ensures.stands _ st.scheduler) in
    arrived_stands_next _ _ _ _ c.args.member c.barrier_number-barrier.result c.args.tag h number c.push.ensures.events arrived st
