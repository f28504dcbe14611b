use Rattle.std.proofs.Common.{◌≡◌, ◌<◌, length, refl, subst, sym, ◌∙◌, ap, true, slice_set, Bool, ◌∷◌}
use Rattle.std.proofs.lemmas.Option.{slice_get_read}
use Rattle.std.specs.Prelude.{All, List, IsTrue, ◌↔◌}
use Rattle.gomp_events.specs.declared.event.Event.TheVariants.{Pass}
use Rattle.gomp_events.specs.Events.{barriers_passed}
use Rattle.gomp_events.specs.Goals.{may_pass}
use Rattle.gomp_barrier.specs.declared.front.BarrierSeat.{BarrierSeat}
use Rattle.gomp_barrier.specs.Seats.{is_ahead, passed_by, next_front}
use Rattle.gomp_barrier.specs.Stands.{BarriersView, MayTurn, MayLeave, barrier_members, uncancelled}
use Rattle.gomp_barrier.proofs.BarrierSteps.{StandAt, view_stands_too, turn_is, turn_keeps, leave_is, leave_keeps}
use Rattle.gomp_barrier.proofs.barriers.Barriers.turn.Goals as goal

pub returns-then-not-may_leave-clause-answer : goal.returns-then-not-may_leave-clause-answer
returns-then-not-may_leave-clause-answer c = λ h st0.
    let st1 = view_stands_too _ _ h c.self.view_is st0 in
    let st = subst (λ (b : Bool). StandAt c.self.inside.seats.items c.self.inside.front c.self.inside.tasks b h) c.if-self.true st1 in
    let lt : c.args.member < length c.self.inside.seats.items = subst (λ (v : BarriersView). c.args.member < barrier_members v) (sym c.self.view_is) c.requires.member in
    let at = slice_get_read c.self.inside.seats.items _ c.args.member _ refl lt c.index-seat.ensures in
    let is = subst (λ (xs : List BarrierSeat). IsTrue c.may_leave.result ↔ MayLeave xs c.self.inside.tasks c.index-seat.result.now) c.deref.ensures.value c.may_leave.ensures in
    let answer = leave_is c.self.inside.seats.items c.self.inside.front c.self.inside.tasks c.args.member _ h c.may_leave.result st at is in
    sym c.if-not-may_leave.true ∙ subst (λ (v : BarriersView). c.may_leave.result ≡ may_pass (barrier_members v) c.args.member h) c.self.view_is answer

pub returns-then-self-clause-answer : goal.returns-then-self-clause-answer
returns-then-self-clause-answer c = λ h st0.
    let st1 = view_stands_too _ _ h c.self.view_is st0 in
    let st = subst (λ (b : Bool). StandAt c.self.inside.seats.items c.self.inside.front c.self.inside.tasks b h) c.if-self.true st1 in
    let lt : c.args.member < length c.self.inside.seats.items = subst (λ (v : BarriersView). c.args.member < barrier_members v) (sym c.self.view_is) c.requires.member in
    let at = slice_get_read c.self.inside.seats.items _ c.args.member _ refl lt c.index-seat.ensures in
    let is = subst (λ (xs : List BarrierSeat). IsTrue c.may_leave.result ↔ MayLeave xs c.self.inside.tasks c.index-seat.result.now) c.deref.ensures.value c.may_leave.ensures in
    let answer = leave_is c.self.inside.seats.items c.self.inside.front c.self.inside.tasks c.args.member _ h c.may_leave.result st at is in
    sym c.if-not-may_leave.false ∙ subst (λ (v : BarriersView). c.may_leave.result ≡ may_pass (barrier_members v) c.args.member h) c.self.view_is answer

pub returns-then-self-clause-stands : goal.returns-then-self-clause-stands
returns-then-self-clause-stands c = λ h st0.
    let st1 = view_stands_too _ _ h c.self.view_is st0 in
    let st = subst (λ (b : Bool). StandAt c.self.inside.seats.items c.self.inside.front c.self.inside.tasks b h) c.if-self.true st1 in
    let lt : c.args.member < length c.self.inside.seats.items = subst (λ (v : BarriersView). c.args.member < barrier_members v) (sym c.self.view_is) c.requires.member in
    let at = slice_get_read c.self.inside.seats.items _ c.args.member _ refl lt c.index-seat.ensures in
    let is = subst (λ (xs : List BarrierSeat). IsTrue c.may_leave.result ↔ MayLeave xs c.self.inside.tasks c.index-seat.result.now) c.deref.ensures.value c.may_leave.ensures in
    subst (λ (b : Bool). StandAt (slice_set c.self.inside.seats.items c.args.member c.gone_from-gone.result) c.self.inside.front c.self.inside.tasks b (Pass (barriers_passed c.args.member h) c.args.member ∷ h)) (sym c.if-self.true)
    (rw c.gone_from-gone.ensures (leave_keeps c.self.inside.seats.items c.self.inside.front c.self.inside.tasks c.args.member _ h st at (is.0 c.if-not-may_leave.false)))

pub returns-then-not-may_turn-clause-answer : goal.returns-then-not-may_turn-clause-answer
returns-then-not-may_turn-clause-answer c = λ h st0.
    let st1 = view_stands_too _ _ h c.self.view_is st0 in
    let st = subst (λ (b : Bool). StandAt c.self.inside.seats.items c.self.inside.front c.self.inside.tasks b h) c.if-self.false st1 in
    let lt : c.args.member < length c.self.inside.seats.items = subst (λ (v : BarriersView). c.args.member < barrier_members v) (sym c.self.view_is) c.requires.member in
    let at = slice_get_read c.self.inside.seats.items _ c.args.member _ refl lt c.index-seat.ensures in
    let is = subst (λ (xs : List BarrierSeat). IsTrue c.may_turn.result ↔ MayTurn (uncancelled xs c.self.inside.front c.self.inside.tasks) c.index-seat.result.now) c.deref-2.ensures.value c.may_turn.ensures in
    let answer = turn_is c.self.inside.seats.items c.self.inside.front c.self.inside.tasks c.args.member _ h c.may_turn.result st at is in
    sym c.if-not-may_turn.true ∙ subst (λ (v : BarriersView). c.may_turn.result ≡ may_pass (barrier_members v) c.args.member h) c.self.view_is answer

pub returns-clause-answer : goal.returns-clause-answer
returns-clause-answer c = λ h st0.
    let st1 = view_stands_too _ _ h c.self.view_is st0 in
    let st = subst (λ (b : Bool). StandAt c.self.inside.seats.items c.self.inside.front c.self.inside.tasks b h) c.if-self.false st1 in
    let lt : c.args.member < length c.self.inside.seats.items = subst (λ (v : BarriersView). c.args.member < barrier_members v) (sym c.self.view_is) c.requires.member in
    let at = slice_get_read c.self.inside.seats.items _ c.args.member _ refl lt c.index-seat.ensures in
    let is = subst (λ (xs : List BarrierSeat). IsTrue c.may_turn.result ↔ MayTurn (uncancelled xs c.self.inside.front c.self.inside.tasks) c.index-seat.result.now) c.deref-2.ensures.value c.may_turn.ensures in
    let answer = turn_is c.self.inside.seats.items c.self.inside.front c.self.inside.tasks c.args.member _ h c.may_turn.result st at is in
    sym c.if-not-may_turn.false ∙ subst (λ (v : BarriersView). c.may_turn.result ≡ may_pass (barrier_members v) c.args.member h) c.self.view_is answer

pub returns-clause-stands : goal.returns-clause-stands
returns-clause-stands c = λ h st0.
    let st1 = view_stands_too _ _ h c.self.view_is st0 in
    let st = subst (λ (b : Bool). StandAt c.self.inside.seats.items c.self.inside.front c.self.inside.tasks b h) c.if-self.false st1 in
    let lt : c.args.member < length c.self.inside.seats.items = subst (λ (v : BarriersView). c.args.member < barrier_members v) (sym c.self.view_is) c.requires.member in
    let at = slice_get_read c.self.inside.seats.items _ c.args.member _ refl lt c.index-seat.ensures in
    let is = subst (λ (xs : List BarrierSeat). IsTrue c.may_turn.result ↔ MayTurn (uncancelled xs c.self.inside.front c.self.inside.tasks) c.index-seat.result.now) c.deref-2.ensures.value c.may_turn.ensures in
    let seat : c.passed_by-passed.result ≡ _ = c.passed_by-passed.ensures ∙ ap (passed_by c.index-seat.result.now) c.ends_region.ensures in
    let now : c.deref-3.result.now ≡ _ = c.deref-3.ensures.value ∙ ap (slice_set c.self.inside.seats.items c.args.member) seat in
    subst (λ (b : Bool). StandAt (slice_set c.self.inside.seats.items c.args.member c.passed_by-passed.result) c.front_after-self-inside.result c.self.inside.tasks b (Pass (barriers_passed c.args.member h) c.args.member ∷ h)) (sym c.if-self.false)
    (rw seat (turn_keeps c.self.inside.seats.items c.self.inside.front c.front_after-self-inside.result c.self.inside.tasks c.args.member _ h st at (is.0 c.if-not-may_turn.false)
    (subst (λ (xs : List BarrierSeat). All (λ (p : BarrierSeat). is_ahead c.self.inside.front p ≡ true) xs → c.front_after-self-inside.result ≡ next_front c.self.inside.front) now c.front_after-self-inside.ensures.moved)
    (subst (λ (xs : List BarrierSeat). (All (λ (p : BarrierSeat). is_ahead c.self.inside.front p ≡ true) xs → ⊥) → c.front_after-self-inside.result ≡ c.self.inside.front) now c.front_after-self-inside.ensures.stays)))

pub invariant_of-self : goal.invariant_of-self
invariant_of-self c = let (h, st) = c.self.invariant in (_, returns-then-self-clause-stands c h (view_stands_too _ _ h (sym c.self.view_is) st))

pub invariant_of-self-2 : goal.invariant_of-self-2
invariant_of-self-2 c = let (h, st) = c.self.invariant in (_, returns-clause-stands c h (view_stands_too _ _ h (sym c.self.view_is) st))
