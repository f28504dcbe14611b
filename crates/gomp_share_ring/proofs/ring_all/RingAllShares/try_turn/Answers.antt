use Rattle.std.proofs.Common.{refl, sym, ◌∙◌, arith}
use Rattle.gomp_shares.specs.Calls.{CanBeginPart}
use Rattle.gomp_shares.proofs.AnswerRules.{rest_tells}
use Rattle.gomp_share_ring.proofs.AllSteps.{part_all}
use Rattle.gomp_share_ring.proofs.AllAnswers.{piece_has_its_number, piece_is_small, turn_answer}
use Rattle.gomp_share_ring.proofs.AllCalls.{member_at, view_is_asked, asked_of_events, known_to_all, stands_here, own_number_in}
use Rattle.gomp_share_ring.proofs.NotedTakes.{noted_after}
use Rattle.gomp_share_ring.proofs.ring_all.RingAllShares.try_turn.Goals as goal

pub begin_part-requires-clause-holds : goal.begin_part-requires-clause-holds
begin_part-requires-clause-holds c =
    let place = member_at _ _ _ _ _ _ c.self.view_is c.self.invariant.3 c.requires.place.member c.index-seat.ensures in
    let can = view_is_asked _ _ _ _ _ _ (λ n seen. CanBeginPart n c.args.member c.args.iteration seen) c.self.view_is place c.requires.place in
    let rest = rest_tells _ _ _ can.rest in
    piece_has_its_number _ _ _ _ rest.piece _ _ _ place c.in-Some.is rest.is

pub begin_part-requires-clause-may : goal.begin_part-requires-clause-may
begin_part-requires-clause-may c =
    let place = member_at _ _ _ _ _ _ c.self.view_is c.self.invariant.3 c.requires.place.member c.index-seat.ensures in
    asked_of_events _ _ _ _ _ _ (λ n seen. CanBeginPart n c.args.member c.args.iteration seen) c.self.view_is place c.requires.place

pub returns-then-not-begin_part-clause-known : goal.returns-then-not-begin_part-clause-known
returns-then-not-begin_part-clause-known c = known_to_all _ _ _ _ c.self.view_is c.self.invariant.3

pub returns-then-not-begin_part-clause-answer : goal.returns-then-not-begin_part-clause-answer
returns-then-not-begin_part-clause-answer c = λ h st0.
    let st = stands_here _ _ _ h _ c.self.view_is st0 in
    rw (← c.self.view_is) (sym c.if-not-begin_part.true ∙ turn_answer _ _ _ _ _ _ h _ c.self.invariant.3 c.begin_part.ensures.turn st)

pub overflow_add-seat : goal.overflow_add-seat
overflow_add-seat c =
    let place = member_at _ _ _ _ _ _ c.self.view_is c.self.invariant.3 c.requires.place.member c.index-seat.ensures in
    let can = view_is_asked _ _ _ _ _ _ (λ n seen. CanBeginPart n c.args.member c.args.iteration seen) c.self.view_is place c.requires.place in
    let rest = rest_tells _ _ _ can.rest in
    let small = piece_is_small _ _ _ _ rest.piece _ _ _ place c.in-Some.is rest.is in
    let end = small.end_few in
    let below = rest.before in
    omega arith

pub invariant_of-self-2 : goal.invariant_of-self-2
invariant_of-self-2 c =
    let place = member_at _ _ _ _ _ _ c.self.view_is c.self.invariant.3 c.requires.place.member c.index_mut-seat.ensures.value in
    let acts = c.begin_part.ensures.turn.acts c.if-not-begin_part.false in
    (c.begin_part.ensures.seat.0 ∙ c.self.invariant.0, c.begin_part.ensures.seat.1 ∙ c.self.invariant.1, c.self.invariant.2, (part_all _ _ _ _ _ _ _ _ place acts).all, noted_after _ _ _ _ c.self.invariant.4 (part_all _ _ _ _ _ _ _ _ place acts).goes (λ i. refl))

pub returns-clause-known : goal.returns-clause-known
returns-clause-known c = known_to_all _ _ _ _ c.self.view_is c.self.invariant.3

pub returns-clause-answer : goal.returns-clause-answer
returns-clause-answer c = λ h st0.
    let st = stands_here _ _ _ h _ c.self.view_is st0 in
    rw (← c.self.view_is) (sym c.if-not-begin_part.false ∙ turn_answer _ _ _ _ _ _ h _ c.self.invariant.3 c.begin_part.ensures.turn st)

pub returns-clause-stands : goal.returns-clause-stands
returns-clause-stands c = λ h st0.
    let st = stands_here _ _ _ h _ c.self.view_is st0 in
    let read = member_at _ _ _ _ _ _ c.self.view_is c.self.invariant.3 c.requires.place.member c.index-seat.ensures in
    let place = member_at _ _ _ _ _ _ c.self.view_is c.self.invariant.3 c.requires.place.member c.index_mut-seat.ensures.value in
    let acts = c.begin_part.ensures.turn.acts c.if-not-begin_part.false in
    rw (own_number_in _ _ _ _ _ _ _ h read c.in-Some.is st) ((part_all _ _ _ _ _ _ _ _ place acts).stands h st)
