use Rattle.std.proofs.Common.{ℕ, Some, None, slice_get, refl, sym, ◌∙◌, ap, arith}
use Rattle.gomp_chunks.specs.Plans.{pieces}
use Rattle.gomp_chunks.specs.Spots.{CursorView}
use Rattle.gomp_shares.specs.Calls.{CanClaim}
use Rattle.gomp_share_ring.specs.declared.member_seat.MemberSeat.{MemberSeat}
use Rattle.gomp_share_ring.proofs.AllSteps.{tells_now, take_all, drained_all}
use Rattle.gomp_share_ring.proofs.AllAnswers.{claims_in, team_of_plan, number_of_plan, within_plan, may_take_own, may_take_next, own_piece_taken, ticket_piece_taken}
use Rattle.gomp_share_ring.proofs.AllCalls.{member_at, view_is_asked, known_to_all, stands_here, inside_again, in_share_of_all, own_number_in}
use Rattle.gomp_share_ring.proofs.NotedTakes.{noted_after, noted_take}
use Rattle.gomp_share_ring.proofs.ring_all.RingAllShares.claim.Goals as goal

pub take_assigned-requires-clause-may : goal.take_assigned-requires-clause-may
take_assigned-requires-clause-may c =
    let place = member_at _ _ _ _ _ _ c.self.view_is c.self.invariant.3 c.requires.place.member c.index.ensures in
    let can = view_is_asked _ _ _ _ _ _ (λ n seen. CanClaim n c.args.member seen) c.self.view_is place c.requires.place in
    may_take_own _ _ _ _ _ _ _ place c.in-Some.is can (sym c.is_assigned.ensures ∙ c.if-is_assigned.true)

pub next_piece-requires : goal.next_piece-requires
next_piece-requires c =
    let read = member_at _ _ _ _ _ _ c.self.view_is c.self.invariant.3 c.requires.place.member c.index.ensures in
    let place = member_at _ _ _ _ _ _ c.self.view_is c.self.invariant.3 c.requires.place.member c.index_mut-seat.ensures.value in
    let inside = inside_again _ _ _ _ _ _ _ read place c.in-Some.is in
    record { member = team_of_plan _ _ _ _ _ _ _ place inside }

pub take_ticket-ticket-requires-clause-may : goal.take_ticket-ticket-requires-clause-may
take_ticket-ticket-requires-clause-may c =
    let place = member_at _ _ _ _ _ _ c.self.view_is c.self.invariant.3 c.requires.place.member c.index.ensures in
    let can = view_is_asked _ _ _ _ _ _ (λ n seen. CanClaim n c.args.member seen) c.self.view_is place c.requires.place in
    may_take_next _ _ _ _ _ _ _ place c.in-Some.is can (sym c.is_assigned.ensures ∙ c.if-is_assigned.false)

pub find_piece-found-requires-clause-plan : goal.find_piece-found-requires-clause-plan
find_piece-found-requires-clause-plan c =
    let read = member_at _ _ _ _ _ _ c.self.view_is c.self.invariant.3 c.requires.place.member c.index.ensures in
    let place = member_at _ _ _ _ _ _ c.self.view_is c.self.invariant.3 c.requires.place.member c.index_mut-seat-2.ensures.value in
    let inside = inside_again _ _ _ _ _ _ _ read place c.in-Some.is in
    (tells_now _ _ _ _ _ place).plan_is _ inside ∙ ap (λ (n : ℕ). record { members = n; shape = c.in-Some.shape }) (sym c.self.invariant.2)

pub find_piece-found-requires-clause-team : goal.find_piece-found-requires-clause-team
find_piece-found-requires-clause-team c =
    let some = c.self.invariant.3.some_member in
    let same = c.self.invariant.2 in
    omega (arith, some, same)

pub find_piece-found-requires-clause-shape : goal.find_piece-found-requires-clause-shape
find_piece-found-requires-clause-shape c =
    let read = member_at _ _ _ _ _ _ c.self.view_is c.self.invariant.3 c.requires.place.member c.index.ensures in
    let place = member_at _ _ _ _ _ _ c.self.view_is c.self.invariant.3 c.requires.place.member c.index_mut-seat-2.ensures.value in
    let inside = inside_again _ _ _ _ _ _ _ read place c.in-Some.is in
    place.all.valid _ _ (in_share_of_all _ _ _ _ _ _ _ place inside).inside

pub invariant_of-self : goal.invariant_of-self
invariant_of-self c =
    let read = member_at _ _ _ _ _ _ c.self.view_is c.self.invariant.3 c.requires.place.member c.index.ensures in
    let place = member_at _ _ _ _ _ _ c.self.view_is c.self.invariant.3 c.requires.place.member c.index_mut-seat.ensures.value in
    let inside = inside_again _ _ _ _ _ _ _ read place c.in-Some.is in
    let acts = own_piece_taken _ _ _ _ None _ _ _ _ place inside (sym c.is_assigned.ensures ∙ c.if-is_assigned.true) c.in_default-next_piece.ensures.piece c.take_assigned.ensures.acted in
    let step = drained_all _ _ _ _ _ c.drain.new.self _ _ place acts (ap (λ (s : MemberSeat). s.seen) c.drain.ensures) (ap (λ (s : MemberSeat). s.own) c.drain.ensures) (ap (λ (s : MemberSeat). s.cursor.plan) c.drain.ensures ∙ c.next_piece.ensures.plan) in
    (c.take_assigned.ensures.seat.0 ∙ c.self.invariant.0, c.take_assigned.ensures.seat.1 ∙ c.self.invariant.1, c.self.invariant.2, step.all, noted_after _ _ _ _ c.self.invariant.4 step.goes (λ i. refl))

pub returns-in_default-next_piece-clause-known : goal.returns-in_default-next_piece-clause-known
returns-in_default-next_piece-clause-known c = known_to_all _ _ _ _ c.self.view_is c.self.invariant.3

pub returns-in_default-next_piece-clause-answer : goal.returns-in_default-next_piece-clause-answer
returns-in_default-next_piece-clause-answer c = λ h st0.
    let st = stands_here _ _ _ h _ c.self.view_is st0 in
    let read = member_at _ _ _ _ _ _ c.self.view_is c.self.invariant.3 c.requires.place.member c.index.ensures in
    let place = member_at _ _ _ _ _ _ c.self.view_is c.self.invariant.3 c.requires.place.member c.index_mut-seat.ensures.value in
    let inside = inside_again _ _ _ _ _ _ _ read place c.in-Some.is in
    let acts = own_piece_taken _ _ _ _ None _ _ _ _ place inside (sym c.is_assigned.ensures ∙ c.if-is_assigned.true) c.in_default-next_piece.ensures.piece c.take_assigned.ensures.acted in
    rw (← c.self.view_is) (claims_in _ _ _ _ None _ _ _ _ h place inside acts tt st)

pub returns-in_default-next_piece-clause-stands : goal.returns-in_default-next_piece-clause-stands
returns-in_default-next_piece-clause-stands c = λ h st0.
    let st = stands_here _ _ _ h _ c.self.view_is st0 in
    let read = member_at _ _ _ _ _ _ c.self.view_is c.self.invariant.3 c.requires.place.member c.index.ensures in
    let place = member_at _ _ _ _ _ _ c.self.view_is c.self.invariant.3 c.requires.place.member c.index_mut-seat.ensures.value in
    let inside = inside_again _ _ _ _ _ _ _ read place c.in-Some.is in
    let acts = own_piece_taken _ _ _ _ None _ _ _ _ place inside (sym c.is_assigned.ensures ∙ c.if-is_assigned.true) c.in_default-next_piece.ensures.piece c.take_assigned.ensures.acted in
    let step = drained_all _ _ _ _ _ c.drain.new.self _ _ place acts (ap (λ (s : MemberSeat). s.seen) c.drain.ensures) (ap (λ (s : MemberSeat). s.own) c.drain.ensures) (ap (λ (s : MemberSeat). s.cursor.plan) c.drain.ensures ∙ c.next_piece.ensures.plan) in
    rw (own_number_in _ _ _ _ _ _ _ h read c.in-Some.is st) (step.stands h st)

pub invariant_of-self-then-is_assigned : goal.invariant_of-self-then-is_assigned
invariant_of-self-then-is_assigned c =
    let read = member_at _ _ _ _ _ _ c.self.view_is c.self.invariant.3 c.requires.place.member c.index.ensures in
    let place = member_at _ _ _ _ _ _ c.self.view_is c.self.invariant.3 c.requires.place.member c.index_mut-seat.ensures.value in
    let inside = inside_again _ _ _ _ _ _ _ read place c.in-Some.is in
    let acts = own_piece_taken _ _ _ _ (Some c.in-Some-next_piece.piece) _ _ _ _ place inside (sym c.is_assigned.ensures ∙ c.if-is_assigned.true) c.in-Some-next_piece.ensures.piece c.take_assigned.ensures.acted in
    let number = number_of_plan _ _ _ c.take_piece.new.self.number _ _ _ _ _ place inside (ap (slice_get (pieces c.index_mut-seat.result.now.cursor.plan)) c.take_piece.ensures.number ∙ c.in-Some-next_piece.ensures.number) in
    let step = take_all _ _ _ _ _ _ _ c.take_piece.new.self _ _ place inside acts c.take_piece.ensures.seen c.take_piece.ensures.own number (ap (λ (k : CursorView). k.plan) c.take_piece.ensures.cursor ∙ c.next_piece.ensures.plan) in
    (c.take_assigned.ensures.seat.0 ∙ c.self.invariant.0, c.take_assigned.ensures.seat.1 ∙ c.self.invariant.1, c.self.invariant.2, step.all, rw c.put.ensures (noted_take _ _ _ _ _ _ _ _ _ c.self.invariant.4 c.self.invariant.3.rule (in_share_of_all _ _ _ _ _ _ _ place inside).inside step.goes))

pub returns-then-is_assigned-clause-known : goal.returns-then-is_assigned-clause-known
returns-then-is_assigned-clause-known c = known_to_all _ _ _ _ c.self.view_is c.self.invariant.3

pub returns-then-is_assigned-clause-answer : goal.returns-then-is_assigned-clause-answer
returns-then-is_assigned-clause-answer c = λ h st0.
    let st = stands_here _ _ _ h _ c.self.view_is st0 in
    let read = member_at _ _ _ _ _ _ c.self.view_is c.self.invariant.3 c.requires.place.member c.index.ensures in
    let place = member_at _ _ _ _ _ _ c.self.view_is c.self.invariant.3 c.requires.place.member c.index_mut-seat.ensures.value in
    let inside = inside_again _ _ _ _ _ _ _ read place c.in-Some.is in
    let acts = own_piece_taken _ _ _ _ (Some c.in-Some-next_piece.piece) _ _ _ _ place inside (sym c.is_assigned.ensures ∙ c.if-is_assigned.true) c.in-Some-next_piece.ensures.piece c.take_assigned.ensures.acted in
    rw (← c.self.view_is) (claims_in _ _ _ _ (Some c.in-Some-next_piece.piece) _ _ _ _ h place inside acts (within_plan _ _ _ _ (Some c.in-Some-next_piece.piece) _ _ _ place inside c.in-Some-next_piece.ensures.within) st)

pub returns-then-is_assigned-clause-stands : goal.returns-then-is_assigned-clause-stands
returns-then-is_assigned-clause-stands c = λ h st0.
    let st = stands_here _ _ _ h _ c.self.view_is st0 in
    let read = member_at _ _ _ _ _ _ c.self.view_is c.self.invariant.3 c.requires.place.member c.index.ensures in
    let place = member_at _ _ _ _ _ _ c.self.view_is c.self.invariant.3 c.requires.place.member c.index_mut-seat.ensures.value in
    let inside = inside_again _ _ _ _ _ _ _ read place c.in-Some.is in
    let acts = own_piece_taken _ _ _ _ (Some c.in-Some-next_piece.piece) _ _ _ _ place inside (sym c.is_assigned.ensures ∙ c.if-is_assigned.true) c.in-Some-next_piece.ensures.piece c.take_assigned.ensures.acted in
    let number = number_of_plan _ _ _ c.take_piece.new.self.number _ _ _ _ _ place inside (ap (slice_get (pieces c.index_mut-seat.result.now.cursor.plan)) c.take_piece.ensures.number ∙ c.in-Some-next_piece.ensures.number) in
    let step = take_all _ _ _ _ _ _ _ c.take_piece.new.self _ _ place inside acts c.take_piece.ensures.seen c.take_piece.ensures.own number (ap (λ (k : CursorView). k.plan) c.take_piece.ensures.cursor ∙ c.next_piece.ensures.plan) in
    rw (own_number_in _ _ _ _ _ _ _ h read c.in-Some.is st) (step.stands h st)

pub invariant_of-self-in_default-found : goal.invariant_of-self-in_default-found
invariant_of-self-in_default-found c =
    let read = member_at _ _ _ _ _ _ c.self.view_is c.self.invariant.3 c.requires.place.member c.index.ensures in
    let place = member_at _ _ _ _ _ _ c.self.view_is c.self.invariant.3 c.requires.place.member c.index_mut-seat-2.ensures.value in
    let inside = inside_again _ _ _ _ _ _ _ read place c.in-Some.is in
    let acts = ticket_piece_taken _ _ _ _ _ None _ _ _ _ place inside c.in_default-found.ensures.piece c.take_ticket-ticket.ensures.claimed.acts in
    let step = drained_all _ _ _ _ _ c.drain-in_default-found.new.self _ _ place acts (ap (λ (s : MemberSeat). s.seen) c.drain-in_default-found.ensures) (ap (λ (s : MemberSeat). s.own) c.drain-in_default-found.ensures) (ap (λ (s : MemberSeat). s.cursor.plan) c.drain-in_default-found.ensures ∙ c.find_piece-found.ensures.plan) in
    (c.take_ticket-ticket.ensures.seat.0 ∙ c.self.invariant.0, c.take_ticket-ticket.ensures.seat.1 ∙ c.self.invariant.1, c.self.invariant.2, step.all, noted_after _ _ _ _ c.self.invariant.4 step.goes (λ i. refl))

pub returns-in_default-found-clause-known : goal.returns-in_default-found-clause-known
returns-in_default-found-clause-known c = known_to_all _ _ _ _ c.self.view_is c.self.invariant.3

pub returns-in_default-found-clause-answer : goal.returns-in_default-found-clause-answer
returns-in_default-found-clause-answer c = λ h st0.
    let st = stands_here _ _ _ h _ c.self.view_is st0 in
    let read = member_at _ _ _ _ _ _ c.self.view_is c.self.invariant.3 c.requires.place.member c.index.ensures in
    let place = member_at _ _ _ _ _ _ c.self.view_is c.self.invariant.3 c.requires.place.member c.index_mut-seat-2.ensures.value in
    let inside = inside_again _ _ _ _ _ _ _ read place c.in-Some.is in
    let acts = ticket_piece_taken _ _ _ _ _ None _ _ _ _ place inside c.in_default-found.ensures.piece c.take_ticket-ticket.ensures.claimed.acts in
    rw (← c.self.view_is) (claims_in _ _ _ _ None _ _ _ _ h place inside acts tt st)

pub returns-in_default-found-clause-stands : goal.returns-in_default-found-clause-stands
returns-in_default-found-clause-stands c = λ h st0.
    let st = stands_here _ _ _ h _ c.self.view_is st0 in
    let read = member_at _ _ _ _ _ _ c.self.view_is c.self.invariant.3 c.requires.place.member c.index.ensures in
    let place = member_at _ _ _ _ _ _ c.self.view_is c.self.invariant.3 c.requires.place.member c.index_mut-seat-2.ensures.value in
    let inside = inside_again _ _ _ _ _ _ _ read place c.in-Some.is in
    let acts = ticket_piece_taken _ _ _ _ _ None _ _ _ _ place inside c.in_default-found.ensures.piece c.take_ticket-ticket.ensures.claimed.acts in
    let step = drained_all _ _ _ _ _ c.drain-in_default-found.new.self _ _ place acts (ap (λ (s : MemberSeat). s.seen) c.drain-in_default-found.ensures) (ap (λ (s : MemberSeat). s.own) c.drain-in_default-found.ensures) (ap (λ (s : MemberSeat). s.cursor.plan) c.drain-in_default-found.ensures ∙ c.find_piece-found.ensures.plan) in
    rw (own_number_in _ _ _ _ _ _ _ h read c.in-Some.is st) (step.stands h st)

pub invariant_of-self-2 : goal.invariant_of-self-2
invariant_of-self-2 c =
    let read = member_at _ _ _ _ _ _ c.self.view_is c.self.invariant.3 c.requires.place.member c.index.ensures in
    let place = member_at _ _ _ _ _ _ c.self.view_is c.self.invariant.3 c.requires.place.member c.index_mut-seat-2.ensures.value in
    let inside = inside_again _ _ _ _ _ _ _ read place c.in-Some.is in
    let acts = ticket_piece_taken _ _ _ _ _ (Some c.in-Some-found.piece) _ _ _ _ place inside c.in-Some-found.ensures.piece c.take_ticket-ticket.ensures.claimed.acts in
    let number = number_of_plan _ _ _ c.take_piece-2.new.self.number _ _ _ _ _ place inside (ap (slice_get (pieces c.index_mut-seat-2.result.now.cursor.plan)) c.take_piece-2.ensures.number ∙ sym c.in-Some-found.ensures.piece) in
    let step = take_all _ _ _ _ _ _ _ c.take_piece-2.new.self _ _ place inside acts c.take_piece-2.ensures.seen c.take_piece-2.ensures.own number (ap (λ (k : CursorView). k.plan) c.take_piece-2.ensures.cursor ∙ c.find_piece-found.ensures.plan) in
    (c.take_ticket-ticket.ensures.seat.0 ∙ c.self.invariant.0, c.take_ticket-ticket.ensures.seat.1 ∙ c.self.invariant.1, c.self.invariant.2, step.all, rw c.put-2.ensures (noted_take _ _ _ _ _ _ _ _ _ c.self.invariant.4 c.self.invariant.3.rule (in_share_of_all _ _ _ _ _ _ _ place inside).inside step.goes))

pub returns-clause-known : goal.returns-clause-known
returns-clause-known c = known_to_all _ _ _ _ c.self.view_is c.self.invariant.3

pub returns-clause-answer : goal.returns-clause-answer
returns-clause-answer c = λ h st0.
    let st = stands_here _ _ _ h _ c.self.view_is st0 in
    let read = member_at _ _ _ _ _ _ c.self.view_is c.self.invariant.3 c.requires.place.member c.index.ensures in
    let place = member_at _ _ _ _ _ _ c.self.view_is c.self.invariant.3 c.requires.place.member c.index_mut-seat-2.ensures.value in
    let inside = inside_again _ _ _ _ _ _ _ read place c.in-Some.is in
    let acts = ticket_piece_taken _ _ _ _ _ (Some c.in-Some-found.piece) _ _ _ _ place inside c.in-Some-found.ensures.piece c.take_ticket-ticket.ensures.claimed.acts in
    rw (← c.self.view_is) (claims_in _ _ _ _ (Some c.in-Some-found.piece) _ _ _ _ h place inside acts (within_plan _ _ _ _ (Some c.in-Some-found.piece) _ _ _ place inside c.in-Some-found.ensures.within) st)

pub returns-clause-stands : goal.returns-clause-stands
returns-clause-stands c = λ h st0.
    let st = stands_here _ _ _ h _ c.self.view_is st0 in
    let read = member_at _ _ _ _ _ _ c.self.view_is c.self.invariant.3 c.requires.place.member c.index.ensures in
    let place = member_at _ _ _ _ _ _ c.self.view_is c.self.invariant.3 c.requires.place.member c.index_mut-seat-2.ensures.value in
    let inside = inside_again _ _ _ _ _ _ _ read place c.in-Some.is in
    let acts = ticket_piece_taken _ _ _ _ _ (Some c.in-Some-found.piece) _ _ _ _ place inside c.in-Some-found.ensures.piece c.take_ticket-ticket.ensures.claimed.acts in
    let number = number_of_plan _ _ _ c.take_piece-2.new.self.number _ _ _ _ _ place inside (ap (slice_get (pieces c.index_mut-seat-2.result.now.cursor.plan)) c.take_piece-2.ensures.number ∙ sym c.in-Some-found.ensures.piece) in
    let step = take_all _ _ _ _ _ _ _ c.take_piece-2.new.self _ _ place inside acts c.take_piece-2.ensures.seen c.take_piece-2.ensures.own number (ap (λ (k : CursorView). k.plan) c.take_piece-2.ensures.cursor ∙ c.find_piece-found.ensures.plan) in
    rw (own_number_in _ _ _ _ _ _ _ h read c.in-Some.is st) (step.stands h st)
