use Rattle.std.proofs.Common.{◌≡◌, ◌<◌, ◌∙◌, ℕ, true, false, refl, sym, subst}
use Rattle.gomp_types.specs.declared.call.Call.TheVariants.{LoopNext}
use Rattle.gomp_events.specs.declared.event.Arrival.TheVariants.{Barrier, RegionEnd}
use Rattle.gomp_events.specs.Tags.{tag_with}
use Rattle.gomp_events.specs.Events.{shares_entered}
use Rattle.gomp_model.specs.Arrivals.{barrier_row, region_end_row}
use Rattle.gomp_model.specs.Calls.{row_of}
use Rattle.gomp_dispatch.specs.Serves.{SharesStand, arrival_op, asked_once}
use Rattle.gomp_dispatch.proofs.Answered.{share_answers}
use Rattle.gomp_dispatch.proofs.OpAnswers.{op_answers}
use Rattle.gomp_dispatch.proofs.Reserved.{keeps_no_more}
use Rattle.gomp_dispatch.proofs.ShareRows.{call_is_share_row, admitted_in_place}
use Rattle.gomp_dispatch.proofs.CallOps.{board_call_answers, board_call_is_admitted, barrier_is_op, barrier_is_admitted, region_end_is_op, region_end_is_admitted, arrival_goes_on}
use Rattle.gomp_dispatch.proofs.answer.call_admitted.Goals as goal

-- Tasks and groups, and what cancels the region or a group

pub board_admitted-requires-clause-admitted : goal.board_admitted-requires-clause-admitted
board_admitted-requires-clause-admitted g c = board_call_is_admitted g.S.Shares.stands c.args.shares.now c.args.call.now c.args.manner c.args.member c.args.board.now c.requires.admitted

pub returns-in-Board-clause-answers : goal.returns-in-Board-clause-answers
returns-in-Board-clause-answers g c =
    board_call_answers g.S.Shares.stands c.args.shares.now (g.met.S.Shares.aside c.args.shares.now) c.args.call.now c.args.manner c.args.member c.args.board.now c.board_admitted.new.board c.board_admitted.result
    (subst (λ (n : ℕ). c.args.member < n) (sym c.requires.team) c.requires.member) c.requires.admitted (sym c.served_by.ensures ∙ c.in-Board.is) c.board_admitted.ensures.performs

-- A next chunk, which asks for no room

pub share_reply-requires-clause-place : goal.share_reply-requires-clause-place
share_reply-requires-clause-place g c =
    let (p, parts, ready, made) = c.requires.admitted in
    let own = rw c.in-LoopNext.is at ready in
    (p.terms.limits, rw c.in-LoopNext.is (rw (g.met.S.Shares.agrees c.args.shares.now p.events c.args.member parts.shares_are c.requires.member) (admitted_in_place (row_of LoopNext) (call_is_share_row LoopNext refl) c.args.manner.repeated c.args.member c.args.board.now p own)))

pub share_reply-requires-clause-drained : goal.share_reply-requires-clause-drained
share_reply-requires-clause-drained g c = rw c.in-LoopNext.is (λ first drains. absurd (cc))

pub share_reply-requires-clause-known : goal.share_reply-requires-clause-known
share_reply-requires-clause-known g c = let (p, parts, ready, made) = c.requires.admitted in (p.events, parts.shares_are)

asks_nothing : (repeated : _) → asked_once repeated 0 ≡ 0
asks_nothing true = refl
asks_nothing false = refl

pub returns-in-LoopNext-clause-answers : goal.returns-in-LoopNext-clause-answers
returns-in-LoopNext-clause-answers g c =
    let is = call_is_share_row LoopNext refl in
    let ready = rw c.in-LoopNext.is at c.requires.admitted in
    let serves = rw c.in-LoopNext.is at c.share_reply.ensures.serves in
    let events = rw c.in-LoopNext.is at c.share_reply.ensures.events in
    rw c.in-LoopNext.is (share_answers (SharesStand g.S.Shares.stands c.args.shares.now c.is_cancelled.result) g.S.Shares.stands (g.S.Shares.members c.args.shares.now) c.args.shares.now c.share_reply.new.shares (row_of LoopNext) c.args.manner c.args.member c.args.board.now c.args.board.now c.share_reply.result c.requires.team is.keeps is.fits
    ready (rw (asks_nothing c.args.manner.repeated) (keeps_no_more c.args.member c.args.board.now)) (λ p parts. (parts.shares_are, sym (c.is_cancelled.ensures.value p.events parts.board_is))) serves events)

-- A barrier

pub arrival_reply-requires-clause-admitted : goal.arrival_reply-requires-clause-admitted
arrival_reply-requires-clause-admitted g c = barrier_is_admitted g.S.Shares.stands c.args.shares.now c.args.manner c.args.member c.args.board.now (rw c.in-Barrier.is at c.requires.admitted)

pub returns-in-Barrier-clause-answers : goal.returns-in-Barrier-clause-answers
returns-in-Barrier-clause-answers g c =
    let ready = rw c.in-Barrier.is at c.requires.admitted in
    let repeated = c.args.manner.repeated in let leaving = c.args.manner.leaving.region in let m = c.args.member in
    rw c.in-Barrier.is (op_answers g.S.Shares.stands c.args.shares.now (g.met.S.Shares.aside c.args.shares.now) (λ h. arrival_op repeated leaving (tag_with Barrier (shares_entered m h))) barrier_row c.args.manner m c.args.board.now c.arrival_reply.new.board c.arrival_reply.result
    (subst (λ (n : ℕ). m < n) (sym c.requires.team) c.requires.member) ready c.arrival_reply.ensures.performs (λ p parts ready_there made. barrier_is_op g.S.Shares.stands c.args.shares.now repeated leaving m c.args.board.now p parts ready_there) refl (arrival_goes_on Barrier m repeated leaving))

-- The region's end

pub arrival_reply-requires-in-RegionEnd-clause-admitted : goal.arrival_reply-requires-in-RegionEnd-clause-admitted
arrival_reply-requires-in-RegionEnd-clause-admitted g c = region_end_is_admitted g.S.Shares.stands c.args.shares.now c.args.manner c.args.member c.args.board.now (rw c.in-RegionEnd.is at c.requires.admitted)

pub returns-in-RegionEnd-clause-answers : goal.returns-in-RegionEnd-clause-answers
returns-in-RegionEnd-clause-answers g c =
    let ready = rw c.in-RegionEnd.is at c.requires.admitted in
    let repeated = c.args.manner.repeated in let leaving = c.args.manner.leaving.region in let m = c.args.member in
    rw c.in-RegionEnd.is (op_answers g.S.Shares.stands c.args.shares.now (g.met.S.Shares.aside c.args.shares.now) (λ h. arrival_op repeated leaving (tag_with RegionEnd (shares_entered m h))) region_end_row c.args.manner m c.args.board.now c.arrival_reply-in-RegionEnd.new.board c.arrival_reply-in-RegionEnd.result
    (subst (λ (n : ℕ). m < n) (sym c.requires.team) c.requires.member) ready c.arrival_reply-in-RegionEnd.ensures.performs (λ p parts ready_there made. region_end_is_op g.S.Shares.stands c.args.shares.now repeated leaving m c.args.board.now p parts ready_there made.leaves.region) refl (arrival_goes_on RegionEnd m repeated leaving))
