use Rattle.std.proofs.Common.{◌<◌, ◌∙◌, sym}
use Rattle.gomp_events.specs.Events.{shares_entered}
use Rattle.gomp_shares.proofs.Entered.{may_claim}
use Rattle.gomp_types.proofs.Laws.{value_tells_its_iteration}
use Rattle.gomp_loops.proofs.LoopReplies.{begin_deals, begin_adds, piece_never_refuses, piece_never_waits}
use Rattle.gomp_loops.proofs.calls.loop_start_admitted.Goals as goal

pub claim-requires : goal.claim-requires
claim-requires g c =
    let (h, st) = c.in-Entered.ensures.known in
    let now = c.in-Entered.ensures.stands h st in
    let lt : c.args.member < g.S.Shares.members c.try_open.new.self = rw c.try_open.ensures.members c.requires.place.member in
    let e = g.met.S.Shares.agrees c.try_open.new.self _ c.args.member now lt in
    record { place = may_claim _ c.args.member (shares_entered c.args.member h) c.args.shape.now _ h e lt }

pub returns-in-Entered-clause-serves : goal.returns-in-Entered-clause-serves
returns-in-Entered-clause-serves g c = record {
  known = c.in-Entered.ensures.known;
  answer = λ h st.
      let may = c.in-Entered.ensures.answer h st in
      let now = c.in-Entered.ensures.stands h st in
      let claims = rw c.try_open.ensures.members at (c.claim.ensures.answer _ now) in
      rw c.piece_reply.ensures.answer (begin_deals (g.S.Shares.members c.args.shares.now) c.args.member c.args.shape.now c.claim.result h may claims);
  stands_for = λ h st.
      let now = c.in-Entered.ensures.stands h st in
      let claims = c.claim.ensures.answer _ now in
      let adds = begin_adds _ c.args.member c.args.shape.now c.claim.result h value_tells_its_iteration claims in
      rw (c.piece_reply.ensures.answer, adds) (c.claim.ensures.stands _ now);
  kept = λ refusal is. absurd (piece_never_refuses c.args.shape.now c.claim.result refusal (sym c.piece_reply.ensures.answer ∙ is));
  waits = λ is. absurd (piece_never_waits c.args.shape.now c.claim.result (sym c.piece_reply.ensures.answer ∙ is));
}
