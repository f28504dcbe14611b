use Rattle.std.proofs.Common.{◌<◌, false}
use Rattle.gomp_events.specs.Events.{shares_entered}
use Rattle.gomp_types.specs.Singles.{single_shape}
use Rattle.gomp_shares.specs.Singles.{DealsSingle}
use Rattle.gomp_shares.proofs.Admitted.{begin_compared}
use Rattle.gomp_shares.proofs.Entered.{may_claim}
use Rattle.gomp_shares.proofs.OrWaits.{room_starts}
use Rattle.gomp_sections.proofs.SingleSteps.{may_leave, single_dealt, single_adds}
use Rattle.gomp_sections.proofs.single.single_start_admitted.Goals as goal

pub claim-requires : goal.claim-requires
claim-requires g c =
    let (h, st) = c.in-Entered.ensures.known in
    let now = c.in-Entered.ensures.stands h st in
    let lt : c.args.member < g.S.Shares.members c.try_open.new.self = rw c.try_open.ensures.members c.requires.place.member in
    let e = g.met.S.Shares.agrees c.try_open.new.self _ c.args.member now lt in
    record { place = may_claim _ c.args.member (shares_entered c.args.member h) c.single_shape.result _ h e lt }

pub leave-requires : goal.leave-requires
leave-requires g c =
    let (h, st) = c.in-Entered.ensures.known in
    let now = rw c.single_shape.ensures.shape at (c.claim.ensures.stands _ (c.in-Entered.ensures.stands h st)) in
    let lt : c.args.member < g.S.Shares.members c.claim.new.self = rw (c.claim.ensures.members, c.try_open.ensures.members) c.requires.place.member in
    let e = g.met.S.Shares.agrees c.claim.new.self _ c.args.member now lt in
    record { place = may_leave _ c.args.member (shares_entered c.args.member h) false c.claim.result _ h e lt }

pub returns-in-Entered-clause-serves : goal.returns-in-Entered-clause-serves
returns-in-Entered-clause-serves g c = record {
  known = c.in-Entered.ensures.known;
  answer = λ h st.
      let may = rw c.single_shape.ensures.shape at (c.in-Entered.ensures.answer h st) in
      let now = c.in-Entered.ensures.stands h st in
      let claims = rw (c.single_shape.ensures.shape, c.try_open.ensures.members) at (c.claim.ensures.answer _ now) in
      let dealt = single_dealt (g.S.Shares.members c.args.shares.now) c.args.member (shares_entered c.args.member h) c.claim.result h claims in
      (begin_compared (single_shape false) c.args.member h false may.0, rw c.is_some-executes.ensures (room_starts DealsSingle (g.S.Shares.members c.args.shares.now) c.args.member (single_shape false) _ h may.1 dealt));
  stands_for = λ h st.
      let now = c.in-Entered.ensures.stands h st in
      let claims = rw c.single_shape.ensures.shape at (c.claim.ensures.answer _ now) in
      let adds = single_adds _ c.args.member c.claim.result h claims in
      rw (c.is_some-executes.ensures, adds) (rw c.single_shape.ensures.shape at (c.leave.ensures.stands _ (c.claim.ensures.stands _ now)));
  kept = λ refusal is. absurd (cc);
  waits = λ is. absurd (cc);
}
