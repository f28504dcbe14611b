use Rattle.std.proofs.Common.{◌≡◌, ◌<◌, true, false, List, None, refl, ◌∙◌, sym}
use Rattle.std.specs.Prelude.{is_some}
use Rattle.gomp_events.specs.Events.{shares_entered}
use Rattle.gomp_types.specs.Singles.{single_shape}
use Rattle.gomp_types.specs.declared.reply.Reply.TheVariants.{Copied, Executor}
use Rattle.gomp_shares.specs.Singles.{DealsCopy}
use Rattle.gomp_events.specs.declared.event.Event.{Event}
use Rattle.gomp_events.specs.declared.event.Event.TheVariants.{Got}
use Rattle.gomp_types.specs.Least.{least}
use Rattle.gomp_shares.specs.Starts.{compared_share}
use Rattle.gomp_shares.proofs.Admitted.{begin_compared}
use Rattle.gomp_shares.proofs.Entered.{may_claim}
use Rattle.gomp_shares.proofs.OrWaits.{room_starts}
use Rattle.gomp_shares.proofs.NextSingle.{single_there}
use Rattle.gomp_sections.proofs.Tests.{none_and_some}
use Rattle.gomp_sections.proofs.SingleSteps.{may_leave, single_least, given_no_piece, not_given, copy_dealt, executor_adds, copy_adds}
use Rattle.gomp_sections.proofs.single.single_copy_start_admitted.Given.{Over}
use Rattle.gomp_sections.proofs.single.single_copy_start_admitted.Goals as goal
use Rattle.gomp_sections.proofs.single.single_copy_start_admitted.Goals.{In-Entered, else-is_none-via-then-is_none+else-next_is_taken, else-is_none-via-else-is_none}

-- nothing changes before the share is opened
unchanged : (g : Over) (c : In-Entered g) → c.else-is_none.shares ≡ c.args.shares.now
unchanged g c =
    elim c.else-is_none.branch [
      | else-is_none-via-then-is_none+else-next_is_taken w ↦ w.shares-is ∙ w.next_is_taken.ensures.kept ∙ c.next_differs.ensures.kept
      | else-is_none-via-else-is_none w ↦ w.shares-is ∙ c.next_differs.ensures.kept
    ]

-- so it is opened after the same events
opens : (g : Over) (c : In-Entered g) (h : List Event) → g.S.Shares.stands c.args.shares.now h → g.S.Shares.stands c.else-is_none.shares h
opens g c h st = rw (unchanged g c) st

-- and the comparison refuses nothing
passes : (g : Over) (c : In-Entered g) (h : List Event) → g.S.Shares.stands c.args.shares.now h → least (compared_share (single_shape true) c.args.member h) ≡ None
passes g c h st =
    let may = rw c.single_shape-shape.ensures.shape at (c.in-Entered.ensures.answer h (opens g c h st)) in
    begin_compared (single_shape true) c.args.member h false may.0

pub next_is_taken-requires-clause-single : goal.next_is_taken-requires-clause-single
next_is_taken-requires-clause-single g c = λ h st.
    let same = rw c.single_shape-shape.ensures.shape at (c.next_differs.ensures.answer h (rw (sym c.next_differs.ensures.kept) st)) in
    single_there (shares_entered c.args.member h) h (sym c.if-next_differs.false ∙ same)

pub claim-requires : goal.claim-requires
claim-requires g c =
    let (h, st) = c.in-Entered.ensures.known in
    let now = c.in-Entered.ensures.stands h st in
    let same = unchanged g (goal.at.claim-requires g c).In-Entered in
    let lt : c.args.member < g.S.Shares.members c.try_open.new.self = rw (c.try_open.ensures.members, same) c.requires.place.member in
    let e = g.met.S.Shares.agrees c.try_open.new.self _ c.args.member now lt in
    record { place = may_claim _ c.args.member (shares_entered c.args.member h) c.single_shape-shape.result _ h e lt }

pub leave-requires : goal.leave-requires
leave-requires g c =
    let (h, st) = c.in-Entered.ensures.known in
    let same = unchanged g (goal.at.leave-requires g c).In-Entered in
    let now = rw c.single_shape-shape.ensures.shape at (c.claim.ensures.stands _ (c.in-Entered.ensures.stands h st)) in
    let lt : c.args.member < g.S.Shares.members c.claim.new.self = rw (c.claim.ensures.members, c.try_open.ensures.members, same) c.requires.place.member in
    let e = g.met.S.Shares.agrees c.claim.new.self _ c.args.member now lt in
    record { place = may_leave _ c.args.member (shares_entered c.args.member h) true c.claim.result _ h e lt }

pub returns-then-is_some-clause-serves : goal.returns-then-is_some-clause-serves
returns-then-is_some-clause-serves g c = record {
  known = c.next_differs.ensures.known;
  answer = λ h st put.
      let at = (goal.at.returns-then-is_some-clause-serves g c).In-Entered in
      let may = rw (c.single_shape-shape.ensures.shape, unchanged g at) at (c.in-Entered.ensures.answer h (opens g at h st)) in
      let claims = rw (c.single_shape-shape.ensures.shape, c.try_open.ensures.members, unchanged g at) at (c.claim.ensures.answer _ (c.in-Entered.ensures.stands h (opens g at h st))) in
      let dealt = copy_dealt (g.S.Shares.members c.args.shares.now) c.args.member (shares_entered c.args.member h) c.claim.result h (sym c.if-is_some.true ∙ c.is_some.ensures) claims in
      (passes g at h st, room_starts DealsCopy (g.S.Shares.members c.args.shares.now) c.args.member (single_shape true) (Executor true) h may.1 dealt);
  stands_for = λ h st.
      let at = (goal.at.returns-then-is_some-clause-serves g c).In-Entered in
      let now = c.in-Entered.ensures.stands h (opens g at h st) in
      let claims = rw c.single_shape-shape.ensures.shape at (c.claim.ensures.answer _ now) in
      let adds = executor_adds _ c.args.member c.claim.result h (sym c.if-is_some.true ∙ c.is_some.ensures) claims in
      rw adds (rw c.single_shape-shape.ensures.shape at (c.claim.ensures.stands _ now));
  kept = λ refusal is. absurd (cc);
  waits = λ is. absurd (cc);
}

pub returns-in-Some-clause-serves : goal.returns-in-Some-clause-serves
returns-in-Some-clause-serves g c = record {
  known = c.next_differs.ensures.known;
  answer = λ h st put.
      let at = (goal.at.returns-in-Some-clause-serves g c).In-Entered in
      let may = rw (c.single_shape-shape.ensures.shape, unchanged g at) at (c.in-Entered.ensures.answer h (opens g at h st)) in
      let claims = rw (c.single_shape-shape.ensures.shape, c.try_open.ensures.members, unchanged g at) at (c.claim.ensures.answer _ (c.in-Entered.ensures.stands h (opens g at h st))) in
      let gone = single_least (g.S.Shares.members c.args.shares.now) c.args.member (shares_entered c.args.member h) true c.claim.result h claims ∙ given_no_piece c.claim.result (sym c.if-is_some.false ∙ c.is_some.ensures) in
      (passes g at h st, room_starts DealsCopy (g.S.Shares.members c.args.shares.now) c.args.member (single_shape true) (Copied c.copied.result) h may.1 (gone, rw c.copied.ensures (rw c.in-Some.is at put)));
  stands_for = λ h st.
      let at = (goal.at.returns-in-Some-clause-serves g c).In-Entered in
      let now = rw c.single_shape-shape.ensures.shape at (c.claim.ensures.stands _ (c.in-Entered.ensures.stands h (opens g at h st))) in
      let adds = copy_adds c.args.member c.copied.result c.claim.result h (sym c.if-is_some.false ∙ c.is_some.ensures) in
      rw adds (c.leave.ensures.stands _ (g.met.S.Shares.aside c.claim.new.self _ (Got (shares_entered c.args.member h) c.args.member c.copied.result) tt now));
  kept = λ refusal is. absurd (cc);
  waits = λ is. absurd (cc);
}

-- no words were put, so nobody took the piece before, and this member was given it
pub unreachable-requires-in-None : goal.unreachable-requires-in-None
unreachable-requires-in-None g c =
    let (h, st) = c.next_differs.ensures.known in
    let at = (goal.at.unreachable-requires-in-None g c).In-Entered in
    let claims = rw c.single_shape-shape.ensures.shape at (c.claim.ensures.answer _ (c.in-Entered.ensures.stands h (opens g at h st))) in
    let asked : is_some c.args.put ≡ false = rw c.in-None.is refl in
    elim c.else-is_none.branch [
      | else-is_none-via-then-is_none+else-next_is_taken w ↦
          not_given _ c.args.member (shares_entered c.args.member h) c.claim.result h claims (sym c.if-is_some.false ∙ c.is_some.ensures) (sym w.if-next_is_taken.false ∙ w.next_is_taken.ensures.answer h (rw c.next_differs.ensures.kept st))
      | else-is_none-via-else-is_none w ↦ none_and_some (is_some c.args.put) c.is_none.result c.is_none.ensures w.if-is_none.false asked
    ]
