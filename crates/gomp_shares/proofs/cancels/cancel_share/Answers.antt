use Rattle.std.proofs.Common.{◌<◌, refl, ap, ◌∙◌, sym}
use Rattle.gomp_types.specs.declared.reply.Reply.TheVariants.{Cancelling}
use Rattle.gomp_shares.specs.Calls.{events_cancelled}
use Rattle.gomp_shares.proofs.Cancelling.{named_share, cancels_its_own, cancelled_by_clause, told_by_share}
use Rattle.gomp_shares.proofs.cancels.cancel_share.Goals as goal
use Rattle.gomp_shares.proofs.cancels.cancel_share.Goals.{then-clause, else-clause}

pub returns-then-not-allowed-clause-serves : goal.returns-then-not-allowed-clause-serves
returns-then-not-allowed-clause-serves g c = record {
  known = c.look-place.ensures.known;
  answer = λ h st. let off = c.if-not-allowed.true in rw off refl;
  stands_for = λ h st. st;
  kept = λ refusal is. absurd (cc);
  waits = λ is. absurd (cc);
}

pub see_if_cancelled-requires : goal.see_if_cancelled-requires
see_if_cancelled-requires g c =
    let (h, st) = c.look-place.ensures.known in
    let seen = g.met.S.Shares.agrees c.args.shares.now h c.args.member st c.requires.place.member in
    let named = named_share (g.S.Shares.members c.args.shares.now) c.args.member c.args.kind h (rw seen at c.requires.place) in
    elim c.if-clause.branch [
      | then-clause w ↦
          let lt : c.args.member < g.S.Shares.members w.cancel.new.self = rw w.cancel.ensures.members c.requires.place.member in
          let after = g.met.S.Shares.agrees w.cancel.new.self (events_cancelled c.args.member h) c.args.member (w.cancel.ensures.stands h st) lt in
          record { place = rw w.shares-is (record { member = lt; inside = rw after named.construct }) }
      | else-clause w ↦ record { place = rw w.shares-is (record { member = c.requires.place.member; inside = rw seen named.construct }) }
    ]

pub returns-clause-serves : goal.returns-clause-serves
returns-clause-serves g c = elim c.if-clause.branch [
  | then-clause w ↦ record {
    known = c.look-place.ensures.known;
    answer = λ h st.
        let seen = g.met.S.Shares.agrees c.args.shares.now h c.args.member st c.requires.place.member in
        let named = named_share (g.S.Shares.members c.args.shares.now) c.args.member c.args.kind h (rw seen at c.requires.place) in
        let is = c.see_if_cancelled.ensures.answer (events_cancelled c.args.member h) (rw w.shares-is (w.cancel.ensures.stands h st)) ∙ cancels_its_own c.args.member h named.share named.inside in
        rw (is, c.if-not-allowed.false, w.if-clause.true) refl;
    stands_for = λ h st.
        let seen = g.met.S.Shares.agrees c.args.shares.now h c.args.member st c.requires.place.member in
        let named = named_share (g.S.Shares.members c.args.shares.now) c.args.member c.args.kind h (rw seen at c.requires.place) in
        let is = c.see_if_cancelled.ensures.answer (events_cancelled c.args.member h) (rw w.shares-is (w.cancel.ensures.stands h st)) ∙ cancels_its_own c.args.member h named.share named.inside in
        rw (is, w.if-clause.true) (cancelled_by_clause c.args.member (g.S.Shares.stands c.if-clause.shares) (g.S.Shares.stands c.see_if_cancelled.new.shares) (g.met.S.Shares.aside c.if-clause.shares) (λ k stk. rw is at (c.see_if_cancelled.ensures.stands k stk)) c.args.kind h named (rw w.shares-is (w.cancel.ensures.stands h st)));
    kept = λ refusal is. absurd (cc);
    waits = λ is. absurd (cc);
  }
  | else-clause w ↦ record {
    known = c.look-place.ensures.known;
    answer = λ h st.
        let seen = g.met.S.Shares.agrees c.args.shares.now h c.args.member st c.requires.place.member in
        let named = named_share (g.S.Shares.members c.args.shares.now) c.args.member c.args.kind h (rw seen at c.requires.place) in
        let is = c.see_if_cancelled.ensures.answer h (rw w.shares-is st) ∙ sym named.whether in
        rw (c.if-not-allowed.false, w.if-clause.false) (ap Cancelling is);
    stands_for = λ h st.
        let seen = g.met.S.Shares.agrees c.args.shares.now h c.args.member st c.requires.place.member in
        let named = named_share (g.S.Shares.members c.args.shares.now) c.args.member c.args.kind h (rw seen at c.requires.place) in
        rw (told_by_share c.args.kind c.args.clause c.args.member h c.see_if_cancelled.result w.if-clause.false named.kind_is) (c.see_if_cancelled.ensures.stands h (rw w.shares-is st));
    kept = λ refusal is. absurd (cc);
    waits = λ is. absurd (cc);
  }
]
