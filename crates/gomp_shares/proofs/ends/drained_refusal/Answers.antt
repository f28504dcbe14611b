use Rattle.std.proofs.Common.{ap, ◌∙◌, sym}
use Rattle.std.specs.Prelude.{◌||◌}
use Rattle.gomp_events.specs.declared.seen.Seen.{Seen}
use Rattle.gomp_events.specs.Events.{has_drained}
use Rattle.gomp_events.specs.Cancels.{own_cancelled}
use Rattle.gomp_types.specs.Deals.{schedule}
use Rattle.gomp_types.proofs.Booleans.{or_right}
use Rattle.gomp_shares.specs.Starts.{is_drained}
use Rattle.gomp_shares.proofs.Admitted.{test_of_drained}
use Rattle.gomp_shares.proofs.Ended.{told_is_drained, untold_is_not_drained}
use Rattle.gomp_shares.proofs.ends.drained_refusal.Goals as goal
use Rattle.gomp_shares.proofs.ends.drained_refusal.Goals.{then-has_seen_end-via-then-has_seen_end, then-has_seen_end-via-else-has_seen_end+then-cancelled}

pub returns-then-has_seen_end-clause-answer : goal.returns-then-has_seen_end-clause-answer
returns-then-has_seen_end-clause-answer g c = λ h st.
    let seen = c.requires.seen ∙ g.met.S.Shares.agrees c.args.shares.now h c.args.member st c.requires.member in
    let told = ap (λ (s : Seen). s.drained || s.leaving) seen in
    test_of_drained (is_drained c.args.member h) (elim c.then-has_seen_end.branch [
      | then-has_seen_end-via-then-has_seen_end w ↦ told_is_drained (schedule (g.S.Shares.members c.args.shares.now)) (g.S.Shares.members c.args.shares.now) c.args.member h (g.met.S.Shares.ruled c.args.shares.now h st) (sym told ∙ sym c.has_seen_end.ensures ∙ w.if-has_seen_end.true)
      | then-has_seen_end-via-else-has_seen_end+then-cancelled w ↦ or_right (has_drained c.args.member h) (own_cancelled c.args.member h) (sym (w.cancelled.ensures.answer h st) ∙ w.if-cancelled.true)
    ])

pub returns-clause-answer : goal.returns-clause-answer
returns-clause-answer g c = λ h st.
    let seen = c.requires.seen ∙ g.met.S.Shares.agrees c.args.shares.now h c.args.member st c.requires.member in
    let told = ap (λ (s : Seen). s.drained || s.leaving) seen in
    untold_is_not_drained c.args.member h (sym told ∙ sym c.has_seen_end.ensures ∙ c.if-has_seen_end.false) (sym (c.cancelled.ensures.answer h st) ∙ c.if-cancelled.false)
