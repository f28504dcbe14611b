use Rattle.std.proofs.Common.{◌<◌, ap, ◌∙◌, sym}
use Rattle.std.specs.Prelude.{◌||◌}
use Rattle.gomp_events.specs.declared.seen.Seen.{Seen}
use Rattle.gomp_shares.specs.Calls.{events_seen}
use Rattle.gomp_shares.proofs.Ended.{free_after_seeing, free_before, leaves_seen, leaves_unseen, drained_or_cancelled}
use Rattle.gomp_shares.proofs.ends.end_construct_admitted.Goals as goal
use Rattle.gomp_shares.proofs.ends.end_construct_admitted.Goals.{then-not-has_seen_end, else-not-has_seen_end}

pub see-requires-clause-cancelled : goal.see-requires-clause-cancelled
see-requires-clause-cancelled g c = λ h st.
    let seen = c.look.ensures.value ∙ g.met.S.Shares.agrees c.args.shares.now h c.args.member st c.requires.place.member in
    let told = ap (λ (s : Seen). s.drained || s.leaving) seen in
    drained_or_cancelled c.args.member h (c.requires.drained h st) (sym told ∙ sym c.has_seen_end.ensures ∙ c.if-not-has_seen_end.true)

pub leave-requires : goal.leave-requires
leave-requires g c =
    let (h, st) = c.look.ensures.known in
    let seen = g.met.S.Shares.agrees c.args.shares.now h c.args.member st c.requires.place.member in
    elim c.if-not-has_seen_end.branch [
      | then-not-has_seen_end w ↦
          let lt : c.args.member < g.S.Shares.members w.see.new.self = rw w.see.ensures.members c.requires.place.member in
          let after = g.met.S.Shares.agrees w.see.new.self (events_seen c.args.member h) c.args.member (w.see.ensures.stands h st) lt in
          record { place = rw (w.shares-is, w.see.ensures.members, after) (free_after_seeing (g.S.Shares.members c.args.shares.now) c.args.member h (rw seen at c.requires.place)) }
      | else-not-has_seen_end w ↦ record { place = rw w.shares-is (free_before (g.S.Shares.members c.args.shares.now) c.args.member (g.S.Shares.seen c.args.shares.now c.args.member) c.requires.place (ap (λ (s : Seen). s.drained || s.leaving) (sym c.look.ensures.value) ∙ sym c.has_seen_end.ensures ∙ w.if-not-has_seen_end.false)) }
    ]

pub returns-clause-stands : goal.returns-clause-stands
returns-clause-stands g c = λ h st.
    let seen = c.look.ensures.value ∙ g.met.S.Shares.agrees c.args.shares.now h c.args.member st c.requires.place.member in
    let told = sym (ap (λ (s : Seen). s.drained || s.leaving) seen) ∙ sym c.has_seen_end.ensures in
    elim c.if-not-has_seen_end.branch [
      | then-not-has_seen_end w ↦ rw (leaves_unseen c.args.member h (c.requires.drained h st) (told ∙ w.if-not-has_seen_end.true)) (c.leave.ensures.stands (events_seen c.args.member h) (rw w.shares-is (w.see.ensures.stands h st)))
      | else-not-has_seen_end w ↦ rw (leaves_seen c.args.member h (told ∙ w.if-not-has_seen_end.false)) (c.leave.ensures.stands h (rw w.shares-is st))
    ]
