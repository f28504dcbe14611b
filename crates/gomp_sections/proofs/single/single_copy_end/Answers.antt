use Rattle.std.proofs.Common.{refl, ap, ◌∙◌, sym}
use Rattle.gomp_types.specs.Tests.{outcome}
use Rattle.gomp_shares.specs.Singles.{put_tests}
use Rattle.gomp_shares.proofs.Laws.{ordered_part_is_in_a_loop}
use Rattle.gomp_shares.proofs.Admitted.{least_seen}
use Rattle.gomp_sections.proofs.SingleSteps.{copy_may_leave}
use Rattle.gomp_sections.proofs.single.single_copy_end.Goals as goal

pub leave-requires : goal.leave-requires
leave-requires g c =
    let (h, st) = c.look-seen.ensures.known in
    let seen = g.met.S.Shares.agrees c.args.shares.now h c.args.member st c.requires.member in
    let law = ordered_part_is_in_a_loop (g.S.Shares.members c.args.shares.now) c.args.member h (g.met.S.Shares.ruled c.args.shares.now h st) in
    let none = least_seen put_tests c.args.member c.look-seen.result h _ refl (c.look-seen.ensures.value ∙ seen) (sym c.in_default.is ∙ c.single_copy_end_refusal.ensures.first) in
    record { place = copy_may_leave _ c.args.member _ h c.requires.member seen law none }

pub returns-in-Some-clause-leaves : goal.returns-in-Some-clause-leaves
returns-in-Some-clause-leaves g c = record {
  known = c.look-seen.ensures.known;
  answer = λ h st.
      let e = c.look-seen.ensures.value ∙ g.met.S.Shares.agrees c.args.shares.now h c.args.member st c.requires.member in
      sym (ap (λ first. outcome first tt) (least_seen put_tests c.args.member c.look-seen.result h _ refl e (sym c.in-Some.is ∙ c.single_copy_end_refusal.ensures.first)));
  stands_for = λ h st. st;
  kept = λ refusal is. refl;
}

pub returns-clause-leaves : goal.returns-clause-leaves
returns-clause-leaves g c = record {
  known = c.look-seen.ensures.known;
  answer = λ h st.
      let e = c.look-seen.ensures.value ∙ g.met.S.Shares.agrees c.args.shares.now h c.args.member st c.requires.member in
      sym (ap (λ first. outcome first tt) (least_seen put_tests c.args.member c.look-seen.result h _ refl e (sym c.in_default.is ∙ c.single_copy_end_refusal.ensures.first)));
  stands_for = λ h st. c.leave.ensures.stands h st;
  kept = λ refusal is. absurd (cc);
}
