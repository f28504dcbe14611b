use Rattle.std.proofs.Common.{ap, ◌∙◌, sym, refl}
use Rattle.gomp_types.specs.Tests.{outcome}
use Rattle.gomp_shares.specs.Admission.{end_tests_of}
use Rattle.gomp_shares.specs.Starts.{is_drained}
use Rattle.gomp_shares.proofs.Admitted.{end_lets_leave, end_tests_rise, no_test_holds, refused_by_place, refused_by_share, drained_by_test}
use Rattle.gomp_shares.proofs.ends.end_construct.Goals as goal

pub returns-in-Some-clause-ends : goal.returns-in-Some-clause-ends
returns-in-Some-clause-ends g c = record {
  known = c.look-seen.ensures.known;
  answer = λ h st.
      let e = c.look-seen.ensures.value ∙ g.met.S.Shares.agrees c.args.shares.now h c.args.member st c.requires.member in
      sym (ap (λ first. outcome first tt) (refused_by_place c.args.construct c.args.end_kind c.args.member c.look-seen.result h c.in-Some.refusal e (sym c.end_construct_refusal.ensures.first ∙ c.in-Some.is)));
  stands_for = λ h st. st;
  kept = λ refusal is. refl;
}

pub returns-in-Some-drained_refusal-clause-ends : goal.returns-in-Some-drained_refusal-clause-ends
returns-in-Some-drained_refusal-clause-ends g c = record {
  known = c.look-seen.ensures.known;
  answer = λ h st.
      let e = c.look-seen.ensures.value ∙ g.met.S.Shares.agrees c.args.shares.now h c.args.member st c.requires.member in
      sym (ap (λ first. outcome first tt) (refused_by_share c.args.construct c.args.end_kind c.args.member c.look-seen.result h e (sym c.end_construct_refusal.ensures.first ∙ c.in_default.is) ∙ sym (c.drained_refusal.ensures.answer h st) ∙ c.in-Some-drained_refusal.is));
  stands_for = λ h st. rw c.drained_refusal.ensures.kept st;
  kept = λ refusal is. c.drained_refusal.ensures.kept;
}

pub end_construct_admitted-requires-clause-place : goal.end_construct_admitted-requires-clause-place
end_construct_admitted-requires-clause-place g c =
    let (h, st) = c.look-seen.ensures.known in
    let e = c.look-seen.ensures.value ∙ g.met.S.Shares.agrees c.args.shares.now h c.args.member st c.requires.member in
    let none = no_test_holds (end_tests_of c.args.construct c.args.end_kind c.look-seen.result) (end_tests_rise c.args.construct c.args.end_kind c.look-seen.result) (sym c.in_default.is ∙ c.end_construct_refusal.ensures.first) in
    rw (c.drained_refusal.ensures.kept, ← c.look-seen.ensures.value) (end_lets_leave c.args.construct c.args.end_kind (g.S.Shares.members c.args.shares.now) c.args.member c.look-seen.result h (g.met.S.Shares.ruled c.args.shares.now h st) e c.requires.member none)

pub end_construct_admitted-requires-clause-drained : goal.end_construct_admitted-requires-clause-drained
end_construct_admitted-requires-clause-drained g c = λ h st.
    drained_by_test (is_drained c.args.member h) (sym (c.drained_refusal.ensures.answer h (rw c.drained_refusal.ensures.kept at st)) ∙ c.in_default-drained_refusal.is)

pub returns-clause-ends : goal.returns-clause-ends
returns-clause-ends g c = record {
  known = c.look-seen.ensures.known;
  answer = λ h st.
      let e = c.look-seen.ensures.value ∙ g.met.S.Shares.agrees c.args.shares.now h c.args.member st c.requires.member in
      sym (ap (λ first. outcome first tt) (refused_by_share c.args.construct c.args.end_kind c.args.member c.look-seen.result h e (sym c.end_construct_refusal.ensures.first ∙ c.in_default.is) ∙ sym (c.drained_refusal.ensures.answer h st) ∙ c.in_default-drained_refusal.is));
  stands_for = λ h st. c.end_construct_admitted.ensures.stands h (rw c.drained_refusal.ensures.kept st);
  kept = λ refusal is. absurd (cc);
}
