use Rattle.std.proofs.Common.{◌<◌, ◌∙◌, sym, refl, [], false, arith}
use Rattle.std.specs.Prelude.{◌^◌}
use Rattle.gomp_types.specs.Singles.{single_shape}
use Rattle.gomp_types.proofs.LeastTests.{all_fail}
use Rattle.gomp_shares.specs.Starts.{AnswersBegin, start_tests}
use Rattle.gomp_shares.specs.Singles.{AnswersSingle, DealsSingle, single_started}
use Rattle.gomp_shares.proofs.Admitted.{least_seen, no_test_holds, single_may_open, start_admitted}
use Rattle.gomp_shares.proofs.Served.{serves_above, serves_refused}
use Rattle.gomp_sections.proofs.Tests.{own_refuses}
use Rattle.gomp_sections.proofs.single.single_start.Goals as goal

pub single_start_admitted-requires : goal.single_start_admitted-requires
single_start_admitted-requires g c =
    let out = all_fail (start_tests [] c.args.limits.now c.look.result) (no_test_holds (start_tests [] c.args.limits.now c.look.result) refl (sym c.in-None.is ∙ c.outside_refusal.ensures.first)) in
    let few : c.look.result.entered < 2 ^ 32 = rw c.in-None.is at c.outside_refusal.ensures.few in
    record { place = rw (← c.look.ensures.value) (single_may_open false _ c.args.member c.look.result c.requires.member out.0 (omega arith)) }

pub returns-in-Some-clause-serves : goal.returns-in-Some-clause-serves
returns-in-Some-clause-serves g c =
    serves_refused g.S.Shares.stands c.args.shares.now c.in-Some.refusal (AnswersSingle c.args.limits.now (g.S.Shares.members c.args.shares.now) c.args.member) (single_started c.args.member) c.look.ensures.known
    (λ h st.
    let e = c.look.ensures.value ∙ g.met.S.Shares.agrees c.args.shares.now h c.args.member st c.requires.member in
    own_refuses [] (single_shape false) c.args.limits.now c.args.member c.look.result h c.in-Some.refusal refl e (sym c.in-Some.is ∙ c.outside_refusal.ensures.first))
    (λ h. refl)

pub returns-in-None-clause-serves : goal.returns-in-None-clause-serves
returns-in-None-clause-serves g c =
    serves_above g.S.Shares.stands c.args.shares.now c.single_start_admitted.new.shares c.single_start_admitted.result (AnswersBegin (single_shape false) DealsSingle (g.S.Shares.members c.args.shares.now) c.args.member) (AnswersSingle c.args.limits.now (g.S.Shares.members c.args.shares.now) c.args.member) (single_started c.args.member) (single_started c.args.member)
    (λ h st begun.
    let e = c.look.ensures.value ∙ g.met.S.Shares.agrees c.args.shares.now h c.args.member st c.requires.member in
    let none = least_seen (start_tests [] c.args.limits.now) c.args.member c.look.result h _ refl e (sym c.in-None.is ∙ c.outside_refusal.ensures.first) in
    start_admitted [] (single_shape false) DealsSingle c.args.limits.now (g.S.Shares.members c.args.shares.now) c.args.member c.single_start_admitted.result h none begun)
    (λ h st. refl)
    c.single_start_admitted.ensures.serves
