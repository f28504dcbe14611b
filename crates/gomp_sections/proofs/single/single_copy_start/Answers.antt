use Rattle.std.proofs.Common.{◌≡◌, ◌<◌, ◌∙◌, sym, refl, [], true, Some, Option, subst, arith}
use Rattle.std.specs.Prelude.{◌^◌, ◌↔◌, option_copied}
use Rattle.gomp_types.specs.Singles.{single_shape}
use Rattle.gomp_types.proofs.LeastTests.{all_fail}
use Rattle.gomp_types.specs.declared.refusal.Refusal.{Refusal}
use Rattle.gomp_types.specs.declared.reply.Reply.TheVariants.{Refused}
use Rattle.gomp_events.specs.Seen.{seen_of}
use Rattle.gomp_shares.specs.Starts.{AnswersBegin, compared_share, start_tests}
use Rattle.gomp_shares.specs.Singles.{AnswersCopy, ByWords, DealsCopy, copy_started}
use Rattle.gomp_shares.proofs.Admitted.{behind_front, least_seen, no_test_holds, single_may_open, start_admitted}
use Rattle.gomp_shares.proofs.Served.{serves_above, serves_refused}
use Rattle.gomp_sections.proofs.Tests.{own_refuses, refused_by_least}
use Rattle.gomp_sections.proofs.single.single_copy_start.Goals as goal

pub single_copy_start_admitted-requires : goal.single_copy_start_admitted-requires
single_copy_start_admitted-requires g c =
    let out = all_fail (start_tests [] c.args.limits.now c.look.result) (no_test_holds (start_tests [] c.args.limits.now c.look.result) refl (sym c.in-None.is ∙ c.outside_refusal.ensures.first)) in
    let few : c.look.result.entered < 2 ^ 32 = rw c.in-None.is at c.outside_refusal.ensures.few in
    record { place = rw (← c.look.ensures.value) (single_may_open true _ c.args.member c.look.result c.requires.member out.0 (omega arith)) }

pub returns-in-Some-clause-refused : goal.returns-in-Some-clause-refused
returns-in-Some-clause-refused g c = λ refusal h st.
    let e = c.look.ensures.value ∙ g.met.S.Shares.agrees c.args.shares.now h c.args.member st c.requires.member in
    refused_by_least c.in-Some.refusal refusal _ (own_refuses [] (single_shape true) c.args.limits.now c.args.member c.look.result h c.in-Some.refusal refl e (sym c.in-Some.is ∙ c.outside_refusal.ensures.first))

pub returns-in-None-clause-refused : goal.returns-in-None-clause-refused
returns-in-None-clause-refused g c = λ refusal h st.
    let e = c.look.ensures.value ∙ g.met.S.Shares.agrees c.args.shares.now h c.args.member st c.requires.member in
    let none = least_seen (start_tests [] c.args.limits.now) c.args.member c.look.result h _ refl e (sym c.in-None.is ∙ c.outside_refusal.ensures.first) in
    subst (λ (found : Option Refusal). c.single_copy_start_admitted.result ≡ Refused refusal ↔ found ≡ Some refusal)
    (sym (behind_front (start_tests [] c.args.limits.now (seen_of c.args.member h)) (compared_share (single_shape true) c.args.member h) none)) (c.single_copy_start_admitted.ensures.refused refusal h st)

pub returns-in-Some-clause-serves : goal.returns-in-Some-clause-serves
returns-in-Some-clause-serves g c =
    serves_refused g.S.Shares.stands c.args.shares.now c.in-Some.refusal (ByWords (option_copied c.args.put) c.args.member (AnswersCopy c.args.limits.now (g.S.Shares.members c.args.shares.now) c.args.member)) (copy_started c.args.member) c.look.ensures.known
    (λ h st put.
    let e = c.look.ensures.value ∙ g.met.S.Shares.agrees c.args.shares.now h c.args.member st c.requires.member in
    own_refuses [] (single_shape true) c.args.limits.now c.args.member c.look.result h c.in-Some.refusal refl e (sym c.in-Some.is ∙ c.outside_refusal.ensures.first))
    (λ h. refl)

pub returns-in-None-clause-serves : goal.returns-in-None-clause-serves
returns-in-None-clause-serves g c =
    serves_above g.S.Shares.stands c.args.shares.now c.single_copy_start_admitted.new.shares c.single_copy_start_admitted.result (ByWords (option_copied c.args.put) c.args.member (AnswersBegin (single_shape true) DealsCopy (g.S.Shares.members c.args.shares.now) c.args.member)) (ByWords (option_copied c.args.put) c.args.member (AnswersCopy c.args.limits.now (g.S.Shares.members c.args.shares.now) c.args.member)) (copy_started c.args.member) (copy_started c.args.member)
    (λ h st begun put.
    let e = c.look.ensures.value ∙ g.met.S.Shares.agrees c.args.shares.now h c.args.member st c.requires.member in
    let none = least_seen (start_tests [] c.args.limits.now) c.args.member c.look.result h _ refl e (sym c.in-None.is ∙ c.outside_refusal.ensures.first) in
    start_admitted [] (single_shape true) DealsCopy c.args.limits.now (g.S.Shares.members c.args.shares.now) c.args.member c.single_copy_start_admitted.result h none (begun put))
    (λ h st. refl)
    c.single_copy_start_admitted.ensures.serves
