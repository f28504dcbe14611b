use Rattle.std.proofs.Common.{◌≡◌, refl, ◌∙◌, sym}
use Rattle.gomp_types.specs.Sections.{sections_shape, sections_tests}
use Rattle.gomp_types.specs.Tests.{first_holding}
use Rattle.gomp_types.proofs.TestRows.{outcome_value, outcome_refused}
use Rattle.gomp_shares.specs.Starts.{AnswersBegin, start_tests}
use Rattle.gomp_shares.specs.Sections.{AnswersSectionsStart, DealsSections, sections_begun, sections_started}
use Rattle.gomp_shares.proofs.Admitted.{least_seen, outcome_none, start_admitted}
use Rattle.gomp_shares.proofs.Served.{serves_above, serves_refused}
use Rattle.gomp_sections.proofs.Tests.{own_refuses}
use Rattle.gomp_sections.proofs.sections.sections_start.Goals as goal

pub sections_start_admitted-requires-clause-sections : goal.sections_start_admitted-requires-clause-sections
sections_start_admitted-requires-clause-sections g c =
    let tests = start_tests (sections_tests c.args.count) c.args.limits.now c.look.result in
    let is : c.in-Ok.shape ≡ sections_shape c.args.count c.args.end_kind = outcome_value (first_holding tests) _ _ (sym c.sections_start_shape.ensures.first ∙ c.in-Ok.is) in
    rw is refl

pub sections_start_admitted-requires-clause-place : goal.sections_start_admitted-requires-clause-place
sections_start_admitted-requires-clause-place g c = rw (← c.look.ensures.value) (c.in-Ok.ensures.place (g.S.Shares.members c.args.shares.now) c.args.member c.requires.member)

pub returns-in-Ok-clause-serves : goal.returns-in-Ok-clause-serves
returns-in-Ok-clause-serves g c =
    let found = sym c.sections_start_shape.ensures.first ∙ c.in-Ok.is in
    let tests = start_tests (sections_tests c.args.count) c.args.limits.now c.look.result in
    let is : c.in-Ok.shape ≡ sections_shape c.args.count c.args.end_kind = outcome_value (first_holding tests) _ _ found in
    serves_above g.S.Shares.stands c.args.shares.now c.sections_start_admitted.new.shares c.sections_start_admitted.result (AnswersBegin (sections_shape c.args.count c.args.end_kind) DealsSections (g.S.Shares.members c.args.shares.now) c.args.member)
    (AnswersSectionsStart c.args.count c.args.end_kind c.args.limits.now (g.S.Shares.members c.args.shares.now) c.args.member) (sections_begun (sections_shape c.args.count c.args.end_kind) c.args.member) (sections_started c.args.count c.args.end_kind c.args.member)
    (λ h st begun.
    let e = c.look.ensures.value ∙ g.met.S.Shares.agrees c.args.shares.now h c.args.member st c.requires.member in
    let none = least_seen (start_tests (sections_tests c.args.count) c.args.limits.now) c.args.member c.look.result h _ refl e (outcome_none (first_holding tests) _ _ found) in
    start_admitted (sections_tests c.args.count) (sections_shape c.args.count c.args.end_kind) DealsSections c.args.limits.now (g.S.Shares.members c.args.shares.now) c.args.member c.sections_start_admitted.result h none begun)
    (λ h st. refl)
    (rw is at c.sections_start_admitted.ensures.serves)

pub returns-in-Err-clause-serves : goal.returns-in-Err-clause-serves
returns-in-Err-clause-serves g c =
    serves_refused g.S.Shares.stands c.args.shares.now c.in-Err.refusal (AnswersSectionsStart c.args.count c.args.end_kind c.args.limits.now (g.S.Shares.members c.args.shares.now) c.args.member) (sections_started c.args.count c.args.end_kind c.args.member) c.look.ensures.known
    (λ h st.
    let e = c.look.ensures.value ∙ g.met.S.Shares.agrees c.args.shares.now h c.args.member st c.requires.member in
    let tests = start_tests (sections_tests c.args.count) c.args.limits.now c.look.result in
    own_refuses (sections_tests c.args.count) (sections_shape c.args.count c.args.end_kind) c.args.limits.now c.args.member c.look.result h c.in-Err.refusal refl e
    (sym (outcome_refused (first_holding tests) _ c.in-Err.refusal (sym c.sections_start_shape.ensures.first ∙ c.in-Err.is))))
    (λ h. refl)
