use Rattle.std.proofs.Common.{◌∙◌, sym, refl}
use Rattle.gomp_events.specs.Events.{open_share}
use Rattle.gomp_shares.specs.Sections.{AnswersSectionsNext, TakesSection, section_next_taken, section_next_tests}
use Rattle.gomp_shares.proofs.Admitted.{least_seen, no_test_holds}
use Rattle.gomp_shares.proofs.Served.{serves_above, serves_refused}
use Rattle.gomp_sections.proofs.SectionSteps.{section_admitted, section_refusal_given}
use Rattle.gomp_sections.proofs.sections.sections_next.Goals as goal

pub sections_next_admitted-requires-clause-place : goal.sections_next_admitted-requires-clause-place
sections_next_admitted-requires-clause-place g c = rw (← c.look.ensures.value) (no_test_holds (section_next_tests c.look.result) refl (sym c.in-None.is ∙ c.next_refusal.ensures.first))

pub returns-in-Some-clause-serves : goal.returns-in-Some-clause-serves
returns-in-Some-clause-serves g c =
    serves_refused g.S.Shares.stands c.args.shares.now c.in-Some.refusal (AnswersSectionsNext (g.S.Shares.members c.args.shares.now) c.args.member) (section_next_taken c.args.member) c.look.ensures.known
    (λ h st.
    let e = c.look.ensures.value ∙ g.met.S.Shares.agrees c.args.shares.now h c.args.member st c.requires.member in
    least_seen section_next_tests c.args.member c.look.result h _ refl e (sym c.in-Some.is ∙ c.next_refusal.ensures.first))
    (λ h. rw (section_refusal_given c.args.member c.in-Some.refusal (open_share c.args.member h)) refl)

pub returns-in-None-clause-serves : goal.returns-in-None-clause-serves
returns-in-None-clause-serves g c =
    serves_above g.S.Shares.stands c.args.shares.now c.sections_next_admitted.new.shares c.sections_next_admitted.result (TakesSection (g.S.Shares.members c.args.shares.now) c.args.member) (AnswersSectionsNext (g.S.Shares.members c.args.shares.now) c.args.member)
    (section_next_taken c.args.member) (section_next_taken c.args.member)
    (λ h st taken.
    let e = c.look.ensures.value ∙ g.met.S.Shares.agrees c.args.shares.now h c.args.member st c.requires.member in
    section_admitted (g.S.Shares.members c.args.shares.now) c.args.member c.sections_next_admitted.result h (least_seen section_next_tests c.args.member c.look.result h _ refl e (sym c.in-None.is ∙ c.next_refusal.ensures.first)) taken)
    (λ h st. refl)
    c.sections_next_admitted.ensures.serves
