use Rattle.std.proofs.Common.{◌≡◌, None, subst}
use Rattle.gomp_events.specs.declared.seen.Seen.{Seen}
use Rattle.gomp_types.specs.Least.{least}
use Rattle.gomp_shares.specs.Sections.{section_next_tests}
use Rattle.gomp_shares.proofs.Laws.{ordered_part_is_in_a_loop}
use Rattle.gomp_sections.proofs.SectionSteps.{next_is_section, section_next_dealt, next_may_claim, section_next_adds}
use Rattle.gomp_sections.proofs.sections.sections_next_admitted.Goals as goal

pub claim-requires : goal.claim-requires
claim-requires g c =
    let (h, st) = c.requires.known in
    let seen = g.met.S.Shares.agrees c.args.shares.now h c.args.member st c.requires.member in
    let law = ordered_part_is_in_a_loop (g.S.Shares.members c.args.shares.now) c.args.member h (g.met.S.Shares.ruled c.args.shares.now h st) in
    let none = subst (λ (s : Seen). least (section_next_tests s) ≡ None) seen c.requires.place in
    record { place = next_may_claim _ c.args.member _ h c.requires.member seen law none }

pub returns-clause-serves : goal.returns-clause-serves
returns-clause-serves g c = record {
  known = c.requires.known;
  answer = λ h st.
      let none = subst (λ (s : Seen). least (section_next_tests s) ≡ None) (g.met.S.Shares.agrees c.args.shares.now h c.args.member st c.requires.member) c.requires.place in
      rw c.section_number.ensures.answer (section_next_dealt (g.S.Shares.members c.args.shares.now) c.args.member c.claim.result h (c.claim.ensures.answer h st) none);
  stands_for = λ h st.
      let none = subst (λ (s : Seen). least (section_next_tests s) ≡ None) (g.met.S.Shares.agrees c.args.shares.now h c.args.member st c.requires.member) c.requires.place in
      let claims = c.claim.ensures.answer h st in
      let adds = section_next_adds _ c.args.member c.claim.result h claims (next_is_section _ c.args.member c.claim.result h claims none) in
      rw (c.section_number.ensures.answer, adds) (c.claim.ensures.stands h st);
  kept = λ refusal is. absurd (cc);
  waits = λ is. absurd (cc);
}
