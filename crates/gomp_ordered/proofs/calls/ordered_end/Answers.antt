use Rattle.std.proofs.Common.{◌≡◌, ap, ◌∙◌, sym, true, refl}
use Rattle.std.specs.Prelude.{not}
use Rattle.gomp_types.specs.declared.refusal.Refusal.TheVariants.{NotInside}
use Rattle.gomp_events.specs.declared.seen.Seen.{Seen}
use Rattle.gomp_events.specs.Events.{in_part}
use Rattle.gomp_shares.specs.OrderedParts.{AnswersPartEnd, part_ended_at_once}
use Rattle.gomp_shares.proofs.Served.{serves_refused}
use Rattle.gomp_ordered.proofs.PartReplies.{end_refused}
use Rattle.gomp_ordered.proofs.calls.ordered_end.Goals as goal

pub returns-then-not-look-clause-serves : goal.returns-then-not-look-clause-serves
returns-then-not-look-clause-serves g c =
    serves_refused g.S.Shares.stands c.args.shares.now NotInside (AnswersPartEnd c.args.member) (part_ended_at_once c.args.member) c.look.ensures.known
    (λ h st.
    let e = c.look.ensures.value ∙ g.met.S.Shares.agrees c.args.shares.now h c.args.member st c.requires.member in
    let out : not (in_part c.args.member h) ≡ true = sym (ap (λ (s : Seen). not s.in_part) e) ∙ c.if-not-look.true in
    end_refused (in_part c.args.member h) out)
    (λ h. refl)
