use Rattle.std.proofs.Common.{◌≡◌, ◌∙◌, sym, refl, w64}
use Rattle.std.proofs.lemmas.Int.{to_z-of_z}
use Rattle.gomp_events.specs.Events.{open_share}
use Rattle.gomp_types.specs.Tests.{first_holding}
use Rattle.gomp_shares.specs.OrderedParts.{AnswersPart, BeginsOwnPart, part_started, part_tests}
use Rattle.gomp_shares.proofs.Admitted.{no_test_holds}
use Rattle.gomp_shares.proofs.Served.{serves_above, serves_refused}
use Rattle.gomp_ordered.proofs.PartReplies.{has_shape, part_admitted, part_refused, start_is}
use Rattle.gomp_ordered.proofs.calls.ordered_start.Goals as goal

pub ordered_start_refusal-requires : goal.ordered_start_refusal-requires
ordered_start_refusal-requires g c =
    let (h, st) = c.look.ensures.known in
    let e = c.look.ensures.value ∙ g.met.S.Shares.agrees c.args.shares.now h c.args.member st c.requires.member in
    record { shape = has_shape c.args.member c.look.result h e (λ i shape there. g.met.S.Shares.valid c.args.shares.now h c.args.member i shape st there) }

pub ordered_start_admitted-requires-clause-place : goal.ordered_start_admitted-requires-clause-place
ordered_start_admitted-requires-clause-place g c =
    let first : c.ordered_start_refusal.result ≡ first_holding (part_tests c.args.value c.look.result) = rw (to_z-of_z w64 c.args.value c.ranges.value) at c.ordered_start_refusal.ensures.first in
    let none = no_test_holds (part_tests c.args.value c.look.result) refl (sym c.in-None.is ∙ first) in
    rw (to_z-of_z w64 c.args.value c.ranges.value, ← c.look.ensures.value) none

pub returns-in-Some-clause-serves : goal.returns-in-Some-clause-serves
returns-in-Some-clause-serves g c =
    serves_refused g.S.Shares.stands c.args.shares.now c.in-Some.refusal (AnswersPart (g.S.Shares.members c.args.shares.now) c.args.value c.args.member) (part_started c.args.value c.args.member) c.look.ensures.known
    (λ h st.
    let e = c.look.ensures.value ∙ g.met.S.Shares.agrees c.args.shares.now h c.args.member st c.requires.member in
    let first : c.ordered_start_refusal.result ≡ first_holding (part_tests c.args.value c.look.result) = rw (to_z-of_z w64 c.args.value c.ranges.value) at c.ordered_start_refusal.ensures.first in
    start_is c.args.member c.args.value c.look.result h _ e (sym c.in-Some.is ∙ first))
    (λ h. rw (part_refused c.args.member c.args.value c.in-Some.refusal (open_share c.args.member h)) refl)

pub returns-in-None-clause-serves : goal.returns-in-None-clause-serves
returns-in-None-clause-serves g c =
    serves_above g.S.Shares.stands c.args.shares.now c.ordered_start_admitted.new.shares c.ordered_start_admitted.result (BeginsOwnPart (g.S.Shares.members c.args.shares.now) c.args.member) (AnswersPart (g.S.Shares.members c.args.shares.now) c.args.value c.args.member)
    (part_started c.args.value c.args.member) (part_started c.args.value c.args.member)
    (λ h st begun.
    let e = c.look.ensures.value ∙ g.met.S.Shares.agrees c.args.shares.now h c.args.member st c.requires.member in
    let first : c.ordered_start_refusal.result ≡ first_holding (part_tests c.args.value c.look.result) = rw (to_z-of_z w64 c.args.value c.ranges.value) at c.ordered_start_refusal.ensures.first in
    let none = start_is c.args.member c.args.value c.look.result h _ e (sym c.in-None.is ∙ first) in
    part_admitted (g.S.Shares.members c.args.shares.now) c.args.member c.args.value c.ordered_start_admitted.result h none begun)
    (λ h st. refl)
    (rw (to_z-of_z w64 c.args.value c.ranges.value) at c.ordered_start_admitted.ensures.serves)
