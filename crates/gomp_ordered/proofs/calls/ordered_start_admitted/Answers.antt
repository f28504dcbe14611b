use Rattle.std.proofs.Common.{◌≡◌, ap, ◌∙◌, sym, subst, Some, None, w64}
use Rattle.std.proofs.lemmas.Int.{to_z-of_z}
use Rattle.gomp_events.specs.declared.seen.Seen.{Seen}
use Rattle.gomp_events.specs.Events.{open_share}
use Rattle.gomp_types.specs.Least.{least}
use Rattle.gomp_types.specs.Values.{iteration_of}
use Rattle.gomp_shares.specs.OrderedParts.{part_tests}
use Rattle.gomp_ordered.specs.Iterations.{seen_iteration}
use Rattle.gomp_ordered.proofs.PartReplies.{part_is, part_may_begin, part_waits, start_ordered, turn_begins, turn_waits}
use Rattle.gomp_ordered.proofs.calls.ordered_start_admitted.Goals as goal

pub iteration_of-requires : goal.iteration_of-requires
iteration_of-requires g c =
    let (h, st) = c.look.ensures.known in
    let e = c.look.ensures.value ∙ g.met.S.Shares.agrees c.args.shares.now h c.args.member st c.requires.member in
    record { shape = g.met.S.Shares.valid c.args.shares.now h c.args.member _ c.in-Some.shape st (sym (ap (λ (s : Seen). s.current) e) ∙ c.in-Some.is) }

pub try_turn-requires : goal.try_turn-requires
try_turn-requires g c =
    let is : c.iteration_of.result ≡ iteration_of c.in-Some.shape c.args.value = rw (to_z-of_z w64 c.args.value c.ranges.value) at c.iteration_of.ensures in
    record { place = part_may_begin _ c.args.member _ c.args.value _ _ c.requires.member (sym (ap (λ (s : Seen). s.current) c.look.ensures.value) ∙ c.in-Some.is) (sym is ∙ c.in-Some-iteration_of.is) c.requires.place }

pub returns-then-try_turn-clause-serves : goal.returns-then-try_turn-clause-serves
returns-then-try_turn-clause-serves g c = record {
  known = c.look.ensures.known;
  answer = λ h st. turn_begins (g.S.Shares.members c.args.shares.now) c.args.member (open_share c.args.member h) h (sym c.if-try_turn.true ∙ c.try_turn.ensures.answer h st);
  stands_for = λ h st.
      let e = c.look.ensures.value ∙ g.met.S.Shares.agrees c.args.shares.now h c.args.member st c.requires.member in
      let is : c.iteration_of.result ≡ iteration_of c.in-Some.shape c.args.value = rw (to_z-of_z w64 c.args.value c.ranges.value) at c.iteration_of.ensures in
      let there = sym (ap (λ (s : Seen). s.current) e) ∙ c.in-Some.is in
      let here : seen_iteration (open_share c.args.member h) c.args.value ≡ Some c.in-Some-iteration_of.iteration = rw there (sym is ∙ c.in-Some-iteration_of.is) in
      rw (← part_is c.args.member c.in-Some-iteration_of.iteration c.args.value (open_share c.args.member h) h here) (rw c.if-try_turn.true at (c.try_turn.ensures.stands h st));
  kept = λ refusal is. absurd (cc);
  waits = λ is. absurd (cc);
}

pub returns-else-try_turn-clause-serves : goal.returns-else-try_turn-clause-serves
returns-else-try_turn-clause-serves g c = record {
  known = c.look.ensures.known;
  answer = λ h st.
      let none = subst (λ (s : Seen). least (part_tests c.args.value s) ≡ None) (g.met.S.Shares.agrees c.args.shares.now h c.args.member st c.requires.member) c.requires.place in
      turn_waits (g.S.Shares.members c.args.shares.now) c.args.member (open_share c.args.member h) h (start_ordered c.args.member c.args.value h none) (sym c.if-try_turn.false ∙ c.try_turn.ensures.answer h st);
  stands_for = λ h st. rw (part_waits c.args.member c.args.value (open_share c.args.member h)) (rw c.if-try_turn.false at (c.try_turn.ensures.stands h st));
  kept = λ refusal is. absurd (cc);
  waits = λ is. c.try_turn.ensures.kept c.if-try_turn.false;
}
