use Rattle.std.proofs.Common.{sym, ◌∙◌, ap}
use Rattle.std.specs.Prelude.{is_some}
use Rattle.gomp_model.specs.Past.{Waits}
use Rattle.gomp_member.proofs.state.MemberState.own_refusal.Goals as goal
use Rattle.gomp_member.proofs.OwnTests.{ended_answers, leaving_answers, leaving_is_known, waiting_answers, waiting_is_known}

pub returns-then-has_ended-clause-least : goal.returns-then-has_ended-clause-least
returns-then-has_ended-clause-least c p knows lets = sym (ended_answers c.args.call.now c.args.self.now.own p (knows.ended ∙ sym c.if-has_ended.ensures))

pub returns-in_default : goal.returns-in_default
returns-in_default c = record {
  is = sym (waiting_is_known c.args.placed c.args.call.now c.in_default.not-Resume c.in_default.not-Stop c.args.self.now.own (sym c.if-has_ended.ensures) (sym c.if-is_waiting.ensures));
  least = λ p knows lets. sym (waiting_answers c.args.call.now c.in_default.not-Resume c.in_default.not-Stop c.args.self.now.own p
      (knows.ended ∙ sym c.if-has_ended.ensures) (ap (λ (waits : Waits). is_some waits.open_call) knows.waits ∙ sym c.if-is_waiting.ensures));
  own = λ same. absurd (cc);
}

pub returns-in_default-2 : goal.returns-in_default-2
returns-in_default-2 c = record {
  is = c.leaving_refusal.ensures.is ∙ sym (leaving_is_known c.args.placed c.args.call.now c.in_default-2.not-Resume c.in_default-2.not-Stop c.args.self.now.own (sym c.if-has_ended.ensures) (sym c.if-is_waiting.ensures));
  least = λ p knows lets. c.leaving_refusal.ensures.least p knows lets ∙ sym (leaving_answers c.args.call.now c.in_default-2.not-Resume c.in_default-2.not-Stop c.args.self.now.own p
      (knows.ended ∙ sym c.if-has_ended.ensures) (ap (λ (waits : Waits). is_some waits.open_call) knows.waits ∙ sym c.if-is_waiting.ensures));
  own = c.leaving_refusal.ensures.own;
}
