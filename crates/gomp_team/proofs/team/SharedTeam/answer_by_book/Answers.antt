use Rattle.std.proofs.Common.{Bool, rules, subst, sym}
use Rattle.std.specs.Prelude.{IfSome}
use Rattle.gomp_member.specs.Own.{own_owner}
use Rattle.gomp_team_book.specs.Others.{IsAnswered}
use Rattle.gomp_team.specs.Moves.{book_call}
use Rattle.gomp_team.proofs.AnswerLaws.{book_call_answered, book_call_refused, locks_are_asked}
use Rattle.gomp_team.proofs.team.SharedTeam.answer_by_book.Goals as goal

pub returns-in-Some-clause-answers : goal.returns-in-Some-clause-answers
returns-in-Some-clause-answers g c =
    book_call_refused c.args.self.now.team.icv.cancellation c.args.repeated c.args.state.now.own c.args.call.now c.args.parts.now.seat c.in-Some.refusal c.early_refusal.result c.requires.served c.in-Some.is c.early_refusal.ensures.early

pub returns-in-LockInit-clause-answers : goal.returns-in-LockInit-clause-answers
returns-in-LockInit-clause-answers g c =
    book_call_answered c.args.self.now.team.icv.cancellation c.args.repeated c.args.state.now.own c.args.call.now c.args.parts.now.seat c.try_lock_init.result c.early_refusal.result c.requires.served c.in_default.is c.early_refusal.ensures.early
    (rw (c.in-LockInit.is, (locks_are_asked c.args.repeated).0) (c.try_lock_init.ensures.answer (own_owner c.args.state.now.own)))

pub returns-in-NestInit-clause-answers : goal.returns-in-NestInit-clause-answers
returns-in-NestInit-clause-answers g c =
    book_call_answered c.args.self.now.team.icv.cancellation c.args.repeated c.args.state.now.own c.args.call.now c.args.parts.now.seat c.try_nest_init.result c.early_refusal.result c.requires.served c.in_default.is c.early_refusal.ensures.early
    (rw (c.in-NestInit.is, (locks_are_asked c.args.repeated).1) (c.try_nest_init.ensures.answer (own_owner c.args.state.now.own)))

pub returns-in-LockDestroy-clause-answers : goal.returns-in-LockDestroy-clause-answers
returns-in-LockDestroy-clause-answers g c =
    book_call_answered c.args.self.now.team.icv.cancellation c.args.repeated c.args.state.now.own c.args.call.now c.args.parts.now.seat c.try_lock_destroy.result c.early_refusal.result c.requires.served c.in_default.is c.early_refusal.ensures.early
    (rw (c.in-LockDestroy.is, (locks_are_asked c.args.repeated).2 c.in-LockDestroy.number) (c.try_lock_destroy.ensures.answer (own_owner c.args.state.now.own)))

pub returns-in-CriticalEnd-clause-answers : goal.returns-in-CriticalEnd-clause-answers
returns-in-CriticalEnd-clause-answers g c =
    book_call_answered c.args.self.now.team.icv.cancellation c.args.repeated c.args.state.now.own c.args.call.now c.args.parts.now.seat c.release.result c.early_refusal.result c.requires.served c.in_default.is c.early_refusal.ensures.early c.release.ensures.answer

pub returns-in_default-call : goal.returns-in_default-call
returns-in_default-call g c = record {
  board = search rules;
  held = search rules;
  freed = search rules;
  seat = search rules;
  answers = book_call_answered c.args.self.now.team.icv.cancellation c.args.repeated c.args.state.now.own c.args.call.now c.args.parts.now.seat c.hold_again.result c.early_refusal.result c.requires.served c.in_default.is c.early_refusal.ensures.early
      (subst (λ (repeated : Bool). IfSome (book_call repeated c.args.call.now) (λ asked. IsAnswered (own_owner c.args.state.now.own) asked c.hold_again.result)) (sym c.if-repeated.true) c.hold_again.ensures.answer);
}

pub returns-in_default-2 : goal.returns-in_default-2
returns-in_default-2 g c = record {
  board = search rules;
  held = search rules;
  freed = search rules;
  seat = search rules;
  answers = book_call_answered c.args.self.now.team.icv.cancellation c.args.repeated c.args.state.now.own c.args.call.now c.args.parts.now.seat c.hold.result c.early_refusal.result c.requires.served c.in_default.is c.early_refusal.ensures.early
      (subst (λ (repeated : Bool). IfSome (book_call repeated c.args.call.now) (λ asked. IsAnswered (own_owner c.args.state.now.own) asked c.hold.result)) (sym c.if-repeated.false) c.hold.ensures.answer);
}
