use Rattle.std.proofs.Common.{◌∙◌, sym, refl}
use Rattle.gomp_events.specs.Events.{open_share}
use Rattle.gomp_shares.specs.Loops.{AnswersLoopNext, AnswersTake, loop_next_taken, next_tests}
use Rattle.gomp_shares.proofs.Admitted.{no_test_holds}
use Rattle.gomp_shares.proofs.Served.{serves_above, serves_refused}
use Rattle.gomp_loops.proofs.LoopReplies.{next_admitted, next_is, next_refusal_given}
use Rattle.gomp_loops.proofs.calls.loop_next.Goals as goal

pub loop_next_admitted-requires-clause-place : goal.loop_next_admitted-requires-clause-place
loop_next_admitted-requires-clause-place g c = rw (← c.look.ensures.value) (no_test_holds (next_tests c.look.result) refl (sym c.in-None.is ∙ c.next_refusal.ensures.first))

pub returns-in-Some-clause-serves : goal.returns-in-Some-clause-serves
returns-in-Some-clause-serves g c =
    serves_refused g.S.Shares.stands c.args.shares.now c.in-Some.refusal (AnswersLoopNext (g.S.Shares.members c.args.shares.now) c.args.member) (loop_next_taken (g.S.Shares.members c.args.shares.now) c.args.member) c.look.ensures.known
    (λ h st.
    let e = c.look.ensures.value ∙ g.met.S.Shares.agrees c.args.shares.now h c.args.member st c.requires.member in
    next_is c.args.member c.look.result h _ e (sym c.in-Some.is ∙ c.next_refusal.ensures.first))
    (λ h. rw (next_refusal_given (g.S.Shares.members c.args.shares.now) c.args.member c.in-Some.refusal (open_share c.args.member h) h) refl)

pub returns-in-None-clause-serves : goal.returns-in-None-clause-serves
returns-in-None-clause-serves g c =
    serves_above g.S.Shares.stands c.args.shares.now c.loop_next_admitted.new.shares c.loop_next_admitted.result (AnswersTake (g.S.Shares.members c.args.shares.now) c.args.member) (AnswersLoopNext (g.S.Shares.members c.args.shares.now) c.args.member)
    (loop_next_taken (g.S.Shares.members c.args.shares.now) c.args.member) (loop_next_taken (g.S.Shares.members c.args.shares.now) c.args.member)
    (λ h st taken.
    let e = c.look.ensures.value ∙ g.met.S.Shares.agrees c.args.shares.now h c.args.member st c.requires.member in
    next_admitted (g.S.Shares.members c.args.shares.now) c.args.member c.loop_next_admitted.result h (next_is c.args.member c.look.result h _ e (sym c.in-None.is ∙ c.next_refusal.ensures.first)) taken)
    (λ h st. refl)
    c.loop_next_admitted.ensures.serves
