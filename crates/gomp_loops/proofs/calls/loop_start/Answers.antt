use Rattle.std.proofs.Common.{◌≡◌, ◌∙◌, sym, refl}
use Rattle.gomp_types.specs.Tests.{first_holding}
use Rattle.gomp_types.specs.Iterations.{loop_tests}
use Rattle.gomp_types.specs.Pieces.{shape_of}
use Rattle.gomp_types.proofs.TestRows.{outcome_value, outcome_refused}
use Rattle.gomp_shares.specs.Starts.{AnswersBegin, start_tests}
use Rattle.gomp_shares.specs.Loops.{AnswersLoopStart, DealsOut, loop_begun, loop_started}
use Rattle.gomp_shares.proofs.Admitted.{outcome_none, start_admitted}
use Rattle.gomp_shares.proofs.Served.{serves_above, serves_refused}
use Rattle.gomp_loops.proofs.LoopReplies.{start_fine, start_refused}
use Rattle.gomp_loops.proofs.calls.loop_start.Goals as goal

pub loop_start_admitted-requires : goal.loop_start_admitted-requires
loop_start_admitted-requires g c = record { place = rw (← c.look.ensures.value) (c.in-Ok.ensures.place (g.S.Shares.members c.args.shares.now) c.args.member c.requires.member) }

pub returns-in-Ok-clause-serves : goal.returns-in-Ok-clause-serves
returns-in-Ok-clause-serves g c =
    let found = sym c.loop_start_shape.ensures.first ∙ c.in-Ok.is in
    let tests = start_tests (loop_tests c.args.desc.now) c.args.limits.now c.look.result in
    let is : c.in-Ok.shape ≡ shape_of c.args.desc.now = outcome_value (first_holding tests) _ _ found in
    serves_above g.S.Shares.stands c.args.shares.now c.loop_start_admitted.new.shares c.loop_start_admitted.result (AnswersBegin (shape_of c.args.desc.now) DealsOut (g.S.Shares.members c.args.shares.now) c.args.member)
    (AnswersLoopStart c.args.desc.now c.args.limits.now (g.S.Shares.members c.args.shares.now) c.args.member) (loop_begun (shape_of c.args.desc.now) c.args.member) (loop_started c.args.desc.now c.args.member)
    (λ h st begun.
    let e = c.look.ensures.value ∙ g.met.S.Shares.agrees c.args.shares.now h c.args.member st c.requires.member in
    let none = start_fine c.args.limits.now c.args.member c.args.desc.now c.look.result h e (outcome_none (first_holding tests) _ _ found) in
    start_admitted (loop_tests c.args.desc.now) (shape_of c.args.desc.now) DealsOut c.args.limits.now (g.S.Shares.members c.args.shares.now) c.args.member c.loop_start_admitted.result h none begun)
    (λ h st. refl)
    (rw is at c.loop_start_admitted.ensures.serves)

pub returns-in-Err-clause-serves : goal.returns-in-Err-clause-serves
returns-in-Err-clause-serves g c =
    serves_refused g.S.Shares.stands c.args.shares.now c.in-Err.refusal (AnswersLoopStart c.args.desc.now c.args.limits.now (g.S.Shares.members c.args.shares.now) c.args.member) (loop_started c.args.desc.now c.args.member) c.look.ensures.known
    (λ h st.
    let e = c.look.ensures.value ∙ g.met.S.Shares.agrees c.args.shares.now h c.args.member st c.requires.member in
    let tests = start_tests (loop_tests c.args.desc.now) c.args.limits.now c.look.result in
    start_refused c.args.limits.now c.args.member c.args.desc.now c.look.result h c.in-Err.refusal e (sym (outcome_refused (first_holding tests) _ c.in-Err.refusal (sym c.loop_start_shape.ensures.first ∙ c.in-Err.is))))
    (λ h. refl)
