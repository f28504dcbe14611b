use Rattle.std.proofs.Common.{arith, ◌<◌, ◌≡◌, ◌∙◌, sym, ap, true}
use Rattle.gomp_types.specs.Tests.{first_holding}
use Rattle.gomp_types.specs.Iterations.{loop_tests}
use Rattle.gomp_types.specs.Pieces.{shape_of}
use Rattle.gomp_shares.proofs.PartsKeep.{loop_is_loop}
use Rattle.gomp_shares.specs.declared.calls.ShareCall.TheVariants.{Open, Claim, Leave, Begin, HandOn}
use Rattle.gomp_shares.specs.Runs.{may_make}
use Rattle.gomp_shares.proofs.CallRuns.{call_is_made, open_fits, opens_loop, can_open, can_claim, can_leave, can_begin, can_hand}
use Rattle.gomp_types.proofs.TestRows.{outcome_value}
use Rattle.gomp_shares.proofs.calls.make_call.Goals as goal

pub returns-in_default-clause-answer : goal.returns-in_default-clause-answer
returns-in_default-clause-answer g c =
    let may : may_make c.look.result (Open c.in-Open.desc) ≡ true = ap (may_make c.look.result) (sym c.in-Open.is) ∙ sym c.may_make.ensures ∙ c.if-not-may_make.false in
    absurd (open_fits c.look.result c.in-Open.desc (shape_of c.in-Open.desc) c.in_default.field-0 may (sym c.shape.ensures.shape ∙ c.in_default.is))

pub returns-in-Claim-clause-answer : goal.returns-in-Claim-clause-answer
returns-in-Claim-clause-answer g c = λ h st.
    let lt : c.args.step.now.member < g.S.Shares.members c.args.shares.now = rw c.requires.team (omega arith) in
    let e = c.look.ensures.value ∙ g.met.S.Shares.agrees c.args.shares.now h c.args.step.now.member st lt in
    (call_is_made _ c.args.step.now c.look.result h e (omega arith) (sym c.may_make.ensures ∙ c.if-not-may_make.false), rw c.in-Claim.is (rw c.requires.team at (c.claim.ensures.answer h st)))

pub returns-in-Leave-clause-answer : goal.returns-in-Leave-clause-answer
returns-in-Leave-clause-answer g c = λ h st.
    let lt : c.args.step.now.member < g.S.Shares.members c.args.shares.now = rw c.requires.team (omega arith) in
    let e = c.look.ensures.value ∙ g.met.S.Shares.agrees c.args.shares.now h c.args.step.now.member st lt in
    (call_is_made _ c.args.step.now c.look.result h e (omega arith) (sym c.may_make.ensures ∙ c.if-not-may_make.false), rw c.in-Leave.is tt)

pub try_open-requires : goal.try_open-requires
try_open-requires g c =
    let may : may_make c.look.result (Open c.in-Open.desc) ≡ true = ap (may_make c.look.result) (sym c.in-Open.is) ∙ sym c.may_make.ensures ∙ c.if-not-may_make.false in
    let shape : c.in-Ok.shape ≡ shape_of c.in-Open.desc = outcome_value (first_holding (loop_tests c.in-Open.desc)) (shape_of c.in-Open.desc) c.in-Ok.shape (sym c.shape.ensures.shape ∙ c.in-Ok.is) in
    record { place = rw (← c.look.ensures.value, c.requires.team) (can_open c.args.count c.args.step.now.member c.in-Ok.shape c.look.result (omega arith) (rw shape c.in-Ok.ensures.fits) (λ e. rw shape (loop_is_loop c.in-Open.desc.sched c.in-Open.desc.chunk)) (opens_loop c.look.result c.in-Open.desc may)) }

pub returns-in-Ok-clause-answer : goal.returns-in-Ok-clause-answer
returns-in-Ok-clause-answer g c = λ h st.
    let lt : c.args.step.now.member < g.S.Shares.members c.args.shares.now = rw c.requires.team (omega arith) in
    let e = c.look.ensures.value ∙ g.met.S.Shares.agrees c.args.shares.now h c.args.step.now.member st lt in
    let shape : c.in-Ok.shape ≡ shape_of c.in-Open.desc = outcome_value (first_holding (loop_tests c.in-Open.desc)) (shape_of c.in-Open.desc) c.in-Ok.shape (sym c.shape.ensures.shape ∙ c.in-Ok.is) in
    (call_is_made _ c.args.step.now c.look.result h e (omega arith) (sym c.may_make.ensures ∙ c.if-not-may_make.false), rw (c.in-Open.is, ← shape) (rw c.requires.team at (c.try_open.ensures.answer h st)))

pub claim-requires : goal.claim-requires
claim-requires g c =
    let may : may_make c.look.result Claim ≡ true = ap (may_make c.look.result) (sym c.in-Claim.is) ∙ sym c.may_make.ensures ∙ c.if-not-may_make.false in
    record { place = rw (← c.look.ensures.value, c.requires.team) (can_claim c.args.count c.args.step.now.member c.look.result (omega arith) may) }

pub leave-requires : goal.leave-requires
leave-requires g c =
    let may : may_make c.look.result Leave ≡ true = ap (may_make c.look.result) (sym c.in-Leave.is) ∙ sym c.may_make.ensures ∙ c.if-not-may_make.false in
    record { place = rw (← c.look.ensures.value, c.requires.team) (can_leave c.args.count c.args.step.now.member c.look.result (omega arith) may) }

pub hand_on-requires : goal.hand_on-requires
hand_on-requires g c =
    let may : may_make c.look.result HandOn ≡ true = ap (may_make c.look.result) (sym c.in-HandOn.is) ∙ sym c.may_make.ensures ∙ c.if-not-may_make.false in
    record { place = rw (← c.look.ensures.value, c.requires.team) (can_hand c.args.count c.args.step.now.member c.look.result (omega arith) may) }

pub try_turn-requires : goal.try_turn-requires
try_turn-requires g c =
    let may : may_make c.look.result (Begin c.in-Begin.iteration) ≡ true = ap (may_make c.look.result) (sym c.in-Begin.is) ∙ sym c.may_make.ensures ∙ c.if-not-may_make.false in
    record { place = rw (← c.look.ensures.value, c.requires.team) (can_begin c.args.count c.args.step.now.member c.in-Begin.iteration c.look.result (omega arith) may) }

pub returns-in-Ok-clause-stands : goal.returns-in-Ok-clause-stands
returns-in-Ok-clause-stands g c = λ h st.
    let shape : c.in-Ok.shape ≡ shape_of c.in-Open.desc = outcome_value (first_holding (loop_tests c.in-Open.desc)) (shape_of c.in-Open.desc) c.in-Ok.shape (sym c.shape.ensures.shape ∙ c.in-Ok.is) in
    rw (c.in-Open.is, ← shape) (c.try_open.ensures.stands h st)

pub returns-in-Begin-clause-answer : goal.returns-in-Begin-clause-answer
returns-in-Begin-clause-answer g c = λ h st.
    let lt : c.args.step.now.member < g.S.Shares.members c.args.shares.now = rw c.requires.team (omega arith) in
    let e = c.look.ensures.value ∙ g.met.S.Shares.agrees c.args.shares.now h c.args.step.now.member st lt in
    (call_is_made _ c.args.step.now c.look.result h e (omega arith) (sym c.may_make.ensures ∙ c.if-not-may_make.false), rw c.in-Begin.is (rw c.requires.team at (c.try_turn.ensures.answer h st)))

pub returns-in-HandOn-clause-answer : goal.returns-in-HandOn-clause-answer
returns-in-HandOn-clause-answer g c = λ h st.
    let lt : c.args.step.now.member < g.S.Shares.members c.args.shares.now = rw c.requires.team (omega arith) in
    let e = c.look.ensures.value ∙ g.met.S.Shares.agrees c.args.shares.now h c.args.step.now.member st lt in
    (call_is_made _ c.args.step.now c.look.result h e (omega arith) (sym c.may_make.ensures ∙ c.if-not-may_make.false), rw c.in-HandOn.is (rw c.requires.team at (c.hand_on.ensures.answer h st)))

pub returns-in-EndPart-clause-answer : goal.returns-in-EndPart-clause-answer
returns-in-EndPart-clause-answer g c = λ h st.
    let lt : c.args.step.now.member < g.S.Shares.members c.args.shares.now = rw c.requires.team (omega arith) in
    let e = c.look.ensures.value ∙ g.met.S.Shares.agrees c.args.shares.now h c.args.step.now.member st lt in
    (call_is_made _ c.args.step.now c.look.result h e (omega arith) (sym c.may_make.ensures ∙ c.if-not-may_make.false), rw c.in-EndPart.is tt)

pub returns-in-See-clause-answer : goal.returns-in-See-clause-answer
returns-in-See-clause-answer g c = λ h st.
    let lt : c.args.step.now.member < g.S.Shares.members c.args.shares.now = rw c.requires.team (omega arith) in
    let e = c.look.ensures.value ∙ g.met.S.Shares.agrees c.args.shares.now h c.args.step.now.member st lt in
    (call_is_made _ c.args.step.now c.look.result h e (omega arith) (sym c.may_make.ensures ∙ c.if-not-may_make.false), rw c.in-See.is (c.see_if_cancelled.ensures.answer h st))
