use Rattle.std.proofs.Common.{◌≡◌, ◌<◌, [], length, take, arith, false}
use Rattle.std.specs.Prelude.{pos}
use Rattle.std.proofs.lemmas.List.{take_more, length-take}
use Rattle.std.proofs.lemmas.Grind.{common_steps}
use Rattle.gomp_types.specs.declared.loop_desc.Sched.TheVariants.{Static}
use Rattle.gomp_types.specs.declared.loop_desc.EndKind.TheVariants.{Wait}
use Rattle.gomp_types.specs.Deals.{schedule}
use Rattle.gomp_shares.specs.declared.calls.ShareStep.{ShareStep}
use Rattle.gomp_shares.specs.declared.calls.ShareCall.TheVariants.{Open}
use Rattle.gomp_shares.specs.Runs.{events_of_run}
use Rattle.gomp_shares.proofs.Laws.{share_rule_keeps_laws, share_rule_keeps_order}
use Rattle.gomp_shares.proofs.CallRuns.{events_after_more, are_answers_more}
use Rattle.gomp_shares.proofs.calls.make_calls.Goals as goal

abbrev some_step : ShareStep
some_step = record { member = 0; call = Open (record { start = pos 0; end = pos 0; incr = pos 0; sched = Static; chunk = pos 0; ordered = false; end_kind = Wait }) }

pub loop-step-preserved : goal.loop-step-preserved
loop-step-preserved g c =
    let i = c.loop-step.step-index in
    let steps = c.args.steps.now in
    let lt : i < length steps = c.loop-step-test.true in
    let count = c.loop-step.invariant.count in
    let even : length c.loop-step.answers.items ≡ length (take i steps) = rw (length-take i steps) (omega (arith, c.loop-step.answers.ok)) in
    let front = take_more steps i some_step lt in
    record {
      team = c.make_call.ensures.members;
      room = let kept = c.push_reserved.ensures.capacity in let before = c.loop-step.invariant.room in cc;
      count = let more = c.push_reserved.ensures.len in omega arith;
      told = rw (front, c.push_reserved.ensures.items) (are_answers_more c.args.count (take i steps) c.loop-step.answers.items _ c.make_call.result [] even c.loop-step.invariant.told (c.make_call.ensures.answer _ c.loop-step.invariant.now));
      now = rw (front, c.push_reserved.ensures.items, events_after_more c.args.count (take i steps) c.loop-step.answers.items _ c.make_call.result [] even) (c.make_call.ensures.stands _ c.loop-step.invariant.now);
    }

pub returns-clause-laws : goal.returns-clause-laws
returns-clause-laws g c =
    let whole : take c.loop-step.step-index c.args.steps.now ≡ c.args.steps.now = grind (arith, common_steps) in
    let now : g.S.Shares.stands c.loop-step.shares (events_of_run c.args.count c.args.steps.now c.loop-step.answers.items []) = rw whole at c.loop-step.invariant.now in
    let rule = rw c.loop-step.invariant.team at (g.met.S.Shares.ruled c.loop-step.shares _ now) in
    share_rule_keeps_laws (schedule c.args.count) c.args.count _ rule

pub returns-clause-ordered : goal.returns-clause-ordered
returns-clause-ordered g c =
    let whole : take c.loop-step.step-index c.args.steps.now ≡ c.args.steps.now = grind (arith, common_steps) in
    let now : g.S.Shares.stands c.loop-step.shares (events_of_run c.args.count c.args.steps.now c.loop-step.answers.items []) = rw whole at c.loop-step.invariant.now in
    let rule = rw c.loop-step.invariant.team at (g.met.S.Shares.ruled c.loop-step.shares _ now) in
    share_rule_keeps_order c.args.count _ rule
