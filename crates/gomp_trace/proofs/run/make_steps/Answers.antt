use Rattle.std.proofs.Common.{◌≡◌, ℕ, ◌∙◌, ◌++◌, ◌+◌, List, [], length, refl, ap, sym, subst, arith, length-append}
use Rattle.gomp_types.specs.declared.call.Step.{Step}
use Rattle.gomp_core.proofs.Lists.{moved_on, all_done}
use Rattle.gomp_trace.specs.Runs.{HasMade}
use Rattle.gomp_trace.proofs.RunLemmas.{has_made_more, has_run}
use Rattle.gomp_trace.proofs.run.make_steps.Goals as goal

pub loop-step-init : goal.loop-step-init
loop-step-init g c = record {
  all = c.into_iter-step-iterator.ensures.into_iter_gives.0;
  count = refl;
  made = record {
    replies = [];
    each = refl;
    size_is = c.requires.size;
    icv_is = refl;
    limits_are = c.requires.limits;
    team_stands = c.requires.begins;
    traced_is = c.in_ok-traced.ensures.traced;
    lanes_are = c.in_ok-traced.ensures.lanes;
    code_is = refl;
  };
}

pub loop-step-preserved : goal.loop-step-preserved
loop-step-preserved g c =
    let inv = c.loop-step.invariant in
    let step = c.in-Some.step in
    record {
      all = sym (moved_on c.loop-step.yielded c.next.new.self.rest.items step) ∙ ap (λ (xs : List Step). c.loop-step.yielded ++ xs) (sym c.in-Some.ensures.steps.0) ∙ inv.all;
      count = let count = inv.count in simp length-append (omega arith);
      made = has_made_more g.S.Shares.stands g.S.Shares.members c.args.team.now.icv c.args.members c.loop-step.yielded c.loop-step.team c.make_step.new.team c.loop-step.traced c.make_step.new.traced c.loop-step.code c.in_ok-code.code (c.loop-step.time + 1) step
          inv.made (ap (λ (n : ℕ). n + 1) inv.count) c.in_ok-code.ensures;
    }

pub returns : goal.returns
returns g c =
    let inv = c.loop-step.invariant in
    let size = c.loop-step.step-iterator.rest.ok in
    let none = c.in-None.ensures.steps in
    let done : c.loop-step.yielded ≡ c.args.steps.items = all_done c.loop-step.yielded c.loop-step.step-iterator.rest.items c.args.steps.items inv.all (sym size.0 ∙ none.0) in
    has_run g.S.Shares.stands g.S.Shares.members c.args.team.now.icv c.args.members c.args.steps.items c.loop-step.team c.loop-step.traced c.loop-step.code c.loop-step.time c.in_ok-events.events.items
    (subst (λ (steps : List Step). HasMade g.S.Shares.stands g.S.Shares.members c.args.team.now.icv c.args.members steps c.loop-step.team c.loop-step.traced c.loop-step.code) done inv.made)
    (inv.count ∙ ap (λ (steps : List Step). length steps) done) c.in_ok-events.ensures
