use Rattle.std.proofs.Common.{◌≡◌, ◌+◌, ◌∙◌, ◌∷◌, ◌++◌, List, length, refl, ap, sym, subst, arith, length-append}
use Rattle.gomp_types.specs.declared.call.Step.{Step}
use Rattle.gomp_model.specs.Past.{Terms}
use Rattle.gomp_model.specs.Team.{Caused}
use Rattle.gomp_core.specs.Stands.{Stands, standard_terms}
use Rattle.gomp_core.specs.Resolved.{record_of}
use Rattle.gomp_laws.proofs.Laws.{headline_holds, replies_on_names_and_locks, replies_on_tasks, replies_on_cancellation}
use Rattle.gomp_core.proofs.Lists.{resolved_grows, moved_on, all_done, terms_are}
use Rattle.gomp_core.proofs.steps.run.Given.{Over}
use Rattle.gomp_core.proofs.steps.run.Goals as goal

pub loop-step-init : goal.loop-step-init
loop-step-init g c = record {
  all = c.into_iter-step-iterator.ensures.into_iter_gives.0;
  each = rw c.in-Ok.ensures.items refl;
  room = let room = c.in-Ok.ensures.capacity in let len = c.len.ensures in let ok = c.args.steps.ok in omega arith;
  members = c.in_ok-team.ensures.members;
  icv = c.in_ok-team.ensures.icv;
  limits = c.in_ok-team.ensures.limits;
  stands = c.in_ok-team.ensures.stands;
}

pub push_reserved-requires : goal.push_reserved-requires
push_reserved-requires g c =
    let inv = c.loop-step.invariant in
    let more : length c.args.steps.items ≡ length c.loop-step.yielded + length (c.in-Some.step ∷ c.next.new.self.rest.items) =
    ap length (sym inv.all ∙ ap (λ (xs : List Step). c.loop-step.yielded ++ xs) c.in-Some.ensures.steps.0) ∙ length-append c.loop-step.yielded (c.in-Some.step ∷ c.next.new.self.rest.items) in
    let room = inv.room in let each = inv.each in let ok = c.loop-step.replies.ok in omega arith

pub loop-step-preserved : goal.loop-step-preserved
loop-step-preserved g c =
    let inv = c.loop-step.invariant in
    let before = record_of c.args.icv c.loop-step.yielded c.loop-step.replies.items in
    let more = resolved_grows c.args.icv c.loop-step.yielded c.loop-step.replies.items c.in-Some.step c.step.result inv.each in
    record {
      all = sym (moved_on c.loop-step.yielded c.next.new.self.rest.items c.in-Some.step) ∙ ap (λ (xs : List Step). c.loop-step.yielded ++ xs) (sym c.in-Some.ensures.steps.0) ∙ inv.all;
      each = let each = inv.each in rw c.push_reserved.ensures.items (simp length-append (omega arith));
      room = let kept = c.push_reserved.ensures.capacity in let room = inv.room in omega arith;
      members = c.step.ensures.keeps.members ∙ inv.members;
      icv = c.step.ensures.keeps.icv ∙ inv.icv;
      limits = c.step.ensures.keeps.limits ∙ inv.limits;
      stands = rw (c.push_reserved.ensures.items, more) (rw inv.icv at (c.step.ensures.stands before inv.stands));
    }

-- If no step is left

steps_done : (g : Over) (c : goal.After-drop-step-iterator g) → c.loop-step.yielded ≡ c.args.steps.items
steps_done g c =
    let inv = c.loop-step.invariant in
    let size = c.loop-step.step-iterator.rest.ok in
    let none = c.in-None.ensures.steps in
    all_done c.loop-step.yielded c.loop-step.step-iterator.rest.items c.args.steps.items inv.all (sym size.0 ∙ none.0)

pub returns-in-None-clause-one_reply_each : goal.returns-in-None-clause-one_reply_each
returns-in-None-clause-one_reply_each g c = let inv = c.loop-step.invariant in let ok = c.loop-step.replies.ok in let same = ap length (steps_done g c) in let each = inv.each in omega arith

pub returns-in-None-clause-terms : goal.returns-in-None-clause-terms
returns-in-None-clause-terms g c = terms_are c.loop-step.team c.args.count c.args.icv c.loop-step.invariant.members c.loop-step.invariant.icv c.loop-step.invariant.limits

pub returns-in-None-clause-icv : goal.returns-in-None-clause-icv
returns-in-None-clause-icv g c = c.loop-step.invariant.icv

pub returns-in-None-clause-stands : goal.returns-in-None-clause-stands
returns-in-None-clause-stands g c =
    let inv = c.loop-step.invariant in
    subst (λ (steps : List Step). Stands g.S.Shares.stands g.S.Shares.members c.loop-step.team (record_of c.args.icv steps c.loop-step.replies.items)) (steps_done g c) inv.stands

pub returns-in-None-clause-caused : goal.returns-in-None-clause-caused
returns-in-None-clause-caused g c =
    let stands = returns-in-None-clause-stands g c in
    subst (λ (terms : Terms). Caused terms (record_of c.args.icv c.args.steps.items c.loop-step.replies.items)) (returns-in-None-clause-terms g c) stands.caused

pub returns-in-None-clause-headline : goal.returns-in-None-clause-headline
returns-in-None-clause-headline g c = headline_holds (standard_terms c.args.count c.args.icv) (record_of c.args.icv c.args.steps.items c.loop-step.replies.items) (returns-in-None-clause-caused g c)

pub returns-in-None-clause-replies : goal.returns-in-None-clause-replies
returns-in-None-clause-replies g c = replies_on_names_and_locks (standard_terms c.args.count c.args.icv) (record_of c.args.icv c.args.steps.items c.loop-step.replies.items) (returns-in-None-clause-caused g c)

pub returns-in-None-clause-tasks : goal.returns-in-None-clause-tasks
returns-in-None-clause-tasks g c = replies_on_tasks (standard_terms c.args.count c.args.icv) (record_of c.args.icv c.args.steps.items c.loop-step.replies.items) (returns-in-None-clause-caused g c)

pub returns-in-None-clause-cancels : goal.returns-in-None-clause-cancels
returns-in-None-clause-cancels g c = replies_on_cancellation (standard_terms c.args.count c.args.icv) (record_of c.args.icv c.args.steps.items c.loop-step.replies.items) (returns-in-None-clause-caused g c)
