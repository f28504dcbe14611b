use Rattle.std.proofs.Common.{◌∙◌, sym, inl, inr}
use Rattle.gomp_scheduler.proofs.PassedOver.{explicit_level, same_level}
use Rattle.gomp_scheduler.proofs.startable.wait_level.Goals as goal

pub returns-in-Explicit : goal.returns-in-Explicit
returns-in-Explicit c = record {
  level = λ h st waits l same.
      same_level _ _ l h same (explicit_level c.args.tasks.now c.args.member c.in-Explicit.field-0 c.started-level.result h st (sym (c.current.ensures.value h st) ∙ c.in-Explicit.is) (inl (sym waits ∙ c.if-at_barrier-2.true)) (c.started-level.ensures.value h st));
}

pub returns-in-Explicit-2 : goal.returns-in-Explicit-2
returns-in-Explicit-2 c = record {
  level = λ h st waits l same.
      same_level _ _ l h same (explicit_level c.args.tasks.now c.args.member c.in-Explicit.field-0 c.started-level.result h st (sym (c.current.ensures.value h st) ∙ c.in-Explicit.is) (inr (sym (c.is_under.ensures.value h st) ∙ c.if-is_under.true)) (c.started-level.ensures.value h st));
}
