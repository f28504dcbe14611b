use Rattle.std.proofs.Common.{refl, inl, inr}
use Rattle.gomp_core.proofs.team.Team.step.Goals as goal

-- neither the barrier nor the region's end, at which it waits, starts a share
pub answer_call-requires-in-Resume-clause-starts : goal.answer_call-requires-in-Resume-clause-starts
answer_call-requires-in-Resume-clause-starts g c = λ before st.
    elim (c.lets_wait_on.ensures.waits c.if-lets_wait_on.true before st) [
      | inl at_barrier ↦ rw at_barrier (refl, tt)
      | inr at_end ↦ rw at_end (refl, tt)
    ]
