-- A chunk that is answered has an iteration.
use Rattle.std.proofs.Common.{ℕ, ◌<◌}
use Rattle.std.specs.Prelude.{ℤ}
use Rattle.gomp_types.specs.declared.call.Step.{Step}
use Rattle.gomp_types.specs.declared.reply.Reply.TheVariants.{Chunk}
use Rattle.gomp_model.specs.Past.{Terms, Past}
use Rattle.gomp_types.specs.Resumes.{call_meant, is_resume}
use Rattle.gomp_model.specs.Team.{Record, MayAnswer, past_of, Caused}
use Rattle.gomp_laws.proofs.Calls.{row_is_sound}
use Rattle.gomp_laws.proofs.Known.{Known, unrefused_step_is_admitted, known_of}

pub answer_counts : (p : Past) (step : Step) (first : ℤ) (count : ℕ) → Known p → MayAnswer p step (Chunk first count) → 0 < count
answer_counts p step first count known may =
    (row_is_sound (call_meant step.call (p.waits step.member).open_call)).counts (is_resume step.call) step.member p first count (unrefused_step_is_admitted p step may.0 known) known.rule may.1

pub chunks_have : (terms : Terms) (run : Record) (step : Step) (first : ℤ) (count : ℕ) → Caused terms run → MayAnswer (past_of terms run) step (Chunk first count) → 0 < count
chunks_have terms run step first count caused may = answer_counts (past_of terms run) step first count (known_of terms run caused) may
