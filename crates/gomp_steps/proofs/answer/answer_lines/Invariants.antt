use Rattle.std.proofs.Common.{◌≡◌, List}
use Rattle.std.specs.Prelude.{option_copied, string_bytes}
use Rattle.gomp_types.specs.declared.call.Step.{Step}
use Rattle.gomp_types.specs.declared.reply.Reply.{Reply}
use Rattle.gomp_script.specs.StepText.{steps_left}
use Rattle.gomp_script.proofs.TextLemmas.{left, with_fronts}
use Rattle.gomp_steps.proofs.AnsweredLines.{Answered}
use Rattle.gomp_steps.proofs.answer.answer_lines.Given as goal

-- the steps so far are answered, and they and those of the lines that are left are those of all lines
abbrev pub invariant-loop-rest : goal.invariant-loop-rest
invariant-loop-rest g l = record {
  steps : List Step;
  replies : List Reply;
  so_far : Answered g.S.Shares.stands g.S.Shares.members l.fn.team l.team steps replies (string_bytes l.answer.text) l.answer.code;
  all : with_fronts steps (steps_left l.number (option_copied l.rest)) ≡ steps_left l.fn.first (option_copied l.fn.lines);
}

abbrev pub decreases-loop-rest : goal.decreases-loop-rest
decreases-loop-rest g l = left (option_copied l.rest)
