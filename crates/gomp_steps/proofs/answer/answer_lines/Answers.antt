use Rattle.std.proofs.Common.{◌≡◌, ◌∙◌, ◌+◌, [], Ok, ap, sym}
use Rattle.std.specs.Prelude.{option_copied}
use Rattle.gomp_types.specs.Limits.{shown_number}
use Rattle.gomp_core.specs.Stands.{members_of}
use Rattle.gomp_script.specs.StepText.{read_line, step_of, steps_left}
use Rattle.gomp_script.proofs.TextLemmas.{line_kept, lines_here}
use Rattle.gomp_steps.proofs.AnsweredLines.{line_told, more_answered, none_answered, fronted_by_none}
use Rattle.gomp_steps.proofs.answer.answer_lines.Goals as goal

pub loop-rest-init : goal.loop-rest-init
loop-rest-init g c = record {
  steps = [];
  replies = [];
  so_far = rw c.new.ensures.bytes (none_answered g.S.Shares.stands g.S.Shares.members c.args.team c.args.team c.requires.new c.requires.limits);
  all = fronted_by_none (steps_left c.args.first (option_copied c.args.lines));
}

pub returns-in-Err : goal.returns-in-Err
returns-in-Err g c =
    let inv = c.loop-rest.invariant in
    let number = c.loop-rest.number in
    let here = lines_here c.in-Some.lines.now c.cut_at.result.0.now (option_copied c.loop-rest.rest) (option_copied c.cut_at.result.1) (ap option_copied c.in-Some.is) c.cut_at.ensures.parts in
    let later = steps_left (shown_number (number + 1)) (option_copied c.cut_at.result.1) in
    line_told g.S.Shares.stands g.S.Shares.members (c.loop-rest.team, c.answer_line.new.team) (c.loop-rest.answer, c.answer_line.new.answer) c.args.team.icv (members_of c.args.team) number inv.steps (read_line step_of c.cut_at.result.0.now) c.in-Err.error later (steps_left c.args.first (option_copied c.args.lines)) c.refuse_line.result c.in-Err.ensures (rw here at inv.all) c.refuse_line.ensures

pub loop-rest-preserved : goal.loop-rest-preserved
loop-rest-preserved g c =
    let inv = c.loop-rest.invariant in
    let number = c.loop-rest.number in
    let here = lines_here c.in-Some.lines.now c.cut_at.result.0.now (option_copied c.loop-rest.rest) (option_copied c.cut_at.result.1) (ap option_copied c.in-Some.is) c.cut_at.ensures.parts in
    let said = c.in-Ok.ensures.0 in
    let told : read_line step_of c.cut_at.result.0.now ≡ Ok said = c.in-Ok.ensures.1 in
    let later = steps_left (shown_number (number + 1)) (option_copied c.cut_at.result.1) in
    let more = more_answered g.S.Shares.stands g.S.Shares.members c.args.team c.loop-rest.team c.answer_line.new.team (c.loop-rest.answer, c.answer_line.new.answer) inv.steps inv.replies said inv.so_far c.in-Ok.ensures.2 in
    record {
      steps = _;
      replies = more.0;
      so_far = more.1;
      all = rw c.saturating_add-number.ensures (sym (line_kept inv.steps number said later) ∙ rw (here, told) at inv.all);
    }
