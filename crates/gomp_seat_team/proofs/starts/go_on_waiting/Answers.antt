use Rattle.std.proofs.Common.{◌∙◌, ap, inl, inr, refl}
use Rattle.std.specs.Prelude.{is_some}
use Rattle.gomp_board.specs.declared.op.Op.TheVariants.{Reserve}
use Rattle.gomp_team_calls.proofs.Started.{refused_start_part}
use Rattle.gomp_seat_team.proofs.Entering.{refused_at_once, enters_unrefused}
use Rattle.gomp_seat_team.proofs.starts.go_on_waiting.Goals as goal

pub returns-in-Some-clause-goes_on : goal.returns-in-Some-clause-goes_on
returns-in-Some-clause-goes_on g c = record {
  refused = λ inside k st refusal is. ((rw c.member-member.ensures at c.refuse_start.ensures.least) inside k st refusal (rw c.in-Some.is at is), refl);
  goes_on = λ accepted. absurd (accepted c.refuse_start.ensures.refused.0 c.refuse_start.ensures.refused.1);
  cause = λ refusal is. inl (ap is_some c.in-Some.is);
}

pub returns-in-Err-clause-goes_on : goal.returns-in-Err-clause-goes_on
returns-in-Err-clause-goes_on g c =
    let answers = rw c.member-member.ensures at (c.do_at_once.ensures.refused c.in-Err.refusal c.in-Err.is) in
    record {
      refused = refused_at_once c.args.found (Reserve 0) c.args.seat.now c.args.board.now c.do_at_once.new.board c.in-Err.refusal c.in_default.is answers;
      goes_on = λ accepted. absurd (accepted c.in-Err.refusal refl);
      cause = λ refusal is. inr (inl answers);
    }

pub returns-in-Err-clause-part : goal.returns-in-Err-clause-part
returns-in-Err-clause-part g c = c.do_at_once.ensures.part_refused c.in-Err.refusal c.in-Err.is ∙ refused_start_part (Reserve 0) c.in-Err.refusal c.args.part.now

pub returns-clause-goes_on : goal.returns-clause-goes_on
returns-clause-goes_on g c =
    let answers = rw c.member-member.ensures at (c.do_at_once.ensures.done c.in_default-do_at_once.is) in
    record {
      refused = enters_unrefused c.args.found (Reserve 0) c.args.seat.now c.copy_words-reply.new.seat c.args.board.now c.do_at_once.new.board c.copy_words-reply.new.board c.copy_words-reply.result c.in_default.is answers;
      goes_on = λ accepted. (c.do_at_once.new.board, answers, c.copy_words-reply.ensures.takes accepted);
      cause = λ refusal is. inr (inr (c.copy_words-reply.ensures.cause refusal is));
    }

pub returns-clause-counts : goal.returns-clause-counts
returns-clause-counts g c = λ k. c.copy_words-reply.ensures.counts k ∙ c.do_at_once.ensures.counts k
