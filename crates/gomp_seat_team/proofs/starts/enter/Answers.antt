use Rattle.std.proofs.Common.{◌∙◌, ap, inl, inr, refl, None}
use Rattle.gomp_team_calls.specs.Starts.{start_part}
use Rattle.gomp_team_calls.proofs.Started.{refused_start_part}
use Rattle.gomp_seat_team.proofs.Entering.{refused_as_another, refused_at_once, enters_unrefused, kept_part}
use Rattle.gomp_seat_team.proofs.starts.enter.Goals as goal

pub returns-in-Err-clause-refused : goal.returns-in-Err-clause-refused
returns-in-Err-clause-refused g c =
    refused_at_once None c.args.op c.args.seat.now c.args.board.now c.do_at_once.new.board c.in-Err.refusal refl (rw c.member-member.ensures at (c.do_at_once.ensures.refused c.in-Err.refusal c.in-Err.is))

pub returns-in-Err-clause-enters : goal.returns-in-Err-clause-enters
returns-in-Err-clause-enters g c = λ accepted. absurd (accepted c.in-Err.refusal refl)

pub returns-in-Err-clause-cause : goal.returns-in-Err-clause-cause
returns-in-Err-clause-cause g c = λ refusal is. inr (inl (rw c.member-member.ensures at (c.do_at_once.ensures.refused c.in-Err.refusal c.in-Err.is)))

pub returns-in-Err-clause-part : goal.returns-in-Err-clause-part
returns-in-Err-clause-part g c = c.do_at_once.ensures.part_refused c.in-Err.refusal c.in-Err.is ∙ refused_start_part c.args.op c.in-Err.refusal c.args.part.now

pub returns-in-Refused-clause-counts : goal.returns-in-Refused-clause-counts
returns-in-Refused-clause-counts g c = λ k. c.refuse_start.ensures.counts k ∙ c.do_at_once.ensures.counts k

pub returns-in_default-start_admitted : goal.returns-in_default-start_admitted
returns-in_default-start_admitted g c =
    let answers = rw c.member-member.ensures at (c.do_at_once.ensures.done c.in_default.is) in
    let started = c.start_admitted.ensures.stays in
    let gone_on = c.go_on.ensures.stays in
    record {
      refused = enters_unrefused None c.args.op c.args.seat.now c.go_on.new.seat c.args.board.now c.do_at_once.new.board c.go_on.new.board c.go_on.result.reply refl answers;
      enters = λ accepted. record {
        kept = c.do_at_once.new.board;
        reserves = answers;
        served = c.start_admitted.result;
        between = c.start_admitted.new.seat;
        starts = c.start_admitted.ensures.starts;
        goes_on = c.go_on.ensures.goes_on accepted;
      };
      cause = λ refusal is. inr (inr (inr (record { served = c.start_admitted.result; between = c.start_admitted.new.seat; starts = c.start_admitted.ensures.starts; notes = c.go_on.ensures.cause refusal is })));
      stays = record { table = gone_on.table ∙ started.table; members = gone_on.members ∙ started.members; member = gone_on.member ∙ started.member; seated = gone_on.seated ∙ started.seated };
      counts = λ k. c.go_on.ensures.counts k ∙ c.do_at_once.ensures.counts k;
      part = c.go_on.ensures.part ∙ ap (start_part c.go_on.result.reply) (kept_part c.args.op c.requires.op.0 c.args.part.now c.do_at_once.new.part c.requires.op.1 (c.do_at_once.ensures.part_done c.in_default.is));
    }

pub returns-in-Refused-clause-cause : goal.returns-in-Refused-clause-cause
returns-in-Refused-clause-cause g c = λ refusal is. inr (inr (inl (record {
  between = c.start_admitted.new.seat;
  differs = refused_as_another c.args.start.now c.args.seat.now c.start_admitted.new.seat c.start_admitted.result c.in-Refused.field-0 c.in-Refused.is c.start_admitted.ensures.started c.start_admitted.ensures.starts;
  kept = c.do_at_once.new.board;
  reserves = rw c.member-member.ensures at (c.do_at_once.ensures.done c.in_default.is);
  known = rw c.history.ensures.value at c.history.ensures.known;
  answers = rw c.member-member.ensures at c.refuse_start.ensures.least;
})))
