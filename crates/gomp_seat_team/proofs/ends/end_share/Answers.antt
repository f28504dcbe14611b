use Rattle.std.proofs.Common.{sym, ◌∙◌, refl}
use Rattle.gomp_types.proofs.LeastTests.{some_stays}
use Rattle.gomp_team_calls.specs.Arrivals.{IsAccepted}
use Rattle.gomp_team_calls.proofs.Found.{accepted_finds_nothing}
use Rattle.gomp_seat_team.proofs.Ended.{asked_end_is_own}
use Rattle.gomp_seat_team.proofs.ends.end_share.Goals as goal

pub step_unless-reply-requires : goal.step_unless-reply-requires
step_unless-reply-requires g c = record {
  own = c.lesser.ensures.own (λ is. c.requires.own (c.in-Some.is ∙ is))
      (asked_end_is_own c.args.end.construct c.args.end.end_kind c.args.seat.now c.ask_end_refusal-place.new.seat c.ask_end_refusal-place.result c.ask_end_refusal-place.ensures.finds);
}

pub returns-in-Some-clause-ends : goal.returns-in-Some-clause-ends
returns-in-Some-clause-ends g c =
    let never : IsAccepted c.step_unless-reply.result → ⊥ = λ accepted. some_stays c.in-Some.refusal c.ask_end_refusal-place.result
    (sym c.lesser.ensures.value ∙ accepted_finds_nothing c.lesser.result _ c.member-member.result c.args.board.now c.step_unless-reply.new.self c.step_unless-reply.result _ c.step_unless-reply.ensures.known c.step_unless-reply.ensures.answer accepted) in
    rw c.in-Some.is (record {
      place = c.ask_end_refusal-place.result;
      between = c.ask_end_refusal-place.new.seat;
      finds = c.ask_end_refusal-place.ensures.finds;
      answers = rw (c.lesser.ensures.value, c.member-member.ensures) at c.step_unless-reply.ensures.answer;
      drawn = λ accepted. absurd (never accepted);
      leaves = λ accepted. absurd (never accepted);
      stays = λ refusal is. refl;
    })
