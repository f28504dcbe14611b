use Rattle.std.proofs.Common.{◌∙◌, Option, ap, inr, refl, subst, sym}
use Rattle.gomp_types.specs.declared.call.Call.{Call}
use Rattle.gomp_types.specs.declared.refusal.Refusal.{Refusal}
use Rattle.gomp_types.specs.declared.reply.Reply.TheVariants.{Refused}
use Rattle.gomp_types.specs.Least.{least, lesser}
use Rattle.gomp_events.specs.declared.event.Arrival.TheVariants as arrivals
use Rattle.gomp_events.specs.Events.{share_number}
use Rattle.gomp_events.specs.Tags.{tag_with}
use Rattle.gomp_shares.specs.Singles.{put_tests}
use Rattle.gomp_board.specs.declared.op.Op.TheVariants.{Put}
use Rattle.gomp_dispatch.specs.Serves.{arrival_op}
use Rattle.gomp_model.specs.Calls.{row_of}
use Rattle.gomp_ring.specs.RingSeats.{SeatView}
use Rattle.gomp_team_board.specs.Locked.{IsAnsweredUnless}
use Rattle.gomp_team_shares.specs.declared.start.ShareStart.TheVariants.{SingleCopy}
use Rattle.gomp_team.specs.Answers.{FindsAtEnd, FindsItself, StartsOnBoard, arrival_place}
use Rattle.gomp_team.proofs.AnswerLaws.{arrival_answers, copy_start_answered, share_end_answered, made_or_again, resume_answered, resume_may, words_put_answered}
use Rattle.gomp_team.proofs.team.SharedTeam.answer_together.Goals as goal

pub returns-in-SingleCopyStart-clause-answers : goal.returns-in-SingleCopyStart-clause-answers
returns-in-SingleCopyStart-clause-answers g c =
    let found = c.itself_refusal-found in
    rw c.in-SingleCopyStart.is (copy_start_answered c.args.self.now.team.icv.cancellation c.args.repeated c.args.state.now.own found.result c.args.parts.now.seat c.start.result
    (subst (λ (call : Call). FindsItself c.args.repeated c.args.state.now.own call c.args.parts.now.seat found.result) c.in-SingleCopyStart.is found.ensures.finds) c.start.ensures.refuses
    (made_or_again c.args.repeated SingleCopy found.result c.args.parts.now.seat c.start.result
    (inr (subst (λ (seat : SeatView). StartsOnBoard SingleCopy c.args.repeated found.result seat c.start.result) found.ensures.same c.start.ensures.starts))))

pub returns-in-Some-clause-answers : goal.returns-in-Some-clause-answers
returns-in-Some-clause-answers g c =
    let found = c.itself_refusal-found in
    let itself = subst (λ (call : Call). FindsItself c.args.repeated c.args.state.now.own call c.args.parts.now.seat found.result) c.in-Resume.is found.ensures.finds in
    rw c.in-Resume.is (resume_answered c.args.self.now.team.icv.cancellation c.args.repeated c.args.state.now.own found.result c.args.parts.now.seat (Refused c.in-Some.refusal) itself
    (c.in-Some.refusal, refl, resume_may c.args.repeated c.args.state.now.own c.args.parts.now.seat found.result c.any_call_refusal.result c.in-Some.refusal itself c.any_call_refusal.ensures.of_team (sym c.lesser.ensures.value ∙ c.in-Some.is)))

pub returns-in-SingleCopyEnd-clause-answers : goal.returns-in-SingleCopyEnd-clause-answers
returns-in-SingleCopyEnd-clause-answers g c =
    let words = c.in-SingleCopyEnd.words in
    let found = c.itself_refusal-found in
    rw c.in-SingleCopyEnd.is (words_put_answered c.args.self.now.team.icv.cancellation c.args.repeated c.args.state.now.own words found.result c.args.parts.now.seat c.put.result (subst (λ (call : Call). FindsItself c.args.repeated c.args.state.now.own call c.args.parts.now.seat found.result) c.in-SingleCopyEnd.is found.ensures.finds)
    (subst (λ (seat : SeatView). IsAnsweredUnless (lesser found.result (least (put_tests seat.seen))) (Put (share_number seat.seen.current) words) seat.member c.put.result) found.ensures.same c.put.ensures.answer))

pub returns-in-Barrier-clause-answers : goal.returns-in-Barrier-clause-answers
returns-in-Barrier-clause-answers g c =
    let own = c.args.state.now.own in
    let found = c.itself_refusal-found in
    let repeated = c.args.repeated in
    let leaving = own.leaving.region in
    arrival_answers c.args.self.now.team.icv.cancellation repeated own c.args.call.now arrivals.Barrier found.result (arrival_place repeated arrivals.Barrier leaving c.args.parts.now.seat.seen) c.args.parts.now.seat c.arrive.result
    (ap (λ (call : Call). (row_of call).arrives) c.in-Barrier.is) found.ensures.finds refl
    (subst (λ (seat : SeatView). IsAnsweredUnless (lesser found.result (arrival_place repeated arrivals.Barrier leaving seat.seen)) (arrival_op repeated leaving (tag_with arrivals.Barrier seat.seen.entered)) seat.member c.arrive.result) found.ensures.same c.arrive.ensures.answer)

pub returns-in-RegionEnd-clause-answers : goal.returns-in-RegionEnd-clause-answers
returns-in-RegionEnd-clause-answers g c =
    let own = c.args.state.now.own in
    let found = c.itself_refusal-found in
    let repeated = c.args.repeated in
    let leaving = own.leaving.region in
    let reply = c.arrive-in-RegionEnd.result in
    arrival_answers c.args.self.now.team.icv.cancellation repeated own c.args.call.now arrivals.RegionEnd found.result (arrival_place repeated arrivals.RegionEnd leaving c.args.parts.now.seat.seen) c.args.parts.now.seat reply
    (ap (λ (call : Call). (row_of call).arrives) c.in-RegionEnd.is) found.ensures.finds refl
    (subst (λ (seat : SeatView). IsAnsweredUnless (lesser found.result (arrival_place repeated arrivals.RegionEnd leaving seat.seen)) (arrival_op repeated leaving (tag_with arrivals.RegionEnd seat.seen.entered)) seat.member reply) found.ensures.same c.arrive-in-RegionEnd.ensures.answer)

pub returns-in-Some-share_end-clause-answers : goal.returns-in-Some-share_end-clause-answers
returns-in-Some-share_end-clause-answers g c =
    let own = c.args.state.now.own in
    let found = c.itself_refusal-found in
    share_end_answered c.args.self.now.team.icv.cancellation c.args.repeated own c.args.call.now c.in-Some-share_end.end found.result c.args.parts.now.seat c.end.result
    c.in-Some-share_end.ensures.arrives (sym c.in-Some-share_end.ensures.end) found.ensures.finds
    (subst (λ (seat : SeatView). (place : Option Refusal) × FindsAtEnd c.args.repeated found.result c.in-Some-share_end.end seat place
    × IsAnsweredUnless (lesser found.result place) (arrival_op c.args.repeated own.leaving.region (tag_with arrivals.ShareEnd seat.seen.entered)) seat.member c.end.result) found.ensures.same c.end.ensures.answer)
