use Rattle.std.proofs.Common.{sym, ◌∙◌, refl}
use Rattle.gomp_team_calls.specs.Arrivals.{IsAccepted}
use Rattle.gomp_team_calls.proofs.Found.{accepted_finds_nothing}
use Rattle.gomp_seat_team.proofs.ends.end_by_arrival.Goals as goal

pub leave_share-requires : goal.leave_share-requires
leave_share-requires g c =
    let accepted : IsAccepted c.step_unless.result = λ refusal is. c.in_default.not-Refused refusal is in
    let nothing = accepted_finds_nothing c.end_refusal-place.result _ c.member-member.result c.args.board.now c.step_unless.new.self c.step_unless.result _ c.step_unless.ensures.known c.step_unless.ensures.answer accepted in
    let stays = c.end_refusal-place.ensures.stays in
    record {
      ring = record { table = stays.table ∙ c.requires.ring.table; members = c.requires.ring.members ∙ sym stays.members };
      place = rw nothing at c.end_refusal-place.ensures.place;
    }

pub returns-in_default : goal.returns-in_default
returns-in_default g c =
    let accepted : IsAccepted c.step_unless.result = λ refusal is. c.in_default.not-Refused refusal is in
    let nothing = accepted_finds_nothing c.end_refusal-place.result _ c.member-member.result c.args.board.now c.step_unless.new.self c.step_unless.result _ c.step_unless.ensures.known c.step_unless.ensures.answer accepted in
    let found = c.end_refusal-place.ensures.stays in
    let left = c.leave_share.ensures.stays in
    record {
      op = refl;
      ends = record {
        place = c.end_refusal-place.result;
        between = c.end_refusal-place.new.seat;
        finds = c.end_refusal-place.ensures.finds;
        answers = rw c.member-member.ensures at c.step_unless.ensures.answer;
        drawn = λ done. rw nothing at c.end_refusal-place.ensures.ended;
        leaves = λ done. c.leave_share.ensures.leaves;
        stays = λ refusal is. absurd (c.in_default.not-Refused refusal is);
      };
      stays = record { table = left.table ∙ found.table; members = left.members ∙ found.members; member = left.member ∙ found.member; seated = left.seated ∙ found.seated };
      counts = rw c.member-member.ensures at c.step_unless.ensures.counts;
      part = c.step_unless.ensures.part;
    }
