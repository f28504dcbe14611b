use Rattle.std.proofs.Common.{◌∙◌, sym}
use Rattle.gomp_types.specs.declared.reply.Reply.TheVariants.{Finished}
use Rattle.gomp_team_calls.specs.Arrivals.{IsAccepted}
use Rattle.gomp_team_calls.proofs.Found.{accepted_finds_nothing, lesser_is_none}
use Rattle.gomp_seat_team.proofs.words.put_words.Goals as goal

pub leave_share-requires-clause-place : goal.leave_share-requires-clause-place
leave_share-requires-clause-place g c =
    let accepted : IsAccepted Finished = λ refusal is. (cc) in
    let nothing = accepted_finds_nothing c.lesser-found.result _ c.member.result c.args.board.now c.step_unless.new.self Finished _ c.in-Finished.ensures.known c.in-Finished.ensures.answer accepted in
    let none = lesser_is_none c.args.found c.single_copy_end_refusal.result (sym c.lesser-found.ensures.value ∙ nothing) in
    c.single_copy_end_refusal.ensures.place none
