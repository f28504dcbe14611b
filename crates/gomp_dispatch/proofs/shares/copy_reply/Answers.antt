use Rattle.std.proofs.Common.{ap, sym, ◌∙◌}
use Rattle.gomp_events.specs.declared.seen.Seen.{Seen}
use Rattle.gomp_events.specs.Events.{shares_entered}
use Rattle.gomp_shares.proofs.Laws.{next_share_is_open}
use Rattle.gomp_board.specs.KeptPayload.{kept_payload}
use Rattle.gomp_dispatch.proofs.Words.{kept_words_are_put}
use Rattle.gomp_dispatch.proofs.shares.copy_reply.Goals as goal

pub returns-clause-answer : goal.returns-clause-answer
returns-clause-answer g c = λ h st board_st puts.
    let members = g.S.Shares.members c.args.shares.now in
    let e = c.look-entered.ensures.value ∙ g.met.S.Shares.agrees c.args.shares.now h c.args.member st c.requires.place.member in
    let rule = g.met.S.Shares.ruled c.args.shares.now h st in
    let open_ = next_share_is_open members c.args.member h rule c.requires.place.member in
    let words = kept_words_are_put members (shares_entered c.args.member h) h rule puts open_ ∙ ap (λ (s : Seen). kept_payload s.entered h) (sym e) ∙ sym (c.payload.ensures.value h board_st) in
    c.single_copy_start_admitted-reply.ensures.serves.answer h st words
