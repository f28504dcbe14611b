use Rattle.std.proofs.Common.{◌<◌, ℕ, [], true, sym, subst}
use Rattle.gomp_events.specs.declared.seen.Seen.{Seen}
use Rattle.gomp_types.specs.declared.reply.Reply.{Reply}
use Rattle.gomp_types.specs.Singles.{single_shape}
use Rattle.gomp_shares.specs.Singles.{DealsCopy, copy_given}
use Rattle.gomp_model.specs.Singles.{single_copy_start_row}
use Rattle.gomp_dispatch.specs.Answers.{AnswersCall}
use Rattle.gomp_dispatch.specs.Serves.{KeepsMore, NotesWords}
use Rattle.gomp_dispatch.proofs.ShareRows.{copy_is_share_row, copy_refuses, copy_cancels, start_serves}
use Rattle.gomp_dispatch.proofs.Reserved.{reserve_fine, no_room_answers}
use Rattle.gomp_dispatch.proofs.Answered.{WordsStand, gift_is_admitted, copy_answers, cut_notes}
use Rattle.gomp_dispatch.proofs.answer.start_copy.Goals as goal

pub keep_room-requires-clause-admitted : goal.keep_room-requires-clause-admitted
keep_room-requires-clause-admitted g c = λ much.
    let asked = c.asked_once.ensures in
    let (h, st, fine) = reserve_fine g.S.Shares.stands c.args.shares.now single_copy_start_row copy_is_share_row c.args.manner c.args.member c.args.board.now c.requires.admitted (subst (λ (n : ℕ). 0 < n) asked much) in
    (h, st, rw asked fine)

pub returns-then-not-keep_room-clause-answers : goal.returns-then-not-keep_room-clause-answers
returns-then-not-keep_room-clause-answers g c =
    let (much, same, limits) = c.keep_room.ensures.lacks c.if-not-keep_room.true in
    no_room_answers g.S.Shares.stands c.args.shares.now single_copy_start_row copy_is_share_row c.args.manner c.args.member c.args.board.now c.keep_room.new.board (subst (λ (n : ℕ). 0 < n) c.asked_once.ensures much) same limits

pub copy_reply-reply-requires-clause-admitted : goal.copy_reply-reply-requires-clause-admitted
copy_reply-reply-requires-clause-admitted g c =
    let kept = c.keep_room.new.board in
    let more = subst (λ (n : ℕ). KeepsMore n c.args.member c.args.board.now kept) c.asked_once.ensures (c.keep_room.ensures.kept c.if-not-keep_room.false) in
    gift_is_admitted g.S.Shares.stands c.args.shares.now c.args.manner c.args.member (g.S.Shares.seen c.args.shares.now c.args.member).entered c.args.board.now kept c.requires.admitted more

pub returns-clause-answers : goal.returns-clause-answers
returns-clause-answers g c =
    let members = g.S.Shares.members c.args.shares.now in
    let stands = g.S.Shares.stands in
    let shares = c.args.shares.now in
    let kept = c.keep_room.new.board in
    let m = c.args.member in
    let cancelled = c.is_cancelled-cancelled.result in
    let more = subst (λ (n : ℕ). KeepsMore n m c.args.board.now kept) c.asked_once.ensures (c.keep_room.ensures.kept c.if-not-keep_room.false) in
    let serves = start_serves (WordsStand stands shares kept cancelled) stands members c.args.manner.allowed cancelled shares c.copy_reply-reply.new.shares [] (single_shape true) DealsCopy copy_given m c.copy_reply-reply.result copy_refuses copy_cancels
    (g.met.S.Shares.aside shares) (λ h st. st.0) (λ h st. st.3) c.copy_reply-reply.ensures.waits (λ h st. c.copy_reply-reply.ensures.answer h st.0 st.1 st.2) (λ h st. c.copy_reply-reply.ensures.stands h st.0) in
    subst (λ (r : Reply). AnswersCall (record { stands = stands; row = single_copy_start_row; manner = c.args.manner; m = m }) shares c.copy_reply-reply.new.shares c.args.board.now c.copy_reply-reply.new.board r) (sym c.cut_reply.ensures)
    (copy_answers stands shares c.copy_reply-reply.new.shares members cancelled c.args.manner m c.args.board.now kept c.copy_reply-reply.new.board _ (subst (λ (n : ℕ). m < n) (sym c.requires.team) c.requires.member) c.requires.team
    c.requires.admitted more (λ p parts. sym (c.is_cancelled-cancelled.ensures.value p.events (more.stands p.events parts.board_is))) serves
    (λ h st. cut_notes cancelled _ m c.copy_reply-reply.result kept c.copy_reply-reply.new.board
    (subst (λ (s : Seen). NotesWords s.entered m c.copy_reply-reply.result kept c.copy_reply-reply.new.board) (g.met.S.Shares.agrees shares h m st c.requires.member) c.copy_reply-reply.ensures.words)))
