use Rattle.std.proofs.Common.{◌<◌, ℕ, subst, sym}
use Rattle.gomp_model.specs.Calls.{row_of}
use Rattle.gomp_dispatch.specs.Serves.{KeepsMore, SharesStand}
use Rattle.gomp_dispatch.proofs.CallOps.{made_once}
use Rattle.gomp_dispatch.proofs.ShareRows.{call_is_share_row, admitted_in_place}
use Rattle.gomp_dispatch.proofs.Reserved.{reserve_fine, no_room_answers}
use Rattle.gomp_dispatch.proofs.Answered.{share_answers}
use Rattle.gomp_dispatch.proofs.answer.share_admitted.Goals as goal

pub keep_room-requires-clause-admitted : goal.keep_room-requires-clause-admitted
keep_room-requires-clause-admitted g c = λ much.
    let is = call_is_share_row c.args.call.now c.requires.served in
    let asked = c.asked_once.ensures in
    let (h, st, fine) = reserve_fine g.S.Shares.stands c.args.shares.now (row_of c.args.call.now) is c.args.manner c.args.member c.args.board.now c.requires.admitted (subst (λ (n : ℕ). 0 < n) asked much) in
    (h, st, rw asked fine)

pub returns-then-not-keep_room-clause-answers : goal.returns-then-not-keep_room-clause-answers
returns-then-not-keep_room-clause-answers g c =
    let is = call_is_share_row c.args.call.now c.requires.served in
    let (much, same, limits) = c.keep_room.ensures.lacks c.if-not-keep_room.true in
    no_room_answers g.S.Shares.stands c.args.shares.now (row_of c.args.call.now) is c.args.manner c.args.member c.args.board.now c.keep_room.new.board (subst (λ (n : ℕ). 0 < n) c.asked_once.ensures much) same limits

pub share_reply-requires-clause-place : goal.share_reply-requires-clause-place
share_reply-requires-clause-place g c =
    let is = call_is_share_row c.args.call.now c.requires.served in
    let (p, parts, ready, made) = c.requires.admitted in
    (p.terms.limits, rw (g.met.S.Shares.agrees c.args.shares.now p.events c.args.member parts.shares_are c.requires.member) (admitted_in_place (row_of c.args.call.now) is c.args.manner.repeated c.args.member c.args.board.now p ready))

-- an end is not repeated
pub share_reply-requires-clause-drained : goal.share_reply-requires-clause-drained
share_reply-requires-clause-drained g c = λ first drains.
    let row = row_of c.args.call.now in
    let is = call_is_share_row c.args.call.now c.requires.served in
    let (p, parts, ready, made) = c.requires.admitted in
    c.requires.drained (made_once row c.args.manner.repeated c.args.member c.args.board.now p (is.once (is.leaves drains) c.args.member) ready) drains

pub share_reply-requires-clause-known : goal.share_reply-requires-clause-known
share_reply-requires-clause-known g c = let (p, parts, ready, made) = c.requires.admitted in (p.events, parts.shares_are)

pub returns-clause-answers : goal.returns-clause-answers
returns-clause-answers g c =
    let is = call_is_share_row c.args.call.now c.requires.served in
    let more = subst (λ (n : ℕ). KeepsMore n c.args.member c.args.board.now c.keep_room.new.board) c.asked_once.ensures (c.keep_room.ensures.kept c.if-not-keep_room.false) in
    share_answers (SharesStand g.S.Shares.stands c.args.shares.now c.is_cancelled.result) g.S.Shares.stands (g.S.Shares.members c.args.shares.now) c.args.shares.now c.share_reply.new.shares (row_of c.args.call.now) c.args.manner c.args.member c.args.board.now c.keep_room.new.board c.share_reply.result c.requires.team is.keeps is.fits
    c.requires.admitted more (λ p parts. (parts.shares_are, sym (c.is_cancelled.ensures.value p.events (more.stands p.events parts.board_is)))) c.share_reply.ensures.serves c.share_reply.ensures.events
