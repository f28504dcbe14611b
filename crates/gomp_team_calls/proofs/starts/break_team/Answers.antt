use Rattle.std.proofs.Common.{◌≡◌, ◌∙◌, Some, Option, sym, ap, subst}
use Rattle.gomp_types.specs.declared.refusal.Refusal.{Refusal}
use Rattle.gomp_types.specs.declared.refusal.Refusal.TheVariants.{Mismatch}
use Rattle.gomp_types.specs.declared.refusal.Place.TheVariants.{Share}
use Rattle.gomp_types.specs.declared.reply.Reply.{Reply}
use Rattle.gomp_types.specs.declared.reply.Reply.TheVariants.{Refused}
use Rattle.gomp_types.specs.Least.{lesser}
use Rattle.gomp_board.specs.declared.op.Op.{Op}
use Rattle.gomp_board.specs.declared.op.Op.TheVariants.{Break}
use Rattle.gomp_team_board.specs.Locked.{locked_refusal, AnswersNumber}
use Rattle.gomp_team_board.proofs.Moved.{refusal_moves_nothing}
use Rattle.gomp_team_calls.specs.Starts.{IsLate}
use Rattle.gomp_team_calls.proofs.Started.{refused_start_part, early_before_mismatch, early_is_no_mismatch, mismatch_before_late, break_mismatches}
use Rattle.gomp_team_calls.proofs.starts.break_team.Goals as goal

pub returns-in-Some-clause-least : goal.returns-in-Some-clause-least
returns-in-Some-clause-least g c = λ inside k st refusal is.
    let early = c.early_refusal.ensures.early c.in-Some.refusal c.in-Some.is in
    let first = subst (λ (one : Option Refusal). lesser (Some Mismatch) one ≡ Some refusal) (early.1 inside k st) is in
    ap (λ (one : Refusal). Refused one) (early_before_mismatch c.in-Some.refusal refusal early.0 first)

pub returns-in-Some-clause-breaks : goal.returns-in-Some-clause-breaks
returns-in-Some-clause-breaks g c = λ is.
    let early = c.early_refusal.ensures.early c.in-Some.refusal c.in-Some.is in
    let same : c.in-Some.refusal ≡ Mismatch = cc in
    absurd (early_is_no_mismatch c.in-Some.refusal early.0 same)

pub returns-in-Some-clause-part : goal.returns-in-Some-clause-part
returns-in-Some-clause-part g c =
    let early = c.early_refusal.ensures.early c.in-Some.refusal c.in-Some.is in
    sym (refusal_moves_nothing c.args.op c.in-Some.refusal c.args.part.now (early_is_no_mismatch c.in-Some.refusal early.0)) ∙ refused_start_part c.args.op c.in-Some.refusal c.args.part.now

pub returns-in-None-clause-least : goal.returns-in-None-clause-least
returns-in-None-clause-least g c = λ inside k st refusal is.
    let late = c.early_refusal.ensures.late c.in-None.is k st in
    let first : Some Mismatch ≡ Some refusal = sym (mismatch_before_late (locked_refusal c.args.member c.args.board.now c.args.op k) late) ∙ is in
    let same : Mismatch ≡ refusal = cc in
    let answers = subst (λ (op : Op). AnswersNumber op c.args.member c.args.board.now c.break_share.new.board c.break_share.result.reply) c.break_share.ensures.op c.break_share.ensures.answer in
    break_mismatches c.requires.op.0 c.args.entered c.args.back c.args.member c.args.board.now c.break_share.new.board c.break_share.result.reply k inside st
    (subst (λ (op : Op). IsLate (locked_refusal c.args.member c.args.board.now op k)) c.requires.op.1 late) answers
    ∙ ap (λ (one : Refusal). Refused one) same

pub returns-in-None-clause-breaks : goal.returns-in-None-clause-breaks
returns-in-None-clause-breaks g c = λ is.
    subst (λ (reply : Reply). AnswersNumber (Break (Share c.args.entered) c.args.back) c.args.member c.args.board.now c.break_share.new.board reply) is
    (subst (λ (op : Op). AnswersNumber op c.args.member c.args.board.now c.break_share.new.board c.break_share.result.reply) c.break_share.ensures.op c.break_share.ensures.answer)
