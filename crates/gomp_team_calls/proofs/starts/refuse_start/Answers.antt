use Rattle.std.proofs.Common.{◌≡◌, ◌≢◌, ◌∙◌, Some, sym, ap, subst}
use Rattle.gomp_types.specs.declared.refusal.Refusal.{Refusal}
use Rattle.gomp_types.specs.declared.refusal.Refusal.TheVariants.{Mismatch}
use Rattle.gomp_types.specs.declared.reply.Reply.{Reply}
use Rattle.gomp_types.specs.declared.reply.Reply.TheVariants.{Refused}
use Rattle.gomp_types.specs.Least.{lesser}
use Rattle.gomp_team_board.specs.Locked.{locked_refusal, AnswersUnless}
use Rattle.gomp_team_board.proofs.FoundRefusals.{found_is_refused}
use Rattle.gomp_team_board.proofs.Moved.{refusal_counts_nothing}
use Rattle.gomp_team_calls.specs.Starts.{IsDoneAtOnce}
use Rattle.gomp_team_calls.proofs.Started.{unmoved_counts_stay, found_never_mismatches, found_refuses}
use Rattle.gomp_team_calls.proofs.starts.refuse_start.Goals as goal

pub step_unless-requires : goal.step_unless-requires
step_unless-requires g c = record { own = λ is. (let same : c.args.refusal ≡ Mismatch = cc in let no = c.if-is_mismatch.ensures.1 same in cc) }

pub unreachable-requires : goal.unreachable-requires
unreachable-requires g c =
    let (first, is) = found_refuses c.args.refusal c.args.op c.args.member c.args.board.now c.step_unless.new.self c.step_unless.result _ c.step_unless.ensures.known c.step_unless.ensures.answer in
    c.in_default.not-Refused first is

pub returns-then-is_mismatch-clause-least : goal.returns-then-is_mismatch-clause-least
returns-then-is_mismatch-clause-least g c = λ inside k st first is.
    let same : c.args.refusal ≡ Mismatch = c.is_mismatch.ensures.0 c.if-is_mismatch.true in
    c.break_team.ensures.least inside k st first (subst (λ (one : Refusal). lesser (Some one) (locked_refusal c.args.member c.args.board.now c.args.op k) ≡ Some first) same is)

pub returns-clause-least : goal.returns-clause-least
returns-clause-least g c = λ inside k st first is.
    let (least, answer, lower) = found_is_refused c.args.refusal c.args.op c.args.member c.args.board.now c.step_unless.new.self (Refused c.in-Refused.first) k inside st c.in-Refused.ensures.answer in
    let both : Some least ≡ Some first = sym lower ∙ is in
    let same : least ≡ first = cc in
    answer ∙ ap (λ (one : Refusal). Refused one) same

pub returns-clause-breaks : goal.returns-clause-breaks
returns-clause-breaks g c = λ mismatch.
    let at_once = subst IsDoneAtOnce (sym c.requires.op.1) tt in
    let other : c.args.refusal ≢ Mismatch = λ same. (let no = c.if-is_mismatch.ensures.1 same in cc) in
    absurd (found_never_mismatches c.args.refusal c.args.op c.args.member c.args.board.now c.step_unless.new.self _ at_once other c.in-Refused.ensures.known
    (subst (λ (reply : Reply). AnswersUnless (Some c.args.refusal) c.args.op c.args.member c.args.board.now c.step_unless.new.self reply) mismatch c.in-Refused.ensures.answer))

pub returns-clause-counts : goal.returns-clause-counts
returns-clause-counts g c =
    unmoved_counts_stay c.args.op c.args.member c.args.board.now c.step_unless.new.self (Refused c.in-Refused.first) (refusal_counts_nothing c.args.op c.in-Refused.first) c.in-Refused.ensures.counts
