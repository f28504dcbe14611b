use Rattle.std.proofs.Common.{sym, ◌∙◌}
use Rattle.gomp_seat_team.proofs.Entering.{cut_is_no_refusal}
use Rattle.gomp_seat_team.proofs.starts.go_on.Goals as goal

pub returns-clause-cause : goal.returns-clause-cause
returns-clause-cause g c = λ refusal is. absurd (cut_is_no_refusal c.is_cancelled.result c.args.reply c.requires.accepted refusal (sym c.cut_reply-reply.ensures ∙ is))
