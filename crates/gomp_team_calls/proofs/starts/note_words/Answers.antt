use Rattle.std.proofs.Common.{◌≡◌, ◌∙◌, Err, ap, refl}
use Rattle.gomp_types.specs.declared.refusal.Refusal.{Refusal}
use Rattle.gomp_types.specs.declared.refusal.Refusal.TheVariants.{Mismatch}
use Rattle.gomp_board.specs.declared.op.Op.TheVariants.{Got}
use Rattle.gomp_team_calls.proofs.Started.{refused_start_part}
use Rattle.gomp_team_calls.proofs.starts.note_words.Goals as goal

pub returns-clause-given : goal.returns-clause-given
returns-clause-given g c = λ accepted. absurd (accepted c.in-Err.refusal refl)

pub returns-clause-matches : goal.returns-clause-matches
returns-clause-matches g c = λ same.
    let is : c.in-Err.refusal ≡ Mismatch = cc in
    c.do_at_once.ensures.compares (c.in-Err.is ∙ ap (λ (one : Refusal). Err one) is)

pub returns-clause-part : goal.returns-clause-part
returns-clause-part g c = c.do_at_once.ensures.part_refused c.in-Err.refusal c.in-Err.is ∙ refused_start_part (Got c.args.share c.copied.result) c.in-Err.refusal c.args.part.now
