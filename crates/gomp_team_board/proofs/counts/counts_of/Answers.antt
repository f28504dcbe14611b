use Rattle.std.proofs.Common.{◌∙◌, sym, refl}
use Rattle.gomp_team_board.specs.Parts.{is_creation, is_pass, is_start}
use Rattle.gomp_team_board.proofs.Fits.{counted_by}
use Rattle.gomp_team_board.proofs.counts.counts_of.Goals as goal

pub returns : goal.returns
returns c =
    let m = c.args.member in let h = c.args.history.now in
    let creates = c.creations-creates.ensures ∙ sym (counted_by (is_creation m) h) in
    let passes = c.passes-passes.ensures ∙ sym (counted_by (is_pass m) h) in
    let starts = c.starts-starts.ensures ∙ sym (counted_by (is_start m) h) in
    record { counts = rw (creates, passes, starts) refl }
