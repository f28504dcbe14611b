use Rattle.std.proofs.Common.{◌∙◌, ap, sym}
use Rattle.std.specs.Result.{result_err}
use Rattle.gomp_types.specs.declared.call.Step.{Step}
use Rattle.gomp_laws.proofs.Laws.{least_refusal_is_an_answer}
use Rattle.gomp_core.specs.Stands.{TeamView, past}
use Rattle.gomp_core.proofs.Stepping.{other_stands, refused_memory, refused_keeps, stands_refused}
use Rattle.gomp_core.proofs.team.Team.perform.Goals as goal

pub returns : goal.returns
returns g c =
    let team : TeamView g.row.S.Denot = record { icv = c.self.inside.icv; board = c.self.inside.board; waits = c.self.inside.waits.items; leaving = c.self.inside.leaving.items; book = c.self.inside.book; shares = c.self.inside.shares } in
    let step : Step = record { member = c.args.member; call = c.args.call } in
    let (run, known) = c.self.invariant in
    let st1 = other_stands g.S.Shares.stands g.S.Shares.members team c.args.self.now run c.self.view_is known in
    let is1 = sym (c.admit.ensures.least run st1) ∙ ap result_err c.in-Err.is in
    let fits = refused_memory (past c.args.self.now run) step c.in-Err.refusal (least_refusal_is_an_answer (past c.args.self.now run) step c.in-Err.refusal is1) is1 in
    record {
      keeps = refused_keeps c.args.self.now c.admit.new.self c.args.call c.in-Err.refusal c.admit.ensures.kept c.in_default.not-Mismatch fits;
      answer = λ before st. least_refusal_is_an_answer (past c.args.self.now before) step c.in-Err.refusal (sym (c.admit.ensures.least before st) ∙ ap result_err c.in-Err.is);
      stands = λ before st. rw c.admit.ensures.kept (stands_refused g.S.Shares.stands g.S.Shares.members c.args.self.now before step c.in-Err.refusal st
          (least_refusal_is_an_answer (past c.args.self.now before) step c.in-Err.refusal (sym (c.admit.ensures.least before st) ∙ ap result_err c.in-Err.is)) c.in_default.not-Mismatch);
    }
