use Rattle.std.proofs.Common.{◌≡◌, ap, sym, subst, ◌∙◌}
use Rattle.gomp_events.specs.declared.seen.Seen.{Seen}
use Rattle.gomp_events.specs.Tags.{tag_with}
use Rattle.gomp_events.specs.Events.{shares_entered}
use Rattle.gomp_board.specs.declared.op.Op.{Op}
use Rattle.gomp_board.specs.Boards.{IsOpAdmittedOnce, Performs}
use Rattle.gomp_dispatch.specs.Serves.{arrival_op}
use Rattle.gomp_dispatch.proofs.arrivals.arrival_reply.Goals as goal

pub step_admitted-requires-clause-admitted : goal.step_admitted-requires-clause-admitted
step_admitted-requires-clause-admitted g c =
    let (h, st, once) = c.requires.admitted in
    let m = c.args.member in
    let e = c.look.ensures.value ∙ g.met.S.Shares.agrees c.args.shares.now h m st c.requires.member in
    let same : c.arrival_op.result ≡ arrival_op c.args.manner.repeated c.args.manner.leaving.region (tag_with c.args.kind (shares_entered m h)) =
    c.arrival_op.ensures ∙ ap (λ (s : Seen). arrival_op c.args.manner.repeated c.args.manner.leaving.region (tag_with c.args.kind s.entered)) e in
    subst (λ (op : Op). IsOpAdmittedOnce op m c.args.board.now) (sym same) once

pub returns : goal.returns
returns g c = record {
  performs = λ h st.
      let m = c.args.member in
      let e = c.look.ensures.value ∙ g.met.S.Shares.agrees c.args.shares.now h m st c.requires.member in
      let same : c.arrival_op.result ≡ arrival_op c.args.manner.repeated c.args.manner.leaving.region (tag_with c.args.kind (shares_entered m h)) =
      c.arrival_op.ensures ∙ ap (λ (s : Seen). arrival_op c.args.manner.repeated c.args.manner.leaving.region (tag_with c.args.kind s.entered)) e in
      subst (λ (op : Op). Performs op m c.args.board.now c.step_admitted.new.self c.step_admitted.result) same c.step_admitted.ensures.performs;
}
