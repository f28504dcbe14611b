use Rattle.std.proofs.Common.{◌∙◌, List, Bool, ap}
use Rattle.std.specs.Prelude.{not}
use Rattle.gomp_types.specs.declared.call.Call.{Call}
use Rattle.gomp_ompt.specs.declared.record.Record.{Record}
use Rattle.gomp_ompt.specs.Table.{records_of}
use Rattle.gomp_types.specs.Resumes.{call_meant}
use Rattle.gomp_core.specs.Stands.{open_call_of}
use Rattle.gomp_trace.specs.Runs.{with_records}
use Rattle.gomp_trace.proofs.RunLemmas.{records_are, records_below}
use Rattle.gomp_trace.proofs.run.make_step.Goals as goal

pub take_all-requires : goal.take_all-requires
take_all-requires g c =
    let known = c.step-reply.ensures.known in
    let may = c.step-reply.ensures.answer known.0 known.1 in
    record {
      lane = λ some. rw c.requires.lanes (records_below c.args.team.now.icv c.args.team.now known.0 c.args.step c.in_ok-call.call (not c.is_resume-first.result) c.step-reply.result may (rw (c.as_slice.ensures.value, c.records.ensures) at some));
    }

pub returns : goal.returns
returns g c = record {
  reply = c.step-reply.result;
  makes = record {
    keeps = c.step-reply.ensures.keeps;
    lanes = c.in_ok-take_all.ensures.lanes;
    stands_for = c.step-reply.ensures.stands;
    takes = λ before stood.
        c.in_ok-take_all.ensures.traced
        ∙ ap (λ (events : List Record). with_records c.args.time c.args.step.member events c.args.traced.now) (
        c.as_slice.ensures.value ∙ c.records.ensures
        ∙ ap (λ (call : Call). records_of call (not c.is_resume-first.result) c.step-reply.result) c.in_ok-call.ensures
        ∙ ap (λ (again : Bool). records_of (call_meant c.args.step.call (open_call_of c.args.team.now c.args.step.member)) (not again) c.step-reply.result) c.is_resume-first.ensures
        ∙ records_are g.S.Shares.stands g.S.Shares.members c.args.team.now.icv c.args.team.now before c.args.step c.step-reply.result stood (c.step-reply.ensures.answer before stood)
        );
  };
  code_is = c.code_with.ensures;
}
