use Rattle.gomp_types.specs.declared.loop_desc.EndKind.TheVariants.{Nowait}
use Rattle.gomp_shares.specs.declared.admission.Construct.TheVariants.{Sections}
use Rattle.gomp_shares.specs.Admission.{all_end_tests}
use Rattle.gomp_shares.proofs.Served.{end_serves_done, end_serves_refused}
use Rattle.gomp_sections.proofs.sections.sections_end_nowait.Goals as goal

pub returns-in-Ok-clause-serves : goal.returns-in-Ok-clause-serves
returns-in-Ok-clause-serves g c = end_serves_done g.S.Shares.stands c.args.shares.now c.end_construct.new.shares (all_end_tests Sections Nowait) c.args.member (rw c.in-Ok.is at c.end_construct.ensures.ends)

pub returns-in-Err-clause-serves : goal.returns-in-Err-clause-serves
returns-in-Err-clause-serves g c = end_serves_refused g.S.Shares.stands c.args.shares.now c.end_construct.new.shares c.in-Err.refusal (all_end_tests Sections Nowait) c.args.member (rw c.in-Err.is at c.end_construct.ensures.ends)
