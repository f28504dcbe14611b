use Rattle.std.proofs.Common.{length, subst, arith}
use Rattle.gomp_fork.specs.Teams.{HasBegun}
use Rattle.gomp_fork.proofs.Begins.{job_behind_has_begun}
use Rattle.gomp_fork.proofs.returned.+jobs_of.Goals as goal

pub returns-clause-begun : goal.returns-clause-begun
returns-clause-begun g t c =
    let older = c.pop.new.self.items in
    let last : HasBegun g.T.Tool c.args.size (length older) c.in-Some.member c.begun.result =
    subst (λ k. HasBegun g.T.Tool c.args.size k c.in-Some.member c.begun.result) (omega (arith, c.len-number.ensures, c.pop.new.self.ok.0, c.in-Some.ensures.len, c.requires.few)) c.begun.ensures in
    rw (c.in-Some.ensures.items, c.push_reserved.ensures.items)
    (job_behind_has_begun g.T.Tool c.args.size (λ job. job.runner) older c.jobs_of-jobs.result.items c.in-Some.member _ c.jobs_of-jobs.ensures.begun last)
