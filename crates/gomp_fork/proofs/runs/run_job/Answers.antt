use Rattle.gomp_fork.proofs.Forkings.{ran_within}
use Rattle.gomp_fork.proofs.runs.run_job.Goals as goal

pub returns : goal.returns
returns g c = ran_within g.P.Program g.T.Tool g.C.Site.forks g.K.Forking.forks c.requires.within c.args.job.runner c.drive.result.runner c.drive.result.taken c.drive.ensures
