use Rattle.gomp_course.proofs.Courses.{StandsBy}
use Rattle.gomp_course.proofs.running.drive.Given as goal

abbrev pub invariant-loop : goal.invariant-loop
invariant-loop g l = StandsBy g.P.Program g.T.Tool g.C.Site.forks l.fn.job.runner l.course
