use Rattle.gomp_course.proofs.Courses.{has_run_then, stands_after, stands_rejoined}
use Rattle.gomp_course.proofs.running.drive.Goals as goal

pub loop-preserved-in-On : goal.loop-preserved-in-On
loop-preserved-in-On g c = stands_after g.P.Program g.T.Tool g.C.Site.forks c.args.job.runner c.loop.course c.go_on.new.self c.in-On.ensures.moves c.loop.invariant

pub returns-in-Over : goal.returns-in-Over
returns-in-Over g c =
    let ran = has_run_then g.P.Program g.T.Tool g.C.Site.forks c.args.job.runner c.loop.course c.go_on.new.self c.in-Over.ensures.moves c.loop.invariant in
    rw (c.outcome.ensures.runner, c.outcome.ensures.taken) ran

pub loop-preserved : goal.loop-preserved
loop-preserved g c =
    stands_rejoined g.P.Program g.T.Tool g.C.Site.forks c.args.job.runner c.in-Fork.asked c.loop.course c.go_on.new.self c.fork-course.result
    c.in-Fork.ensures.moves c.fork-course.ensures.rejoins c.loop.invariant
