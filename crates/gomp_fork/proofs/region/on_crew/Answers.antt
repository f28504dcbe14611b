use Rattle.std.proofs.Common.{◌≡◌, ◌+◌, inl, refl, sym, ◌∙◌, arith, map, length}
use Rattle.std.specs.Prelude.{All, vec_len}
use Rattle.gomp_fork.proofs.EnoughThreads.{enough_threads}
use Rattle.std.proofs.lemmas.List.{length-map}
use Rattle.gomp_team_region.specs.Regions.{HasOneOfEach}
use Rattle.gomp_team_region.proofs.Whole.{holds_come_back, one_of_each_is_the_whole, releases_come_back}
use Rattle.gomp_fork.specs.Teams.{members_of, team_of}
use Rattle.gomp_fork.proofs.PartsBack.{ends_have_one_of_each}
use Rattle.gomp_fork.proofs.SeatsBack.{opened_seats_come_back}
use Rattle.gomp_fork.specs.Counts.{counted_in}
use Rattle.gomp_fork.proofs.CountsBack.{all_is_counted, half_is_back}
use Rattle.gomp_fork.proofs.Rans.{all_left, blamed_for_a_cause, one_for_each_program, opened_jobs_have_run, refused_leaves_none, unbegun_for_a_cause, unbegun_leaves_none}
use Rattle.gomp_fork.proofs.region.on_crew.Goals as goal

pub report_of-requires-clause-whole : goal.report_of-requires-clause-whole
report_of-requires-clause-whole g c =
    let progs = c.args.forked.progs in
    let tools = c.args.forked.tools in
    let team = team_of c.args.ground.terms in
    let opened = c.in-Ok-open_region.opened in
    let outcomes = c.run_by-outcomes.result.items in
    let ends = map (λ outcome. outcome.runner) outcomes in
    let taken = map (λ outcome. outcome.taken) outcomes in
    let back = c.take_apart-returned.ensures in
    let ran = opened_jobs_have_run g.P.Program g.T.Tool g.K.Forking.forks (length progs.items) (λ job. job.runner) (λ outcome. outcome.runner) (λ outcome. outcome.taken)
    team progs.items tools.items opened.team opened.jobs.items outcomes refl c.in-Ok-open_region.ensures.team c.run_by-outcomes.ensures.kept in
    let each : All HasOneOfEach (members_of ends) = ends_have_one_of_each g.P.Program g.T.Tool g.K.Forking.forks (length progs.items) team 0 progs.items tools.items ends taken ran in
    let count : length (members_of ends) ≡ progs.len =
    length-map ends (λ end. end.member) ∙ one_for_each_program g.P.Program g.T.Tool g.K.Forking.forks (length progs.items) team 0 progs.items tools.items ends taken ran ∙ sym progs.ok.0 in
    rw back.members (one_of_each_is_the_whole c.args.ground.terms.number c.args.ground.terms.icv progs.len g.L.Ledger.parts opened.team (members_of ends) c.in-Ok-open_region.ensures.region each count)

pub report_of-requires-clause-seats : goal.report_of-requires-clause-seats
report_of-requires-clause-seats g c =
    let opened = c.in-Ok-open_region.opened in
    let back = c.take_apart-returned.ensures in
    rw back.members (opened_seats_come_back g.P.Program g.T.Tool g.K.Forking.forks (λ job. job.runner) (λ outcome. outcome.runner) (λ outcome. outcome.taken)
    (team_of c.args.ground.terms) c.args.forked.progs.items c.args.forked.tools.items opened.team opened.jobs.items c.run_by-outcomes.result.items c.in-Ok-open_region.ensures.team c.run_by-outcomes.ensures.kept)

pub returns-in-Ok-open_region-clause-region : goal.returns-in-Ok-open_region-clause-region
returns-in-Ok-open_region-clause-region g c =
    let progs = c.args.forked.progs in
    let tools = c.args.forked.tools in
    let team = team_of c.args.ground.terms in
    let opened = c.in-Ok-open_region.opened in
    let outcomes = c.run_by-outcomes.result.items in
    let ends = map (λ outcome. outcome.runner) outcomes in
    let taken = map (λ outcome. outcome.taken) outcomes in
    let back = c.take_apart-returned.ensures in
    let ran = opened_jobs_have_run g.P.Program g.T.Tool g.K.Forking.forks (length progs.items) (λ job. job.runner) (λ outcome. outcome.runner) (λ outcome. outcome.taken)
    team progs.items tools.items opened.team opened.jobs.items outcomes refl c.in-Ok-open_region.ensures.team c.run_by-outcomes.ensures.kept in
    all_left g.P.Program g.T.Tool g.K.Forking.forks team progs.items tools.items ends taken opened.team.rest c.take_apart-returned.result (counted_in c.args.share.now) (counted_in c.report_of.new.share) c.report_of.result.result
    ran (sym tools.ok.0 ∙ c.requires.tools ∙ progs.ok.0) back.members back.progs c.in-Ok-open_region.ensures.region.none c.report_of.ensures.ok c.report_of.ensures.err
    (all_is_counted (progs.len + progs.len) c.args.share.now.held c.args.share.now.freed c.open_region.new.share.held c.open_region.new.share.freed c.take_apart-returned.new.share.held c.take_apart-returned.new.share.freed
    c.report_of.new.share.held c.report_of.new.share.freed ends c.in-Ok-open_region.ensures.held c.in-Ok-open_region.ensures.freed back.counted (rw (sym back.members) c.report_of.ensures.held) (rw (sym back.members) c.report_of.ensures.freed))

pub returns-in-Ok-open_region-clause-held : goal.returns-in-Ok-open_region-clause-held
returns-in-Ok-open_region-clause-held g c =
    let progs = c.args.forked.progs in
    let tools = c.args.forked.tools in
    let team = team_of c.args.ground.terms in
    let opened = c.in-Ok-open_region.opened in
    let outcomes = c.run_by-outcomes.result.items in
    let ends = map (λ outcome. outcome.runner) outcomes in
    let taken = map (λ outcome. outcome.taken) outcomes in
    let back = c.take_apart-returned.ensures in
    let ran = opened_jobs_have_run g.P.Program g.T.Tool g.K.Forking.forks (length progs.items) (λ job. job.runner) (λ outcome. outcome.runner) (λ outcome. outcome.taken)
    team progs.items tools.items opened.team opened.jobs.items outcomes refl c.in-Ok-open_region.ensures.team c.run_by-outcomes.ensures.kept in
    let each : All HasOneOfEach (members_of ends) = ends_have_one_of_each g.P.Program g.T.Tool g.K.Forking.forks (length progs.items) team 0 progs.items tools.items ends taken ran in
    let count : length (members_of ends) ≡ progs.len =
    length-map ends (λ end. end.member) ∙ one_for_each_program g.P.Program g.T.Tool g.K.Forking.forks (length progs.items) team 0 progs.items tools.items ends taken ran ∙ sym progs.ok.0 in
    let inner : c.take_apart-returned.new.share.held.parts ≡ c.open_region.new.share.held.parts + progs.len = omega (arith, back.held, c.run_by-outcomes.ensures.count, c.in-Ok-open_region.ensures.jobs) in
    holds_come_back progs.len (record { parts = c.args.share.now.held.parts; amount = c.take_apart-returned.new.share.held.amount }) c.take_apart-returned.new.share.held c.report_of.new.share.held (members_of ends)
    (half_is_back progs.len c.args.share.now.held c.open_region.new.share.held c.take_apart-returned.new.share.held c.in-Ok-open_region.ensures.held inner) (rw (sym back.members) c.report_of.ensures.held) each count

pub returns-in-Ok-open_region-clause-freed : goal.returns-in-Ok-open_region-clause-freed
returns-in-Ok-open_region-clause-freed g c =
    let progs = c.args.forked.progs in
    let tools = c.args.forked.tools in
    let team = team_of c.args.ground.terms in
    let opened = c.in-Ok-open_region.opened in
    let outcomes = c.run_by-outcomes.result.items in
    let ends = map (λ outcome. outcome.runner) outcomes in
    let taken = map (λ outcome. outcome.taken) outcomes in
    let back = c.take_apart-returned.ensures in
    let ran = opened_jobs_have_run g.P.Program g.T.Tool g.K.Forking.forks (length progs.items) (λ job. job.runner) (λ outcome. outcome.runner) (λ outcome. outcome.taken)
    team progs.items tools.items opened.team opened.jobs.items outcomes refl c.in-Ok-open_region.ensures.team c.run_by-outcomes.ensures.kept in
    let each : All HasOneOfEach (members_of ends) = ends_have_one_of_each g.P.Program g.T.Tool g.K.Forking.forks (length progs.items) team 0 progs.items tools.items ends taken ran in
    let count : length (members_of ends) ≡ progs.len =
    length-map ends (λ end. end.member) ∙ one_for_each_program g.P.Program g.T.Tool g.K.Forking.forks (length progs.items) team 0 progs.items tools.items ends taken ran ∙ sym progs.ok.0 in
    let inner : c.take_apart-returned.new.share.freed.parts ≡ c.open_region.new.share.freed.parts + progs.len = omega (arith, back.freed, c.run_by-outcomes.ensures.count, c.in-Ok-open_region.ensures.jobs) in
    releases_come_back progs.len (record { parts = c.args.share.now.freed.parts; amount = c.take_apart-returned.new.share.freed.amount }) c.take_apart-returned.new.share.freed c.report_of.new.share.freed (members_of ends)
    (half_is_back progs.len c.args.share.now.freed c.open_region.new.share.freed c.take_apart-returned.new.share.freed c.in-Ok-open_region.ensures.freed inner) (rw (sym back.members) c.report_of.ensures.freed) each count

pub run_by-outcomes-requires-clause-enough : goal.run_by-outcomes-requires-clause-enough
run_by-outcomes-requires-clause-enough g c =
    enough_threads c.grow_for.result c.args.crew.now c.grow_for.new.crew c.len-count.result (vec_len c.in-Ok-open_region.opened.jobs) (sym c.is_err.ensures.value ∙ c.if-is_err.false) c.grow_for.ensures.ok
    (c.in-Ok-open_region.ensures.jobs ∙ sym c.len-count.ensures) (rw c.len-count.ensures c.requires.size.0)

pub returns-in_default-clause-region : goal.returns-in_default-clause-region
returns-in_default-clause-region g c =
    unbegun_leaves_none g.P.Program g.T.Tool g.K.Forking.forks (team_of c.args.ground.terms) c.args.forked.progs.items c.args.forked.tools.items c.args.share.now.held c.args.share.now.freed
    c.not_begun.result.result c.not_begun.ensures.fault c.not_begun.ensures.progs c.not_begun.ensures.tools c.not_begun.ensures.refusal

pub returns-then-is_err-clause-region : goal.returns-then-is_err-clause-region
returns-then-is_err-clause-region g c =
    unbegun_leaves_none g.P.Program g.T.Tool g.K.Forking.forks (team_of c.args.ground.terms) c.args.forked.progs.items c.args.forked.tools.items c.args.share.now.held c.args.share.now.freed
    c.not_begun-then-is_err.result.result c.not_begun-then-is_err.ensures.fault c.not_begun-then-is_err.ensures.progs c.not_begun-then-is_err.ensures.tools c.not_begun-then-is_err.ensures.refusal

pub returns-clause-region : goal.returns-clause-region
returns-clause-region g c =
    refused_leaves_none g.P.Program g.T.Tool g.K.Forking.forks (team_of c.args.ground.terms) c.args.forked.progs.items c.args.forked.tools.items c.args.share.now.held c.args.share.now.freed
    c.open_region.new.share.held c.open_region.new.share.freed c.in-Err.unopened.fault c.in-Err.ensures.progs c.in-Err.ensures.tools (inl c.in-Err.ensures.refusal) c.in-Err.ensures.held_back c.in-Err.ensures.freed_back

pub returns-in-Ok-open_region-clause-caused : goal.returns-in-Ok-open_region-clause-caused
returns-in-Ok-open_region-clause-caused g c =
    blamed_for_a_cause c.report_of.result.result c.report_of.result.ledger c.in-Ok-open_region.opened.team.ring c.in-Ok-open_region.opened.team.rest c.take_apart-returned.result c.report_of.ensures.err c.report_of.ensures.blamed

pub returns-in_default-clause-caused : goal.returns-in_default-clause-caused
returns-in_default-clause-caused g c = unbegun_for_a_cause c.not_begun.result.result c.not_begun.result.ledger c.not_begun.ensures.refusal

pub returns-then-is_err-clause-caused : goal.returns-then-is_err-clause-caused
returns-then-is_err-clause-caused g c = unbegun_for_a_cause c.not_begun-then-is_err.result.result c.not_begun-then-is_err.result.ledger c.not_begun-then-is_err.ensures.refusal

pub returns-clause-caused : goal.returns-clause-caused
returns-clause-caused g c = λ some. inl c.in-Err.ensures.refusal
