use Rattle.gomp_command.specs.CommandLine.{asked_by}
use Rattle.gomp_command.proofs.CommandLemmas.{request_asked}
use Rattle.gomp_command.proofs.command.request_of.Goals as goal

pub returns : goal.returns
returns c = request_asked c.args.matches.now c.in-Some.found.now c.in-Some.name.now c.get_strs.result (asked_by c.new.result) c.in-Some.ensures.name c.in-Some.ensures.rows c.get_strs.ensures c.new.ensures
