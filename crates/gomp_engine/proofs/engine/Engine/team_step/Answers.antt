use Rattle.std.proofs.Common.{refl}
use Rattle.gomp_engine.proofs.engine.Engine.team_step.Goals as goal

pub returns-in-Some : goal.returns-in-Some
returns-in-Some c = rw c.in-Some.is (c.reply_numbers.new.team, c.reply_numbers.ensures, refl)
