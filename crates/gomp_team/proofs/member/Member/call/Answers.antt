-- The call waits, and is gone on with.
use Rattle.std.proofs.Common.{inr}
use Rattle.gomp_team.proofs.member.Member.call.Goals as goal

pub returns-in-Wait : goal.returns-in-Wait
returns-in-Wait g c = record {
  over = c.resume.ensures.over;
  tries = inr (c.try_call.new.self, c.in-Wait.ensures.called, c.resume.ensures.called);
}
