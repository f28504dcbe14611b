use Rattle.std.proofs.Common.{◌≡◌, ◌++◌, length}
use Rattle.gomp_trace.specs.Runs.{HasMade}
use Rattle.gomp_trace.proofs.run.make_steps.Given as goal

-- the steps so far are made, and traced
abbrev pub invariant-loop-step : goal.invariant-loop-step
invariant-loop-step g l = record {
  all : l.yielded ++ l.step-iterator.rest.items ≡ l.fn.steps.items;
  count : l.time ≡ length l.yielded;
  made : HasMade g.S.Shares.stands g.S.Shares.members l.fn.team.icv l.fn.members l.yielded l.team l.traced l.code;
}
