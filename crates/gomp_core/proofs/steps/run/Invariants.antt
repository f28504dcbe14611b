use Rattle.std.proofs.Common.{◌≡◌, ◌≤◌, ◌++◌, length}
use Rattle.std.specs.Vec.{vec_capacity}
use Rattle.gomp_types.specs.Limits.{standard}
use Rattle.gomp_core.specs.Stands.{Stands, members_of}
use Rattle.gomp_core.specs.Resolved.{record_of}
use Rattle.gomp_core.proofs.steps.run.Given as goal

-- the team stands for the steps so far and their replies, one for each
abbrev pub invariant-loop-step : goal.invariant-loop-step
invariant-loop-step g l = record {
  all : l.yielded ++ l.step-iterator.rest.items ≡ l.fn.steps.items;
  each : length l.replies.items ≡ length l.yielded;
  room : length l.fn.steps.items ≤ vec_capacity l.replies;
  members : members_of l.team ≡ l.fn.count;
  icv : l.team.icv ≡ l.fn.icv;
  limits : l.team.board.limits ≡ standard;
  stands : Stands g.S.Shares.stands g.S.Shares.members l.team (record_of l.fn.icv l.yielded l.replies.items);
}
