use Rattle.std.proofs.Common.{◌≡◌, [], length, vec_len, take}
use Rattle.std.specs.Vec.{vec_capacity}
use Rattle.gomp_shares.specs.Runs.{AreAnswers, events_of_run}
use Rattle.gomp_shares.proofs.calls.make_calls.Given as goal

-- the answers so far are those of the calls so far, and the shares stand for what they gave
abbrev pub invariant-loop-step : goal.invariant-loop-step
invariant-loop-step g l =
    let members = g.S.Shares.members in let stands = g.S.Shares.stands in
    record {
      team : members l.shares ≡ l.count;
      room : vec_capacity l.answers ≡ length l.steps;
      count : vec_len l.answers ≡ l.step-index;
      told : AreAnswers l.count (take l.step-index l.steps) l.answers.items [];
      now : stands l.shares (events_of_run l.count (take l.step-index l.steps) l.answers.items []);
    }
