use Rattle.std.proofs.Common.{◌≡◌, ◌≤◌, ℕ, Bool, length, take, drop, filter}
use Rattle.std.specs.List.{concat}
use Rattle.gomp_ready.specs.Ready.{AnswersBy}
use Rattle.gomp_ready.proofs.stages.retain_each.Given as goal

abbrev pub invariant-loop-member : goal.invariant-loop-member
invariant-loop-member g l = record {
  tasks : (test : ℕ → Bool) → AnswersBy (goal.F-post g l.keep) test → concat (take l.member l.deques.items) ≡ filter test (concat (take l.member l.initial.deques.items));
  further : drop l.member l.deques.items ≡ drop l.member l.initial.deques.items;
  members : length l.deques.items ≡ length l.initial.deques.items;
  count : l.count ≡ length (concat (take l.member l.deques.items));
  fewer : l.count ≤ length (concat (take l.member l.initial.deques.items));
}
