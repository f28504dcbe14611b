use Rattle.std.proofs.Common.{◌≡◌, ◌-◌, ◌++◌, take, drop, length}
use Rattle.std.specs.Prelude.{map}
use Rattle.gomp_ready.proofs.marks.lower_each.Given as goal

abbrev pub invariant-loop-member : goal.invariant-loop-member
invariant-loop-member l = record {
  lower : l.members.items ≡ map (map (λ mark. mark - l.gone)) (take l.member l.initial.members.items) ++ drop l.member l.initial.members.items;
  members : length l.members.items ≡ length l.initial.members.items;
}
