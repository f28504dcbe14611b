use Rattle.std.proofs.Common.{◌≡◌, ◌-◌, ◌++◌, take, drop}
use Rattle.std.specs.Prelude.{map}
use Rattle.gomp_ready.proofs.marks.MemberMarks.lower.Given as goal

abbrev pub invariant-loop-level : goal.invariant-loop-level
invariant-loop-level l = record {
  lower : l.self-inside.levels ≡ map (λ mark. mark - l.gone) (take l.level l.initial.self-inside.levels) ++ drop l.level l.initial.self-inside.levels;
}
