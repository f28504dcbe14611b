use Rattle.std.specs.List.{AllWithin}
use Rattle.std.proofs.Common.{false}
use Rattle.gomp_ready.proofs.stages.place_of.Given as goal

abbrev pub invariant-loop-place : goal.invariant-loop-place
invariant-loop-place g l = record {
  refused : AllWithin (λ t. goal.F-post g l.may t false) l.list.items l.from l.place;
}
