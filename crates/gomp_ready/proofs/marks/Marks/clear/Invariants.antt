use Rattle.std.proofs.Common.{◌≡◌, length, take}
use Rattle.std.specs.Prelude.{replicate}
use Rattle.gomp_ready.proofs.marks.Marks.clear.Given as goal

abbrev pub invariant-loop-member : goal.invariant-loop-member
invariant-loop-member l = record {
  zero : take l.member l.self-inside.members.items ≡ replicate l.member (replicate 65 0);
  members : length l.self-inside.members.items ≡ length l.initial.self-inside.members.items;
}
