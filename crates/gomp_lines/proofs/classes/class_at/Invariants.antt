use Rattle.std.proofs.Common.{◌≡◌, drop}
use Rattle.gomp_lines.specs.Classes.{class_with, class_at}
use Rattle.gomp_lines.proofs.classes.class_at.Given as goal

abbrev pub invariant-loop-item : goal.invariant-loop-item
invariant-loop-item l = class_with l.class l.addr (drop l.item-index l.items) ≡ class_at l.addr l.items
