use Rattle.std.proofs.Common.{◌≡◌}
use Rattle.std.specs.Prelude.{option_copied}
use Rattle.gomp_region.specs.ScriptText.{statements_left, refused_by}
use Rattle.gomp_region.proofs.TextLemmas.{left}
use Rattle.gomp_region.proofs.parse.first_fault.Given as goal

-- no line so far is bad
abbrev pub invariant-loop-rest : goal.invariant-loop-rest
invariant-loop-rest l = refused_by (statements_left l.number l.around (option_copied l.rest)) ≡ refused_by (statements_left l.fn.first l.fn.around (option_copied l.fn.lines))

abbrev pub decreases-loop-rest : goal.decreases-loop-rest
decreases-loop-rest l = left (option_copied l.rest)
