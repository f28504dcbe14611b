use Rattle.std.proofs.Common.{◌≡◌, ℕ, ◌+◌, ◌<◌, ◌≤◌, get_or}
use Rattle.std.specs.Prelude.{sum_by}
use Rattle.gomp_ompt.specs.Counts.{capped}
use Rattle.gomp_ompt.proofs.counts.CountsTool.join.Given as goal

-- the counts so far are added, the others are as they were
abbrev pub invariant-loop-index : goal.invariant-loop-index
invariant-loop-index l = ((k : ℕ) → k < l.index → get_or l.self-inside.counts k 0 ≡ capped (get_or l.initial.self-inside.counts k 0 + sum_by (λ child. get_or child k 0) l.children.items))
    × ((k : ℕ) → l.index ≤ k → get_or l.self-inside.counts k 0 ≡ get_or l.initial.self-inside.counts k 0)
