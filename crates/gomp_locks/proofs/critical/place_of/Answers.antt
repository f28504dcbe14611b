use Rattle.std.proofs.Common.{◌≡◌, ℕ, Option, Some, None, refl, IfNone, rules}
use Rattle.gomp_locks.proofs.CountLemmas.{times_none}
use Rattle.gomp_locks.specs.Counts.{times_in}
use Rattle.gomp_locks.proofs.critical.place_of.Goals as goal

pub returns-clause-none : goal.returns-clause-none
returns-clause-none c = by_result c.rposition.result refl
  where
    by_result : (r : Option ℕ) → c.rposition.result ≡ r → IfNone r (times_in c.args.owner c.args.holders.now ≡ 0)
    by_result None e = times_none c.args.owner c.args.holders.now (search rules)
    by_result (Some i) e = tt
