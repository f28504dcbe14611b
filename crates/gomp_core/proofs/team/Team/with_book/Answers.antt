use Rattle.std.proofs.Common.{◌≡◌, ◌<◌, Err, arith, inl, inr}
use Rattle.std.proofs.lemmas.Bool.{cases_lt}
use Rattle.gomp_types.specs.declared.refusal.Refusal.TheVariants.{BadTeam}
use Rattle.gomp_types.specs.Limits.{standard}
use Rattle.gomp_core.specs.Stands.{terms_by}
use Rattle.gomp_core.specs.LocksMade.{lock_kinds_of, locks_made}
use Rattle.gomp_core.proofs.LocksStand.{begins_with_locks}
use Rattle.gomp_core.proofs.team.Team.with_book.Goals as goal

pub new_checked-requires-clause-known : goal.new_checked-requires-clause-known
new_checked-requires-clause-known g c = λ size.
    let some : 0 < c.args.count = let one = size.0 in omega arith in
    (locks_made (lock_kinds_of c.args.book.locks), begins_with_locks (terms_by c.args.count standard c.args.icv) c.args.book c.without_holds.result some c.without_holds.ensures.bound c.without_holds.ensures.names c.without_holds.ensures.locks)

pub returns-clause-stands : goal.returns-clause-stands
returns-clause-stands g c =
    elim (cases_lt 0 c.args.count) [
      | inl some ↦ c.new_checked.ensures.stands (locks_made (lock_kinds_of c.args.book.locks))
          (begins_with_locks (terms_by c.args.count standard c.args.icv) c.args.book c.without_holds.result some c.without_holds.ensures.bound c.without_holds.ensures.names c.without_holds.ensures.locks)
      | inr none ↦
          let refused : c.new_checked.result ≡ Err BadTeam = c.new_checked.ensures.size.1 (λ size. absurd (let one = size.0 in omega arith)) in
          rw refused tt
    ]
