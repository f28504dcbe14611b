use Rattle.std.proofs.Common.{◌≡◌, ◌<◌}
use Rattle.gomp_types.specs.declared.limits.TheConstants.{MAX_MEMBERS}
use Rattle.gomp_member_tests.proofs.regions.run_all.Given as goal

abbrev pub invariant-loop-case : goal.invariant-loop-case
invariant-loop-case g l = (l.ledger ≡ g.L.Ledger.parts) × (MAX_MEMBERS < l.share.held.parts) × (MAX_MEMBERS < l.share.freed.parts)
