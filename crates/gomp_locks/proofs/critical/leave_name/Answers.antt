use Rattle.std.proofs.Common.{◌≡◌, ◌∙◌, None, true, false, ap, length}
use Rattle.std.specs.Prelude.{is_some}
use Rattle.std.specs.Ordering.{nat_cmp}
use Rattle.std.specs.Cmp.Lexicographic.{slice_cmp, nat_list_cmp_total}
use Rattle.std.proofs.lemmas.Map.{length-set_value}
use Rattle.gomp_locks.proofs.NameLemmas.{written_is_put, found_whole}
use Rattle.gomp_locks.proofs.critical.leave_name.Goals as goal

pub unreachable-requires : goal.unreachable-requires
unreachable-requires c =
    let never : false ≡ true = ap is_some (rw c.in-None.is at c.get_mut.ensures.value ∙ found_whole c.args.name.now c.args.names.now.entries) ∙ c.requires.known in cc

pub returns-clause-left : goal.returns-clause-left
returns-clause-left c =
    (c.get_mut.follows.holds None).0
    ∙ written_is_put (slice_cmp nat_cmp) nat_list_cmp_total c.args.name.now None c.args.names.now.entries c.get_mut.ensures.ordered (ap is_some (found_whole c.args.name.now c.args.names.now.entries) ∙ c.requires.known)

pub returns-clause-len : goal.returns-clause-len
returns-clause-len c = ap length (c.get_mut.follows.holds None).0 ∙ length-set_value _ c.args.names.now.entries None
