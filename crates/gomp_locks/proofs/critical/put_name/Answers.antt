use Rattle.std.proofs.Common.{◌≡◌, ◌∙◌, None, Some, ap, sym}
use Rattle.std.specs.Prelude.{is_some, bytes_eq}
use Rattle.std.specs.Map.{lookup}
use Rattle.std.specs.Ordering.{nat_cmp}
use Rattle.std.specs.Cmp.Lexicographic.{slice_cmp, nat_list_cmp_total}
use Rattle.gomp_locks.proofs.NameLemmas.{written_is_put, found_whole}
use Rattle.gomp_locks.proofs.CountLemmas.{on_error}
use Rattle.gomp_locks.proofs.critical.put_name.Goals as goal

pub returns-in-Some-clause-put : goal.returns-in-Some-clause-put
returns-in-Some-clause-put c =
    (c.get_mut.follows.holds (Some c.args.owner)).0
    ∙ written_is_put (slice_cmp nat_cmp) nat_list_cmp_total c.args.name.now (Some c.args.owner) c.args.names.now.entries c.get_mut.ensures.ordered (ap is_some (sym (rw c.in-Some.is at c.get_mut.ensures.value)))

pub returns-in_err-reserve-in-None-clause-new : goal.returns-in_err-reserve-in-None-clause-new
returns-in_err-reserve-in-None-clause-new c =
    let none : None ≡ lookup (bytes_eq c.args.name.now) c.args.names.now.entries = rw c.in-None.is at c.get_mut.ensures.value ∙ found_whole c.args.name.now c.args.names.now.entries in
    on_error c.from_residual.result (sym none)

pub returns-in_err-insert-in-None-clause-new : goal.returns-in_err-insert-in-None-clause-new
returns-in_err-insert-in-None-clause-new c =
    let none : None ≡ lookup (bytes_eq c.args.name.now) c.args.names.now.entries = rw c.in-None.is at c.get_mut.ensures.value ∙ found_whole c.args.name.now c.args.names.now.entries in
    on_error c.from_residual-in_err-insert-in-None.result (sym none)
