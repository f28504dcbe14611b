use Rattle.std.proofs.Common.{refl, sym, ap, ◌∙◌}
use Rattle.std.specs.Prelude.{is_some}
use Rattle.gomp_depend.proofs.Addresses.{class_at_named}
use Rattle.gomp_depend.proofs.Tables.{on_ok_then}
use Rattle.gomp_depend.proofs.Keeping.{stands_reserved}
use Rattle.gomp_depend.proofs.depends.Depends.reserve.Goals as goal

pub returns-in_err-reserve_all-clause-stands : goal.returns-in_err-reserve_all-clause-stands
returns-in_err-reserve_all-clause-stands c = λ h st. stands_reserved c.args.self.now _ h c.reserve_all.ensures.stands (λ t. refl) st

pub returns-clause-stands : goal.returns-clause-stands
returns-clause-stands c = λ h st. stands_reserved c.args.self.now _ h c.reserve_all.ensures.stands c.reserve.ensures.rows st

pub returns-clause-room : goal.returns-clause-room
returns-clause-room c = on_ok_then c.reserve.result (λ row. record {
  row = λ _. row;
  lines = λ a class is. c.in_ok-reserve_all.ensures.room a class (sym (class_at_named a c.args.items.now) ∙ ap is_some is) is;
}) c.reserve.ensures.room

pub returns-in_err-reserve_all-clause-stood : goal.returns-in_err-reserve_all-clause-stood
returns-in_err-reserve_all-clause-stood c = λ h st. stands_reserved _ c.args.self.now h c.reserve_all.ensures.stood (λ t. refl) st

pub returns-clause-stood : goal.returns-clause-stood
returns-clause-stood c = λ h st. stands_reserved _ c.args.self.now h c.reserve_all.ensures.stood (λ t. sym (c.reserve.ensures.rows t)) st
