use Rattle.std.proofs.Common.{◌≡◌, true, false, Bool, refl, sym, ◌∙◌, ap}
use Rattle.std.specs.Prelude.{◌||◌}
use Rattle.gomp_depend.specs.FreeTasks.{is_listed_free}
use Rattle.gomp_depend.specs.Rows.{names_items, row_in, is_waiting_row}
use Rattle.gomp_depend.proofs.Listing.{row_is_free, row_is_waiting, held_is_not_none, waiting_is_counted, waiting_not_freed, tied_lowered, tied_freed}
use Rattle.gomp_depend.proofs.Lowering.{lowers_one}
use Rattle.gomp_depend.proofs.rows.RowTable.lower.Goals as goal

pub free-requires : goal.free-requires
free-requires c =
    let was : is_waiting_row (row_in c.args.task c.args.self.now.rows) ≡ true = row_is_waiting (row_in c.args.task c.args.self.now.rows) c.requires.items (held_is_not_none (row_in c.args.task c.args.self.now.rows) c.requires.held) in
    record {
      new = waiting_not_freed c.args.self.now.rows c.args.self.now.list c.args.task c.args.self.now.tied was;
      waits = waiting_is_counted c.args.self.now.rows c.args.self.now.list c.args.task c.args.self.now.tied was;
    }

pub invariant_of-self : goal.invariant_of-self
invariant_of-self c =
    let was : is_waiting_row (row_in c.args.task c.args.self.now.rows) ≡ true = row_is_waiting (row_in c.args.task c.args.self.now.rows) c.requires.items (held_is_not_none (row_in c.args.task c.args.self.now.rows) c.requires.held) in
    let some : names_items (row_in c.args.task c.lower_row.new.rows) ≡ true = ap names_items c.lower_row.ensures.row ∙ c.requires.items in
    let free = row_is_free (row_in c.args.task c.lower_row.new.rows) some (sym c.lower_row.ensures.free ∙ c.if-lower_row.true) in
    record { tied = tied_freed c.args.self.now.rows c.lower_row.new.rows c.args.self.now.list c.free.new.self c.args.task c.args.self.now.tied was free.0 free.1 c.lower_row.ensures.others c.free.ensures.freed c.free.ensures.waiting }

pub invariant_of-self-else-lower_row : goal.invariant_of-self-else-lower_row
invariant_of-self-else-lower_row c =
    let was : is_waiting_row (row_in c.args.task c.args.self.now.rows) ≡ true = row_is_waiting (row_in c.args.task c.args.self.now.rows) c.requires.items (held_is_not_none (row_in c.args.task c.args.self.now.rows) c.requires.held) in
    let some : names_items (row_in c.args.task c.lower_row.new.rows) ≡ true = ap names_items c.lower_row.ensures.row ∙ c.requires.items in
    record {
      tied = tied_lowered c.args.self.now.rows c.lower_row.new.rows c.args.self.now.list c.args.task c.args.self.now.tied was
          (row_is_waiting (row_in c.args.task c.lower_row.new.rows) some (sym c.lower_row.ensures.free ∙ c.if-lower_row.false)) c.lower_row.ensures.others;
    }

pub returns-then-lower_row-clause-lowers : goal.returns-then-lower_row-clause-lowers
returns-then-lower_row-clause-lowers c =
    lowers_one c.args.task true c.args.self.now _ c.requires.held c.requires.items c.lower_row.ensures.row c.lower_row.ensures.others (sym c.if-lower_row.true ∙ c.lower_row.ensures.free) c.free.ensures.freed c.free.ensures.count c.lower_row.ensures.entries

pub returns-else-lower_row-clause-lowers : goal.returns-else-lower_row-clause-lowers
returns-else-lower_row-clause-lowers c =
    lowers_one c.args.task false c.args.self.now _ c.requires.held c.requires.items c.lower_row.ensures.row c.lower_row.ensures.others (sym c.if-lower_row.false ∙ c.lower_row.ensures.free) (λ t. or_with_false (is_listed_free t c.args.self.now.list)) refl c.lower_row.ensures.entries
  where
    or_with_false : (b : Bool) → b ≡ (b || false)
    or_with_false true = refl
    or_with_false false = refl
