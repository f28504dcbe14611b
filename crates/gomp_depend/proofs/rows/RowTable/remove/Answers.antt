use Rattle.std.proofs.Common.{◌≡◌, ℕ, rules, sym, ◌∙◌, ap, true, false, refl}
use Rattle.std.specs.Prelude.{◌≢◌}
use Rattle.gomp_depend.specs.Rows.{no_row, row_in, is_waiting_row}
use Rattle.gomp_depend.proofs.Listing.{waiting_is_counted, tied_same, tied_removed, tied_removed_free}
use Rattle.gomp_depend.proofs.rows.RowTable.remove.Goals as goal

pub invariant_of-self : goal.invariant_of-self
invariant_of-self c =
    let same : (t : ℕ) → row_in t c.remove.new.self ≡ row_in t c.args.self.now.rows = λ t. search rules in
    record { tied = tied_same c.args.self.now.rows c.remove.new.self c.args.self.now.list c.args.self.now.list c.args.self.now.tied same (λ t. refl) refl }

pub take_out-requires : goal.take_out-requires
take_out-requires c =
    let row : row_in c.args.task c.args.self.now.rows ≡ c.in_ok-row.row = search rules in
    let was : is_waiting_row (row_in c.args.task c.args.self.now.rows) ≡ true = ap is_waiting_row row ∙ sym c.is_waiting.ensures ∙ c.if-is_waiting.true in
    record { waits = waiting_is_counted c.args.self.now.rows c.args.self.now.list c.args.task c.args.self.now.tied was }

pub invariant_of-self-then-is_waiting : goal.invariant_of-self-then-is_waiting
invariant_of-self-then-is_waiting c =
    let row : row_in c.args.task c.args.self.now.rows ≡ c.in_ok-row.row = search rules in
    let was : is_waiting_row (row_in c.args.task c.args.self.now.rows) ≡ true = ap is_waiting_row row ∙ sym c.is_waiting.ensures ∙ c.if-is_waiting.true in
    let gone : row_in c.args.task c.remove.new.self ≡ no_row = search rules in
    let others : (t : ℕ) → t ≢ c.args.task → row_in t c.remove.new.self ≡ row_in t c.args.self.now.rows = λ t differ. search rules in
    record { tied = tied_removed c.args.self.now.rows c.remove.new.self c.args.self.now.list c.take_out.new.self c.args.task c.args.self.now.tied c.requires.held was gone others c.take_out.ensures.freed c.take_out.ensures.waiting }

pub invariant_of-self-else-is_waiting : goal.invariant_of-self-else-is_waiting
invariant_of-self-else-is_waiting c =
    let row : row_in c.args.task c.args.self.now.rows ≡ c.in_ok-row.row = search rules in
    let idle : is_waiting_row (row_in c.args.task c.args.self.now.rows) ≡ false = ap is_waiting_row row ∙ sym c.is_waiting.ensures ∙ c.if-is_waiting.false in
    let gone : row_in c.args.task c.remove.new.self ≡ no_row = search rules in
    let others : (t : ℕ) → t ≢ c.args.task → row_in t c.remove.new.self ≡ row_in t c.args.self.now.rows = λ t differ. search rules in
    record { tied = tied_removed_free c.args.self.now.rows c.remove.new.self c.args.self.now.list c.args.task c.args.self.now.tied c.requires.held idle gone others }
