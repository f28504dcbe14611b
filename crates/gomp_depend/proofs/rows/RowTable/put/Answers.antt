use Rattle.std.proofs.Common.{ℕ, ◌∙◌, ap, arith, Bool}
use Rattle.std.specs.Prelude.{◌==◌, ◌||◌}
use Rattle.gomp_types.proofs.Booleans.{other_number}
use Rattle.gomp_depend.proofs.Listing.{row_is_free, row_is_waiting, unnamed_not_freed, tied_put, tied_put_free}
use Rattle.gomp_depend.proofs.rows.RowTable.put.Goals as goal

pub free-requires : goal.free-requires
free-requires c = record { new = c.add.ensures.freed c.args.task ∙ unnamed_not_freed c.args.self.now.rows c.args.self.now.list c.args.task c.args.self.now.tied c.requires.new; waits = omega (arith, c.add.ensures.waiting) }

pub invariant_of-self : goal.invariant_of-self
invariant_of-self c = record {
  tied = tied_put_free c.args.self.now.rows c.put_row.new.rows c.args.self.now.list c.free.new.self c.args.task c.args.row c.args.self.now.tied c.requires.new (row_is_free c.args.row c.requires.items (ap (λ (n : ℕ). n == 0) c.if-is_free.true)).0 c.put_row.ensures.row c.put_row.ensures.others
      (λ t. c.free.ensures.freed t ∙ ap (λ (b : Bool). b || (c.args.task == t)) (c.add.ensures.freed t)) (omega (arith, c.add.ensures.waiting, c.free.ensures.waiting));
}

pub invariant_of-self-else-is_free : goal.invariant_of-self-else-is_free
invariant_of-self-else-is_free c = record {
  tied = tied_put c.args.self.now.rows c.put_row.new.rows c.args.self.now.list c.add.new.self c.args.task c.args.row c.args.self.now.tied c.requires.new (row_is_waiting c.args.row c.requires.items (other_number c.args.row.held_count 0 c.if-is_free.false)) c.put_row.ensures.row c.put_row.ensures.others
      c.add.ensures.freed c.add.ensures.waiting;
}
