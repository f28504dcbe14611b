use Rattle.std.proofs.Common.{◌≡◌, ℕ, refl, rules}
use Rattle.gomp_depend.specs.Rows.{row_in}
use Rattle.gomp_depend.proofs.Listing.{tied_same}
use Rattle.gomp_depend.proofs.rows.RowTable.reserve.Goals as goal

pub invariant_of-self : goal.invariant_of-self
invariant_of-self c = record { tied = tied_same c.args.self.now.rows c.args.self.now.rows c.args.self.now.list c.reserve.new.self c.args.self.now.tied (λ t. refl) c.reserve.ensures.freed c.reserve.ensures.waiting }

pub invariant_of-self-then-is_some : goal.invariant_of-self-then-is_some
invariant_of-self-then-is_some c = record { tied = tied_same c.args.self.now.rows c.args.self.now.rows c.args.self.now.list c.reserve.new.self c.args.self.now.tied (λ t. refl) c.reserve.ensures.freed c.reserve.ensures.waiting }

pub invariant_of-self-2 : goal.invariant_of-self-2
invariant_of-self-2 c =
    let same : (t : ℕ) → row_in t c.insert.new.self ≡ row_in t c.args.self.now.rows = λ t. search rules in
    record { tied = tied_same c.args.self.now.rows c.insert.new.self c.args.self.now.list c.reserve.new.self c.args.self.now.tied same c.reserve.ensures.freed c.reserve.ensures.waiting }
