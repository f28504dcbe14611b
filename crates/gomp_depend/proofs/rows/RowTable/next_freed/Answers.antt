use Rattle.gomp_depend.proofs.Listing.{handed_were_freed, tied_handed}
use Rattle.gomp_depend.proofs.rows.RowTable.next_freed.Goals as goal

pub invariant_of-self : goal.invariant_of-self
invariant_of-self c = record {
  tied = tied_handed c.args.self.now.rows c.args.self.now.list c.next_freed.new.self c.args.self.now.tied
      (handed_were_freed c.args.self.now.list c.next_freed.new.self c.next_freed.result c.next_freed.ensures.freed c.next_freed.ensures.same) c.next_freed.ensures.waiting;
}
