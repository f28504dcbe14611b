use Rattle.std.proofs.Common.{◌∙◌}
use Rattle.gomp_lines.specs.Lines.{without}
use Rattle.gomp_depend.proofs.Freeing.{agree_left}
use Rattle.gomp_depend.proofs.Leaving.{are_in_left, leaves_books, own_line, stands_for_no_task}
use Rattle.gomp_depend.proofs.depends.leave_one.Goals as goal

pub free_all-requires : goal.free_all-requires
free_all-requires c =
    let (n, parents, deps, all, books, leaves) = c.requires.leaves in
    record {
      known = (
        n,
        without c.args.task (all c.args.parent c.args.addr),
        parents,
        deps,
        c.leave.ensures.queues n (all c.args.parent c.args.addr) (books.stand c.args.parent c.args.addr).queues leaves.there,
        agree_left c.args.task c.args.parent c.args.addr parents deps c.args.lines.now c.leave.new.self c.args.rows.now books.agree leaves.no_items c.leave.ensures.held c.leave.ensures.others,
        are_in_left c.args.task c.args.parent c.args.addr parents deps all leaves,
      );
    }

pub returns : goal.returns
returns c = record {
  books = λ n parents deps all books leaves.
      let qs = c.leave.ensures.queues n (all c.args.parent c.args.addr) (books.stand c.args.parent c.args.addr).queues leaves.there in
      let agree = agree_left c.args.task c.args.parent c.args.addr parents deps c.args.lines.now c.leave.new.self c.args.rows.now books.agree leaves.no_items c.leave.ensures.held c.leave.ensures.others in
      let now = c.free_all.ensures.stands n _ qs in
      leaves_books c.args.task c.args.parent c.args.addr n parents deps all c.args.lines.now c.leave.new.self c.free_all.new.lines c.drop_empty.new.self c.args.rows.now c.free_all.new.rows books
      c.leave.ensures.others c.free_all.ensures.others c.drop_empty.ensures.others now (c.drop_empty.ensures.stands n _ now)
      (c.free_all.ensures.agree n _ parents deps qs agree (are_in_left c.args.task c.args.parent c.args.addr parents deps all leaves));
  lowers = c.free_all.ensures.lowers;
  others = λ p a away. c.drop_empty.ensures.others p a away ∙ c.free_all.ensures.others p a away ∙ c.leave.ensures.others p a away;
  dropped = λ n parents deps all books leaves none.
      let qs = c.leave.ensures.queues n (all c.args.parent c.args.addr) (books.stand c.args.parent c.args.addr).queues leaves.there in
      c.drop_empty.ensures.dropped n (stands_for_no_task n _ _ (own_line c.args.task c.args.parent c.args.addr all none) (c.free_all.ensures.stands n _ qs));
}
