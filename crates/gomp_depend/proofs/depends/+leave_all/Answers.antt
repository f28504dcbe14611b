use Rattle.std.proofs.Common.{get_or, sym, ap, ◌∙◌}
use Rattle.gomp_types.specs.declared.depend.Dep.{Dep}
use Rattle.gomp_types.specs.declared.depend.DepKind.TheVariants.{DepIn}
use Rattle.gomp_types.proofs.Booleans.{not_both}
use Rattle.gomp_depend.specs.Books.{names, left_by}
use Rattle.gomp_depend.proofs.Lowering.{lowers_nothing, lowers_more}
use Rattle.gomp_depend.proofs.Leaving.{books_same, left_nothing, no_item, later_items, clause_parts, books_again, books_more, clause_leaves_later, clause_leaves_first, dropped_again, dropped_more}
use Rattle.gomp_depend.proofs.depends.+leave_all.Goals as goal

default : Dep
default = record { kind = DepIn; addr = 0 }

pub returns-in_default : goal.returns-in_default
returns-in_default t c = record {
  books = λ n parents deps all books leaves.
      let none = no_item c.args.items.now c.in_default.len_below in
      books_same n parents deps all _ _ _ books (λ p a. rw none (left_nothing c.args.task c.args.parent all p a));
  lowers = lowers_nothing c.args.rows.now;
  dropped = λ n parents deps all books leaves a named.
      let none = no_item c.args.items.now c.in_default.len_below in
      absurd (let unnamed = ap (names a) none in not_both (names a c.args.items.now) named unnamed);
}

pub returns-then-names : goal.returns-then-names
unfolding default
returns-then-names t c = record {
  books = λ n parents deps all books leaves.
      let parts = clause_parts c.args.items.now default c.in-len1-up.len_at_least in
      books_again c.args.task c.args.parent c.args.items.now (get_or c.args.items.now 0 default) (later_items c.args.items.now) n parents deps all _ _ parts (sym c.names.ensures ∙ c.if-names.true)
      (c.leave_all.ensures.books n parents deps all books (clause_leaves_later c.args.task c.args.parent c.args.items.now (get_or c.args.items.now 0 default) (later_items c.args.items.now) parents deps all parts leaves));
  lowers = c.leave_all.ensures.lowers;
  dropped = λ n parents deps all books leaves a named.
      let parts = clause_parts c.args.items.now default c.in-len1-up.len_at_least in
      dropped_again c.args.task c.args.parent c.args.items.now (get_or c.args.items.now 0 default) (later_items c.args.items.now) all c.leave_all.new.lines a parts (sym c.names.ensures ∙ c.if-names.true) named
      (c.leave_all.ensures.dropped n parents deps all books (clause_leaves_later c.args.task c.args.parent c.args.items.now (get_or c.args.items.now 0 default) (later_items c.args.items.now) parents deps all parts leaves) a);
}

pub leave_one-requires : goal.leave_one-requires
unfolding default
leave_one-requires t c =
    let (n, parents, deps, all, books, leaves) = c.requires.leaves in
    let parts = clause_parts c.args.items.now default c.in-len1-up.len_at_least in
    let later = clause_leaves_later c.args.task c.args.parent c.args.items.now (get_or c.args.items.now 0 default) (later_items c.args.items.now) parents deps all parts leaves in
    record {
      leaves = (
        n,
        parents,
        deps,
        left_by c.args.task c.args.parent (later_items c.args.items.now) all,
        c.leave_all.ensures.books n parents deps all books later,
        clause_leaves_first c.args.task c.args.parent c.args.items.now (get_or c.args.items.now 0 default) (later_items c.args.items.now) parents deps all parts (sym c.names.ensures ∙ c.if-names.false) leaves,
      );
    }

pub returns : goal.returns
unfolding default
returns t c = record {
  books = λ n parents deps all books leaves.
      let parts = clause_parts c.args.items.now default c.in-len1-up.len_at_least in
      let last = sym c.names.ensures ∙ c.if-names.false in
      let later = clause_leaves_later c.args.task c.args.parent c.args.items.now (get_or c.args.items.now 0 default) (later_items c.args.items.now) parents deps all parts leaves in
      books_more c.args.task c.args.parent c.args.items.now (get_or c.args.items.now 0 default) (later_items c.args.items.now) n parents deps all _ _ parts last
      (c.leave_one.ensures.books n parents deps (left_by c.args.task c.args.parent (later_items c.args.items.now) all) (c.leave_all.ensures.books n parents deps all books later)
      (clause_leaves_first c.args.task c.args.parent c.args.items.now (get_or c.args.items.now 0 default) (later_items c.args.items.now) parents deps all parts last leaves));
  lowers = lowers_more c.args.rows.now c.leave_all.new.rows c.leave_one.new.rows c.leave_all.ensures.lowers c.leave_one.ensures.lowers;
  dropped = λ n parents deps all books leaves a named.
      let parts = clause_parts c.args.items.now default c.in-len1-up.len_at_least in
      let last = sym c.names.ensures ∙ c.if-names.false in
      let later = clause_leaves_later c.args.task c.args.parent c.args.items.now (get_or c.args.items.now 0 default) (later_items c.args.items.now) parents deps all parts leaves in
      dropped_more c.args.task c.args.parent c.args.items.now (get_or c.args.items.now 0 default) (later_items c.args.items.now) all c.leave_all.new.lines c.leave_one.new.lines a parts last named
      (c.leave_all.ensures.dropped n parents deps all books later a) c.leave_one.ensures.others
      (c.leave_one.ensures.dropped n parents deps (left_by c.args.task c.args.parent (later_items c.args.items.now) all) (c.leave_all.ensures.books n parents deps all books later)
      (clause_leaves_first c.args.task c.args.parent c.args.items.now (get_or c.args.items.now 0 default) (later_items c.args.items.now) parents deps all parts last leaves));
}
