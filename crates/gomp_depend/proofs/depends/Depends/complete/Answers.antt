use Rattle.std.proofs.Common.{◌∷◌, ◌∙◌, ap, sym, suc, arith}
use Rattle.gomp_events.specs.Tasks.{tasks_created}
use Rattle.gomp_events.specs.declared.event.Event.TheVariants.{Done}
use Rattle.gomp_lines.specs.Lines.{line_of}
use Rattle.gomp_depend.specs.Rows.{or_no_row}
use Rattle.gomp_depend.specs.Stands.{open_items, open_parent}
use Rattle.gomp_depend.proofs.Keeping.{agree_done, row_tells, items_while_open, items_have_row, done_row_leaves, stands_done, clause_is_empty, clause_has_items, freed_by_end, nothing_without_items, nothing_is_kept}
use Rattle.gomp_depend.proofs.Laws.{ended_without_items}
use Rattle.gomp_depend.proofs.depends.Depends.complete.Goals as goal

pub returns-then-is_empty-clause-stands : goal.returns-then-is_empty-clause-stands
returns-then-is_empty-clause-stands c = λ h m st is its.
    (ended_without_items c.args.self.now c.args.task m h st c.requires.freed is (sym its ∙ clause_is_empty c.args.items.now (sym c.is_empty.ensures ∙ c.if-is_empty.true))).0

pub returns-then-is_empty-clause-freed : goal.returns-then-is_empty-clause-freed
returns-then-is_empty-clause-freed c = λ h m st is its.
    (ended_without_items c.args.self.now c.args.task m h st c.requires.freed is (sym its ∙ clause_is_empty c.args.items.now (sym c.is_empty.ensures ∙ c.if-is_empty.true))).1

pub leave_all-requires : goal.leave_all-requires
leave_all-requires c =
    let (h, st, is, its) = c.requires.open in
    let row = ap or_no_row (sym c.in-Some.is) ∙ c.remove.ensures.row in
    let own = row_tells c.args.task h c.args.self.now.lines c.args.self.now.rows c.in-Some.row st.books.agree row in
    record {
      leaves = (
        suc (tasks_created h),
        open_parent (Done c.args.task 0 ∷ h),
        open_items (Done c.args.task 0 ∷ h),
        (λ p a. line_of p a h),
        record { stand = st.books.stand; agree = agree_done c.args.task 0 h c.args.self.now.lines c.args.self.now.rows c.remove.new.self st.books.agree c.remove.ensures.gone c.remove.ensures.others },
        done_row_leaves c.args.task 0 h c.in-Some.row.parent c.args.items.now st.order is own (its ∙ sym (items_while_open c.args.task h is)),
      );
    }

pub returns-clause-stands : goal.returns-clause-stands
returns-clause-stands c = λ h m st is its.
    let row = ap or_no_row (sym c.in-Some.is) ∙ c.remove.ensures.row in
    let own = row_tells c.args.task h c.args.self.now.lines c.args.self.now.rows c.in-Some.row st.books.agree row in
    let open_ones = its ∙ sym (items_while_open c.args.task h is) in
    stands_done c.args.task m h _ c.in-Some.row.parent c.args.items.now st.order is own open_ones
    (c.leave_all.ensures.books (suc (tasks_created h)) (open_parent (Done c.args.task m ∷ h)) (open_items (Done c.args.task m ∷ h)) (λ p a. line_of p a h)
    (record { stand = st.books.stand; agree = agree_done c.args.task m h c.args.self.now.lines c.args.self.now.rows c.remove.new.self st.books.agree c.remove.ensures.gone c.remove.ensures.others })
    (done_row_leaves c.args.task m h c.in-Some.row.parent c.args.items.now st.order is own open_ones))

pub returns-clause-freed : goal.returns-clause-freed
returns-clause-freed c = λ h m st is its.
    freed_by_end c.args.task c.args.self.now _ h (Done c.args.task m ∷ h) c.remove.new.self st (returns-clause-stands c h m st is its) c.requires.freed c.remove.ensures.gone c.remove.ensures.others c.remove.ensures.freed c.leave_all.ensures.lowers

pub returns-clause-waiting : goal.returns-clause-waiting
returns-clause-waiting c = omega (arith, c.leave_all.ensures.lowers.listed, c.remove.ensures.listed)

pub unreachable-requires : goal.unreachable-requires
unreachable-requires c =
    let (h, st, is, its) = c.requires.open in
    items_have_row c.args.task h c.args.self.now c.args.items.now st is its (clause_has_items c.args.items.now (sym c.is_empty.ensures ∙ c.if-is_empty.false)) (ap or_no_row (sym c.in_default.is) ∙ c.remove.ensures.row)

pub returns-then-is_empty-clause-gone : goal.returns-then-is_empty-clause-gone
returns-then-is_empty-clause-gone c = λ h m st is its.
    nothing_without_items c.args.task m h c.args.self.now c.args.items.now (clause_is_empty c.args.items.now (sym c.is_empty.ensures ∙ c.if-is_empty.true))

pub returns-clause-gone : goal.returns-clause-gone
returns-clause-gone c = λ h m st is its.
    let row = ap or_no_row (sym c.in-Some.is) ∙ c.remove.ensures.row in
    let own = row_tells c.args.task h c.args.self.now.lines c.args.self.now.rows c.in-Some.row st.books.agree row in
    let open_ones = its ∙ sym (items_while_open c.args.task h is) in
    nothing_is_kept c.args.task m h _ c.in-Some.row.parent c.args.items.now st.order is own open_ones (c.leave_all.ensures.lowers.entries c.args.task ∙ c.remove.ensures.dropped)
    (c.leave_all.ensures.dropped (suc (tasks_created h)) (open_parent (Done c.args.task m ∷ h)) (open_items (Done c.args.task m ∷ h)) (λ p a. line_of p a h)
    (record { stand = st.books.stand; agree = agree_done c.args.task m h c.args.self.now.lines c.args.self.now.rows c.remove.new.self st.books.agree c.remove.ensures.gone c.remove.ensures.others })
    (done_row_leaves c.args.task m h c.in-Some.row.parent c.args.items.now st.order is own open_ones))
