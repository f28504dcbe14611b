use Rattle.std.proofs.Common.{◌≡◌, Some, length, ap, ◌∙◌, sym, arith}
use Rattle.gomp_tasks.specs.Rows.{without_child}
use Rattle.gomp_tasks.proofs.RowsAt.{row_is_there, row_under, as_many_rows}
use Rattle.gomp_tasks.proofs.TablesKeep.{all_needed, not_needed, needed_by_a_child, parent_row, parent_stands_below, last_row_taken_out}
use Rattle.gomp_tasks.proofs.tasks.+release.Goals as goal

pub release-returns-then-is_needed-clause-stand : goal.release-returns-then-is_needed-clause-stand
release-returns-then-is_needed-clause-stand t c = λ h stacks roots but. all_needed c.args.task c.args.rows.now.rows stacks roots h but (λ row at over.
    let same : Some c.args.row ≡ Some row = sym c.requires.there ∙ at in
    let is : c.args.row ≡ row = cc in
    needed_by_a_child row (rw is at (sym c.is_needed.ensures ∙ c.if-is_needed.true)) over)

pub release-release_parent-requires : goal.release-release_parent-requires
release-release_parent-requires t c =
    let known = c.requires.known in
    let free = not_needed c.args.row (sym c.is_needed.ensures ∙ c.if-is_needed.false) in
    let up = parent_row c.args.task c.in-Explicit.parent c.args.rows.now.rows known.1 known.2 c.args.row known.0 known.3 c.requires.there c.in-Explicit.is in
    let less = up.older in (
      omega (arith, less, c.decreases),
      (
        rw c.remove.ensures.rows (row_is_there _ c.in-Explicit.parent up.above up.stays),
        (
          rw (c.remove.ensures.rows, up.stays) up.some,
          (
            known.0,
            known.1,
            known.2,
            rw c.remove.ensures.rows (parent_stands_below c.args.task c.in-Explicit.parent c.args.rows.now.rows known.1 known.2 c.args.row known.0 known.3 c.requires.there free.0 free.1 c.in-Explicit.is),
          ),
        ),
      ),
    )

pub release-returns-in-Implicit-clause-stand : goal.release-returns-in-Implicit-clause-stand
release-returns-in-Implicit-clause-stand t c = λ h stacks roots but.
    let free = not_needed c.args.row (sym c.is_needed.ensures ∙ c.if-is_needed.false) in
    rw c.remove.ensures.rows (last_row_taken_out c.args.task c.in-Implicit.field-0 c.args.rows.now.rows stacks roots c.args.row h but c.requires.there free.0 free.1 c.in-Implicit.is)

pub release-returns-in-Explicit-clause-stand : goal.release-returns-in-Explicit-clause-stand
release-returns-in-Explicit-clause-stand t c = λ h stacks roots but.
    let free = not_needed c.args.row (sym c.is_needed.ensures ∙ c.if-is_needed.false) in
    c.release_parent.ensures.stand h stacks roots (rw c.remove.ensures.rows (parent_stands_below c.args.task c.in-Explicit.parent c.args.rows.now.rows stacks roots c.args.row h but c.requires.there free.0 free.1 c.in-Explicit.is))

pub release_parent-release-requires : goal.release_parent-release-requires
release_parent-release-requires t c =
    let known = c.requires.known in
    let found = row_under c.args.rows.now.rows c.args.parent c.requires.there in (
      omega (arith, c.decreases),
      (
        c.remove_child-above.ensures.row,
        (
          known.0,
          known.1,
          known.2,
          rw (c.remove_child-above.ensures.rows found.0 found.1) (known.3 found.0 found.1),
        ),
      ),
    )

pub release_parent-returns-clause-count : goal.release_parent-returns-clause-count
release_parent-returns-clause-count t c =
    let found = row_under c.args.rows.now.rows c.args.parent c.requires.there in
    c.release.ensures.count ∙ ap length (c.remove_child-above.ensures.rows found.0 found.1) ∙ as_many_rows c.args.rows.now.rows c.args.parent (Some (without_child found.0))

pub release_parent-returns-clause-stand : goal.release_parent-returns-clause-stand
release_parent-returns-clause-stand t c = λ h stacks roots below.
    let found = row_under c.args.rows.now.rows c.args.parent c.requires.there in
    c.release.ensures.stand h stacks roots (rw (c.remove_child-above.ensures.rows found.0 found.1) (below found.0 found.1))
