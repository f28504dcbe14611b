use Rattle.std.proofs.Common.{◌∷◌, ◌∙◌, sym, suc, arith}
use Rattle.gomp_events.specs.Tasks.{tasks_created}
use Rattle.gomp_events.specs.declared.event.Event.TheVariants.{Create}
use Rattle.gomp_lines.specs.Lines.{line_of}
use Rattle.gomp_depend.proofs.Addresses.{some_are_named}
use Rattle.gomp_depend.proofs.Keeping.{stands_created, new_has_no_row, clause_is_empty, clause_has_items, freed_by_creation, waits_none_more, waits_one_more}
use Rattle.gomp_depend.proofs.Laws.{created_without_items}
use Rattle.gomp_depend.proofs.depends.Depends.create.Goals as goal

pub returns-then-is_empty-clause-stands : goal.returns-then-is_empty-clause-stands
returns-then-is_empty-clause-stands c = λ h m desc st number its.
    (created_without_items c.args.self.now c.args.task m c.args.parent desc h st c.requires.freed number (its ∙ clause_is_empty c.args.items.now (sym c.is_empty.ensures ∙ c.if-is_empty.true))).0

pub returns-then-is_empty-clause-freed : goal.returns-then-is_empty-clause-freed
returns-then-is_empty-clause-freed c = λ h m desc st number its.
    (created_without_items c.args.self.now c.args.task m c.args.parent desc h st c.requires.freed number (its ∙ clause_is_empty c.args.items.now (sym c.is_empty.ensures ∙ c.if-is_empty.true))).1

pub returns-then-is_empty-clause-waiting : goal.returns-then-is_empty-clause-waiting
returns-then-is_empty-clause-waiting c =
    waits_none_more c.args.items.now _ (clause_is_empty c.args.items.now (sym c.is_empty.ensures ∙ c.if-is_empty.true))

pub join_all-held_count-requires-clause-newer : goal.join_all-held_count-requires-clause-newer
join_all-held_count-requires-clause-newer c =
    let (h, st, number) = c.requires.next in
    (suc (tasks_created h), (λ a. line_of c.args.parent a h), st.books.stand c.args.parent, omega (arith, number))

pub returns-clause-stands : goal.returns-clause-stands
returns-clause-stands c = λ h m desc st number its.
    stands_created c.args.task m c.args.parent desc c.args.items.now c.join_all-held_count.result h c.args.self.now _ st number its
    (clause_has_items c.args.items.now (sym c.is_empty.ensures ∙ c.if-is_empty.false))
    c.join_all-held_count.ensures.count c.join_all-held_count.ensures.held c.join_all-held_count.ensures.others c.join_all-held_count.ensures.joined
    c.put.ensures.row c.put.ensures.others

pub returns-clause-freed : goal.returns-clause-freed
returns-clause-freed c = λ h m desc st number its.
    freed_by_creation c.args.task c.args.self.now _ h (Create c.args.task m c.args.parent desc ∷ h) _ st (returns-clause-stands c h m desc st number its) c.requires.freed
    (new_has_no_row c.args.self.now h c.args.task st number) (some_are_named c.args.items.now ∙ clause_has_items c.args.items.now (sym c.is_empty.ensures ∙ c.if-is_empty.false)) c.put.ensures.row c.put.ensures.others c.put.ensures.freed

pub returns-clause-waiting : goal.returns-clause-waiting
returns-clause-waiting c =
    waits_one_more c.args.items.now _ _ (clause_has_items c.args.items.now (sym c.is_empty.ensures ∙ c.if-is_empty.false)) c.put.ensures.listed

pub put-requires-clause-new : goal.put-requires-clause-new
put-requires-clause-new c =
    let (h, st, number) = c.requires.next in
    new_has_no_row c.args.self.now h c.args.task st number

pub put-requires-clause-items : goal.put-requires-clause-items
put-requires-clause-items c =
    some_are_named c.args.items.now ∙ clause_has_items c.args.items.now (sym c.is_empty.ensures ∙ c.if-is_empty.false)
