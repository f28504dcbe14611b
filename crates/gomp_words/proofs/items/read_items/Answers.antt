use Rattle.std.proofs.Common.{sym, ◌∙◌}
use Rattle.gomp_words.proofs.Readings.{item_pushed, items_take_memory, no_items_read}
use Rattle.gomp_words.proofs.items.read_items.Goals as goal

pub loop-rest-preserved : goal.loop-rest-preserved
loop-rest-preserved c =
    item_pushed c.args.words.now c.loop-rest.rest.now c.loop-rest.items c.push.new.self c.in-Some.kind
    c.loop-rest.invariant c.in-len2-up.len_at_least (sym c.read_dep_kind.ensures ∙ c.in-Some.is) c.in_default-push.ensures.items

pub returns-then-not-are_items-clause-items : goal.returns-then-not-are_items-clause-items
returns-then-not-are_items-clause-items c =
    sym (no_items_read c.args.words.now c.loop-rest.rest.now c.loop-rest.items c.in-Some.kind
    c.loop-rest.invariant c.in-len2-up.len_at_least (sym c.read_dep_kind.ensures ∙ c.in-Some.is) (sym c.if-not-are_items.ensures))

pub returns-in-Err-clause-memory : goal.returns-in-Err-clause-memory
returns-in-Err-clause-memory c = λ _.
    items_take_memory c.args.words.now c.loop-rest.rest.now c.loop-rest.items c.in-Some.kind
    c.loop-rest.invariant c.in-len2-up.len_at_least (sym c.read_dep_kind.ensures ∙ c.in-Some.is) (sym c.if-not-are_items.ensures)
