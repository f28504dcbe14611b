use Rattle.std.proofs.Common.{◌≡◌, ◌∙◌, Ok, Some, ap, sym, rules}
use Rattle.gomp_text.specs.Words.{words_of}
use Rattle.gomp_script.specs.StepText.{first_item, item_words, items_of, unsigned_of, without_value}
use Rattle.gomp_script.proofs.ItemLemmas.{address_good, item_kept}
use Rattle.gomp_script.proofs.parse.items.test_items.Goals as goal

pub loop-item-preserved : goal.loop-item-preserved
loop-item-preserved c =
    let item = c.in-Some.item in
    let found : first_item (words_of c.loop-item.rest.now) ≡ Ok (Some (item_words item)) = search rules in
    let good : unsigned_of item.addr.now ≡ Ok c.in_ok-unsigned_of.field-0 = search rules in
    let here = ap without_value (item_kept (words_of c.loop-item.rest.now) item.kind item.addr.now (words_of item.rest.now) found) in
    sym (here ∙ address_good item.kind item.addr.now c.in_ok-unsigned_of.field-0 (items_of (words_of item.rest.now)) good) ∙ c.loop-item.invariant
