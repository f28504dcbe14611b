use Rattle.std.proofs.Common.{◌≡◌, ◌∙◌, Ok, Some, sym, rules}
use Rattle.gomp_text.specs.Words.{words_of}
use Rattle.gomp_script.specs.StepText.{first_item, item_words}
use Rattle.gomp_script.proofs.ItemLemmas.{item_behind}
use Rattle.gomp_script.proofs.parse.items.behind_items.Goals as goal

pub loop-item-preserved : goal.loop-item-preserved
loop-item-preserved c =
    let item = c.in-Some.item in
    let found : first_item (words_of c.loop-item.rest.now) ≡ Ok (Some (item_words item)) = search rules in
    sym (item_behind (words_of c.loop-item.rest.now) item.kind item.addr.now (words_of item.rest.now) found) ∙ c.loop-item.invariant
