use Rattle.std.proofs.Common.{◌≡◌, ◌∙◌, Ok, Some, [], ◌∷◌, ◌++◌, sym, rules}
use Rattle.gomp_text.specs.Words.{words_of}
use Rattle.gomp_script.specs.StepText.{first_item, item_words, items_of, unsigned_of}
use Rattle.gomp_script.proofs.ItemLemmas.{item_kept, item_last}
use Rattle.gomp_script.proofs.parse.items.items_of.Goals as goal

pub loop-items-preserved : goal.loop-items-preserved
loop-items-preserved c =
    let item = c.in-Some.item in
    let items = c.loop-items.items in
    let later = items_of (words_of item.rest.now) in
    let found : first_item (words_of c.loop-items.rest.now) ≡ Ok (Some (item_words item)) = search rules in
    let good : unsigned_of item.addr.now ≡ Ok c.in_ok-addr.addr = search rules in
    let here = item_kept (words_of c.loop-items.rest.now) item.kind item.addr.now (words_of item.rest.now) found in
    let kept = rw (here, good) at c.loop-items.invariant in
    let pushed : c.push.new.self ≡ items ++ record { kind = item.kind; addr = c.in_ok-addr.addr } ∷ [] = search rules in
    rw pushed (sym (item_last items item.kind c.in_ok-addr.addr later) ∙ kept)
