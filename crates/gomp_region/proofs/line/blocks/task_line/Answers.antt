use Rattle.std.proofs.Common.{◌≡◌, ◌∙◌, Ok, Err, sym, refl, rules}
use Rattle.gomp_text.specs.Words.{words_of}
use Rattle.gomp_script.specs.declared.parse.LineError.TheVariants.{Fault}
use Rattle.gomp_script.specs.StepText.{behind_items, items_of}
use Rattle.gomp_script.proofs.ItemLemmas.{fault_of_items}
use Rattle.gomp_region.specs.ScriptText.{task_line}
use Rattle.gomp_region.proofs.line.blocks.task_line.Goals as goal

pub returns-in_err-test_items-clause-statement : goal.returns-in_err-test_items-clause-statement
unfolding task_line
returns-in_err-test_items-clause-statement c =
    let words = words_of c.take_option-final_task.result.1.now in
    let why = c.in_err-test_items.field-0.0 in
    let fault = fault_of_items (items_of words) why (sym c.test_items.ensures ∙ c.in_err-test_items.was) in
    let behind : behind_items words ≡ Ok (words_of c.in_ok-behind.behind.now) = search rules in
    let given : c.from_residual-in_err-test_items.result ≡ Err (Fault why) = search rules in
    rw (given, c.take_option-undeferred.ensures, c.take_option-final_task.ensures, behind, fault) refl
