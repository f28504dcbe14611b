use Rattle.std.proofs.Common.{◌≡◌, ◌∙◌, Ok, Err, refl, sym, rules}
use Rattle.gomp_text.specs.Words.{words_of}
use Rattle.gomp_script.specs.declared.parse.LineError.TheVariants.{Fault}
use Rattle.gomp_script.specs.StepText.{behind_items, items_of, member_named, taskwait_step}
use Rattle.gomp_script.proofs.ItemLemmas.{fault_of_items}
use Rattle.gomp_script.proofs.parse.task.taskwait_step.Goals as goal

pub returns-in_err-test_items-clause-step : goal.returns-in_err-test_items-clause-step
unfolding taskwait_step
returns-in_err-test_items-clause-step c =
    let words = words_of c.args.rest.now in
    let why = c.in_err-test_items.field-0.0 in
    let fault = fault_of_items (items_of words) why (sym c.test_items.ensures ∙ c.in_err-test_items.was) in
    let behind : behind_items words ≡ Ok (words_of c.in_ok-behind.behind.now) = search rules in
    let member : member_named c.args.member.now ≡ Ok c.in_ok-member.member = search rules in
    let given : c.from_residual-in_err-test_items.result ≡ Err (Fault why) = search rules in
    rw (given, behind, member, fault) refl
