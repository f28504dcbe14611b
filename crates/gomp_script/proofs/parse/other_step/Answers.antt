use Rattle.std.proofs.Common.{◌≡◌, Some, None, sym, ap, ◌∙◌}
use Rattle.std.specs.Prelude.{option_map}
use Rattle.gomp_script.specs.StepText.{call_on, lock_call_of}
use Rattle.gomp_script.proofs.parse.other_step.Goals as goal

pub returns-then-is_word-3 : goal.returns-then-is_word-3
returns-then-is_word-3 c = rw (sym c.is_word.ensures ∙ c.if-is_word.false, sym c.is_word-2.ensures ∙ c.if-is_word-2.false, sym c.is_word-3.ensures ∙ c.if-is_word-3.true) c.copy_end_step.ensures

pub returns-then-is_word-4 : goal.returns-then-is_word-4
returns-then-is_word-4 c = rw (sym c.is_word.ensures ∙ c.if-is_word.false, sym c.is_word-2.ensures ∙ c.if-is_word-2.false, sym c.is_word-3.ensures ∙ c.if-is_word-3.false, sym c.is_word-4.ensures ∙ c.if-is_word-4.true) c.ordered_step.ensures

pub returns-then-is_word-5 : goal.returns-then-is_word-5
returns-then-is_word-5 c = rw (sym c.is_word.ensures ∙ c.if-is_word.false, sym c.is_word-2.ensures ∙ c.if-is_word-2.false, sym c.is_word-3.ensures ∙ c.if-is_word-3.false, sym c.is_word-4.ensures ∙ c.if-is_word-4.false, sym c.is_word-5.ensures ∙ c.if-is_word-5.true) c.critical_step.ensures

pub returns-then-is_word-6 : goal.returns-then-is_word-6
returns-then-is_word-6 c = rw (sym c.is_word.ensures ∙ c.if-is_word.false, sym c.is_word-2.ensures ∙ c.if-is_word-2.false, sym c.is_word-3.ensures ∙ c.if-is_word-3.false, sym c.is_word-4.ensures ∙ c.if-is_word-4.false, sym c.is_word-5.ensures ∙ c.if-is_word-5.false, sym c.is_word-6.ensures ∙ c.if-is_word-6.true) c.critical_end_step.ensures

pub returns-then-is_word-7 : goal.returns-then-is_word-7
returns-then-is_word-7 c = rw (sym c.is_word.ensures ∙ c.if-is_word.false, sym c.is_word-2.ensures ∙ c.if-is_word-2.false, sym c.is_word-3.ensures ∙ c.if-is_word-3.false, sym c.is_word-4.ensures ∙ c.if-is_word-4.false, sym c.is_word-5.ensures ∙ c.if-is_word-5.false, sym c.is_word-6.ensures ∙ c.if-is_word-6.false, sym c.is_word-7.ensures ∙ c.if-is_word-7.true) c.cancel_step.ensures

pub returns-then-is_word-8 : goal.returns-then-is_word-8
returns-then-is_word-8 c = rw (sym c.is_word.ensures ∙ c.if-is_word.false, sym c.is_word-2.ensures ∙ c.if-is_word-2.false, sym c.is_word-3.ensures ∙ c.if-is_word-3.false, sym c.is_word-4.ensures ∙ c.if-is_word-4.false, sym c.is_word-5.ensures ∙ c.if-is_word-5.false, sym c.is_word-6.ensures ∙ c.if-is_word-6.false, sym c.is_word-7.ensures ∙ c.if-is_word-7.false, sym c.is_word-8.ensures ∙ c.if-is_word-8.true) c.point_step.ensures

pub returns-in-Some : goal.returns-in-Some
returns-in-Some c =
    let call : lock_call_of c.args.call.now ≡ Some (call_on c.in-Some.lock_call) = sym c.lock_call_of.ensures ∙ ap (option_map call_on) c.in-Some.is in
    rw (sym c.is_word.ensures ∙ c.if-is_word.false, sym c.is_word-2.ensures ∙ c.if-is_word-2.false, sym c.is_word-3.ensures ∙ c.if-is_word-3.false, sym c.is_word-4.ensures ∙ c.if-is_word-4.false, sym c.is_word-5.ensures ∙ c.if-is_word-5.false, sym c.is_word-6.ensures ∙ c.if-is_word-6.false, sym c.is_word-7.ensures ∙ c.if-is_word-7.false, sym c.is_word-8.ensures ∙ c.if-is_word-8.false, call) c.lock_step.ensures

pub returns-in-None : goal.returns-in-None
returns-in-None c =
    let call : lock_call_of c.args.call.now ≡ None = sym c.lock_call_of.ensures ∙ ap (option_map call_on) c.in-None.is in
    rw (sym c.is_word.ensures ∙ c.if-is_word.false, sym c.is_word-2.ensures ∙ c.if-is_word-2.false, sym c.is_word-3.ensures ∙ c.if-is_word-3.false, sym c.is_word-4.ensures ∙ c.if-is_word-4.false, sym c.is_word-5.ensures ∙ c.if-is_word-5.false, sym c.is_word-6.ensures ∙ c.if-is_word-6.false, sym c.is_word-7.ensures ∙ c.if-is_word-7.false, sym c.is_word-8.ensures ∙ c.if-is_word-8.false, call) c.plain_step.ensures
