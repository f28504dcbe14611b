-- At most one reply to a step has its cause, save for which task is run, and for want of memory.
use Rattle.std.proofs.Common.{◌≡◌, Bool, Option, Some, None, refl, ap, sym, ◌∙◌, inl, inr}
use Rattle.std.specs.Prelude.{◌⊎◌}
use Rattle.gomp_types.specs.declared.call.Step.{Step}
use Rattle.gomp_types.specs.declared.refusal.Refusal.{Refusal}
use Rattle.gomp_types.specs.declared.refusal.Refusal.TheVariants.{NoMemory}
use Rattle.gomp_types.specs.declared.reply.Reply.{Reply}
use Rattle.gomp_types.specs.declared.reply.Reply.TheVariants.{Refused}
use Rattle.gomp_model.specs.Past.{Past}
use Rattle.gomp_model.specs.Row.{begun_past, asks_memory}
use Rattle.gomp_model.specs.Calls.{row_of}
use Rattle.gomp_types.specs.Resumes.{call_meant, is_resume}
use Rattle.gomp_model.specs.Team.{row_at, refusal_of, MayRefuse, MayAnswer, OneReply}
use Rattle.gomp_laws.proofs.Sound.{Same}
use Rattle.gomp_laws.proofs.Calls.{row_is_sound}

-- a refusal is want of memory, or that of the tests
refused_by : (first : Option Refusal) (refusal : Refusal) (asks : Bool) → MayRefuse first refusal asks → (refusal ≡ NoMemory) ⊎ (first ≡ Some refusal)
refused_by first NoMemory asks x = inl refl
refused_by first _ asks x = inr x

only_memory : (first : Option Refusal) (refusal : Refusal) (asks : Bool) → MayRefuse first refusal asks → first ≡ None → refusal ≡ NoMemory
only_memory first refusal asks x fine =
    elim (refused_by first refusal asks x) [ inl e ↦ e | inr e ↦ absurd (let none : Some refusal ≡ None = sym e ∙ fine in cc) ]

one_refusal : (first : Option Refusal) (p q : Refusal) (asks : Bool) → MayRefuse first p asks → MayRefuse first q asks → OneReply (Refused p) (Refused q)
one_refusal first p q asks x y =
    elim (refused_by first p asks x) [
      | inl e ↦ inr (inr (inl (ap Refused e)))
      | inr e ↦ elim (refused_by first q asks y) [
        | inl f ↦ inr (inr (inr (ap Refused f)))
        | inr f ↦ inl (let same : Some p ≡ Some q = sym e ∙ f in cc)
      ]
    ]

-- what two answers of a row are to each other
one_of_same : (a b : Reply) → Same a b → OneReply a b
one_of_same a b (inl e) = inl e
one_of_same a b (inr run) = inr (inl run)

pub one_answer : (p : Past) (step : Step) (a b : Reply) → MayAnswer p step a → MayAnswer p step b → OneReply a b
one_answer p step (Refused x) (Refused y) may other = one_refusal (refusal_of p step) x y (asks_memory (row_of step.call) step.member p) may other
one_answer p step (Refused x) b may other = inr (inr (inl (ap Refused (only_memory (refusal_of p step) x (asks_memory (row_of step.call) step.member p) may other.0))))
one_answer p step a (Refused y) may other = inr (inr (inr (ap Refused (only_memory (refusal_of p step) y (asks_memory (row_of step.call) step.member p) other may.0))))
one_answer p step a b may other =
    one_of_same a b ((row_is_sound (call_meant step.call (p.waits step.member).open_call)).decided step.member (begun_past (is_resume step.call) (row_at p step) step.member p) a b may.1 other.1)
