-- What words that are a step say: the member by the second word, the call by the others.
use Rattle.std.proofs.Common.{ℕ, ◌≡◌, ◌≤◌, ◌<◌, ◌^◌, Bool, true, false, List, [], ◌∷◌, Option, Some, None, refl, sym, ◌∙◌, ap, suc, zero, arith}
use Rattle.std.proofs.lemmas.Bool.{leb-true}
use Rattle.std.specs.Prelude.{nat_lt, if◌then◌else◌}
use Rattle.std.specs.List.{All}
use Rattle.gomp_types.specs.declared.call.Call.{Call}
use Rattle.gomp_types.specs.declared.call.Step.{Step}
use Rattle.gomp_words.specs.declared.step.StepRead.TheVariants as asks
use Rattle.gomp_words.specs.Calls.{call_of}
use Rattle.gomp_words.specs.StepWords.{asked_by, step_of, step_words, with_member}
use Rattle.gomp_words.proofs.Exact.{IsWord, call_exact}

-- a call of a member whose number is tested
tested_member : (member : ℕ) (call : Call) (step : Step) (below : Bool) →
    (if below then asks.Step (record { member = member; call = call }) else asks.NoMember) ≡ asks.Step step → (below ≡ true) × (step ≡ record { member = member; call = call })
tested_member member call step true is = (refl, cc)
tested_member member call step false is = cc

asked_step : (member : ℕ) (found : Option Call) (step : Step) → asked_by member found ≡ asks.Step step →
    (member < 2 ^ 16) × (step.member ≡ member) × (found ≡ Some step.call)
asked_step member None step is = cc
asked_step member (Some call) step is =
    let found = tested_member member call step (nat_lt member (2 ^ 16)) is in
    (leb-true (suc member) (2 ^ 16) found.0, ap (λ (s : Step). s.member) found.1, ap (λ (s : Step). Some s.call) (sym found.1))

-- the member is the one of the second word, which lies below 2^16, and the call is that of the other words
pub step_has_its_member : (number member : ℕ) (arguments : List ℕ) (step : Step) → step_of (number ∷ member ∷ arguments) ≡ asks.Step step →
    (member < 2 ^ 16) × (step.member ≡ member) × (call_of (number ∷ arguments) ≡ Some step.call)
step_has_its_member number member arguments step is = asked_step member (call_of (number ∷ arguments)) step is

-- no number above is that of a member
pub no_member_above : (number member : ℕ) (arguments : List ℕ) (step : Step) → 2 ^ 16 ≤ member → step_of (number ∷ member ∷ arguments) ≡ asks.Step step → ⊥
no_member_above number member arguments step above is =
    let below : member < 2 ^ 16 = (step_has_its_member number member arguments step is).0 in omega arith

without_second : (number member : ℕ) (arguments : List ℕ) → All IsWord (number ∷ member ∷ arguments) → All IsWord (number ∷ arguments)
without_second number member arguments fit zero d here = fit 0 d (omega arith)
without_second number member arguments fit (suc k) d here = fit (suc (suc k)) d (omega arith)

pub step_exact : (words : List ℕ) (step : Step) → All IsWord words → step_of words ≡ asks.Step step → step_words step ≡ words
step_exact [] step fit is = cc
step_exact (number ∷ []) step fit is = cc
step_exact (number ∷ member ∷ arguments) step fit is =
    let has = step_has_its_member number member arguments step is in
    ap (with_member step.member) (call_exact (number ∷ arguments) step.call (without_second number member arguments fit) has.2)
    ∙ ap (λ m. number ∷ m ∷ arguments) has.1
