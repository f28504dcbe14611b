-- Texts of steps keep the numbers of their lines and all of their steps and items, however many there are: each lemma holds for every number up to 2^64 - 1.
use Rattle.std.proofs.Common.{◌≡◌, ℕ, zero, suc, ◌+◌, ◌^◌, ◌<◌, List, [], ◌∷◌, ◌++◌, replicate, Result, Ok, Err, codes, refl, ap, ◌∙◌, arith}
use Rattle.gomp_types.specs.declared.depend.Dep.{Dep}
use Rattle.gomp_types.specs.declared.depend.DepKind.TheVariants.{DepIn}
use Rattle.gomp_types.specs.Limits.{shown_number}
use Rattle.gomp_script.specs.declared.parse.BadLine.{BadLine}
use Rattle.gomp_types.specs.declared.call.Step.{Step}
use Rattle.gomp_script.specs.declared.parse.Why.{Why}
use Rattle.gomp_script.specs.declared.parse.Why.TheVariants.{MissingWord}
use Rattle.gomp_script.specs.StepText.{bad_line, with_front, with_team, with_item, steps_from, text_from, items_of, plain_step, unsigned_of}
use Rattle.gomp_script.specs.Examples.{item_of, next_step}

-- a line is bad by its number, whatever that is, and a team has its count and its steps
pub bad_line_keeps_its_number : (number count : ℕ) (why : Why) (steps : List Step) → (bad_line {A = List Step} number why ≡ Err (record { line = number; why = why })) × (with_team count (Ok steps) ≡ Ok (count, steps))
bad_line_keeps_its_number number count why steps = (refl, refl)

-- the number of the next line
number_of_next_line : (number count : ℕ) → number + suc count < 2 ^ 64 → shown_number (number + 1) ≡ number + 1
number_of_next_line number count fits = omega (arith, fits)

-- so many empty lines are counted, each as one, before the steps and before the team
pub empty_lines_before_steps : (count number : ℕ) (lines : List (List ℕ)) → number + count < 2 ^ 64 → steps_from number (replicate count [] ++ lines) ≡ steps_from (number + count) lines
empty_lines_before_steps zero number lines fits = ap (λ (at : ℕ). steps_from at lines) (let same : number ≡ number + 0 = omega arith in same)
empty_lines_before_steps (suc count) number lines fits =
    let later = empty_lines_before_steps count (number + 1) lines (omega (arith, fits)) in
    let same : number + 1 + count ≡ number + suc count = omega arith in
    ap (λ (at : ℕ). steps_from at (replicate count [] ++ lines)) (number_of_next_line number count fits) ∙ later ∙ ap (λ (at : ℕ). steps_from at lines) same

pub empty_lines_before_a_team : (count number : ℕ) (lines : List (List ℕ)) → number + count < 2 ^ 64 → text_from number (replicate count [] ++ lines) ≡ text_from (number + count) lines
empty_lines_before_a_team zero number lines fits = ap (λ (at : ℕ). text_from at lines) (let same : number ≡ number + 0 = omega arith in same)
empty_lines_before_a_team (suc count) number lines fits =
    let later = empty_lines_before_a_team count (number + 1) lines (omega (arith, fits)) in
    let same : number + 1 + count ≡ number + suc count = omega arith in
    ap (λ (at : ℕ). text_from at (replicate count [] ++ lines)) (number_of_next_line number count fits) ∙ later ∙ ap (λ (at : ℕ). text_from at lines) same

-- so many steps are all read
pub steps_are_all_read : (count number : ℕ) → number + count < 2 ^ 64 → steps_from number (replicate count (codes "0 next")) ≡ Ok (replicate count next_step)
unfolding plain_step
steps_are_all_read zero number fits = refl
steps_are_all_read (suc count) number fits =
    let later = steps_are_all_read count (number + 1) (omega (arith, fits)) in
    ap (λ (at : ℕ). with_front next_step (steps_from at (replicate count (codes "0 next")))) (number_of_next_line number count fits) ∙ ap (λ (read : Result (List Step) BadLine). with_front next_step read) later

-- and a bad line behind them has its number
pub bad_line_behind_steps : (count number : ℕ) → number + count < 2 ^ 64 → steps_from number (replicate count (codes "0 next") ++ codes "0" ∷ []) ≡ bad_line (number + count) MissingWord
unfolding plain_step
bad_line_behind_steps zero number fits = ap (λ (at : ℕ). bad_line {A = List Step} at MissingWord) (let same : number ≡ number + 0 = omega arith in same)
bad_line_behind_steps (suc count) number fits =
    let later = bad_line_behind_steps count (number + 1) (omega (arith, fits)) in
    let same : number + 1 + count ≡ number + suc count = omega arith in
    ap (λ (at : ℕ). with_front next_step (steps_from at (replicate count (codes "0 next") ++ codes "0" ∷ []))) (number_of_next_line number count fits) ∙ ap (λ (read : Result (List Step) BadLine). with_front next_step read) later ∙ ap (λ (at : ℕ). bad_line {A = List Step} at MissingWord) same

-- the words of so many items
abbrev words_of_items : ℕ → List (List ℕ)
words_of_items zero = []
words_of_items (suc count) = codes "in" ∷ codes "18446744073709551615" ∷ words_of_items count

-- are all read
pub items_are_all_read : (count : ℕ) → items_of (words_of_items count) ≡ Ok (replicate count (item_of DepIn 18446744073709551615))
items_are_all_read zero = refl
items_are_all_read (suc count) = ap (λ (read : Result (List Dep) Why). with_item DepIn (unsigned_of (codes "18446744073709551615")) read) (items_are_all_read count)
