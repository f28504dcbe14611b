-- The lines of an input, one by one.
use Rattle.std.proofs.Common.{◌≡◌, ◌≢◌, ◌==◌, ◌∷◌, ◌∙◌, ℕ, List, [], Option, Some, None, refl, ap, sym, inl, inr, append-nil}
use Rattle.std.specs.Prelude.{IfSome}
use Rattle.std.specs.Io.BufRead.{take_through, drop_through, DropsThrough}
use Rattle.std.specs.Io.KnownBytes.{Appends, IsAtEnd}
use Rattle.std.proofs.lemmas.Bool.{cases_Bool}
use Rattle.gomp_text.specs.Words.{cut_at}
use Rattle.gomp_live.specs.Input.{with_front, input_lines, in_order}

-- the first line of an input is what is read up to its first line feed, without that, and the other lines are those of the rest
pub first_line_read : (b : ℕ) (bytes : List ℕ) → input_lines (b ∷ bytes) ≡ (cut_at 10 (take_through 10 (b ∷ bytes))).0 ∷ input_lines (drop_through 10 (b ∷ bytes))
first_line_read b [] = elim (cases_Bool (b == 10)) [
  | inl ends ↦ rw (ends) (rw (ends) refl)
  | inr goes_on ↦ rw (goes_on) (rw (goes_on) refl)
]
first_line_read b (c ∷ bytes) = elim (cases_Bool (b == 10)) [
  | inl ends ↦ rw (ends) (rw (ends) refl)
  | inr goes_on ↦ rw (goes_on) (rw (goes_on) (ap (with_front b) (first_line_read c bytes)))
]

-- What is left to read

-- of this input the lines are these, the newest of them first, and those of what is left
abbrev pub InputLeft : Option (List ℕ) → List (List ℕ) → List ℕ → Type 0
InputLeft left lines input = (rest : List ℕ) × (left ≡ Some rest) × (input_lines input ≡ in_order lines (input_lines rest))

pub input_begins : (input : Option (List ℕ)) → IfSome input (InputLeft input [])
input_begins None = tt
input_begins (Some input) = (input, refl, refl)

pub input_ended : (input left : Option (List ℕ)) (lines : List (List ℕ)) → IfSome input (InputLeft left lines) → IsAtEnd left → IfSome input (λ all. input_lines all ≡ in_order lines [])
input_ended None left lines known end = tt
input_ended (Some input) None lines known end = absurd (let none = known.1 in cc)
input_ended (Some input) (Some xs) lines known end =
    let same : known.0 ≡ [] = let is = known.1 in cc in
    known.2 ∙ ap (λ (rest : List ℕ). in_order lines (input_lines rest)) same

pub input_stays : (input left : Option (List ℕ)) (lines : List (List ℕ)) → IfSome input (InputLeft left lines) → (coming : List (List ℕ)) × IfSome input (λ all. input_lines all ≡ in_order lines coming)
input_stays None left lines known = ([], tt)
input_stays (Some input) left lines known = (input_lines known.0, known.2)

-- a line that was read is no longer left
pub input_goes_on :
    (input left next : Option (List ℕ)) (lines : List (List ℕ)) (text : List ℕ) → text ≢ []
    → IfSome input (InputLeft left lines) → IfSome left (λ xs. text ≡ take_through 10 xs) → DropsThrough left next 10
    → IfSome input (InputLeft next ((cut_at 10 text).0 ∷ lines))
input_goes_on None left next lines text some known taken drops = tt
input_goes_on (Some input) None next lines text some known taken drops = absurd (let none = known.1 in cc)
input_goes_on (Some input) (Some []) next lines text some known taken drops = absurd (some taken)
input_goes_on (Some input) (Some (b ∷ bytes)) next lines text some known taken drops =
    let same : known.0 ≡ b ∷ bytes = let is = known.1 in cc in (
      drop_through 10 (b ∷ bytes),
      drops,
      known.2 ∙ ap (λ (rest : List ℕ). in_order lines (input_lines rest)) same
          ∙ ap (in_order lines) (first_line_read b bytes)
          ∙ ap (λ (line : List ℕ). in_order ((cut_at 10 line).0 ∷ lines) (input_lines (drop_through 10 (b ∷ bytes)))) (sym taken),
    )

-- What is written

pub appends_nothing : (held : Option (List ℕ)) → Appends held held []
appends_nothing None = tt
appends_nothing (Some held) = sym (append-nil held)
