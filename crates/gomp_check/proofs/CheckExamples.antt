-- What is printed of texts, computed, and ends that the definitions refuse. (own)
use Rattle.std.proofs.Common.{◌≡◌, ℕ, true, false, List, [], ◌∷◌, ◌++◌, Option, Some, codes, length, refl, ap, subst, arith}
use Rattle.std.specs.Prelude.{map, take, ◌≤◌}
use Rattle.std.specs.Io.KnownBytes.{Appends}
use Rattle.std.specs.Fmt.{digits}
use Rattle.gomp_script.specs.StepText.{plain_step, team_of}
use Rattle.gomp_region.specs.ScriptText.{plain_line, region_of}
use Rattle.gomp_service.specs.Reading.{IsLonger, max_text}
use Rattle.gomp_service.specs.declared.read.Ending.TheVariants as ending
use Rattle.gomp_check.specs.Checked.{checked, is_script, later_lines}
use Rattle.gomp_check.specs.Serving.{Checks}

-- Which kind of text

-- the first word of the first line that counts decides
pub kinds_of_texts : map is_script (codes "region" ∷ codes "\n# a\n  region 2 3\nteam" ∷ codes "team 2\nregion" ∷ codes "regions 2" ∷ codes "regio" ∷ codes "#region" ∷ codes "" ∷ []) ≡ true ∷ true ∷ false ∷ false ∷ false ∷ false ∷ false ∷ []
kinds_of_texts = refl

-- a byte above 127 before it leaves it open
pub kind_of_other_bytes : map is_script ((35 ∷ 200 ∷ codes "\nregion") ∷ (codes "region " ++ 200 ∷ []) ∷ (codes "region\n" ++ 200 ∷ []) ∷ []) ≡ false ∷ false ∷ true ∷ []
kind_of_other_bytes = refl

-- How many lines

-- empty lines, lines of spaces and comments are skipped, and the first that counts is left out
pub later_lines_counted : map later_lines (codes "" ∷ codes "region" ∷ codes "team 2\n" ∷ codes "\n# a\nteam 2\n  \n0 barrier\n # b\n#\n1 barrier" ∷ []) ≡ 0 ∷ 0 ∷ 0 ∷ 2 ∷ []
later_lines_counted = refl

-- What is printed

-- a text of no line, a team that may not be, and one with steps
pub texts_of_steps : (checked (codes "") ≡ (codes "bad line 1: first line\n", 1)) × (checked (codes "team 65") ≡ (codes "steps 0\n", 0)) × (checked (codes "team 2\n0 barrier\n\n7 barrier") ≡ (codes "steps 2\n", 0)) × (checked (codes "team 2\n0 barrie") ≡ (codes "bad line 2: unknown word\n", 1))
unfolding digits plain_step team_of
texts_of_steps = (refl, refl, refl, refl)

-- scripts
pub texts_of_scripts : (checked (codes "region") ≡ (codes "script 0\n", 0)) × (checked (codes "region 2\nsingle\n# a\nbarrier\nendsingle") ≡ (codes "script 3\n", 0)) × (checked (codes "region 2\nbarrier\nsingle\n") ≡ (codes "bad line 3: block not closed\n", 1)) × (checked (codes "region 2\nendfor") ≡ (codes "bad line 2: no open block\n", 1))
unfolding digits plain_line region_of
texts_of_scripts = (refl, refl, refl, refl)

-- a step in a script, and a statement in a text of steps
pub mixed_texts : (checked (codes "region 2\n0 barrier") ≡ (codes "bad line 2: unknown word\n", 1)) × (checked (codes "team 2\nbarrier") ≡ (codes "bad line 2: missing word\n", 1))
unfolding digits plain_step team_of plain_line region_of
mixed_texts = (refl, refl)

-- How a check ends

-- three bytes
abbrev three : List ℕ
three = 35 ∷ 97 ∷ 10 ∷ []

-- for want of memory nothing is written, nor if a read failed or the text is too long
pub unread_writes_nothing : (remaining : Option (List ℕ)) → (Checks remaining (Some []) (Some three) ending.NoMemory → ⊥) × (Checks remaining (Some []) (Some three) ending.InputFault → ⊥) × (Checks remaining (Some []) (Some three) ending.TooLong → ⊥)
unread_writes_nothing remaining = (λ same. absurd (cc), λ same. absurd (cc), λ ends. absurd (let same = ends.0 in cc))

-- a short text is not too long
pub short_text_is_read : Checks (Some three) (Some []) (Some []) ending.TooLong → ⊥
short_text_is_read ends = absurd (let longer = ends.1 in omega arith)

-- an answer is that of the whole text, with its status
pub answer_is_of_the_text : (Checks (Some (codes "region")) (Some []) (Some (codes "script 10\n")) (ending.Answered 0) → ⊥) × (Checks (Some (codes "region")) (Some []) (Some (codes "script 0\n")) (ending.Answered 1) → ⊥) × (Checks (Some (codes "region")) (Some []) (Some []) (ending.Answered 0) → ⊥)
unfolding digits region_of
answer_is_of_the_text = (
  λ serves. absurd (let size = ap length (subst (λ (text : List ℕ). Appends (Some []) (Some (codes "script 10\n")) (checked text).0) serves.whole.0 serves.written) in omega (arith, size)),
  λ serves. absurd (let is = subst (λ (text : List ℕ). 1 ≡ (checked text).1) serves.whole.0 serves.code_is in omega (arith, is)),
  λ serves. absurd (let size = ap length (subst (λ (text : List ℕ). Appends (Some []) (Some []) (checked text).0) serves.whole.0 serves.written) in omega (arith, size)),
)

-- if the output failed what was written is a prefix of what the text is, and leaves what was there
pub cut_check_is_a_prefix : (input before after : List ℕ) → Checks (Some input) (Some before) (Some after) ending.OutputFault → (count : ℕ) × (after ≡ before ++ take count (checked input).0)
cut_check_is_a_prefix input before after ends = (ends.written.0, subst (λ (text : List ℕ). after ≡ before ++ take ends.written.0 (checked text).0) ends.whole.0 ends.written.1)

-- and the text was not too long
pub cut_check_is_of_a_short_text : (input : List ℕ) (before after : Option (List ℕ)) → Checks (Some input) before after ending.OutputFault → length input ≤ 16777216
cut_check_is_of_a_short_text input before after ends = let short = ends.whole.1 in let same = ap length ends.whole.0 in omega (arith, short, same)

-- Ends, of any input and output

pub check_is_of_the_whole_text : (input held now : List ℕ) (code : ℕ) → Checks (Some input) (Some held) (Some now) (ending.Answered code) → (now ≡ held ++ (checked input).0) × (code ≡ (checked input).1)
check_is_of_the_whole_text input held now code serves =
    (subst (λ (text : List ℕ). now ≡ held ++ (checked text).0) serves.whole.0 serves.written, subst (λ (text : List ℕ). code ≡ (checked text).1) serves.whole.0 serves.code_is)

pub no_check_without_memory : (remaining before after : Option (List ℕ)) → Checks remaining before after ending.NoMemory → after ≡ before
no_check_without_memory remaining before after same = same

pub no_check_of_a_failed_input : (remaining before after : Option (List ℕ)) → Checks remaining before after ending.InputFault → after ≡ before
no_check_of_a_failed_input remaining before after same = same

pub no_check_of_a_longer_text : (remaining before after : Option (List ℕ)) → Checks remaining before after ending.TooLong → (after ≡ before) × IsLonger max_text remaining
no_check_of_a_longer_text remaining before after ends = ends
