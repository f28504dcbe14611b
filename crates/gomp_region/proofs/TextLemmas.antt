-- Texts, line by line.
use Rattle.std.proofs.Common.{◌≡◌, ◌≢◌, ℕ, ◌<◌, suc, List, [], ◌∷◌, ◌++◌, Option, Some, None, Result, Ok, Err, length, Bor, refl, ◌∙◌, sym, arith}
use Rattle.std.specs.Prelude.{IfSome, option_copied}
use Rattle.gomp_script.specs.declared.parse.Why.{Why}
use Rattle.gomp_region.specs.declared.nesting.OpenBlock.{OpenBlock}
use Rattle.gomp_region.specs.declared.script.BadScript.{BadScript}
use Rattle.gomp_region.specs.declared.script.ScriptError.TheVariants.{Memory}
use Rattle.gomp_region.specs.declared.script.ScriptLine.{ScriptLine}
use Rattle.gomp_region.specs.declared.script.ScriptWhy.{ScriptWhy}
use Rattle.gomp_region.specs.declared.statement.Statement.{Statement}
use Rattle.gomp_region.specs.ScriptText.{HasLine, IsRefused, line_then, refused_by, with_lines}

-- how much is left
abbrev pub left : Option (List ℕ) → ℕ
left None = 0
left (Some text) = suc (length text)

pub script_left_less : (rest : Option (Bor (List ℕ))) (n : ℕ) → IfSome rest (λ text. length text.now < n) → left (option_copied rest) < suc n
script_left_less None n less = omega arith
script_left_less (Some text) n less = omega (arith, less)

abbrev pub Later : Type 0
Later = List OpenBlock → Result (List ScriptLine) BadScript

-- what stands before changes no fault
refused_both : (lines : List ScriptLine) (read : Result (List ScriptLine) BadScript) → refused_by (with_lines lines read) ≡ refused_by read
refused_both lines (Ok later) = refl
refused_both lines (Err bad) = refl

-- a list with a line in it
not_without_lines : (lines : List ScriptLine) (line : ScriptLine) (later : List ScriptLine) → lines ++ line ∷ later ≢ []
not_without_lines [] line later same = absurd (cc)
not_without_lines (first ∷ lines) line later same = absurd (cc)

with_some : (lines : List ScriptLine) (line : ScriptLine) (read : Result (List ScriptLine) BadScript) → refused_by read ≡ Memory → HasLine (with_lines lines (with_lines (line ∷ []) read))
with_some lines line (Ok later) memory = not_without_lines lines line later
with_some lines line (Err bad) memory = absurd (cc)

some_refused : (lines : List ScriptLine) (number : ℕ) (statement : Statement) (found : Result (List OpenBlock) ScriptWhy) (later : Later) → refused_by (line_then number (Ok (Some statement)) found later) ≡ Memory → HasLine (with_lines lines (line_then number (Ok (Some statement)) found later))
some_refused lines number statement (Err why) later memory = absurd (cc)
some_refused lines number statement (Ok behind) later memory = with_some lines (record { number = number; statement = statement }) (later behind) (sym (refused_both (record { number = number; statement = statement } ∷ []) (later behind)) ∙ memory)

-- if none of them is bad, there is the statement for which memory was refused
pub has_refused_line : (lines : List ScriptLine) (number : ℕ) (read : Result (Option Statement) Why) (before behind : List OpenBlock) (found : Result (List OpenBlock) ScriptWhy) (later : Later) → IsRefused read before behind → refused_by (line_then number read found later) ≡ Memory → HasLine (with_lines lines (line_then number read found later))
has_refused_line lines number (Err why) before behind found later refused memory = absurd refused
has_refused_line lines number (Ok None) before behind found later refused memory = absurd refused
has_refused_line lines number (Ok (Some statement)) before behind found later refused memory = some_refused lines number statement found later memory

-- memory was refused inside these blocks
pub refused_inside : (read : Result (Option Statement) Why) (before behind : List OpenBlock) → IsRefused read before behind → behind ≡ before
refused_inside (Err why) before behind refused = absurd refused
refused_inside (Ok None) before behind refused = absurd refused
refused_inside (Ok (Some statement)) before behind refused = refused
