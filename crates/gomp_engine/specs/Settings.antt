-- The settings of an engine: a text of lines NAME=VALUE. (own)
use Rattle.std.specs.Prelude.{ℕ, ◌==◌, Bool, nat_lt, if◌then◌else◌, List, [], ◌∷◌, ◌++◌, length, Option, Some, None, option_to_list}
use Rattle.std.specs.List.{position_or_len, before_first, after_first}
use Rattle.gomp_types.specs.declared.refusal.Refusal.{Refusal}
use Rattle.gomp_text.specs.Words.{lines_of}
use Rattle.gomp_icv.specs.Variables.{Variables}
use Rattle.gomp_icv.specs.EnvWords.{read_env}

-- whether a byte is `=`
abbrev pub cuts_setting : ℕ → Bool
cuts_setting b = b == 61

-- the name and the value of a line, cut at its first `=`; none if it has no `=`
abbrev pub setting_in : List ℕ → Option (List ℕ × List ℕ)
setting_in line =
    if nat_lt (position_or_len cuts_setting line) (length line) then Some (before_first cuts_setting line, after_first cuts_setting line)
    else None

-- those of all lines, in their order
abbrev pub settings_in : List (List ℕ) → List (List ℕ × List ℕ)
settings_in [] = []
settings_in (line ∷ lines) = option_to_list (setting_in line) ++ settings_in lines

-- the control variables that the lines of a text give, and a refusal for each setting that is ignored
abbrev pub read_lines : List ℕ → Variables × List Refusal
read_lines text = read_env (settings_in (lines_of text))
