-- The settings of a text, line by line.
use Rattle.std.proofs.Common.{◌≡◌, ◌∙◌, ◌<◌, ◌+◌, ◌++◌, ℕ, List, [], ◌∷◌, Some, None, Bor, length, drop, get_or, ap, sym}
use Rattle.std.specs.Prelude.{option_to_list}
use Rattle.std.proofs.lemmas.List.{at_drop_more, append_assoc, map-append}
use Rattle.gomp_icv.specs.EnvWords.{pairs}
use Rattle.gomp_engine.specs.Settings.{setting_in, settings_in}

-- the settings of the lines from one on are that of the line and those of the next ones
settings_from : (lines : List (List ℕ)) (n : ℕ) (line : List ℕ) → (n < length lines) × (line ≡ get_or lines n line) → settings_in (drop n lines) ≡ option_to_list (setting_in line) ++ settings_in (drop (n + 1) lines)
settings_from lines n line is = at_drop_more settings_in lines n line is.0 ∙ ap (λ l. option_to_list (setting_in l) ++ settings_in (drop (n + 1) lines)) (sym is.1)

-- a line with a setting puts it behind those that were found
pub setting_found :
    (found : List (Bor (List ℕ) × Bor (List ℕ))) (setting : Bor (List ℕ) × Bor (List ℕ)) (lines : List (List ℕ)) (n : ℕ) (line : List ℕ) → (n < length lines) × (line ≡ get_or lines n line)
    → setting_in line ≡ Some (setting.0.now, setting.1.now) → pairs (found ++ setting ∷ []) ++ settings_in (drop (n + 1) lines) ≡ pairs found ++ settings_in (drop n lines)
setting_found found setting lines n line is here =
    ap (λ l. l ++ settings_in (drop (n + 1) lines)) (map-append (λ word. (word.0.now, word.1.now)) found (setting ∷ []))
    ∙ append_assoc (pairs found) ((setting.0.now, setting.1.now) ∷ []) (settings_in (drop (n + 1) lines))
    ∙ ap (λ l. pairs found ++ l) (ap (λ s. option_to_list s ++ settings_in (drop (n + 1) lines)) (sym here) ∙ sym (settings_from lines n line is))

-- and another line adds nothing
pub no_setting_found :
    (found : List (Bor (List ℕ) × Bor (List ℕ))) (lines : List (List ℕ)) (n : ℕ) (line : List ℕ) → (n < length lines) × (line ≡ get_or lines n line)
    → setting_in line ≡ None → pairs found ++ settings_in (drop (n + 1) lines) ≡ pairs found ++ settings_in (drop n lines)
no_setting_found found lines n line is none =
    ap (λ l. pairs found ++ l) (ap (λ s. option_to_list s ++ settings_in (drop (n + 1) lines)) (sym none) ∙ sym (settings_from lines n line is))
