use Rattle.std.proofs.Common.{◌≡◌, ◌++◌, length, drop}
use Rattle.gomp_text.specs.Words.{lines_of}
use Rattle.gomp_icv.specs.EnvWords.{pairs}
use Rattle.gomp_engine.specs.Settings.{settings_in}
use Rattle.gomp_engine.proofs.settings.settings_in.Given as goal

-- the settings so far, and those of the lines that are left
abbrev pub invariant-loop-line : goal.invariant-loop-line
invariant-loop-line l = pairs l.settings.items ++ settings_in (drop (length l.yielded) (lines_of l.fn.text)) ≡ settings_in (lines_of l.fn.text)
