use Rattle.std.proofs.Common.{◌≡◌, drop, None}
use Rattle.std.specs.Prelude.{map}
use Rattle.gomp_command.specs.Settings.{first_without, pairs_of}
use Rattle.gomp_command.proofs.SettingLemmas.{with_fronts}
use Rattle.gomp_command.proofs.settings.split_all.Given as goal

-- the words so far are cut, and those that are left will be; each of those has an `=`
abbrev pub invariant-loop-word : goal.invariant-loop-word
invariant-loop-word l =
    (with_fronts (map (λ pair. (pair.0.now, pair.1.now)) l.pairs.items) (pairs_of (map (λ word. word.now) (drop l.word-index l.words))) ≡ pairs_of (map (λ word. word.now) l.fn.words))
    × (first_without (map (λ word. word.now) (drop l.word-index l.words)) ≡ None)
