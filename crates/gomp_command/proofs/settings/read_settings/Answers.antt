use Rattle.std.proofs.Common.{rules, ◌≡◌, Some, map}
use Rattle.gomp_command.specs.Settings.{first_without}
use Rattle.gomp_command.proofs.SettingLemmas.{unread_without}
use Rattle.gomp_command.proofs.settings.read_settings.Goals as goal

pub returns-in-Some : goal.returns-in-Some
returns-in-Some c =
    let first : first_without (map (λ word. word.now) c.args.words.now) ≡ Some c.in-Some.word.now = search rules in
    (first, unread_without (map (λ word. word.now) c.args.words.now) c.in-Some.word.now first)

pub returns : goal.returns
returns c = search rules

pub returns-in_err-icv : goal.returns-in_err-icv
returns-in_err-icv c = search rules

pub returns-in_err-pairs : goal.returns-in_err-pairs
returns-in_err-pairs c = search rules
