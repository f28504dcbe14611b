use Rattle.std.proofs.Common.{rules, tests, ◌≡◌, ◌∙◌, Bor, ap, not}
use Rattle.std.specs.Prelude.{find}
use Rattle.std.specs.Option.{option_map}
use Rattle.std.proofs.lemmas.Iterator.{YieldsList-from_slice}
use Rattle.std.proofs.lemmas.Iterator.Search.{find_from_yields_List}
use Rattle.gomp_command.specs.Settings.{Text, has_equals}
use Rattle.gomp_command.proofs.SettingLemmas.{first_seen}
use Rattle.gomp_command.proofs.settings.first_without.Goals as goal

pub returns : goal.returns
returns c =
    let found : c.copied.result ≡ find (λ (word : Bor Text). not (has_equals word.now)) c.args.words.now = c.copied.ensures ∙ find_from_yields_List (λ (word : Bor Text). not (has_equals word.now)) _ _ c.find.result c.find.ensures.ran (YieldsList-from_slice c.args.words.now cc) (λ x b q k. search (rules, tests)) in
    ap (option_map (λ (word : Bor Text). word.now)) found ∙ first_seen (λ word. not (has_equals word)) c.args.words.now
