use Rattle.std.proofs.Common.{◌≡◌, ◌∙◌, ◌++◌, None, length, drop, ap, sym, lit<, append-nil, rules, arith, [], ◌∷◌}
use Rattle.std.specs.Option.{option_map}
use Rattle.std.proofs.lemmas.List.{at_drop_all, length_push}
use Rattle.std.proofs.lemmas.Iterator.Consumers.{YieldsList-turn, YieldsList-end}
use Rattle.std.proofs.lemmas.Iterator.Splits.{YieldsList-from_str_split}
use Rattle.gomp_text.specs.Words.{lines_of}
use Rattle.gomp_icv.specs.EnvWords.{pairs}
use Rattle.gomp_engine.specs.Settings.{settings_in}
use Rattle.gomp_engine.proofs.SettingLemmas.{setting_found, no_setting_found}
use Rattle.gomp_engine.proofs.settings.settings_in.Goals as goal

pub loop-line-preserved-in-Continue-1 : goal.loop-line-preserved-in-Continue-1
loop-line-preserved-in-Continue-1 c =
    let same = c.into_iter-line-iterator.ensures.into_iter_gives in
    let lines = YieldsList-from_str_split {s = c.into_iter-line-iterator.result} 10 c.args.text.now (lit< tt) (let text = c.split-line-items.ensures.text in cc) (let more = c.split-line-items.ensures.has_more in cc) (let pattern = c.split-line-items.ensures.pattern in cc) in
    let turn = YieldsList-turn lines c.loop-line.yielded _ c.loop-line.yielded_by _ _ c.in-Some.line c.in-Some.is c.next.ensures.steps in
    let here = sym c.setting_in.ensures ∙ ap (option_map (λ found. (found.0.now, found.1.now))) c.in-Some-setting_in.is in
    let more = length_push c.loop-line.yielded c.in-Some.line in
    let items : c.push.new.self.items ≡ c.loop-line.settings.items ++ c.in-Some-setting_in.setting ∷ [] = search rules in
    ap (λ held. pairs held ++ settings_in (drop (length (c.loop-line.yielded ++ c.in-Some.line ∷ [])) (lines_of c.args.text.now))) items
    ∙ ap (λ n. pairs (c.loop-line.settings.items ++ c.in-Some-setting_in.setting ∷ []) ++ settings_in (drop n (lines_of c.args.text.now))) more
    ∙ setting_found c.loop-line.settings.items c.in-Some-setting_in.setting (lines_of c.args.text.now) (length c.loop-line.yielded) c.in-Some.line.now turn here
    ∙ c.loop-line.invariant

pub loop-line-preserved : goal.loop-line-preserved
loop-line-preserved c =
    let same = c.into_iter-line-iterator.ensures.into_iter_gives in
    let lines = YieldsList-from_str_split {s = c.into_iter-line-iterator.result} 10 c.args.text.now (lit< tt) (let text = c.split-line-items.ensures.text in cc) (let more = c.split-line-items.ensures.has_more in cc) (let pattern = c.split-line-items.ensures.pattern in cc) in
    let turn = YieldsList-turn lines c.loop-line.yielded _ c.loop-line.yielded_by _ _ c.in-Some.line c.in-Some.is c.next.ensures.steps in
    let none : c.setting_in.result ≡ None = search rules in
    let here = sym c.setting_in.ensures ∙ ap (option_map (λ found. (found.0.now, found.1.now))) none in
    ap (λ n. pairs c.loop-line.settings.items ++ settings_in (drop n (lines_of c.args.text.now))) (length_push c.loop-line.yielded c.in-Some.line)
    ∙ no_setting_found c.loop-line.settings.items (lines_of c.args.text.now) (length c.loop-line.yielded) c.in-Some.line.now turn here
    ∙ c.loop-line.invariant

pub returns : goal.returns
returns c =
    let same = c.into_iter-line-iterator.ensures.into_iter_gives in
    let lines = YieldsList-from_str_split {s = c.into_iter-line-iterator.result} 10 c.args.text.now (lit< tt) (let text = c.split-line-items.ensures.text in cc) (let more = c.split-line-items.ensures.has_more in cc) (let pattern = c.split-line-items.ensures.pattern in cc) in
    let end = YieldsList-end lines c.loop-line.yielded _ c.loop-line.yielded_by _ _ c.in-None.is c.next.ensures.steps in
    sym (ap (λ l. pairs c.loop-line.settings.items ++ l) (at_drop_all settings_in (lines_of c.args.text.now) (length c.loop-line.yielded) (search (rules, arith))) ∙ append-nil (pairs c.loop-line.settings.items))
    ∙ c.loop-line.invariant
