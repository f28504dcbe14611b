use Rattle.std.proofs.Common.{rules, ◌≡◌, ◌+◌, ◌∙◌, suc, arith}
use Rattle.std.proofs.lemmas.List.{take_rest}
use Rattle.gomp_text.proofs.WordLemmas.{cut_none, cut_found, parts_cut}
use Rattle.gomp_text.proofs.words.cut_at.Goals as goal

pub returns-in-Some : goal.returns-in-Some
returns-in-Some c =
    let found = cut_found c.args.separator c.args.text.now c.in-Some.at (search rules) (search rules) (search rules) in
    let next : c.in-Some.at + 1 ≡ suc c.in-Some.at = omega arith in
    record {
      before = rw found;
      after = rw (found, take_rest, next);
      parts = parts_cut c.args.separator c.args.text.now ∙ rw (found, take_rest, next);
      shorter = search rules;
    }

pub returns-in-None : goal.returns-in-None
returns-in-None c =
    let none = cut_none c.args.separator c.args.text.now (search rules) in
    record { before = rw none; after = rw none; parts = parts_cut c.args.separator c.args.text.now ∙ rw none; shorter = search rules }
