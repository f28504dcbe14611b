use Rattle.std.proofs.Common.{rules, ◌<◌}
use Rattle.std.specs.Prelude.{All, IsTrue, ◌↔◌}
use Rattle.gomp_text.proofs.WordLemmas.{by_test}
use Rattle.gomp_text.proofs.words.is_ascii.Goals as goal

pub returns : goal.returns
returns c =
    let all : IsTrue c.all.result ↔ All (λ b. b < 128) c.args.line.now = search rules in
    by_test _ c.args.line.now all
