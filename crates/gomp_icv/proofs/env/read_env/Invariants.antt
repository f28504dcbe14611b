use Rattle.std.proofs.Common.{◌≡◌, drop}
use Rattle.std.specs.Prelude.{map}
use Rattle.gomp_icv.specs.EnvWords.{read_after, read_env}
use Rattle.gomp_icv.proofs.EnvWordLemmas.{with_ignored}
use Rattle.gomp_icv.proofs.env.read_env.Given as goal

-- what the words so far have set and have had ignored, and what those that are left give
abbrev pub invariant-loop-name : goal.invariant-loop-name
invariant-loop-name l = with_ignored l.ignored.items (read_after (map (λ word. (word.0.now, word.1.now)) (drop l.name-index l.words)) l.icv) ≡ read_env (map (λ word. (word.0.now, word.1.now)) l.fn.words)
