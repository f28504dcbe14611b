use Rattle.std.proofs.Common.{refl, map}
use Rattle.gomp_serve.proofs.EndLemmas.{serves_for_memory}
use Rattle.gomp_serve.proofs.serve.serve_with_settings.Goals as goal

pub returns-in-Err-NoMemory-clause-ends : goal.returns-in-Err-NoMemory-clause-ends
returns-in-Err-NoMemory-clause-ends g c =
    rw c.no_memory.ensures (serves_for_memory (record { service = c.args.service; settings = map (λ word. word.now) c.args.settings.now }) (g.R.Read.remaining c.args.reader) _ _ refl)
