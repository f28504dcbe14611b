use Rattle.std.proofs.Common.{refl}
use Rattle.gomp_serve.proofs.EndLemmas.{unserved_for_memory}
use Rattle.gomp_serve.proofs.serve.serve_input.Goals as goal

pub returns-in-Err-clause-serves : goal.returns-in-Err-clause-serves
returns-in-Err-clause-serves g c = unserved_for_memory c.args.service c.args.icv (g.R.Read.remaining c.args.reader) (g.W.Write.contents c.args.writer.now) _ refl
