use Rattle.std.proofs.Common.{◌≡◌, ◌∙◌, ◌++◌, sym}
use Rattle.std.specs.Prelude.{codes}
use Rattle.std.proofs.lemmas.Bool.Decides.{Decides-eqb}
use Rattle.std.proofs.lemmas.Slice.Eq.{strip_suffix_is}
use Rattle.gomp_script.proofs.TextLemmas.{next_named}
use Rattle.gomp_script.proofs.parse.next_member.Goals as goal

pub returns-in-Ok : goal.returns-in-Ok
returns-in-Ok c =
    let is : c.args.line.now ≡ c.in-Some.member.now ++ codes " next" = rw c.in-Some.is at (strip_suffix_is Decides-eqb c.args.line.now (codes " next") c.strip_suffix.result c.strip_suffix.ensures.cases) in
    next_named c.args.line.now c.in-Some.member.now c.in-Ok.member is (sym c.member_of.ensures ∙ c.in-Ok.is)
