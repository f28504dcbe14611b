use Rattle.std.proofs.Common.{◌∙◌, List, Option, refl, rules, ap, sym, subst, inl}
use Rattle.gomp_types.specs.declared.lock.LockKind.{LockKind}
use Rattle.gomp_types.specs.Limits.{IsTeamSize}
use Rattle.gomp_core.specs.LocksMade.{locks_made}
use Rattle.gomp_engine.specs.Engines.{HasRecord, TeamBegins, locks_left}
use Rattle.gomp_engine.proofs.SizeLemmas.{size_asked}
use Rattle.gomp_engine.proofs.engine.Engine.new_team.Goals as goal

pub returns-in-Ok : goal.returns-in-Ok
returns-in-Ok c =
    let size : IsTeamSize c.member_count-size.result = search rules in
    let same = size_asked c.args.size c.member_count-size.result c.member_count-size.ensures size.1 in
    let locks = c.book_left-book.ensures ∙ ap locks_left c.take.ensures.value in
    let begins : TeamBegins c.args.self.now c.args.size c.in-Ok.team = record {
      size_is = c.in-Ok.ensures.members ∙ sym same;
      icv_is = c.in-Ok.ensures.icv ∙ c.copied.ensures;
      limits_are = c.in-Ok.ensures.limits;
      stands = subst (λ (kinds : List (Option LockKind)). HasRecord c.in-Ok.team (locks_made kinds)) locks c.in-Ok.ensures.stands;
    } in
    inl (subst IsTeamSize (sym same) size, c.own_numbers.ensures, (c.in-Ok.team, begins, refl))
