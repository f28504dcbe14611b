use Rattle.std.proofs.Common.{◌≡◌, ◌∙◌, List, Option, Some, true, ap, sym, refl, subst}
use Rattle.gomp_types.specs.declared.lock.LockKind.{LockKind}
use Rattle.gomp_locks.specs.Book.{BookView}
use Rattle.gomp_model.specs.Past.{Terms}
use Rattle.gomp_model.specs.Team.{Caused}
use Rattle.gomp_core.specs.LocksMade.{lock_kinds_of, locks_made}
use Rattle.gomp_core.specs.Stands.{Stands, terms_of, standard_terms}
use Rattle.gomp_core.proofs.Lists.{terms_are}
use Rattle.gomp_service.specs.Statuses.{is_size}
use Rattle.gomp_service.proofs.SizeLemmas.{size_by, is_size_of, same_count}
use Rattle.gomp_live.specs.Stands.{book_of}
use Rattle.gomp_live.specs.Talk.{locks_so_far, begun_with}
use Rattle.gomp_live.proofs.LockLemmas.{locks_of_the_book}
use Rattle.gomp_live.proofs.TalkLemmas.{if_ok_then}
use Rattle.gomp_live.proofs.talk.begin_team.Goals as goal

pub returns : goal.returns
returns g c =
    let size = size_by c.team_size-size.result (λ wrong. let refused = c.in-Ok.ensures.size.1 wrong in absurd (cc)) in
    let same : c.args.count ≡ c.team_size-size.result = same_count c.team_size-size.result c.args.count c.team_size-size.ensures size.1 in
    let fine : is_size c.args.count ≡ true = ap is_size same ∙ is_size_of c.team_size-size.result size in
    let terms : terms_of c.in-Ok.new_team ≡ standard_terms c.args.count c.args.icv = terms_are c.in-Ok.new_team c.args.count c.args.icv (c.in-Ok.ensures.members ∙ sym same) c.in-Ok.ensures.icv c.in-Ok.ensures.limits in
    if_ok_then c.from_str.result
    (λ answer text. λ made is.
    let kinds : lock_kinds_of c.book_of-book.result.locks ≡ locks_so_far c.args.icv made =
    ap (λ (book : BookView). lock_kinds_of book.locks) (c.book_of-book.ensures ∙ ap book_of c.take.ensures.value) ∙ locks_of_the_book g.S.Shares.stands g.S.Shares.members c.args.icv c.args.team.now made is in
    let stands : Stands g.S.Shares.stands g.S.Shares.members c.in-Ok.new_team (locks_made (locks_so_far c.args.icv made)) =
    subst (λ (locks : List (Option LockKind)). Stands g.S.Shares.stands g.S.Shares.members c.in-Ok.new_team (locks_made locks)) kinds c.in-Ok.ensures.stands in (
      Some (begun_with c.args.count (locks_so_far c.args.icv made)),
      rw fine (record {
        answer_is = text;
        caused = subst (λ (t : Terms). Caused t (locks_made (locks_so_far c.args.icv made))) terms stands.caused;
        stands_is = refl;
      }),
      record {
        size_is = c.in-Ok.ensures.members ∙ sym same;
        icv_is = c.in-Ok.ensures.icv;
        limits_are = c.in-Ok.ensures.limits;
        stands_for = stands;
      },
    ))
    c.from_str.ensures.ok
