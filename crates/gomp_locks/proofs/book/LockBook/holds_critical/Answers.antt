use Rattle.std.proofs.Common.{◌≡◌, ◌∙◌, List, ℕ, ◌<◌, true, ap}
use Rattle.std.specs.Prelude.{◌↔◌}
use Rattle.gomp_types.specs.declared.task.Owner.{Owner}
use Rattle.gomp_locks.specs.Book.{BookView, names_held, name_owner, owned_by}
use Rattle.gomp_locks.specs.Counts.{times_in}
use Rattle.gomp_locks.proofs.CountLemmas.{found_if_there}
use Rattle.gomp_locks.proofs.Laws.{holder_of_names_holds_one}
use Rattle.gomp_locks.proofs.book.LockBook.holds_critical.Goals as goal

pub returns-clause-held : goal.returns-clause-held
returns-clause-held c =
    let there = found_if_there c.args.owner c.deref.result.now c.place_of.result c.place_of.ensures.within c.place_of.ensures.found c.place_of.ensures.none in
    let count : times_in c.args.owner c.deref.result.now ≡ names_held c.args.owner c.args.self.now.names =
    ap (λ (holders : List Owner). times_in c.args.owner holders) c.deref.ensures.value ∙ c.self.invariant.0.counted c.args.owner ∙ ap (λ (book : BookView). names_held c.args.owner book.names) c.self.view_is in
    rw (c.is_some.ensures, ← count) there

pub returns-clause-name : goal.returns-clause-name
returns-clause-name c =
    let some = returns-clause-held c in
    let one = holder_of_names_holds_one c.args.owner c.self.inside.names.entries c.self.invariant.3 in
    let same : (0 < names_held c.args.owner c.args.self.now.names) ↔ ((name : List ℕ) × (owned_by c.args.owner (name_owner name c.args.self.now) ≡ true)) = rw (← c.self.view_is) one in
    ((λ found. same.0 (some.0 found)), (λ held. some.1 (same.1 held)))
