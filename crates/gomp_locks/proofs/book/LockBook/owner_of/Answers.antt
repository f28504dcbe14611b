use Rattle.std.proofs.Common.{◌≡◌, ◌∙◌, Some, None, Option, ap}
use Rattle.std.specs.Option.{option_flatten}
use Rattle.std.specs.Prelude.{bytes_eq}
use Rattle.std.specs.Map.{lookup}
use Rattle.gomp_types.specs.declared.task.Owner.{Owner}
use Rattle.gomp_locks.specs.Book.{BookView, name_owner}
use Rattle.gomp_locks.proofs.NameLemmas.{found_whole}
use Rattle.gomp_locks.proofs.book.LockBook.owner_of.Goals as goal

pub returns-in-Some : goal.returns-in-Some
returns-in-Some c =
    let found : Some c.in-Some.owner.now ≡ lookup (bytes_eq c.args.name.now) c.self.inside.names.entries = rw c.in-Some.is at c.get.ensures.value ∙ found_whole c.args.name.now c.self.inside.names.entries in
    ap (λ (o : Option (Option Owner)). option_flatten o) found ∙ ap (λ (book : BookView). name_owner c.args.name.now book) c.self.view_is

pub returns-in-None : goal.returns-in-None
returns-in-None c =
    let found : None ≡ lookup (bytes_eq c.args.name.now) c.self.inside.names.entries = rw c.in-None.is at c.get.ensures.value ∙ found_whole c.args.name.now c.self.inside.names.entries in
    ap (λ (o : Option (Option Owner)). option_flatten o) found ∙ ap (λ (book : BookView). name_owner c.args.name.now book) c.self.view_is
