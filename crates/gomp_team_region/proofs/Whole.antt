-- If each member of a new team has one part of each ledger when it returns, these and what was left are all parts that there were.
use Rattle.std.proofs.Common.{ℕ, ◌≡◌, ◌+◌, List, [], ◌∷◌, sum_by, refl, ap, ◌∙◌, arith, length}
use Rattle.std.specs.Prelude.{All}
use Rattle.std.proofs.lemmas.List.Elements.{All-nil, All-cons, All-head, All-tail}
use Rattle.std.proofs.lemmas.List.Sums.{sum_by-cons}
use Rattle.gomp_icv.specs.Variables.{Variables}
use Rattle.gomp_team.specs.Members.{TeamView, MemberView}
use Rattle.gomp_team_board.specs.Parts.{PartView}
use Rattle.gomp_team_book.specs.Parts.{BookPartView}
use Rattle.gomp_team_region.specs.Regions.{RegionView, IsNewRegion, AreNewMembers, GivesParts, HasOneOfEach, events_parts, held_parts, freed_parts, with_parts, with_book_parts}

-- new members have one part of each
pub new_members_have_one_of_each : {T : Type 0} (team : TeamView) (m : ℕ) (members : List (MemberView T)) → AreNewMembers team m members → All HasOneOfEach members
new_members_have_one_of_each team m [] news = All-nil HasOneOfEach
new_members_have_one_of_each team m (member ∷ members) (new, others) =
    let one : HasOneOfEach member = record { events = ap (λ p. p.parts) new.events; held = ap (λ p. p.parts) new.held; freed = ap (λ p. p.parts) new.freed } in
    All-cons HasOneOfEach member members one (new_members_have_one_of_each team (m + 1) members others)

-- The sums of their parts

events_in_sum : {T : Type 0} (members : List (MemberView T)) → All HasOneOfEach members → sum_by (λ part. part.parts) (events_parts members) ≡ length members
events_in_sum [] each = refl
events_in_sum (member ∷ members) each =
    let one = (All-head HasOneOfEach member members each).events in
    let rest = events_in_sum members (All-tail HasOneOfEach member members each) in
    sum_by-cons (λ (p : PartView). p.parts) member.events (events_parts members) ∙ omega (arith, one, rest)

holds_in_sum : {T : Type 0} (members : List (MemberView T)) → All HasOneOfEach members → sum_by (λ part. part.parts) (held_parts members) ≡ length members
holds_in_sum [] each = refl
holds_in_sum (member ∷ members) each =
    let one = (All-head HasOneOfEach member members each).held in
    let rest = holds_in_sum members (All-tail HasOneOfEach member members each) in
    sum_by-cons (λ (p : BookPartView). p.parts) member.held (held_parts members) ∙ omega (arith, one, rest)

releases_in_sum : {T : Type 0} (members : List (MemberView T)) → All HasOneOfEach members → sum_by (λ part. part.parts) (freed_parts members) ≡ length members
releases_in_sum [] each = refl
releases_in_sum (member ∷ members) each =
    let one = (All-head HasOneOfEach member members each).freed in
    let rest = releases_in_sum members (All-tail HasOneOfEach member members each) in
    sum_by-cons (λ (p : BookPartView). p.parts) member.freed (freed_parts members) ∙ omega (arith, one, rest)

-- As many members as the team has: with what was left they have all parts of the ledger of its events,
pub one_of_each_is_the_whole : {T : Type 0} (number : ℕ) (icv : Variables) (size whole : ℕ) (region : RegionView) (members : List (MemberView T))
    → IsNewRegion number icv size whole region → All HasOneOfEach members → length members ≡ size → (with_parts region.rest (events_parts members)).parts ≡ whole
one_of_each_is_the_whole number icv size whole region members new each count =
    let sum = events_in_sum members each in
    let left = new.left in
    omega (arith, sum, left, count)

-- and of the book's ledgers as many parts come back as were given away
pub holds_come_back : {T : Type 0} (size : ℕ) (before between after : BookPartView) (members : List (MemberView T))
    → GivesParts size before between → after ≡ with_book_parts between (held_parts members) → All HasOneOfEach members → length members ≡ size → after.parts ≡ before.parts
holds_come_back size before between after members gives back each count =
    let sum = holds_in_sum members each in
    let given = gives.parts in
    let more : after.parts ≡ between.parts + sum_by (λ part. part.parts) (held_parts members) = ap (λ p. p.parts) back in
    omega (arith, sum, given, more, count)

pub releases_come_back : {T : Type 0} (size : ℕ) (before between after : BookPartView) (members : List (MemberView T))
    → GivesParts size before between → after ≡ with_book_parts between (freed_parts members) → All HasOneOfEach members → length members ≡ size → after.parts ≡ before.parts
releases_come_back size before between after members gives back each count =
    let sum = releases_in_sum members each in
    let given = gives.parts in
    let more : after.parts ≡ between.parts + sum_by (λ part. part.parts) (freed_parts members) = ap (λ p. p.parts) back in
    omega (arith, sum, given, more, count)
