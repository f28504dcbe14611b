-- What was counted on the parts of the book's ledgers that members had, and have put back.
use Rattle.std.proofs.Common.{ℕ, ◌≡◌, ◌+◌, List, [], ◌∷◌, refl, ap, sum_by, arith}
use Rattle.std.proofs.lemmas.List.Sums.{sum_by-cons}
use Rattle.gomp_team_book.specs.Parts.{BookPartView}
use Rattle.gomp_team_region.specs.Regions.{GivesParts, freed_parts, held_parts, with_book_parts}
use Rattle.gomp_fork.specs.Counts.{HoldCounts, both_counted, counted_by, counted_on, counted_within}
use Rattle.gomp_fork.specs.Teams.{EndView, members_of}

module _ {P T : Type 0} where
  -- Of their own parts, and of those for the regions that they forked, the sums

  all_holds : (ends : List (EndView P T)) → sum_by (λ part. part.amount) (held_parts (members_of ends)) + sum_by (λ end. end.inner.held) ends ≡ sum_by (λ end. end.member.held.amount + end.inner.held) ends
  all_holds [] = refl
  all_holds (end ∷ ends) = omega (
    arith,
    all_holds ends,
    sum_by-cons (λ (part : BookPartView). part.amount) end.member.held (held_parts (members_of ends)),
    sum_by-cons (λ (runner : EndView P T). runner.inner.held) end ends,
    sum_by-cons (λ (runner : EndView P T). runner.member.held.amount + runner.inner.held) end ends,
  )

  all_releases : (ends : List (EndView P T)) → sum_by (λ part. part.amount) (freed_parts (members_of ends)) + sum_by (λ end. end.inner.freed) ends ≡ sum_by (λ end. end.member.freed.amount + end.inner.freed) ends
  all_releases [] = refl
  all_releases (end ∷ ends) = omega (
    arith,
    all_releases ends,
    sum_by-cons (λ (part : BookPartView). part.amount) end.member.freed (freed_parts (members_of ends)),
    sum_by-cons (λ (runner : EndView P T). runner.inner.freed) end ends,
    sum_by-cons (λ (runner : EndView P T). runner.member.freed.amount + runner.inner.freed) end ends,
  )

  -- all that was given away of a part, in two goes, came back in two: so is what was counted on it
  pub all_is_counted : (size : ℕ) (held freed held_given freed_given held_inner freed_inner held_after freed_after : BookPartView) (ends : List (EndView P T))
      → GivesParts size held held_given → GivesParts size freed freed_given
      → counted_on held_inner freed_inner ≡ both_counted (counted_on held_given freed_given) (counted_within ends)
      → held_after ≡ with_book_parts held_inner (held_parts (members_of ends)) → freed_after ≡ with_book_parts freed_inner (freed_parts (members_of ends))
      → counted_on held_after freed_after ≡ both_counted (counted_on held freed) (counted_by ends)
  all_is_counted size held freed held_given freed_given held_inner freed_inner held_after freed_after ends gives frees inner holds releases =
      let held_is : held_after.amount ≡ held.amount + sum_by (λ end. end.member.held.amount + end.inner.held) ends =
      omega (arith, all_holds ends, gives.amount, ap (λ (counts : HoldCounts). counts.held) inner, ap (λ (part : BookPartView). part.amount) holds) in
      let freed_is : freed_after.amount ≡ freed.amount + sum_by (λ end. end.member.freed.amount + end.inner.freed) ends =
      omega (arith, all_releases ends, frees.amount, ap (λ (counts : HoldCounts). counts.freed) inner, ap (λ (part : BookPartView). part.amount) releases) in
      rw (held_is, freed_is) refl

-- what is left of a part when its first half is back
pub half_is_back : (size : ℕ) (before given inner : BookPartView) → GivesParts (size + size) before given → inner.parts ≡ given.parts + size → GivesParts size (record { parts = before.parts; amount = inner.amount }) inner
half_is_back size before given inner gives back = record { parts = omega (arith, gives.parts, back); amount = refl }
