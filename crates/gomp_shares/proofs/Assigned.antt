-- A member takes of a static loop only the pieces that are assigned to it.
use Rattle.std.proofs.Common.{◌≡◌, ℕ, ◌+◌, ◌%◌, ◌<◌, true, List, [], ◌∷◌, Some, ◌∙◌, sym, arith, suc, zero, slice_get, inl, inr}
use Rattle.std.specs.Prelude.{◌==◌}
use Rattle.std.proofs.Math.Nat.{mod-eq_of_lt}
use Rattle.std.proofs.lemmas.Bool.{cases_Bool}
use Rattle.gomp_types.specs.declared.shape.Shape.{Shape}
use Rattle.gomp_types.specs.declared.shape.ShareKind.{ShareKind}
use Rattle.gomp_types.specs.declared.shape.ShareKind.TheVariants as kinds
use Rattle.gomp_events.specs.declared.event.Event.{Event}
use Rattle.gomp_events.specs.declared.event.Event.TheVariants.{Take}
use Rattle.gomp_types.specs.Shapes.{is_static}
use Rattle.gomp_types.specs.Pieces.{Piece, kind_pieces}
use Rattle.gomp_events.specs.Events.{shape_at}
use Rattle.gomp_types.specs.Deals.{queues_of, owned_from, schedule}
use Rattle.gomp_events.specs.Takes.{taken_in}
use Rattle.gomp_events.specs.Laws.{Always}
use Rattle.gomp_shares.specs.Rules.{ShareRule}
use Rattle.gomp_shares.specs.Laws.{TakesItsOwn}
use Rattle.gomp_types.proofs.Booleans.{is_equal}
use Rattle.gomp_shares.proofs.SharesKeep.{member_is_inside, enter_has_its_shape}

-- a piece of an owner stands in the list, at a number that is the owner's
abbrev Place : (ℕ → ℕ) → ℕ → ℕ → Piece → List Piece → Type 0
Place owner m j piece pieces = (number : ℕ) × (slice_get pieces number ≡ Some piece) × (owner (j + number) ≡ m)

placed_one_further : (owner : ℕ → ℕ) (m j : ℕ) (first piece : Piece) (pieces : List Piece) → Place owner m (j + 1) piece pieces → Place owner m j piece (first ∷ pieces)
placed_one_further owner m j first piece pieces place = let same : j + 1 + place.0 ≡ j + suc place.0 = omega arith in (suc place.0, place.1, rw same at place.2)

owned_place : (owner : ℕ → ℕ) (m j n : ℕ) (piece : Piece) (pieces : List Piece) → slice_get (owned_from owner m j pieces) n ≡ Some piece → Place owner m j piece pieces
owned_place owner m j n piece [] at = absurd (cc)
owned_place owner m j n piece (first ∷ pieces) at =
    elim (cases_Bool (owner j == m)) [
      | inl own ↦ front n (is_equal (owner j) m own) (λ rest. owned_place owner m (j + 1) rest piece pieces) (rw own at at)
      | inr other ↦ placed_one_further owner m j first piece pieces (owned_place owner m (j + 1) n piece pieces (rw other at at))
    ]
  where
    front : (n : ℕ) → owner j ≡ m → ((i : ℕ) → slice_get (owned_from owner m (j + 1) pieces) i ≡ Some piece → Place owner m (j + 1) piece pieces) → slice_get (first ∷ owned_from owner m (j + 1) pieces) n ≡ Some piece → Place owner m j piece (first ∷ pieces)
    front zero own later at = let here : j ≡ j + 0 = omega arith in (0, at, rw here at own)
    front (suc i) own later at = placed_one_further owner m j first piece pieces (later i at)

-- of a static loop with a chunk it is the rest of the number, without one the number itself
own_number : (members m n : ℕ) (shape : Shape) (piece : Piece) (kind : ShareKind) → m < members → is_static kind ≡ true →
    slice_get ((queues_of members kind).queue shape ((queues_of members kind).queue_of shape m)) n ≡ Some piece →
    (number : ℕ) × (slice_get (kind_pieces members kind shape) number ≡ Some piece) × (number % members ≡ m)
own_number members m n shape piece kinds.StaticChunked lt static at =
    let place = owned_place (λ j. j % members) m 0 n piece (kind_pieces members kinds.StaticChunked shape) at in
    let same : 0 + place.0 ≡ place.0 = omega arith in
    (place.0, place.1, rw same at place.2)
own_number members m n shape piece kinds.StaticEven lt static at =
    let place = owned_place (λ j. j) m 0 n piece (kind_pieces members kinds.StaticEven shape) at in
    let same : place.0 ≡ m = let own = place.2 in omega arith in
    (place.0, place.1, rw same (mod-eq_of_lt lt))
own_number members m n shape piece _ lt static at = absurd (cc)

pub takes_its_own : (members : ℕ) (event : Event) (earlier : List Event) → ShareRule (schedule members) members event earlier → Always (ShareRule (schedule members) members) earlier → TakesItsOwn members event earlier
takes_its_own members (Take share m low high) earlier rule all = λ shape stands static.
    let known = member_is_inside (schedule members) members m share rule.shape earlier all rule.inside in
    let other : shape_at share earlier ≡ Some shape = (enter_has_its_shape (schedule members) members share m shape earlier all stands).1 in
    let same : rule.shape ≡ shape = let both = sym known.0 ∙ other in cc in
    own_number members m (taken_in ((schedule members).queue_of shape) share ((schedule members).queue_of shape m) earlier) shape (low, high) shape.kind known.1 static (rw same at rule.next)
takes_its_own members _ earlier rule all = tt
