-- What a member's tests give, in the words of the events, and what is known of one that may claim or leave.
use Rattle.std.proofs.Common.{◌≡◌, ℕ, Bool, true, false, List, ◌∷◌, Option, Some, refl, ◌∙◌, sym}
use Rattle.std.specs.Prelude.{◌↔◌, not}
use Rattle.gomp_types.specs.declared.limits.Limits.{Limits}
use Rattle.gomp_types.specs.declared.refusal.Refusal.{Refusal}
use Rattle.gomp_types.specs.declared.reply.Reply.TheVariants.{Refused}
use Rattle.gomp_events.specs.declared.seen.Seen.{Seen}
use Rattle.gomp_types.specs.declared.shape.Shape.{Shape}
use Rattle.gomp_events.specs.declared.event.Event.{Event}
use Rattle.gomp_events.specs.declared.event.Event.TheVariants.{Enter}
use Rattle.gomp_types.specs.Tests.{Test, first_holding}
use Rattle.gomp_types.specs.Least.{least}
use Rattle.gomp_events.specs.Seen.{seen_of}
use Rattle.gomp_types.proofs.LeastTests.{from, first_is_least}
use Rattle.gomp_types.proofs.TestRows.{front_holds}
use Rattle.gomp_shares.specs.Calls.{Claims}
use Rattle.gomp_shares.specs.Starts.{start_tests, share_tests, compared_share}
use Rattle.gomp_shares.proofs.Entered.{row_is, open_entered}

-- The tests

-- a start is refused by its own tests
pub own_refuses : (own : List Test) (shape : Shape) (limits : Limits) (m : ℕ) (seen : Seen) (h : List Event) (refusal : Refusal) → from 0 (share_tests own shape limits m h) ≡ true → seen ≡ seen_of m h →
    Some refusal ≡ first_holding (start_tests own limits seen) → least (share_tests own shape limits m h) ≡ Some refusal
own_refuses own shape limits m seen h refusal rising e is =
    sym (first_is_least 0 (share_tests own shape limits m h) rising)
    ∙ front_holds (start_tests own limits (seen_of m h)) (compared_share shape m h) refusal (row_is (start_tests own limits) seen (seen_of m h) (Some refusal) e is)

-- a start that answers a refusal answers this one alone
pub refused_by_least : (found refusal : Refusal) (first : Option Refusal) → first ≡ Some found → Refused found ≡ Refused refusal ↔ first ≡ Some refusal
refused_by_least found refusal first e = (
  (λ same. let one : found ≡ refusal = cc in rw (← one) e),
  (λ other. let both : Some found ≡ Some refusal = sym e ∙ other in let one : found ≡ refusal = cc in rw one refl),
)

-- what is none is not some
pub none_and_some : (some none : Bool) → some ≡ not none → none ≡ false → some ≡ false → ⊥
none_and_some false true told no_none no_some = absurd (cc)
none_and_some false false told no_none no_some = absurd (cc)
none_and_some true none told no_none no_some = absurd (cc)

-- Claims

-- the share of a claim is the one that the member has entered
pub claim_entered : (members m i : ℕ) (shape : Shape) (answer : Option (ℕ × ℕ)) (h : List Event) → (claims : Claims members m answer (Enter i m shape ∷ h)) → claims.share ≡ (i, shape)
claim_entered members m i shape answer h claims =
    let both : Some claims.share ≡ Some (i, shape) = sym claims.there ∙ open_entered m i shape h in cc
