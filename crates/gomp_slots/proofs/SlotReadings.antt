-- What each event adds to the claims of a share, of any member and list; no other adds one; what a share waits for, and what a member sees at first.
use Rattle.std.proofs.Common.{◌≡◌, ◌≢◌, ℕ, List, [], ◌∷◌, ◌++◌, Some, None, inl, inr, refl}
use Rattle.std.specs.Prelude.{◌==◌}
use Rattle.std.proofs.lemmas.Bool.{cases_Bool}
use Rattle.gomp_events.specs.declared.event.Event.{Event}
use Rattle.gomp_events.specs.declared.event.Event.TheVariants.{Take, Drained}
use Rattle.gomp_events.specs.Seen.{seen_of}
use Rattle.gomp_types.proofs.Booleans.{is_equal, same_number, other_number}
use Rattle.gomp_gate.specs.Gates.{phase_of}
use Rattle.gomp_slots.specs.declared.opening.Delay.TheVariants.{NoRoom, BeingOpened}
use Rattle.gomp_slots.specs.Calls.{delay_of}
use Rattle.gomp_slots.specs.Moments.{claims_made}
use Rattle.gomp_slots.specs.Seats.{unseen}

-- Claims of a share

-- at first none was made
pub no_claim_at_first : (i : ℕ) → claims_made i [] ≡ []
no_claim_at_first i = refl

-- a take of the share, and an answer that nothing is left of it, stand behind the claims before
pub take_is_the_last_claim : (i m low high : ℕ) (h : List Event) → claims_made i (Take i m low high ∷ h) ≡ claims_made i h ++ (m, Some (low, high)) ∷ []
take_is_the_last_claim i m low high h = rw (same_number i) refl

pub end_is_the_last_claim : (i m : ℕ) (h : List Event) → claims_made i (Drained i m ∷ h) ≡ claims_made i h ++ (m, None) ∷ []
end_is_the_last_claim i m h = rw (same_number i) refl

-- and no other event is a claim of it
pub no_claim_by_another_event : (i : ℕ) (event : Event) (h : List Event) → ((m low high : ℕ) → event ≢ Take i m low high) → ((m : ℕ) → event ≢ Drained i m) → claims_made i (event ∷ h) ≡ claims_made i h
no_claim_by_another_event i (Take j m low high) h takes ends = elim (cases_Bool (j == i)) [
  | inl here ↦ absurd (takes m low high (let same = is_equal j i here in rw same refl))
  | inr other ↦ rw other refl
]
no_claim_by_another_event i (Drained j m) h takes ends = elim (cases_Bool (j == i)) [
  | inl here ↦ absurd (ends m (let same = is_equal j i here in rw same refl))
  | inr other ↦ rw other refl
]
no_claim_by_another_event i _ h takes ends = refl

-- Waiting

-- a share waits for its opener in the phase in which a seat opens it, and in each other one for room
pub share_waits_for_its_opener : (word : ℕ) → phase_of word ≡ 1 → delay_of word ≡ BeingOpened
share_waits_for_its_opener word phase = rw phase refl

pub share_waits_for_room : (word : ℕ) → phase_of word ≢ 1 → delay_of word ≡ NoRoom
share_waits_for_room word other = rw (other_number (phase_of word) 1 other) refl

-- What is seen

-- a member that has done nothing sees nothing, whichever it is
pub nothing_seen_at_first : (m : ℕ) → unseen ≡ seen_of m []
nothing_seen_at_first m = refl
