-- What a take adds.
use Rattle.std.proofs.Common.{◌≡◌, ◌≢◌, ℕ, ◌+◌, false, List, ◌∷◌, refl, arith}
use Rattle.std.specs.Prelude.{◌==◌}
use Rattle.std.proofs.lemmas.Bool.Decides.{nat_tests}
use Rattle.gomp_events.specs.declared.event.Event.{Event}
use Rattle.gomp_events.specs.declared.event.Event.TheVariants.{Take}
use Rattle.gomp_types.specs.Limits.{shown_number}
use Rattle.gomp_events.specs.Takes.{taken_in}
use Rattle.gomp_types.proofs.Booleans.{same_number}
use Rattle.gomp_shares.specs.Calls.{taken_of}
use Rattle.gomp_share_plain.specs.Plain.{taken_by}

pub shown_more : (n : ℕ) → shown_number (n + 1) ≡ shown_number (shown_number n + 1)
shown_more n = omega arith

-- it counts for its share and its member, and for no other
pub taken_here : (i m low high : ℕ) (h : List Event) → taken_of i (Take i m low high ∷ h) ≡ taken_of i h + 1
taken_here i m low high h = rw (same_number i) refl

pub taken_mine : (i m low high : ℕ) (h : List Event) → taken_by i m (Take i m low high ∷ h) ≡ taken_by i m h + 1
taken_mine i m low high h = rw (same_number i, same_number m) refl

pub taken_theirs : (i j k m low high : ℕ) (h : List Event) → k ≢ m → taken_by i k (Take j m low high ∷ h) ≡ taken_by i k h
taken_theirs i j k m low high h other = grind (arith, nat_tests)

pub taken_else : (queue_of : ℕ → ℕ) (q i j m low high : ℕ) (h : List Event) → (j == i) ≡ false → taken_in queue_of i q (Take j m low high ∷ h) ≡ taken_in queue_of i q h
taken_else queue_of q i j m low high h e = rw e refl
