-- What no gate and no share's words are, of any word, share, team and shape.
use Rattle.std.proofs.Common.{◌≡◌, ◌≢◌, ℕ, ◌+◌, ◌%◌, ◌^◌, ◌<◌, ◌≤◌, Bool, true, false, refl, bit_or, arith}
use Rattle.std.specs.Prelude.{FitsSigned}
use Rattle.std.specs.Int.{w64}
use Rattle.gomp_types.specs.declared.shape.Shape.{Shape}
use Rattle.gomp_types.specs.Values.{IsShape}
use Rattle.gomp_types.specs.Singles.{single_shape}
use Rattle.gomp_gate.specs.Gates.{phase_of, phase_for, round_for, gate_word, opening_word, open_word, all_passed_word, is_free_for, HasFields}
use Rattle.gomp_gate.specs.Shapes.{SameWords}
use Rattle.gomp_gate.proofs.Gates.{gate_fields, gate_of_fields, claim_word, leave_word, pass_word, cancel_word, cancel_bit}
use Rattle.gomp_gate.proofs.Shapes.{words_tell_shape, bare_shape}
use Rattle.gomp_gate.proofs.FreeSlots.{all_passed_is_free, all_passed_left}

-- no slot that has a share is empty, not in round 0 either
pub open_slot_never_empty : (phase round ticket left cancelled : ℕ) → 1 < phase → gate_word phase round ticket left cancelled ≡ 0 → ⊥
open_slot_never_empty phase round ticket left cancelled late empty = absurd (omega arith)

-- nor one that is being opened
pub opening_slot_never_empty : (share : ℕ) → opening_word share ≡ 0 → ⊥
opening_slot_never_empty share empty = absurd (omega (arith, empty))

-- no slot has a share open that is still being opened
pub opening_never_open : (share other : ℕ) (bare : Bool) → phase_of (opening_word share) ≡ phase_of (open_word bare other) → ⊥
opening_never_open share other true same = absurd (omega (arith, same))
opening_never_open share other false same = absurd (omega (arith, same))

-- no open gate is that of a bare single and of another share
pub phases_never_confused : (p r t l c p' r' t' l' c' : ℕ) → p < 4 → p' < 4 → t < 2 ^ 40 → l < 2 ^ 7 → c < 2 → t' < 2 ^ 40 → l' < 2 ^ 7 → c' < 2 → gate_word p r t l c ≡ gate_word p' r' t' l' c' → (p ≡ p' → ⊥) → ⊥
phases_never_confused p r t l c p' r' t' l' c' a0 b0 a1 a2 a3 b1 b2 b3 same other = other (omega arith)

-- a bare single is of the one shape that such have
pub bare_never_another_shape : (shape : Shape) → phase_for shape ≡ 3 → (shape ≡ single_shape false → ⊥) → ⊥
bare_never_another_shape shape bare other = other (bare_shape shape bare)

-- and what is not one is never taken for one
pub bare_never_missed : phase_for (single_shape false) ≡ 3
bare_never_missed = refl

-- a member that goes through a bare single never changes another field than the claims and those that left, and never wraps
pub pass_never_changes_another_field : (r t l c : ℕ) → t + 1 < 2 ^ 40 → l + 1 < 2 ^ 7 → c < 2 → r < 2 ^ 14 → (gate_word 3 r t l c + (2 ^ 40 + 1)) % 2 ^ 64 ≢ gate_word 3 r (t + 1) (l + 1) c → ⊥
pass_never_changes_another_field r t l c ht hl hc hr other = other (pass_word r t l c ht hl hc hr)

-- two shares of one slot that follow one another are never in one round
pub neighbours_never_in_one_round : (share : ℕ) → round_for share ≡ round_for (share + 8) → ⊥
neighbours_never_in_one_round share same = absurd (omega (arith, same))

-- no gate of an open share has other fields than those that it was made of
pub gate_never_of_other_fields : (p r t l c : ℕ) → p < 4 → t < 2 ^ 40 → l < 2 ^ 7 → c < 2 → (HasFields (gate_word p r t l c) t l c p r → ⊥) → ⊥
gate_never_of_other_fields p r t l c hp ht hl hc other = other (gate_fields p r t l c hp ht hl hc)

-- nor has another word these fields
pub fields_never_of_another_word : (word p r t l c : ℕ) → HasFields word t l c p r → word ≢ gate_word p r t l c → ⊥
fields_never_of_another_word word p r t l c is other = other (gate_of_fields word p r t l c is)

-- a claim never changes another field than the claims, and never wraps
pub claim_never_changes_another_field : (p r t l c : ℕ) → p < 4 → t + 1 < 2 ^ 40 → l < 2 ^ 7 → c < 2 → r < 2 ^ 14 → (gate_word p r t l c + 1) % 2 ^ 64 ≢ gate_word p r (t + 1) l c → ⊥
claim_never_changes_another_field p r t l c hp ht hl hc hr other = other (claim_word p r t l c hp ht hl hc hr)

-- nor does a member that leaves
pub leave_never_changes_another_field : (p r t l c : ℕ) → p < 4 → t < 2 ^ 40 → l + 1 < 2 ^ 7 → c < 2 → r < 2 ^ 14 → (gate_word p r t l c + 2 ^ 40) % 2 ^ 64 ≢ gate_word p r t (l + 1) c → ⊥
leave_never_changes_another_field p r t l c hp ht hl hc hr other = other (leave_word p r t l c hp ht hl hc hr)

-- nor a cancellation, of a share that is cancelled already either
pub cancellation_never_changes_another_field : (p r t l c : ℕ) → p < 4 → t < 2 ^ 40 → l < 2 ^ 7 → c < 2 → bit_or (gate_word p r t l c) cancel_bit ≢ gate_word p r t l 1 → ⊥
cancellation_never_changes_another_field p r t l c hp ht hl hc other = other (cancel_word p r t l c hp ht hl hc)

-- a gate tells its fields: no two different gates of open shares are one word
pub claims_never_confused : (p r t l c p' r' t' l' c' : ℕ) → p < 4 → p' < 4 → t < 2 ^ 40 → l < 2 ^ 7 → c < 2 → t' < 2 ^ 40 → l' < 2 ^ 7 → c' < 2 → gate_word p r t l c ≡ gate_word p' r' t' l' c' → (t ≡ t' → ⊥) → ⊥
claims_never_confused p r t l c p' r' t' l' c' a0 b0 a1 a2 a3 b1 b2 b3 same other = other (omega arith)

pub leaves_never_confused : (p r t l c p' r' t' l' c' : ℕ) → p < 4 → p' < 4 → t < 2 ^ 40 → l < 2 ^ 7 → c < 2 → t' < 2 ^ 40 → l' < 2 ^ 7 → c' < 2 → gate_word p r t l c ≡ gate_word p' r' t' l' c' → (l ≡ l' → ⊥) → ⊥
leaves_never_confused p r t l c p' r' t' l' c' a0 b0 a1 a2 a3 b1 b2 b3 same other = other (omega arith)

pub cancellations_never_confused : (p r t l c p' r' t' l' c' : ℕ) → p < 4 → p' < 4 → t < 2 ^ 40 → l < 2 ^ 7 → c < 2 → t' < 2 ^ 40 → l' < 2 ^ 7 → c' < 2 → gate_word p r t l c ≡ gate_word p' r' t' l' c' → (c ≡ c' → ⊥) → ⊥
cancellations_never_confused p r t l c p' r' t' l' c' a0 b0 a1 a2 a3 b1 b2 b3 same other = other (omega arith)

pub rounds_never_confused : (p r t l c p' r' t' l' c' : ℕ) → p < 4 → p' < 4 → t < 2 ^ 40 → l < 2 ^ 7 → c < 2 → t' < 2 ^ 40 → l' < 2 ^ 7 → c' < 2 → gate_word p r t l c ≡ gate_word p' r' t' l' c' → (r ≡ r' → ⊥) → ⊥
rounds_never_confused p r t l c p' r' t' l' c' a0 b0 a1 a2 a3 b1 b2 b3 same other = other (omega arith)

-- no two shapes have the same words
pub shapes_never_confused : (a b : Shape) → IsShape a → IsShape b → FitsSigned w64 a.start → FitsSigned w64 a.incr → FitsSigned w64 b.start → FitsSigned w64 b.incr → SameWords a b → (a ≡ b → ⊥) → ⊥
shapes_never_confused a b va vb sa ia sb ib same other = other (words_tell_shape a b va vb sa ia sb ib same)

-- no slot is taken for free that has a bare single through which some member has not gone, and none is refused through which all have
pub slot_never_kept_by_a_single_that_all_passed : (members share : ℕ) → 8 ≤ share → members < 2 ^ 7 → is_free_for members share (all_passed_word members share) ≢ true → ⊥
slot_never_kept_by_a_single_that_all_passed members share late few kept = kept (all_passed_is_free members share late few)

pub slot_never_free_before_all_passed : (members other share : ℕ) → 8 ≤ share → members < 2 ^ 7 → other < 2 ^ 7 → other ≢ members → is_free_for members share (all_passed_word other share) ≡ true → ⊥
slot_never_free_before_all_passed members other share late few less differ free = differ (all_passed_left members other share late few less free)
