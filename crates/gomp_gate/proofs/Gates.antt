-- What each step on a gate makes of its fields, and that no sum wraps.
use Rattle.std.proofs.Common.{◌≡◌, ℕ, ◌+◌, ◌/◌, ◌%◌, ◌^◌, ◌<◌, max, bit_or, ◌∙◌, ap, arith}
use Rattle.std.proofs.lemmas.Nat.{or_mod, or_shr}
use Rattle.std.proofs.lemmas.Nat.Bits.{bit_at_or, bit_at-lt}
use Rattle.std.specs.Int.Bits.{or_zero_r}
use Rattle.std.specs.Int.{bit_at}
use Rattle.gomp_gate.specs.Gates.{ticket_of, left_of, cancelled_of, phase_of, round_of, gate_word, HasFields}

abbrev pub cancel_bit : ℕ
cancel_bit = 0x8000_0000_0000

bits_above : (word k : ℕ) → cancel_bit / 2 ^ k ≡ 0 → bit_or word cancel_bit / 2 ^ k ≡ word / 2 ^ k
bits_above word k e = or_shr word cancel_bit k ∙ ap (bit_or (word / 2 ^ k)) e ∙ or_zero_r (word / 2 ^ k)

set_bit : (b c : ℕ) → b < 2 → c ≡ max b 1 → c ≡ 1
set_bit b c h e = omega arith

-- the bit is set, and no other field changes
pub cancels_word : (word : ℕ) → HasFields (bit_or word cancel_bit) (ticket_of word) (left_of word) 1 (phase_of word) (round_of word)
cancels_word word = record {
  ticket_is = or_mod word cancel_bit 40 ∙ or_zero_r (word % 2 ^ 40);
  left_is = ap (λ (n : ℕ). n % 2 ^ 7) (or_shr word cancel_bit 40) ∙ or_mod (word / 2 ^ 40) (2 ^ 7) 7 ∙ or_zero_r (word / 2 ^ 40 % 2 ^ 7);
  cancelled_is = set_bit (bit_at word 47) (cancelled_of (bit_or word cancel_bit)) (bit_at-lt word 47) (bit_at_or word cancel_bit 47);
  phase_is = ap (λ (n : ℕ). n % 4) (bits_above word 48 (λ i. 0));
  round_is = bits_above word 50 (λ i. 0);
}

-- a gate has its fields
pub gate_fields : (p r t l c : ℕ) → p < 4 → t < 2 ^ 40 → l < 2 ^ 7 → c < 2 → HasFields (gate_word p r t l c) t l c p r
gate_fields p r t l c hp ht hl hc = record { ticket_is = omega arith; left_is = omega arith; cancelled_is = omega arith; phase_is = omega arith; round_is = omega arith }

-- and a word with these fields is that gate
pub gate_of_fields : (word p r t l c : ℕ) → HasFields word t l c p r → word ≡ gate_word p r t l c
gate_of_fields word p r t l c is = let a = is.ticket_is in let b = is.left_is in let d = is.cancelled_is in let e = is.phase_is in let f = is.round_is in omega arith

-- a claim adds 1 to the word and a member that leaves 2^40: at the limits too the sum is below 2^64, and no field runs over into the next
pub claim_word : (p r t l c : ℕ) → p < 4 → t + 1 < 2 ^ 40 → l < 2 ^ 7 → c < 2 → r < 2 ^ 14 → (gate_word p r t l c + 1) % 2 ^ 64 ≡ gate_word p r (t + 1) l c
claim_word p r t l c hp ht hl hc hr = omega arith

pub leave_word : (p r t l c : ℕ) → p < 4 → t < 2 ^ 40 → l + 1 < 2 ^ 7 → c < 2 → r < 2 ^ 14 → (gate_word p r t l c + 2 ^ 40) % 2 ^ 64 ≡ gate_word p r t (l + 1) c
leave_word p r t l c hp ht hl hc hr = omega arith

-- a member that goes through a bare single adds both at once
pub pass_word : (r t l c : ℕ) → t + 1 < 2 ^ 40 → l + 1 < 2 ^ 7 → c < 2 → r < 2 ^ 14 → (gate_word 3 r t l c + (2 ^ 40 + 1)) % 2 ^ 64 ≡ gate_word 3 r (t + 1) (l + 1) c
pass_word r t l c ht hl hc hr = omega arith

-- a cancellation sets bit 47
pub cancel_word : (p r t l c : ℕ) → p < 4 → t < 2 ^ 40 → l < 2 ^ 7 → c < 2 → bit_or (gate_word p r t l c) cancel_bit ≡ gate_word p r t l 1
cancel_word p r t l c hp ht hl hc =
    let was = gate_fields p r t l c hp ht hl hc in
    let now = cancels_word (gate_word p r t l c) in
    gate_of_fields (bit_or (gate_word p r t l c) cancel_bit) p r t l 1 (record {
      ticket_is = now.ticket_is ∙ was.ticket_is;
      left_is = now.left_is ∙ was.left_is;
      cancelled_is = now.cancelled_is;
      phase_is = now.phase_is ∙ was.phase_is;
      round_is = now.round_is ∙ was.round_is;
    })
