-- A slot is free for the share eight after a bare single just if all members went through that.
use Rattle.std.proofs.Common.{◌≡◌, ℕ, ◌/◌, ◌%◌, ◌^◌, ◌<◌, ◌≤◌, true, false, refl, arith}
use Rattle.std.specs.Prelude.{◌==◌, ◌&&◌, nat_lt}
use Rattle.std.proofs.lemmas.Bool.Decides.{nat_tests}
use Rattle.gomp_types.proofs.Booleans.{is_equal, same_number, and_right}
use Rattle.gomp_gate.specs.Gates.{left_of, phase_of, round_of, all_passed_word, is_free_for}
use Rattle.gomp_gate.proofs.Gates.{gate_fields}

late_share : (share : ℕ) → 8 ≤ share → nat_lt share 8 ≡ false
late_share share late = grind (arith, nat_tests)

pub all_passed_is_free : (members share : ℕ) → 8 ≤ share → members < 2 ^ 7 → is_free_for members share (all_passed_word members share) ≡ true
all_passed_is_free members share late few =
    let is = gate_fields 3 (share / 8 % 2 ^ 14) members members 0 (omega arith) (omega arith) few (omega arith) in
    rw (late_share share late, is.phase_is, is.round_is, is.left_is, same_number (share / 8 % 2 ^ 14), same_number members) refl

pub all_passed_left : (members other share : ℕ) → 8 ≤ share → members < 2 ^ 7 → other < 2 ^ 7 → is_free_for members share (all_passed_word other share) ≡ true → other ≡ members
all_passed_left members other share late few less free =
    let is = gate_fields 3 (share / 8 % 2 ^ 14) other other 0 (omega arith) (omega arith) less (omega arith) in
    let all : (nat_lt 1 (phase_of (all_passed_word other share)) && (round_of (all_passed_word other share) == share / 8 % 2 ^ 14) && (left_of (all_passed_word other share) == members)) ≡ true = rw (late_share share late) at free in
    let left : left_of (all_passed_word other share) ≡ members = is_equal _ _ (and_right (nat_lt 1 (phase_of (all_passed_word other share)) && (round_of (all_passed_word other share) == share / 8 % 2 ^ 14)) (left_of (all_passed_word other share) == members) all) in
    let own = is.left_is in
    omega arith
