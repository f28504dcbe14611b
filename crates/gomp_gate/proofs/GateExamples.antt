-- The fields at both ends of their bits, the rounds at both ends, and the numbers of the tables in the README.
use Rattle.std.proofs.Common.{◌≡◌, true, false, refl}
use Rattle.std.specs.Prelude.{pos, negsuc}
use Rattle.gomp_types.specs.declared.shape.Shape.{Shape}
use Rattle.gomp_types.specs.Singles.{single_shape}
use Rattle.gomp_types.specs.declared.shape.ShareKind.TheVariants.{StaticChunked, StaticEven, Dynamic, Guided, Sections, Single, SingleCopy}
use Rattle.gomp_types.specs.declared.loop_desc.EndKind.TheVariants.{Wait, Nowait, Cancellable}
use Rattle.gomp_gate.specs.declared.gate.Phase.TheVariants.{Empty, Opening, Open, OpenSingle}
use Rattle.gomp_gate.specs.Gates.{ticket_of, left_of, cancelled_of, phase_of, round_of, phase_number, round_for, gate_word, opening_word, open_word, passed_word, is_bare_single, holds_share, is_free_for}
use Rattle.gomp_gate.specs.Shapes.{kind_bits, end_number, shape_word}

-- bits 0 to 39 are the claims
pub claims_at_both_ends : (ticket_of 1 ≡ 1) × (ticket_of 1099511627775 ≡ 1099511627775) × (ticket_of 1099511627776 ≡ 0)
claims_at_both_ends = (refl, refl, refl)

-- bits 40 to 46 are the members that left
pub left_at_both_ends : (left_of 1099511627775 ≡ 0) × (left_of 1099511627776 ≡ 1) × (left_of 139637976727552 ≡ 127) × (left_of 140737488355328 ≡ 0)
left_at_both_ends = (refl, refl, refl, refl)

-- bit 47 is the cancellation
pub cancelled_at_both_ends : (cancelled_of 140737488355327 ≡ 0) × (cancelled_of 140737488355328 ≡ 1) × (cancelled_of 281474976710656 ≡ 0)
cancelled_at_both_ends = (refl, refl, refl)

-- bits 48 and 49 are the phase
pub phase_at_both_ends : (phase_of 281474976710655 ≡ 0) × (phase_of 281474976710656 ≡ 1) × (phase_of 562949953421312 ≡ 2) × (phase_of 844424930131968 ≡ 3) × (phase_of 1125899906842624 ≡ 0)
phase_at_both_ends = (refl, refl, refl, refl, refl)

-- bits 50 to 63 are the round
pub round_at_both_ends : (round_of 1125899906842623 ≡ 0) × (round_of 1125899906842624 ≡ 1) × (round_of 18446744073709551615 ≡ 16383)
round_at_both_ends = (refl, refl, refl)

-- the phases are 0 to 3
pub phases_have_their_numbers : (phase_number Empty ≡ 0) × (phase_number Opening ≡ 1) × (phase_number Open ≡ 2) × (phase_number OpenSingle ≡ 3)
phases_have_their_numbers = (refl, refl, refl, refl)

-- eight shares to a round, the first in round 1; round 16383 is the last before they begin again with 0
pub rounds_of_shares : (round_for 0 ≡ 1) × (round_for 7 ≡ 1) × (round_for 8 ≡ 2) × (round_for 131063 ≡ 16383) × (round_for 131064 ≡ 0) × (round_for 131071 ≡ 0) × (round_for 131072 ≡ 1) × (round_for 281474976710655 ≡ 0)
rounds_of_shares = (refl, refl, refl, refl, refl, refl, refl, refl)

-- a slot that is taken for share 0 or for share 8, and these as they are opened; share 0 as a bare single, and that after its first member
pub slots_as_they_are_taken : (opening_word 0 ≡ 1407374883553280) × (opening_word 8 ≡ 2533274790395904) × (open_word false 0 ≡ 1688849860263936) × (open_word false 8 ≡ 2814749767106560) × (open_word true 0 ≡ 1970324836974592) × (passed_word 0 ≡ 1971424348602369)
slots_as_they_are_taken = (refl, refl, refl, refl, refl, refl)

-- the gate of share 0 after five claims, when two of its three members have left and it is cancelled
pub gate_of_share : gate_word 2 1 5 2 1 ≡ 1831786371874821
gate_of_share = refl

-- a slot is free for share 8 once all three members have left share 0, and for share 0 only while no share was ever in it
pub slots_that_are_free : (is_free_for 3 8 (gate_word 2 1 5 3 0) ≡ true) × (is_free_for 3 8 (gate_word 2 1 5 2 0) ≡ false) × (is_free_for 3 0 0 ≡ true) × (is_free_for 3 0 (gate_word 2 1 5 3 0) ≡ false)
slots_that_are_free = (refl, refl, refl, refl)

-- share 131064 is in round 0: its open slot is no empty one, which any of the shares 0 to 7 might take, and is free for share 131072 once all have left
pub round_0_is_no_empty_slot : (holds_share 131064 (open_word false 131064) ≡ true) × (is_free_for 1 7 (open_word false 131071) ≡ false) × (is_free_for 0 131072 (open_word false 131064) ≡ true) × (is_free_for 1 131072 (open_word false 131064) ≡ false)
round_0_is_no_empty_slot = (refl, refl, refl, refl)

-- the kinds of share are 0 to 6, and of end 0 to 2
pub kinds_have_their_numbers : (kind_bits StaticChunked ≡ 0) × (kind_bits StaticEven ≡ 1) × (kind_bits Dynamic ≡ 2) × (kind_bits Guided ≡ 3) × (kind_bits Sections ≡ 4) × (kind_bits Single ≡ 5) × (kind_bits SingleCopy ≡ 6) × (end_number Wait ≡ 0) × (end_number Nowait ≡ 1) × (end_number Cancellable ≡ 2)
kinds_have_their_numbers = (refl, refl, refl, refl, refl, refl, refl, refl, refl, refl)

-- a guided loop of 2^39 iterations from 10 down by 3, in chunks of 7, ordered, whose members do not wait at its end
abbrev example : Shape
example = record { start = pos 10; incr = negsuc 2; trips = 549755813888; kind = Guided; chunk = 7; ordered = true; end_kind = Nowait }

pub words_of_a_loop : (shape_word 0 example ≡ 549755813888) × (shape_word 1 example ≡ 29686813949959) × (shape_word 2 example ≡ 10) × (shape_word 3 example ≡ 18446744073709551613) × (shape_word 4 example ≡ 0)
words_of_a_loop = (refl, refl, refl, refl, refl)

-- a `single` whose executor hands words to the others is no bare one, nor is a loop
pub bare_singles : (is_bare_single (single_shape false) ≡ true) × (is_bare_single (single_shape true) ≡ false) × (is_bare_single example ≡ false)
bare_singles = (refl, refl, refl)

-- the slot of a bare single through which its one member went has it, and is free for share 8
pub passed_slots : (holds_share 0 (passed_word 0) ≡ true) × (is_free_for 1 8 (passed_word 0) ≡ true) × (is_free_for 2 8 (passed_word 0) ≡ false) × (holds_share 8 (passed_word 0) ≡ false)
passed_slots = (refl, refl, refl, refl)
