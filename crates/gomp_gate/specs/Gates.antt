-- The fields of a gate, and which share a slot has. (own)
use Rattle.std.specs.Prelude.{◌≡◌, ℕ, ◌+◌, ◌*◌, ◌/◌, ◌%◌, ◌^◌, ◌==◌, ◌&&◌, nat_lt, if◌then◌else◌, Bool, true, false}
use Rattle.gomp_types.specs.declared.shape.Shape.{Shape}
use Rattle.gomp_types.specs.Shapes.{same_shape}
use Rattle.gomp_types.specs.Singles.{single_shape}
use Rattle.gomp_gate.specs.declared.gate.Phase.{Phase}
use Rattle.gomp_gate.specs.declared.gate.Phase.TheVariants.{Empty, Opening, Open, OpenSingle}

-- how many claims were made of the share
abbrev pub ticket_of : ℕ → ℕ
ticket_of word = word % 2 ^ 40

-- how many members left it
abbrev pub left_of : ℕ → ℕ
left_of word = word / 2 ^ 40 % 2 ^ 7

-- 1 if it is cancelled, else 0
abbrev pub cancelled_of : ℕ → ℕ
cancelled_of word = word / 2 ^ 47 % 2

-- the number of the slot's phase
abbrev pub phase_of : ℕ → ℕ
phase_of word = word / 2 ^ 48 % 4

-- the round of the share
abbrev pub round_of : ℕ → ℕ
round_of word = word / 2 ^ 50

-- the phases have these numbers
abbrev pub phase_number : Phase → ℕ
phase_number Empty = 0
phase_number Opening = 1
phase_number Open = 2
phase_number OpenSingle = 3

-- a share is in this round: the shares that one slot has, one after another, are in rounds 1, 2, 3 and on, until the rounds begin again
abbrev pub round_for : ℕ → ℕ
round_for share = (share / 8 + 1) % 2 ^ 14

-- a bare single: a `single` construct whose executor hands no words to the others. All such have one shape, so no words behind the gate tell it
abbrev pub is_bare_single : Shape → Bool
is_bare_single shape = same_shape shape (single_shape false)

-- the phase of a slot that has a share, which is a bare single or another one
abbrev pub open_phase : Bool → ℕ
open_phase true = 3
open_phase false = 2

-- the phase of a slot that has a share of this shape
abbrev pub phase_for : Shape → ℕ
phase_for shape = open_phase (is_bare_single shape)

-- the gate with these fields
abbrev pub gate_word : ℕ → ℕ → ℕ → ℕ → ℕ → ℕ
gate_word phase round ticket left cancelled = ticket + 2 ^ 40 * left + 2 ^ 47 * cancelled + 2 ^ 48 * phase + 2 ^ 50 * round

-- the gate of a slot that was taken for the share
abbrev pub opening_word : ℕ → ℕ
opening_word share = 2 ^ 48 + 2 ^ 50 * round_for share

-- and the one with which the share, a bare single or another one, is opened
abbrev pub open_word : Bool → ℕ → ℕ
open_word bare share = gate_word (open_phase bare) (round_for share) 0 0 0

-- the gate of a bare single through which one member went: it claimed the one piece, and left
abbrev pub passed_word : ℕ → ℕ
passed_word share = gate_word 3 (round_for share) 1 1 0

-- the gate of the slot of this share while it has the one eight before, a bare single, through which all of so many members went
abbrev pub all_passed_word : ℕ → ℕ → ℕ
all_passed_word members share = gate_word 3 (share / 8 % 2 ^ 14) members members 0

-- the slot has the share, open
abbrev pub holds_share : ℕ → ℕ → Bool
holds_share share word = nat_lt 1 (phase_of word) && (round_of word == round_for share)

-- a member of so many may take the slot for the share: it is empty, or has the share eight before, which all have left
abbrev pub is_free_for : ℕ → ℕ → ℕ → Bool
is_free_for members share word =
    if nat_lt share 8 then word == 0 else nat_lt 1 (phase_of word) && (round_of word == share / 8 % 2 ^ 14) && (left_of word == members)

-- the gate has these fields
pub record HasFields (word ticket left cancelled phase round : ℕ) : Type 0 where
  pub ticket_is : ticket_of word ≡ ticket
  pub left_is : left_of word ≡ left
  pub cancelled_is : cancelled_of word ≡ cancelled
  pub phase_is : phase_of word ≡ phase
  pub round_is : round_of word ≡ round
