-- The words of the slots: which share a slot has, and what the events leave in its words. (own)
use Rattle.std.specs.Prelude.{◌≡◌, ℕ, zero, suc, ◌+◌, ◌*◌, ◌%◌, ◌<◌, ◌==◌, ◌&&◌, ◌||◌, if◌then◌else◌, Bool, false, List, [], ◌∷◌, length, slice_index, Option, Some, None}
use Rattle.gomp_types.specs.declared.shape.Shape.{Shape}
use Rattle.gomp_types.specs.declared.shape.ShareKind.{ShareKind}
use Rattle.gomp_events.specs.declared.event.Event.{Event}
use Rattle.gomp_events.specs.declared.event.Event.TheVariants.{Drained}
use Rattle.gomp_types.specs.Shapes.{is_static}
use Rattle.gomp_events.specs.Events.{has_ended, shape_at, turn}
use Rattle.gomp_events.specs.Cancels.{share_cancelled}
use Rattle.gomp_shares.specs.Calls.{taken_of}
use Rattle.gomp_gate.specs.Gates.{round_for, gate_word, opening_word, phase_for, is_bare_single}
use Rattle.gomp_gate.specs.Shapes.{bit_of, shape_word}

-- where the gate of a share lies; behind it lie the four words that tell the share's shape, and behind these its turn
abbrev pub gate_at : ℕ → ℕ
gate_at i = 1 + 6 * (i % 8)

-- The gate

-- how many members of a team of this size pass the test
abbrev pub count_members : ℕ → (ℕ → Bool) → ℕ
count_members zero test = 0
count_members (suc m) test = count_members m test + bit_of (test m)

-- whether the member learned that nothing is left of the share
abbrev pub was_drained : ℕ → ℕ → List Event → Bool
was_drained share m [] = false
was_drained share m (Drained i member ∷ earlier) = (i == share && member == m) || was_drained share m earlier
was_drained share m (_ ∷ earlier) = was_drained share m earlier

-- how many claims were made of a share of this kind: each took a piece, or found that none is left; the pieces of a static share are not claimed
abbrev pub tickets : ℕ → ℕ → ShareKind → List Event → ℕ
tickets members i kind h = if is_static kind then 0 else taken_of i h + count_members members (λ m. was_drained i m h)

-- how many members have left it
abbrev pub left_count : ℕ → ℕ → List Event → ℕ
left_count members i h = count_members members (λ m. has_ended i m h)

-- the gate of a share of this shape
abbrev pub gate_of : ℕ → ℕ → Shape → List Event → ℕ
gate_of members i shape h = gate_word (phase_for shape) (round_for i) (tickets members i shape.kind h) (left_count members i h) (bit_of (share_cancelled i h))

-- what a bare single leaves in its gate through which all of so many members went, without its round
abbrev pub passed_by_all : ℕ → ℕ
passed_by_all members = gate_word 3 0 members members 0

-- Slots

-- a slot that a seat has taken for a share, and in which it has not yet opened it: the number of the seat and of the share, the share's shape, and how many of its words stand
pub record BusySlot : Type 0 where
  pub id : ℕ
  pub share : ℕ
  pub shape : Shape
  pub stored : ℕ

-- whether a seat opens the share i
abbrev pub is_busy : Option BusySlot → ℕ → Bool
is_busy None i = false
is_busy (Some b) i = b.share == i

-- the slot has the share i: some member entered it, and nobody has entered or opens the share eight after it
pub record IsCurrent (i : ℕ) (shape : Shape) (h : List Event) (busy : Option BusySlot) : Type 0 where
  pub shape_is : shape_at i h ≡ Some shape
  pub next : shape_at (i + 8) h ≡ None
  pub free : is_busy busy (i + 8) ≡ false

-- the 49 words are those that the events leave: the number of members, and the eight slots
pub record IsTable (members : ℕ) (words : List ℕ) (h : List Event) (busy : Option BusySlot) : Type 0 where
  pub long : length words ≡ 49
  pub size : slice_index words 0 ≡ members
  -- a slot has the gate of its share, which tells a bare single; the words behind it tell the shape and the turn of any other
  pub gates : (i : ℕ) (shape : Shape) → IsCurrent i shape h busy → slice_index words (gate_at i) ≡ gate_of members i shape h
  pub shape_words : (i : ℕ) (shape : Shape) → IsCurrent i shape h busy → is_bare_single shape ≡ false → (place : ℕ) → place < 4 → slice_index words (gate_at i + 1 + place) ≡ shape_word place shape
  pub turns : (i : ℕ) (shape : Shape) → IsCurrent i shape h busy → is_bare_single shape ≡ false → slice_index words (gate_at i + 5) ≡ turn i h
  -- one that was taken for a share has the words that stand so far
  pub taken : (b : BusySlot) → busy ≡ Some b → slice_index words (gate_at b.share) ≡ opening_word b.share
  pub stored : (b : BusySlot) → busy ≡ Some b → (place : ℕ) → place < b.stored → slice_index words (gate_at b.share + 1 + place) ≡ shape_word place b.shape
  -- and one that was never taken is empty
  pub empty : (i : ℕ) → i < 8 → shape_at i h ≡ None → is_busy busy i ≡ false → slice_index words (gate_at i) ≡ 0
