-- The words that tell the shape of a share. (own)
use Rattle.std.specs.Prelude.{ℕ, ◌+◌, ◌*◌, ◌^◌, ◌≡◌, ◌<◌, Bool, true, false, zero, suc}
use Rattle.std.specs.Int.{w64, cast_unsigned}
use Rattle.gomp_types.specs.declared.shape.Shape.{Shape}
use Rattle.gomp_types.specs.declared.shape.ShareKind.{ShareKind}
use Rattle.gomp_types.specs.declared.shape.ShareKind.TheVariants.{StaticChunked, StaticEven, Dynamic, Guided, Sections, Single, SingleCopy}
use Rattle.gomp_types.specs.declared.loop_desc.EndKind.{EndKind}
use Rattle.gomp_types.specs.declared.loop_desc.EndKind.TheVariants.{Wait, Nowait, Cancellable}

-- the kinds of share have these numbers
abbrev pub kind_bits : ShareKind → ℕ
kind_bits StaticChunked = 0
kind_bits StaticEven = 1
kind_bits Dynamic = 2
kind_bits Guided = 3
kind_bits Sections = 4
kind_bits Single = 5
kind_bits SingleCopy = 6

-- the kinds of end have these
abbrev pub end_number : EndKind → ℕ
end_number Wait = 0
end_number Nowait = 1
end_number Cancellable = 2

-- 1 if it is true, else 0
abbrev pub bit_of : Bool → ℕ
bit_of true = 1
bit_of false = 0

-- the chunk, the kind, whether the loop is ordered and the end of a share, in one word
abbrev pub packed_shape : Shape → ℕ
packed_shape shape = shape.chunk + 2 ^ 40 * kind_bits shape.kind + 2 ^ 43 * bit_of shape.ordered + 2 ^ 44 * end_number shape.end_kind

-- the word of a share at this place behind its gate: its number of iterations, its packed shape, its start and its step; and behind these its turn, as it is opened
abbrev pub shape_word : ℕ → Shape → ℕ
shape_word zero shape = shape.trips
shape_word (suc zero) shape = packed_shape shape
shape_word (suc (suc zero)) shape = cast_unsigned w64 shape.start
shape_word (suc (suc (suc zero))) shape = cast_unsigned w64 shape.incr
shape_word (suc (suc (suc (suc place)))) shape = 0

-- two shares have the same words
abbrev pub SameWords : Shape → Shape → Type 0
SameWords one other = (place : ℕ) → place < 4 → shape_word place one ≡ shape_word place other
