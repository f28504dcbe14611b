-- The four words of a share tell its shape: two shapes with the same words are one.
use Rattle.std.proofs.Common.{◌≡◌, ℕ, ℤ, ◌+◌, ◌*◌, ◌^◌, ◌<◌, Bool, true, false, refl, ap, sym, ◌∙◌, arith}
use Rattle.std.specs.Prelude.{◌==◌, if◌then◌else◌, FitsSigned}
use Rattle.std.specs.Int.{w64, cast_signed, cast_unsigned}
use Rattle.std.proofs.lemmas.Int.{to_z-of_z}
use Rattle.gomp_types.specs.declared.shape.Shape.{Shape}
use Rattle.gomp_types.specs.declared.shape.ShareKind.{ShareKind}
use Rattle.gomp_types.specs.declared.shape.ShareKind.TheVariants.{StaticChunked, StaticEven, Dynamic, Guided, Sections, Single, SingleCopy}
use Rattle.gomp_types.specs.declared.loop_desc.EndKind.{EndKind}
use Rattle.gomp_types.specs.declared.loop_desc.EndKind.TheVariants.{Wait, Nowait, Cancellable}
use Rattle.gomp_types.specs.Values.{IsShape}
use Rattle.gomp_types.specs.Singles.{single_shape}
use Rattle.gomp_types.proofs.Compared.{same_shape_is}
use Rattle.gomp_gate.specs.Gates.{is_bare_single, open_phase, phase_for}
use Rattle.gomp_gate.specs.Shapes.{kind_bits, end_number, bit_of, packed_shape, SameWords}

split_word : (c k f e c' k' f' e' : ℕ) → c < 2 ^ 40 → k < 8 → f < 2 → e < 4 → c' < 2 ^ 40 → k' < 8 → f' < 2 → e' < 4 →
    c + 2 ^ 40 * k + 2 ^ 43 * f + 2 ^ 44 * e ≡ c' + 2 ^ 40 * k' + 2 ^ 43 * f' + 2 ^ 44 * e' → (c ≡ c') × (k ≡ k') × (f ≡ f') × (e ≡ e')
split_word c k f e c' k' f' e' a1 a2 a3 a4 b1 b2 b3 b4 same = (omega arith, omega arith, omega arith, omega arith)

kind_few : (k : ShareKind) → kind_bits k < 8
kind_few StaticChunked = omega arith
kind_few StaticEven = omega arith
kind_few Dynamic = omega arith
kind_few Guided = omega arith
kind_few Sections = omega arith
kind_few Single = omega arith
kind_few SingleCopy = omega arith

end_few : (e : EndKind) → end_number e < 4
end_few Wait = omega arith
end_few Nowait = omega arith
end_few Cancellable = omega arith

bit_few : (b : Bool) → bit_of b < 2
bit_few true = omega arith
bit_few false = omega arith

-- the kind, the end and the truth value with a number
abbrev kind_at : ℕ → ShareKind
kind_at n = if n == 0 then StaticChunked else if n == 1 then StaticEven else if n == 2 then Dynamic else if n == 3 then Guided else if n == 4 then Sections else if n == 5 then Single else SingleCopy

kind_back : (k : ShareKind) → kind_at (kind_bits k) ≡ k
kind_back StaticChunked = refl
kind_back StaticEven = refl
kind_back Dynamic = refl
kind_back Guided = refl
kind_back Sections = refl
kind_back Single = refl
kind_back SingleCopy = refl

abbrev end_at : ℕ → EndKind
end_at n = if n == 0 then Wait else if n == 1 then Nowait else Cancellable

end_back : (e : EndKind) → end_at (end_number e) ≡ e
end_back Wait = refl
end_back Nowait = refl
end_back Cancellable = refl

abbrev bit_at_number : ℕ → Bool
bit_at_number n = n == 1

bit_back : (b : Bool) → bit_at_number (bit_of b) ≡ b
bit_back true = refl
bit_back false = refl

-- the bits of a number tell it
same_bits : (a b : ℤ) → FitsSigned w64 a → FitsSigned w64 b → cast_unsigned w64 a ≡ cast_unsigned w64 b → a ≡ b
same_bits a b fa fb same = sym (to_z-of_z w64 a fa) ∙ ap (cast_signed w64) same ∙ to_z-of_z w64 b fb

-- two shapes whose start and step are numbers of 64 bits
pub words_tell_shape : (a b : Shape) → IsShape a → IsShape b → FitsSigned w64 a.start → FitsSigned w64 a.incr → FitsSigned w64 b.start → FitsSigned w64 b.incr → SameWords a b → a ≡ b
words_tell_shape a b va vb sa ia sb ib same =
    let ca = va.chunk in
    let cb = vb.chunk in
    let bits : packed_shape a ≡ packed_shape b = same 1 (omega arith) in
    let parts = split_word a.chunk (kind_bits a.kind) (bit_of a.ordered) (end_number a.end_kind) b.chunk (kind_bits b.kind) (bit_of b.ordered) (end_number b.end_kind)
    (omega arith) (kind_few a.kind) (bit_few a.ordered) (end_few a.end_kind) (omega arith) (kind_few b.kind) (bit_few b.ordered) (end_few b.end_kind) bits in
    let kind : a.kind ≡ b.kind = sym (kind_back a.kind) ∙ ap kind_at parts.1 ∙ kind_back b.kind in
    let ordered : a.ordered ≡ b.ordered = sym (bit_back a.ordered) ∙ ap bit_at_number parts.2 ∙ bit_back b.ordered in
    let end : a.end_kind ≡ b.end_kind = sym (end_back a.end_kind) ∙ ap end_at parts.3 ∙ end_back b.end_kind in
    let trips : a.trips ≡ b.trips = same 0 (omega arith) in
    let start : a.start ≡ b.start = same_bits a.start b.start sa sb (same 2 (omega arith)) in
    let incr : a.incr ≡ b.incr = same_bits a.incr b.incr ia ib (same 3 (omega arith)) in
    rw (start, incr, trips, kind, parts.0, ordered, end) refl

-- a bare single has the one shape of such
phase_tells : (bare : Bool) → open_phase bare ≡ 3 → bare ≡ true
phase_tells true e = refl
phase_tells false e = absurd (omega (arith, e))

pub bare_shape : (shape : Shape) → phase_for shape ≡ 3 → shape ≡ single_shape false
bare_shape shape e = same_shape_is shape (single_shape false) (phase_tells (is_bare_single shape) e)

-- there are two phases of a slot that has a share
pub phase_open : (bare : Bool) → (1 < open_phase bare) × (open_phase bare < 4)
phase_open true = (omega arith, omega arith)
phase_open false = (omega arith, omega arith)
