use Rattle.std.proofs.Common.{◌≡◌, false, ap, sym, ◌∙◌}
use Rattle.gomp_types.specs.Singles.{single_shape}
use Rattle.gomp_types.proofs.Booleans.{is_equal}
use Rattle.gomp_types.proofs.Compared.{same_shape_is}
use Rattle.gomp_gate.specs.Gates.{phase_for}
use Rattle.gomp_gate.specs.Shapes.{shape_word}
use Rattle.gomp_gate.proofs.Shapes.{bare_shape}
use Rattle.gomp_slots.proofs.opening.has_same_words.Goals as goal

pub returns-then-is_bare-clause-same : goal.returns-then-is_bare-clause-same
returns-then-is_bare-clause-same g c = λ bare other is place lt.
    let phase : phase_for other ≡ 3 = sym (c.requires.gate other is) ∙ is_equal _ _ (sym c.is_bare.ensures.answer ∙ c.if-is_bare.true) in
    let mine : c.args.shape.now ≡ single_shape false = same_shape_is c.args.shape.now (single_shape false) (sym c.is_bare_single.ensures.answer ∙ bare) in
    ap (shape_word place) (bare_shape other phase ∙ sym mine)
