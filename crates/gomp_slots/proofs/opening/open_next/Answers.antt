use Rattle.std.proofs.Common.{◌≡◌, ℕ, Some, true, ap, sym, ◌∙◌}
use Rattle.gomp_gate.specs.Gates.{holds_share}
use Rattle.gomp_gate.proofs.Shapes.{words_tell_shape}
use Rattle.gomp_slots.specs.declared.view.View.{View}
use Rattle.gomp_slots.proofs.opening.open_next.Goals as goal

pub enter_share-requires-clause-looks : goal.enter_share-requires-clause-looks
enter_share-requires-clause-looks g c =
    let on : holds_share g.C.Chosen.share c.look_at_next-word.result ≡ true = ap (λ (n : ℕ). holds_share n c.look_at_next-word.result) (sym c.requires.chosen.0) ∙ sym c.holds_share.ensures.answer ∙ c.if-holds_share.true in
    let there = c.look_at_next-word.ensures.looked.there on in
    let looks : c.look_at_next-word.new.seat.me.0.found ≡ Some there.0 = ap (λ (v : View). v.found) there.4 in
    let same = c.has_same_words.ensures.same c.if-not-has_same_words.false there.0 looks in
    let mine = c.requires.shape in
    let one : there.0 ≡ c.args.shape.now = words_tell_shape there.0 c.args.shape.now there.2.valid mine.valid there.2.start there.2.incr mine.start mine.incr same in (
      ap (λ m. m.0.found) c.has_same_words.ensures.seat.1 ∙ looks ∙ ap Some one,
      ap (λ m. m.0.share) c.has_same_words.ensures.seat.1 ∙ ap (λ (v : View). v.share) there.4,
    )
