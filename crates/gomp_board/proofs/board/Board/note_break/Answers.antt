use Rattle.std.proofs.Common.{◌≡◌, ◌<◌, None, ◌∙◌, sym, subst, ap}
use Rattle.std.specs.Prelude.{List, slice_index_or}
use Rattle.std.proofs.lemmas.List.{get_or_default}
use Rattle.gomp_events.specs.declared.event.Event.{Event}
use Rattle.gomp_events.specs.Events.{clash_of}
use Rattle.gomp_board.specs.Ops.{given_back}
use Rattle.gomp_board.specs.Boards.{BoardView, Stands, members_of}
use Rattle.gomp_board.proofs.BoardEvents.{stands_too}
use Rattle.gomp_board.proofs.Joined.{broken_stands_with, broken_board}
use Rattle.gomp_board.proofs.board.Board.note_break.Goals as goal

pub invariant_of-self : goal.invariant_of-self
invariant_of-self c =
    let unbroken = subst (λ (b : BoardView). (g : List Event) → Stands b g → clash_of g ≡ None) (sym c.self.view_is) c.requires.whole in
    let whole = sym c.self.invariant.stands.clash ∙ unbroken _ c.self.invariant.stands in
    let low = subst (λ (b : BoardView). c.args.member < members_of b) (sym c.self.view_is) c.requires.member in
    let kept : c.index.result.now ≡ slice_index_or c.self.inside.kept.items c.args.member 0 = c.index.ensures ∙ get_or_default c.self.inside.kept.items c.args.member _ 0 low in
    let kept_too : c.index-2.result.now ≡ slice_index_or c.self.inside.kept.items c.args.member 0 = c.index-2.ensures ∙ get_or_default c.self.inside.kept.items c.args.member _ 0 low in
    let given : c.given_back-given.result ≡ given_back c.args.back (slice_index_or c.self.inside.kept.items c.args.member 0) = c.given_back-given.ensures ∙ ap (given_back c.args.back) kept in
    rw (given, kept_too) (broken_board _ _ c.args.member c.args.back c.args.place _ _ c.self.invariant low whole c.push.ensures.events c.push.ensures.capacity)

pub returns-clause-stands : goal.returns-clause-stands
returns-clause-stands c = λ h st.
    let unbroken = subst (λ (b : BoardView). (g : List Event) → Stands b g → clash_of g ≡ None) (sym c.self.view_is) c.requires.whole in
    let whole = sym c.self.invariant.stands.clash ∙ unbroken _ c.self.invariant.stands in
    broken_stands_with _ _ _ c.args.member _ c.args.place h c.push.ensures.events whole (stands_too _ _ h c.self.view_is st)
