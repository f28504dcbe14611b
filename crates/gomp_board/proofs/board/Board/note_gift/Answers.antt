use Rattle.std.proofs.Common.{◌≡◌, ◌<◌, ap, ◌∙◌, sym, subst, refl}
use Rattle.std.specs.Prelude.{ℕ, reverse, slice_set}
use Rattle.std.proofs.lemmas.List.{get_or_default}
use Rattle.gomp_events.specs.declared.event.Event.TheVariants.{Got}
use Rattle.gomp_board.specs.Ops.{words_ask, words_keep}
use Rattle.gomp_board.specs.Boards.{BoardView, HasSpare, members_of, kept_by}
use Rattle.gomp_board.specs.contracts.board.Board.{the_view}
use Rattle.gomp_board.proofs.BoardEvents.{stands_too}
use Rattle.gomp_board.proofs.OwedKeeps.{got_owes}
use Rattle.gomp_board.proofs.WordsNoted.{words_fit, words_board, given_words_stand}
use Rattle.gomp_board.proofs.board.Board.note_gift.Goals as goal

pub push-requires-clause-space : goal.push-requires-clause-space
push-requires-clause-space c =
    let low = subst (λ (v : BoardView). c.args.member < members_of v) (sym c.self.view_is) c.requires.member in
    let spare = subst (λ (v : BoardView). HasSpare (words_ask (kept_by c.args.member v)) v) (sym c.self.view_is) c.requires.spare in
    words_fit _ c.args.member _ c.self.invariant low spare

pub invariant_of-self : goal.invariant_of-self
invariant_of-self c =
    let b = the_view c.self.inside in let m = c.args.member in let own = reverse b.history in let st = c.self.invariant.stands in
    let low = subst (λ (v : BoardView). m < members_of v) (sym c.self.view_is) c.requires.member in
    let spare = subst (λ (v : BoardView). HasSpare (words_ask (kept_by m v)) v) (sym c.self.view_is) c.requires.spare in
    let kept : c.words_keep.result ≡ words_keep (kept_by m b) = c.words_keep.ensures ∙ ap words_keep (c.index.ensures ∙ get_or_default c.self.inside.kept.items m _ 0 low) in
    words_board _ m b c.self.invariant low spare _ _ (Got c.args.share m c.args.words) (got_owes (members_of b) c.args.share m c.args.words own) c.push.ensures.events
    (given_words_stand b _ _ c.args.share m c.args.words own c.push.ensures.events st) (ap (λ (n : ℕ). slice_set b.kept m n) kept) refl refl refl c.push.ensures.capacity

pub returns-clause-stands : goal.returns-clause-stands
returns-clause-stands c = λ h now_st.
    let b = the_view c.self.inside in let m = c.args.member in
    let st = stands_too _ _ h c.self.view_is now_st in
    given_words_stand b _ _ c.args.share m c.args.words h c.push.ensures.events st
