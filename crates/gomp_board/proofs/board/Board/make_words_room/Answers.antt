use Rattle.std.proofs.Common.{◌≡◌, ◌<◌, ◌+◌, ◌∙◌, ap, sym, subst, arith, false}
use Rattle.std.specs.Prelude.{ℕ, List, OnOk, reverse}
use Rattle.std.proofs.lemmas.List.{get_or_default}
use Rattle.gomp_events.specs.declared.event.Event.{Event}
use Rattle.gomp_events.specs.TaskCalls.{lacks_room}
use Rattle.gomp_board.specs.Ops.{words_ask}
use Rattle.gomp_board.specs.Boards.{BoardView, Stands, HasSpare, members_of, kept_by}
use Rattle.gomp_board.specs.contracts.board.Board.{the_view}
use Rattle.gomp_board.proofs.AdmittedArrivals.{words_stay_small}
use Rattle.gomp_board.proofs.board.Board.make_words_room.Goals as goal

pub make_room-requires : goal.make_room-requires
make_room-requires c = record {
  few =
      let b = the_view c.self.inside in
      let low = subst (λ (v : BoardView). c.args.member < members_of v) (sym c.self.view_is) c.requires.member in
      let asked : c.words_ask-asked.result ≡ words_ask (kept_by c.args.member b) = c.words_ask-asked.ensures ∙ ap words_ask (c.index.ensures ∙ get_or_default c.self.inside.kept.items c.args.member _ 0 low) in
      let fits = subst (λ (v : BoardView). (h : List Event) → Stands v h → lacks_room v.limits.events v.room (words_ask (kept_by c.args.member v)) ≡ false) (sym c.self.view_is) c.requires.fits (reverse b.history) c.self.invariant.stands in
      let small = words_stay_small _ c.args.member b c.self.invariant (omega arith) fits in
      let room : c.args.self.now.room ≡ b.room = ap (λ (v : BoardView). v.room) (sym c.self.view_is) in
      omega (arith, small, room, asked);
}

pub returns : goal.returns
returns c =
    let now = c.args.self.now in
    let low = subst (λ (v : BoardView). c.args.member < members_of v) (sym c.self.view_is) c.requires.member in
    let kept : kept_by c.args.member (the_view c.self.inside) ≡ kept_by c.args.member now = ap (λ (v : BoardView). kept_by c.args.member v) c.self.view_is in
    let asked : c.words_ask-asked.result ≡ words_ask (kept_by c.args.member now) =
    c.words_ask-asked.ensures ∙ ap words_ask (c.index.ensures ∙ get_or_default c.self.inside.kept.items c.args.member _ 0 low ∙ kept) in
    record {
      room = subst (λ (n : ℕ). OnOk c.make_room.result (c.make_room.new.self ≡ record now { room = now.room + n })) asked c.make_room.ensures.room;
      spare = subst (λ (n : ℕ). OnOk c.make_room.result (HasSpare n c.make_room.new.self)) asked c.make_room.ensures.spare;
      err = c.make_room.ensures.err;
      there = λ none. c.make_room.ensures.there (asked ∙ none);
    }
