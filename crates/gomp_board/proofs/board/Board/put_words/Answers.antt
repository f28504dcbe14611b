use Rattle.std.proofs.Common.{List, ℕ, ◌∷◌, refl, subst, sym}
use Rattle.gomp_events.specs.declared.event.Event.{Event}
use Rattle.gomp_events.specs.declared.event.Event.TheVariants.{Put as PutEvent}
use Rattle.gomp_board.specs.declared.op.Op.TheVariants.{Put}
use Rattle.gomp_board.specs.Ops.{words_ask}
use Rattle.gomp_board.specs.Boards.{BoardView, HasSpare, Stands, kept_by}
use Rattle.gomp_board.proofs.AdmittedArrivals.{put_has_room}
use Rattle.gomp_board.proofs.Performed.{nothing_performed}
use Rattle.gomp_board.proofs.WordsNoted.{words_performed}
use Rattle.gomp_board.proofs.board.Board.put_words.Goals as goal

pub make_words_room-requires : goal.make_words_room-requires
make_words_room-requires c = record {
  member = c.requires.member;
  fits = λ h st. let now = c.args.self.now in put_has_room now.limits now.room (kept_by c.args.member now) c.args.member c.args.share c.args.words.now h (c.requires.admitted h st);
}

pub note_put-requires : goal.note_put-requires
note_put-requires c =
    let now = c.args.self.now in let m = c.args.member in
    let made = c.in-Ok.ensures.room in
    record {
      member = rw made c.requires.member;
      spare = subst (λ (v : BoardView). HasSpare (words_ask (kept_by m v)) c.make_words_room.new.self) (sym made) c.in-Ok.ensures.spare;
    }

pub returns-in-Err : goal.returns-in-Err
returns-in-Err c = record { performs = nothing_performed (Put c.args.share c.args.words.now) c.args.member c.args.self.now c.make_words_room.new.self _ refl (λ h. refl) c.requires.admitted c.in-Err.ensures.err c.in-Err.ensures.there }

pub returns-in-Ok : goal.returns-in-Ok
returns-in-Ok c = record {
  performs = words_performed (Put c.args.share c.args.words.now) c.args.member _ c.args.self.now c.make_words_room.new.self c.note_put.new.self refl c.requires.admitted (λ h. refl) refl c.in-Ok.ensures.room
      (subst (λ (words : List ℕ). (h : List Event) → Stands c.make_words_room.new.self h → Stands c.note_put.new.self (PutEvent c.args.share c.args.member words ∷ h)) c.copied.ensures c.note_put.ensures.stands)
      c.note_put.ensures.limits c.note_put.ensures.room c.note_put.ensures.kept;
}
