use Rattle.std.proofs.Common.{refl, reverse, sym, ◌∙◌, arith}
use Rattle.gomp_board.specs.declared.op.Op.TheVariants.{AwaitOwn}
use Rattle.gomp_board.proofs.Performed.{op_performed}
use Rattle.gomp_board.proofs.BoardEvents.{set_same}
use Rattle.gomp_board.proofs.Creators.{creator_is_answered, answers_undropped, own_dropped}
use Rattle.gomp_board.proofs.board.Board.await_own.Goals as goal

pub returns-then-drops_creation : goal.returns-then-drops_creation
returns-then-drops_creation c = record { performs = own_dropped c.args.member c.args.self.now c.requires.admitted (λ h st. sym (c.drops_creation.ensures.value h st) ∙ c.if-drops_creation.true) }

pub returns : goal.returns
returns c =
    let now = c.args.self.now in let m = c.args.member in let reply = c.answer_creator.result in let room = c.answer_creator.ensures.room in
    record {
      performs = op_performed AwaitOwn m now c.answer_creator.new.self reply (creator_is_answered m (reverse now.history) reply (c.answer_creator.ensures.answer (reverse now.history) c.answer_creator.ensures.known)) refl c.requires.admitted
          (λ h st. answers_undropped m h reply (sym (c.drops_creation.ensures.value h st) ∙ c.if-drops_creation.false) (c.answer_creator.ensures.answer h st)) (λ h st. c.answer_creator.ensures.stands h st)
          c.answer_creator.ensures.limits (omega (arith, room)) (c.answer_creator.ensures.kept ∙ sym (set_same now.kept m)) (λ wait goes. c.answer_creator.ensures.waits wait);
    }
