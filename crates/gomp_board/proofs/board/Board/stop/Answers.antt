use Rattle.std.proofs.Common.{refl, arith, ap, ◌-◌, ◌∙◌}
use Rattle.std.specs.Prelude.{◌≡◌, slice_set}
use Rattle.gomp_board.specs.declared.op.Op.TheVariants.{Break}
use Rattle.gomp_types.specs.declared.reply.Reply.TheVariants.{Stopped}
use Rattle.gomp_board.proofs.AdmittedArrivals.{unbroken_of}
use Rattle.gomp_board.proofs.Performed.{op_performed}
use Rattle.gomp_board.proofs.Refused.{nothing_given_back}
use Rattle.gomp_board.specs.Ops.{given_back}
use Rattle.gomp_board.specs.Boards.{kept_by}
use Rattle.gomp_board.proofs.board.Board.stop.Goals as goal

pub note_break-requires : goal.note_break-requires
note_break-requires c = record {
  member = c.requires.member;
  whole = λ h st. unbroken_of (Break c.args.place c.args.back) c.args.member c.args.self.now c.requires.admitted h st;
}

pub returns : goal.returns
returns c = record {
  performs =
      let room = c.note_break.ensures.room in
      let kept = kept_by c.args.member c.args.self.now in
      let none = nothing_given_back kept in
      let same : kept - given_back 0 kept ≡ kept = omega (arith, none) in
      op_performed (Break c.args.place c.args.back) c.args.member c.args.self.now c.note_break.new.self Stopped tt refl c.requires.admitted (λ h st. refl) c.note_break.ensures.stands c.note_break.ensures.limits (omega (arith, room, none))
      (c.note_break.ensures.kept ∙ ap (slice_set c.args.self.now.kept c.args.member) same) (λ wait goes. absurd (cc));
}
