use Rattle.std.proofs.Common.{◌≡◌, ◌∙◌, ap, sym}
use Rattle.std.specs.Prelude.{ℕ, List}
use Rattle.gomp_types.specs.declared.refusal.Place.{Place}
use Rattle.gomp_types.specs.declared.refusal.Place.TheVariants.{Barrier}
use Rattle.gomp_types.specs.declared.refusal.Refusal.TheVariants.{Mismatch}
use Rattle.gomp_events.specs.declared.event.Event.{Event}
use Rattle.gomp_board.specs.Ops.{op_place, op_gives_back, given_back}
use Rattle.gomp_board.specs.Boards.{Stands, kept_by}
use Rattle.gomp_board.proofs.BoardEvents.{stands_too}
use Rattle.gomp_board.proofs.AdmittedArrivals.{differing_unbroken}
use Rattle.gomp_board.proofs.Performed.{team_broke}
use Rattle.gomp_board.proofs.Refused.{place_of_others, nothing_given_back, others_give_nothing_back}
use Rattle.gomp_board.proofs.board.Board.break_at.Goals as goal
use Rattle.gomp_board.proofs.board.Board.break_at.Goals.{in-Break, in_default}

pub note_break-requires : goal.note_break-requires
note_break-requires c =
    let b = c.args.self.now in
    record { member = c.requires.member; whole = λ h st. differing_unbroken b.limits b.room (kept_by c.args.member b) c.args.member c.args.op.now h (c.requires.differs h st) }

pub returns : goal.returns
returns c = record {
  performs =
      let there : (h : List Event) → Stands c.args.self.now h → c.match-op.place.0 ≡ op_place c.args.member c.args.op.now h = λ h st0.
      let st = stands_too _ _ h c.self.view_is st0 in
      elim c.match-op.branch [
        | in-Break w ↦ rw w.in-Break.is (ap (λ (at : Place × ℕ). at.0) w.place-is)
        | in_default w ↦ ap (λ (at : Place × ℕ). at.0) w.place-is ∙ ap Barrier (w.barrier_number.ensures.value h st.scheduler) ∙ sym (place_of_others c.args.op.now c.args.member h (λ place back. w.in_default.not-Break place back))
      ] in
      let kept = kept_by c.args.member c.args.self.now in
      let given : given_back c.match-op.place.1 kept ≡ op_gives_back c.args.op.now Mismatch kept =
      elim c.match-op.branch [
        | in-Break w ↦ rw w.in-Break.is (ap (λ (at : Place × ℕ). given_back at.1 kept) w.place-is)
        | in_default w ↦ ap (λ (at : Place × ℕ). given_back at.1 kept) w.place-is ∙ nothing_given_back kept ∙ sym (others_give_nothing_back c.args.op.now kept (λ place back. w.in_default.not-Break place back))
      ] in
      team_broke c.args.op.now c.args.member c.match-op.place.0 c.args.self.now c.note_break.new.self c.requires.differs there c.note_break.ensures.stands c.note_break.ensures.limits
      (rw (← given) c.note_break.ensures.room) (rw (← given) c.note_break.ensures.kept);
}
