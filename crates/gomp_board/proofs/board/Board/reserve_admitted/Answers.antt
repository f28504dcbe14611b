use Rattle.std.proofs.Common.{◌≡◌, ◌<◌, ◌+◌, ◌∙◌, ap, sym, subst, arith, refl}
use Rattle.std.specs.Prelude.{ℕ}
use Rattle.std.proofs.lemmas.List.{get_or_default}
use Rattle.gomp_board.specs.declared.op.Op.TheVariants.{Reserve}
use Rattle.gomp_board.specs.Boards.{BoardView, IsOpAdmitted, HasSpare, members_of, kept_by}
use Rattle.gomp_board.specs.contracts.board.Board.{the_view}
use Rattle.gomp_board.proofs.Joined.{keeping_board}
use Rattle.gomp_board.proofs.AdmittedArrivals.{reserve_stays_small}
use Rattle.gomp_board.proofs.Performed.{nothing_performed, reserve_performed}
use Rattle.gomp_board.proofs.board.Board.reserve_admitted.Goals as goal

pub make_room-requires : goal.make_room-requires
make_room-requires c = record {
  few =
      let b = the_view c.self.inside in
      let admitted = subst (λ (v : BoardView). IsOpAdmitted (Reserve c.args.more) c.args.member v) (sym c.self.view_is) c.requires.admitted in
      let small = reserve_stays_small _ c.args.member c.args.more b c.self.invariant (omega arith) admitted in
      let room : c.args.self.now.room ≡ b.room = ap (λ (v : BoardView). v.room) (sym c.self.view_is) in
      omega (arith, small, room);
}

pub invariant_of-self : goal.invariant_of-self
invariant_of-self c =
    let now = c.args.self.now in
    let b = the_view c.self-2.inside in
    let made : b ≡ record now { room = now.room + c.args.more } = c.self-2.view_is ∙ c.in-Ok.ensures.room in
    let low : c.args.member < members_of b = subst (λ (v : BoardView). c.args.member < members_of v) (sym made) c.requires.member in
    let low0 = subst (λ (v : BoardView). c.args.member < members_of v) (sym c.self.view_is) c.requires.member in
    let kept : c.index-kept.result.now ≡ kept_by c.args.member b =
    c.index-kept.ensures ∙ get_or_default c.self.inside.kept.items c.args.member _ 0 low0 ∙ ap (λ (v : BoardView). kept_by c.args.member v) (c.self.view_is) ∙ ap (λ (v : BoardView). kept_by c.args.member v) (sym made) in
    let spare = subst (λ (v : BoardView). HasSpare c.args.more v) (sym c.self-2.view_is) c.in-Ok.ensures.spare in
    rw kept (keeping_board _ c.args.member c.args.more b c.self-2.invariant low spare)

pub returns-in-Err : goal.returns-in-Err
returns-in-Err c = record { performs = nothing_performed (Reserve c.args.more) c.args.member c.args.self.now c.make_room.new.self c.args.more refl (λ h. refl) c.requires.admitted c.in-Err.ensures.err c.in-Err.ensures.there }

pub returns-in-Ok : goal.returns-in-Ok
returns-in-Ok c =
    let now = c.args.self.now in
    let b = the_view c.self-2.inside in
    let made : b ≡ record now { room = now.room + c.args.more } = c.self-2.view_is ∙ c.in-Ok.ensures.room in
    let low0 = subst (λ (v : BoardView). c.args.member < members_of v) (sym c.self.view_is) c.requires.member in
    let kept : c.index-kept.result.now ≡ kept_by c.args.member now =
    c.index-kept.ensures ∙ get_or_default c.self.inside.kept.items c.args.member _ 0 low0 ∙ ap (λ (v : BoardView). kept_by c.args.member v) c.self.view_is in
    record { performs = reserve_performed c.args.member c.args.more now b (c.index-kept.result.now + c.args.more) c.requires.admitted made (ap (λ (n : ℕ). n + c.args.more) kept) }
