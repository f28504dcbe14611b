use Rattle.std.proofs.Common.{◌≡◌, sym, ◌∙◌, ap, subst, arith}
use Rattle.gomp_board.specs.declared.op.Op.TheVariants.{Cancel}
use Rattle.gomp_board.specs.Boards.{BoardView, IsOpAdmitted}
use Rattle.gomp_board.specs.contracts.board.Board.{the_view}
use Rattle.gomp_board.proofs.AdmittedArrivals.{cancel_stays_small}
use Rattle.gomp_board.proofs.Cancelled.{cancel_may_name, cancel_told, cancel_without_memory, cancel_performed}
use Rattle.gomp_board.proofs.BoardEvents.{at_err, never_ok}
use Rattle.gomp_board.proofs.board.Board.cancel_admitted.Goals as goal

pub scope_named-scope-requires : goal.scope_named-scope-requires
scope_named-scope-requires c = record { member = c.requires.member; may = λ h st. cancel_may_name c.args.named c.args.clause c.args.allowed c.args.member c.args.self.now c.requires.admitted h st }

pub cancel_scope-requires : goal.cancel_scope-requires
cancel_scope-requires c =
    let made = c.in-Ok.ensures.room in
    record {
      member = rw made c.requires.member;
      scope = rw made c.scope_named-scope.ensures.of_team;
      spare = c.in-Ok.ensures.spare;
    }

pub returns-in_default : goal.returns-in_default
returns-in_default c = record { performs = cancel_without_memory c.args.named c.args.clause c.args.allowed c.args.member c.args.self.now c.make_room.new.self c.requires.admitted (at_err c.make_room.result _ c.in_default.not-Ok c.make_room.ensures.err) (λ none. absurd (never_ok c.make_room.result c.in_default.not-Ok (c.make_room.ensures.there none))) }

pub make_room-requires : goal.make_room-requires
make_room-requires c = record {
  few =
      let b = the_view c.self.inside in
      let admitted = subst (λ (v : BoardView). IsOpAdmitted (Cancel c.args.named c.args.clause c.args.allowed) c.args.member v) (sym c.self.view_is) c.requires.admitted in
      let small = cancel_stays_small _ c.args.member c.args.named c.args.clause c.args.allowed b c.self.invariant (omega arith) admitted in
      let room : c.args.self.now.room ≡ b.room = ap (λ (v : BoardView). v.room) (sym c.self.view_is) in
      omega (arith, small, room);
}

pub returns-then-not-both : goal.returns-then-not-both
returns-then-not-both c = record {
  performs = rw c.both-then-not-both.ensures (cancel_told c.args.named c.args.clause c.args.allowed c.names_cancelled-cancelled.result c.args.member c.args.self.now c.requires.admitted (sym c.both.ensures ∙ c.if-not-both.true) c.names_cancelled-cancelled.ensures.value);
}

pub returns : goal.returns
returns c = record {
  performs = cancel_performed c.args.named c.args.clause c.args.allowed c.scope_named-scope.result c.args.member c.args.self.now c.make_room.new.self c.cancel_scope.new.self c.requires.admitted (sym c.both.ensures ∙ c.if-not-both.false)
      c.scope_named-scope.ensures.value c.in-Ok.ensures.room c.cancel_scope.ensures.stands c.cancel_scope.ensures.limits c.cancel_scope.ensures.room c.cancel_scope.ensures.kept;
}
