use Rattle.std.proofs.Common.{◌≡◌, ◌<◌, ◌+◌, ◌∙◌, ap, sym, subst, arith, length, length-set, refl}
use Rattle.std.specs.Prelude.{ℕ}
use Rattle.std.proofs.lemmas.List.{get_or_default}
use Rattle.gomp_board.specs.declared.op.Op.TheVariants.{Arrive}
use Rattle.gomp_board.specs.Ops.{arrival_asks, arrival_keeps}
use Rattle.gomp_board.specs.Boards.{BoardView, Stands, IsOpAdmitted, HasSpare, members_of, kept_by}
use Rattle.gomp_board.specs.contracts.board.Board.{the_view}
use Rattle.gomp_board.proofs.BoardEvents.{at_err, never_ok, scheduler_too}
use Rattle.gomp_board.proofs.Joined.{stands_before, roomy_stands}
use Rattle.gomp_board.proofs.AdmittedArrivals.{arrives_of, before_end_of, arrival_stays_small}
use Rattle.gomp_board.proofs.Performed.{nothing_performed}
use Rattle.gomp_board.proofs.ArrivalPerformed.{arrival_performed, arrival_cancelled}
use Rattle.gomp_board.proofs.board.Board.arrive_admitted.Goals as goal

pub make_room-requires : goal.make_room-requires
make_room-requires c = record {
  few =
      let b = the_view c.self.inside in
      let low = subst (λ (v : BoardView). c.args.member < members_of v) (sym c.self.view_is) c.requires.member in
      let admitted = subst (λ (v : BoardView). IsOpAdmitted (Arrive c.args.tag c.args.leaving) c.args.member v) (sym c.self.view_is) c.requires.admitted in
      let asked : c.arrival_asks-asked.result ≡ arrival_asks c.args.tag.kind (kept_by c.args.member b) =
      c.arrival_asks-asked.ensures ∙ ap (arrival_asks c.args.tag.kind) (c.index.ensures ∙ get_or_default c.self.inside.kept.items c.args.member _ 0 low) in
      let small = arrival_stays_small _ c.args.member c.args.tag c.args.leaving b c.self.invariant (omega arith) admitted in
      let room : c.args.self.now.room ≡ b.room = ap (λ (v : BoardView). v.room) (sym c.self.view_is) in
      omega (arith, small, room, asked);
}

pub note_arrival-requires : goal.note_arrival-requires
note_arrival-requires c =
    let now = c.args.self.now in
    let more = c.arrival_asks-asked.result in
    let low = subst (λ (v : BoardView). c.args.member < members_of v) (sym c.self.view_is) c.requires.member in
    let kept : kept_by c.args.member (the_view c.self.inside) ≡ kept_by c.args.member now = ap (λ (v : BoardView). kept_by c.args.member v) c.self.view_is in
    let asked : more ≡ arrival_asks c.args.tag.kind (kept_by c.args.member now) =
    c.arrival_asks-asked.ensures ∙ ap (arrival_asks c.args.tag.kind) (c.index.ensures ∙ get_or_default c.self.inside.kept.items c.args.member _ 0 low ∙ kept) in
    let made : c.make_room.new.self ≡ record now { room = now.room + more } = c.in-Ok.ensures.room in
    record {
      member = rw made c.requires.member;
      first = λ h st. arrives_of c.args.tag c.args.leaving c.args.member now c.requires.admitted h (sym (c.arrives_nowhere.ensures.value h (scheduler_too _ _ h c.self-2.view_is st)) ∙ c.if-arrives_nowhere.false) (stands_before now (now.room + more) h (subst (λ (v : BoardView). Stands v h) made st));
      spare = subst (λ (v : BoardView). HasSpare (arrival_asks c.args.tag.kind (kept_by c.args.member v)) v) (sym made)
          (subst (λ (n : ℕ). HasSpare n (record now { room = now.room + more })) asked (subst (λ (v : BoardView). HasSpare more v) made c.in-Ok.ensures.spare));
    }

pub await_pass-requires : goal.await_pass-requires
await_pass-requires c =
    let made = ap (λ (v : BoardView). length v.kept) c.in-Ok.ensures.room in
    record { member = rw (c.note_arrival.ensures.kept, length-set c.make_room.new.self.kept c.args.member (arrival_keeps c.args.tag.kind (kept_by c.args.member c.make_room.new.self)), made) c.requires.member }

pub returns-in_default : goal.returns-in_default
returns-in_default c =
    let now = c.args.self.now in
    let low = subst (λ (v : BoardView). c.args.member < members_of v) (sym c.self.view_is) c.requires.member in
    let kept : kept_by c.args.member (the_view c.self.inside) ≡ kept_by c.args.member now = ap (λ (v : BoardView). kept_by c.args.member v) c.self.view_is in
    let asked : c.arrival_asks-asked.result ≡ arrival_asks c.args.tag.kind (kept_by c.args.member now) =
    c.arrival_asks-asked.ensures ∙ ap (arrival_asks c.args.tag.kind) (c.index.ensures ∙ get_or_default c.self.inside.kept.items c.args.member _ 0 low ∙ kept) in
    record { performs = nothing_performed (Arrive c.args.tag c.args.leaving) c.args.member now c.make_room.new.self c.arrival_asks-asked.result asked (λ h. refl) c.requires.admitted (at_err c.make_room.result _ c.in_default.not-Ok c.make_room.ensures.err) (λ none. absurd (never_ok c.make_room.result c.in_default.not-Ok (c.make_room.ensures.there none))) }

pub returns : goal.returns
returns c =
    let now = c.args.self.now in
    let more = c.arrival_asks-asked.result in
    let low = subst (λ (v : BoardView). c.args.member < members_of v) (sym c.self.view_is) c.requires.member in
    let kept : kept_by c.args.member (the_view c.self.inside) ≡ kept_by c.args.member now = ap (λ (v : BoardView). kept_by c.args.member v) c.self.view_is in
    let asked : more ≡ arrival_asks c.args.tag.kind (kept_by c.args.member now) =
    c.arrival_asks-asked.ensures ∙ ap (arrival_asks c.args.tag.kind) (c.index.ensures ∙ get_or_default c.self.inside.kept.items c.args.member _ 0 low ∙ kept) in
    let made : c.make_room.new.self ≡ record now { room = now.room + more } = c.in-Ok.ensures.room in
    record {
      performs = arrival_performed c.args.tag c.args.leaving c.args.member more now c.make_room.new.self c.note_arrival.new.self c.await_pass.new.self c.await_pass.result c.requires.admitted asked made
          (λ h st. sym (c.arrives_nowhere.ensures.value h (scheduler_too _ _ h c.self-2.view_is (subst (λ (v : BoardView). Stands v h) (sym made) (roomy_stands now (now.room + more) h st)))) ∙ c.if-arrives_nowhere.false)
          c.note_arrival.ensures.stands c.note_arrival.ensures.limits c.note_arrival.ensures.room c.note_arrival.ensures.kept
          c.await_pass.ensures.known c.await_pass.ensures.answer c.await_pass.ensures.stands c.await_pass.ensures.limits c.await_pass.ensures.room c.await_pass.ensures.kept;
    }

pub returns-then-arrives_nowhere : goal.returns-then-arrives_nowhere
returns-then-arrives_nowhere c =
    let now = c.args.self.now in
    let more = c.arrival_asks-asked.result in
    let low = subst (λ (v : BoardView). c.args.member < members_of v) (sym c.self.view_is) c.requires.member in
    let kept : kept_by c.args.member (the_view c.self.inside) ≡ kept_by c.args.member now = ap (λ (v : BoardView). kept_by c.args.member v) c.self.view_is in
    let asked : more ≡ arrival_asks c.args.tag.kind (kept_by c.args.member now) =
    c.arrival_asks-asked.ensures ∙ ap (arrival_asks c.args.tag.kind) (c.index.ensures ∙ get_or_default c.self.inside.kept.items c.args.member _ 0 low ∙ kept) in
    let made : c.make_room.new.self ≡ record now { room = now.room + more } = c.in-Ok.ensures.room in
    record {
      performs = arrival_cancelled c.args.tag c.args.leaving c.args.member more now c.make_room.new.self c.use_kept.new.self c.requires.admitted asked made c.use_kept.ensures.value
          (λ h st. sym (c.arrives_nowhere.ensures.value h (scheduler_too _ _ h c.self-2.view_is (subst (λ (v : BoardView). Stands v h) (sym made) (roomy_stands now (now.room + more) h st)))) ∙ c.if-arrives_nowhere.true)
          (λ h st. before_end_of c.args.tag c.args.leaving c.args.member now c.requires.admitted h st);
    }
