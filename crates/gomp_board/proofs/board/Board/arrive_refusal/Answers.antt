use Rattle.std.proofs.Common.{◌≡◌, ◌∷◌, ◌∙◌, ap, refl, sym}
use Rattle.std.proofs.lemmas.List.{get_or_default}
use Rattle.std.specs.Prelude.{not, ◌&&◌}
use Rattle.gomp_types.specs.declared.refusal.Refusal.TheVariants.{Mismatch}
use Rattle.gomp_events.specs.Tags.{tag_differs}
use Rattle.gomp_events.specs.Events.{barriers_passed, tag_at}
use Rattle.gomp_types.specs.Tests.{first_holding}
use Rattle.gomp_events.specs.Cancels.{is_cancelled}
use Rattle.gomp_events.specs.TaskCalls.{room_tests}
use Rattle.gomp_board.specs.Boards.{BoardView, kept_by}
use Rattle.gomp_board.specs.contracts.board.Board.{the_view}
use Rattle.gomp_board.specs.Ops.{arrival_asks}
use Rattle.gomp_board.proofs.BoardEvents.{member_too, scheduler_too}
use Rattle.gomp_board.proofs.board.Board.arrive_refusal.Goals as goal

pub returns-then-is_busy : goal.returns-then-is_busy
returns-then-is_busy c = record { value = λ h st. rw (sym (c.is_busy.ensures.value h (scheduler_too _ _ h c.self.view_is st)) ∙ c.if-is_busy.true) refl }

pub returns-then-in_task : goal.returns-then-in_task
returns-then-in_task c = record {
  value = λ h st.
      let there = scheduler_too _ _ h c.self.view_is st in
      rw (sym (c.is_busy.ensures.value h there) ∙ c.if-is_busy.false, sym (c.in_task.ensures.value h there) ∙ c.if-in_task.true) refl;
}

pub returns : goal.returns
returns c = record {
  value = λ h st.
      let now = c.args.self.now in let m = c.args.member in let tag = c.args.tag in let there = scheduler_too _ _ h c.self.view_is st in
      let kept : kept_by m (the_view c.self.inside) ≡ kept_by m now = ap (λ (v : BoardView). kept_by m v) c.self.view_is in
      let asked : c.arrival_asks-asked.result ≡ arrival_asks tag.kind (kept_by m now) =
      c.arrival_asks-asked.ensures ∙ ap (arrival_asks tag.kind) (c.index.ensures ∙ get_or_default c.self.inside.kept.items m _ 0 (member_too _ _ m c.self.view_is c.requires.member) ∙ kept) in
      let other : c.first-other.result ≡ first_holding ((not (is_cancelled h) && tag_differs tag (tag_at (barriers_passed m h) h), Mismatch) ∷ room_tests now.limits now.room (arrival_asks tag.kind (kept_by m now))) =
      rw (c.first-other.ensures, c.first-full.ensures, c.differs.ensures.value h there, c.lacks_room.ensures, asked) refl in
      rw (sym (c.is_busy.ensures.value h there) ∙ c.if-is_busy.false, sym (c.in_task.ensures.value h there) ∙ c.if-in_task.false)
      (c.region_end_or.ensures.value h ((not (is_cancelled h) && tag_differs tag (tag_at (barriers_passed m h) h), Mismatch) ∷ room_tests now.limits now.room (arrival_asks tag.kind (kept_by m now))) st other);
}
