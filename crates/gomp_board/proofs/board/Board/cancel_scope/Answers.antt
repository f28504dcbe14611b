use Rattle.std.proofs.Common.{◌∷◌, ℕ, reverse, sym, subst, ◌∙◌, length}
use Rattle.gomp_events.specs.declared.event.Event.TheVariants.{Cancel}
use Rattle.gomp_scheduler.specs.Schedulers.{IsOfTeam, SchedulerHasMembers as SchedulerHas}
use Rattle.gomp_board.specs.Boards.{BoardView, HasSpare, members_of}
use Rattle.gomp_board.specs.Discards.{NoneToDiscard}
use Rattle.gomp_board.specs.contracts.board.Board.{the_view}
use Rattle.gomp_board.proofs.BoardEvents.{has_own, member_inside, member_too, member_of_same, stands_too}
use Rattle.gomp_board.proofs.DiscardSteps.{parts_cancelled, own_cancelled, cancelled_stands, cancels_are, cancel_fits, cancel_has_memory, cancelled_board}
use Rattle.gomp_board.proofs.StoredKeeps.{history_after}
use Rattle.gomp_board.proofs.board.Board.cancel_scope.Goals as goal

pub cancel-before-requires : goal.cancel-before-requires
cancel-before-requires c = record { scope = subst (λ (v : BoardView). IsOfTeam c.args.scope (length v.scheduler.cancelled.marks)) (sym c.self.view_is) c.requires.scope }

pub push-requires-clause-space : goal.push-requires-clause-space
push-requires-clause-space c =
    let spare = subst (λ (v : BoardView). HasSpare 1 v) (sym c.self.view_is) c.requires.spare in
    cancel_fits _ (the_view c.self.inside) c.self.invariant spare

pub discard_covered-requires : goal.discard_covered-requires
discard_covered-requires c =
    let b = the_view c.self.inside in let own = reverse b.history in let st = c.self.invariant.stands in let m = c.args.member in let scope = c.args.scope in
    let spare = subst (λ (v : BoardView). HasSpare 1 v) (sym c.self.view_is) c.requires.spare in
    let of_team = subst (λ (v : BoardView). IsOfTeam scope (length v.scheduler.cancelled.marks)) (sym c.self.view_is) c.requires.scope in
    record {
      member = member_of_same b.scheduler c.cancel-before.new.self m c.cancel-before.ensures.members (member_inside b m c.self.invariant.members (member_too _ _ m c.self.view_is c.requires.member));
      members = has_own _ _ c.cancel-before.ensures.members;
      few = c.cancel-before.ensures.few;
      none = history_after (λ h. NoneToDiscard c.cancel-before.result h) b.history c.push.new.self.events (Cancel m scope) c.push.ensures.events (c.cancel-before.ensures.before own m st.scheduler st.sealed);
      own = own_cancelled b c.cancel-before.new.self c.push.new.self.events m scope of_team c.push.ensures.events (c.cancel-before.ensures.stands own m st.scheduler) st;
      room = (members_of b, cancel_has_memory _ _ b c.push.new.self.events m scope c.self.invariant spare c.push.ensures.capacity c.push.ensures.events);
    }

pub invariant_of-self : goal.invariant_of-self
invariant_of-self c =
    let b = the_view c.self.inside in let own = reverse b.history in let st = c.self.invariant.stands in let m = c.args.member in let scope = c.args.scope in
    let spare = subst (λ (v : BoardView). HasSpare 1 v) (sym c.self.view_is) c.requires.spare in
    let of_team = subst (λ (v : BoardView). IsOfTeam scope (length v.scheduler.cancelled.marks)) (sym c.self.view_is) c.requires.scope in
    let noted = own_cancelled b c.cancel-before.new.self c.push.new.self.events m scope of_team c.push.ensures.events (c.cancel-before.ensures.stands own m st.scheduler) st in
    let none = history_after (λ h. NoneToDiscard c.cancel-before.result h) b.history c.push.new.self.events (Cancel m scope) c.push.ensures.events (c.cancel-before.ensures.before own m st.scheduler st.sealed) in
    cancelled_board _ _ b c.discard_covered.new.scheduler c.push.new.self.events c.discard_covered.new.history.events m scope c.self.invariant spare (c.discard_covered.ensures.memory ∙ c.push.ensures.capacity) c.push.ensures.events
    c.discard_covered.ensures.owes c.discard_covered.ensures.history (c.discard_covered.ensures.stands (reverse c.push.new.self.events) noted none)
    (subst (λ (n : ℕ). SchedulerHas n c.discard_covered.new.scheduler) (c.cancel-before.ensures.members.tasks ∙ c.self.invariant.members.tasks) c.discard_covered.ensures.members)

pub returns-clause-stands : goal.returns-clause-stands
returns-clause-stands c = λ h now_st.
    let b = the_view c.self.inside in let m = c.args.member in let scope = c.args.scope in let st = stands_too _ _ h c.self.view_is now_st in
    let of_team = subst (λ (v : BoardView). IsOfTeam scope (length v.scheduler.cancelled.marks)) (sym c.self.view_is) c.requires.scope in
    let noted = parts_cancelled b c.cancel-before.new.self c.push.new.self.events m scope h of_team c.push.ensures.events (c.cancel-before.ensures.stands h m st.scheduler) st in
    rw (cancels_are m scope h) (cancelled_stands b c.discard_covered.new.scheduler c.discard_covered.new.history.events m scope h (c.discard_covered.ensures.stands (Cancel m scope ∷ h) noted (c.cancel-before.ensures.before h m st.scheduler st.sealed)) st)
