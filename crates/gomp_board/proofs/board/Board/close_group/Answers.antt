use Rattle.std.proofs.Common.{reverse, refl, arith}
use Rattle.gomp_events.specs.declared.event.Event.TheVariants.{GroupEnd}
use Rattle.gomp_scheduler.proofs.PartsKeep.{may_end_group}
use Rattle.gomp_board.specs.contracts.board.Board.{the_view}
use Rattle.gomp_board.proofs.BoardEvents.{board_after, event_stands, member_too, members_after, memory_for, rule_of, stands_now, stands_too}
use Rattle.gomp_board.proofs.OwedKeeps.{group_end_owes}
use Rattle.gomp_board.proofs.Sealed.{sealed_aside}
use Rattle.gomp_board.proofs.board.Board.close_group.Goals as goal

pub close_group-group-requires-clause-done : goal.close_group-group-requires-clause-done
close_group-group-requires-clause-done c =
    let own = reverse (the_view c.self.inside).history in let st = c.self.invariant.stands in
    (own, st.scheduler, c.requires.done own (stands_now _ _ own c.self.view_is st))

pub push-requires-clause-space : goal.push-requires-clause-space
push-requires-clause-space c =
    let b = the_view c.self.inside in let m = c.args.member in let q = c.close_group-group.result in let own = reverse b.history in let st = c.self.invariant.stands in
    let may = may_end_group _ m q own (member_too _ _ m c.self.view_is c.requires.member) (c.close_group-group.ensures.group own st.scheduler) (c.requires.done own (stands_now _ _ own c.self.view_is st)) in
    memory_for _ b (GroupEnd q m) c.self.invariant (group_end_owes _ m q own (rule_of b own c.self.invariant.members st) may)

pub invariant_of-self : goal.invariant_of-self
invariant_of-self c =
    let b = the_view c.self.inside in let m = c.args.member in let q = c.close_group-group.result in let own = reverse b.history in let st = c.self.invariant.stands in
    let done = c.requires.done own (stands_now _ _ own c.self.view_is st) in
    let may = may_end_group _ m q own (member_too _ _ m c.self.view_is c.requires.member) (c.close_group-group.ensures.group own st.scheduler) done in
    let capacity = c.push.ensures.capacity in
    board_after _ b (GroupEnd q m) c.self.invariant (group_end_owes _ m q own (rule_of b own c.self.invariant.members st) may) _ _ c.push.ensures.events
    (event_stands b _ b.room b.kept c.close_group-group.new.self (GroupEnd q m) own refl tt refl (sealed_aside (GroupEnd q m) own tt st.sealed) c.push.ensures.events (c.close_group-group.ensures.stands own st.scheduler done) st)
    (members_after b b.kept c.close_group-group.new.self c.self.invariant.members refl c.close_group-group.ensures.members) refl refl refl (omega (arith, capacity))

pub returns-clause-stands : goal.returns-clause-stands
returns-clause-stands c = λ h now_st.
    let b = the_view c.self.inside in let m = c.args.member in let q = c.close_group-group.result in let st = stands_too _ _ h c.self.view_is now_st in
    let done = c.requires.done h now_st in
    let may = may_end_group _ m q h (member_too _ _ m c.self.view_is c.requires.member) (c.close_group-group.ensures.group h st.scheduler) done in
    rw may.last (event_stands b _ b.room b.kept c.close_group-group.new.self (GroupEnd q m) h refl tt refl (sealed_aside (GroupEnd q m) h tt st.sealed) c.push.ensures.events (c.close_group-group.ensures.stands h st.scheduler done) st)
