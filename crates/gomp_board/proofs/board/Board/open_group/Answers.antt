use Rattle.std.proofs.Common.{◌≡◌, ◌+◌, ◌∷◌, [], ◌++◌, ℕ, reverse, refl, sym, subst, ap, ◌∙◌, arith, List}
use Rattle.gomp_events.specs.declared.event.Event.{Event}
use Rattle.gomp_events.specs.declared.event.Event.TheVariants.{Group}
use Rattle.gomp_types.specs.declared.reply.Reply.TheVariants.{Finished}
use Rattle.gomp_board.specs.declared.op.Op.TheVariants.{OpenGroup}
use Rattle.gomp_board.specs.Boards.{BoardView, IsSame}
use Rattle.gomp_board.specs.contracts.board.Board.{the_view}
use Rattle.gomp_board.proofs.BoardEvents.{at_ok, board_asked, event_stands, grown_is_same, grown_twice, members_after, rule_of, set_same, stands_too}
use Rattle.gomp_board.proofs.OwedKeeps.{group_owes}
use Rattle.gomp_board.proofs.Performed.{op_performed, out_of_memory}
use Rattle.gomp_board.proofs.Sealed.{sealed_aside}
use Rattle.gomp_board.proofs.board.Board.open_group.Goals as goal

pub invariant_of-self-2 : goal.invariant_of-self-2
invariant_of-self-2 c =
    let b = the_view c.self.inside in let m = c.args.member in let q = c.open_group-group.result in let own = reverse b.history in let st = c.self.invariant.stands in
    let grown = c.reserve_group.ensures.scheduler in
    let longer = c.push.ensures.events ∙ ap (λ (es : List Event). es ++ Group q m ∷ []) c.reserve_group.ensures.history in
    let capacity = c.push.ensures.capacity in
    let space = at_ok c.reserve_group.result _ (sym c.is_err.ensures.value ∙ c.if-is_err.false) c.reserve_group.ensures.space in
    board_asked _ _ 2 b (Group q m) c.self.invariant (group_owes _ m q own (rule_of b own c.self.invariant.members st)) _ longer
    (event_stands b _ (b.room + 2) b.kept c.open_group-group.new.self (Group q m) own refl tt refl (sealed_aside (Group q m) own tt st.sealed) longer (c.open_group-group.ensures.stands own (grown.stands own st.scheduler)) st)
    (members_after b b.kept c.open_group-group.new.self c.self.invariant.members refl (grown_twice b.scheduler c.reserve_group.new.scheduler c.open_group-group.new.self grown c.open_group-group.ensures.members)) refl refl refl (omega (arith, capacity, space))

pub returns-then-is_err : goal.returns-then-is_err
returns-then-is_err c =
    let b = the_view c.self.inside in let history = c.reserve_group.new.history.events in let made = c.reserve_group.new.scheduler in
    record {
      performs = out_of_memory OpenGroup c.args.member c.args.self.now (record b { history = history; scheduler = made }) c.requires.admitted (λ h st. refl)
          (subst (λ (v : BoardView). IsSame v (record b { history = history; scheduler = made })) c.self.view_is (grown_is_same b history made c.reserve_group.ensures.scheduler c.reserve_group.ensures.history))
          (ap (λ (v : BoardView). v.limits) c.self.view_is);
    }

pub returns : goal.returns
returns c =
    let now = c.args.self.now in let b = the_view c.self.inside in let m = c.args.member in let q = c.open_group-group.result in
    let grown = c.reserve_group.ensures.scheduler in
    let longer = c.push.ensures.events ∙ ap (λ (es : List Event). es ++ Group q m ∷ []) c.reserve_group.ensures.history in
    let room : b.room ≡ now.room = ap (λ (v : BoardView). v.room) c.self.view_is in
    record {
      performs = op_performed OpenGroup m now _ Finished tt refl c.requires.admitted (λ h now_st. refl)
          (λ h now_st.
          let st = stands_too _ _ h c.self.view_is now_st in
          rw (← c.open_group-group.ensures.number h (grown.stands h st.scheduler)) (event_stands b _ (b.room + 2) b.kept c.open_group-group.new.self (Group q m) h refl tt refl (sealed_aside (Group q m) h tt st.sealed) longer (c.open_group-group.ensures.stands h (grown.stands h st.scheduler)) st))
          (ap (λ (v : BoardView). v.limits) c.self.view_is) (ap (λ (n : ℕ). n + 2) room) (ap (λ (v : BoardView). v.kept) c.self.view_is ∙ sym (set_same now.kept m)) (λ wait goes. absurd (cc));
    }
