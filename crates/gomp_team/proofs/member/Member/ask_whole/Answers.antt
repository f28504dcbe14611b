use Rattle.std.proofs.Common.{◌∙◌, true, ap, sym}
use Rattle.gomp_team.specs.Members.{MemberView}
use Rattle.gomp_team.proofs.RoomMade.{moved_with_room, no_room_there, refused_for_room, with_room_is}
use Rattle.gomp_team.proofs.member.Member.ask_whole.Goals as goal

pub returns-then-is_err-clause-moves : goal.returns-then-is_err-clause-moves
returns-then-is_err-clause-moves g c =
    refused_for_room true _ c.args.self.now _
    (no_room_there c.args.self.now.room c.make_room.result (λ room. c.make_room.ensures.there (ap (λ (m : MemberView g.row.T.Denot). m.room) c.self.view_is ∙ room)) (sym c.is_err.ensures.value ∙ c.if-is_err.true))
    (with_room_is c.args.self.now _ c.make_room.new.self.own c.make_room.ensures.own c.self.view_is)

pub returns-then-awaits_items-clause-moves : goal.returns-then-awaits_items-clause-moves
returns-then-awaits_items-clause-moves g c =
    moved_with_room c.await_items.result c.args.self.now _ c.await_items.new.self (with_room_is c.args.self.now _ c.make_room.new.self.own c.make_room.ensures.own c.self.view_is) c.await_items.ensures.moves

pub returns-clause-moves : goal.returns-clause-moves
returns-clause-moves g c =
    moved_with_room c.wait_open.result c.args.self.now _ c.wait_open.new.self (with_room_is c.args.self.now _ c.make_room.new.self.own c.make_room.ensures.own c.self.view_is) c.wait_open.ensures.moves
