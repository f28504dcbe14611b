use Rattle.gomp_types.specs.declared.call.Call.TheVariants.{TaskCreate, Taskwait}
use Rattle.gomp_team.proofs.RoomMade.{made_with_room, with_room_is}
use Rattle.gomp_team.proofs.member.Member.ask.Goals as goal

pub returns-in-TaskCreate-clause-moves : goal.returns-in-TaskCreate-clause-moves
returns-in-TaskCreate-clause-moves g c =
    rw c.in-TaskCreate.is (made_with_room (TaskCreate c.in-TaskCreate.desc) c.ask_creation.result.0 c.args.self.now _ c.ask_creation.new.self
    (with_room_is c.args.self.now _ c.make_room.new.self.own c.make_room.ensures.own c.self.view_is) c.ask_creation.ensures.moves)

pub returns-in-Taskwait-clause-moves : goal.returns-in-Taskwait-clause-moves
returns-in-Taskwait-clause-moves g c =
    rw c.in-Taskwait.is (made_with_room (Taskwait c.in-Taskwait.items) c.ask_taskwait.result.0 c.args.self.now _ c.ask_taskwait.new.self
    (with_room_is c.args.self.now _ c.make_room.new.self.own c.make_room.ensures.own c.self.view_is) c.ask_taskwait.ensures.moves)
