use Rattle.std.proofs.Common.{refl, sym, arith}
use Rattle.gomp_events.proofs.TestReadings.{room_of_a_new_team}
use Rattle.gomp_board.proofs.NewBoard.{new_stands, new_board, capped_twice}
use Rattle.gomp_board.proofs.board.Board.new.Goals as goal

pub invariant_of-result : goal.invariant_of-result
invariant_of-result c =
    let enough = c.in_ok-with_room.ensures.capacity in
    let zeros = c.in_ok-vec.ensures.items_if_clones_equal (λ y e. e) in
    new_board c.args.count _ _ c.capped_limits.result c.in_ok-with_room.field-0.events c.in_ok-vec.field-0.items c.in_ok-new-2.field-0 c.in_ok-new.field-0
    c.in_ok-new-2.ensures.stands c.in_ok-new.ensures c.in_ok-with_room.ensures.events
    zeros c.in_ok-new-2.ensures.members refl (omega (arith, enough)) (rw c.capped_limits.ensures (capped_twice c.args.limits))

pub returns-clause-room : goal.returns-clause-room
returns-clause-room c = sym (room_of_a_new_team c.args.count)

pub returns-clause-stands : goal.returns-clause-stands
returns-clause-stands c =
    new_stands c.args.count _ 0 c.capped_limits.result c.in_ok-with_room.field-0.events c.in_ok-vec.field-0.items c.in_ok-new-2.field-0 c.in_ok-new.field-0
    c.in_ok-new-2.ensures.stands c.in_ok-new.ensures c.in_ok-with_room.ensures.events
